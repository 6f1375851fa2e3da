use Rattle.std.proofs.Common.{◌≡◌, ◌+◌, ◌-◌, ℕ, sym, ◌∙◌, ap, arith}
use Rattle.std.specs.Prelude.{cond, is_some, Bool}
use Rattle.std.specs.Ordering.{nat_cmp}
use Rattle.std.specs.FinMap.{find}
use Rattle.kernel_meaning.specs.FrameLaw.{Leaves}
use Rattle.page_tables.specs.Ranges.{missing_in}
use Rattle.page_tables.proofs.Vacancies.{missing-push}
use Rattle.page_tables.proofs.tables.PageTables.missing_slots.Goals as goal
use Rattle.page_tables.proofs.tables.PageTables.missing_slots.Goals.{then-not-has_slot, else-not-has_slot}

-- src/vacancy.rt:39:9
pub loop-cell-preserved : goal.loop-cell-preserved
loop-cell-preserved c =
    let i : ℕ = c.loop-cell.cell - c.args.low in
    let next : i + 1 ≡ c.loop-cell.cell + 1 - c.args.low = omega (arith, c.loop-cell.invariant.from) in
    let here : c.args.low + i ≡ c.loop-cell.cell = omega (arith, c.loop-cell.invariant.from) in
    let one = λ (leaves : Leaves) (b : Bool) (has : b ≡ is_some (find nat_cmp c.loop-cell.cell leaves)).
    missing-push leaves c.args.low i ∙ ap (λ n. missing_in leaves c.args.low i + cond (is_some (find nat_cmp n leaves)) 0 1) here
    ∙ ap (λ b. missing_in leaves c.args.low i + cond b 0 1) (sym has) in
    elim c.if-not-has_slot.branch [
      | then-not-has_slot w ↦ record {
        from = omega (arith, c.loop-cell.invariant.from);
        few = omega (arith, c.loop-cell.invariant.from, c.loop-cell.invariant.few, w.missing-is);
        missing = λ sides st.
            w.missing-is ∙ ap (λ n. n + 1) (c.loop-cell.invariant.missing sides st)
            ∙ sym (ap (missing_in sides.leaves c.args.low) (sym next) ∙ one sides.leaves c.has_slot.result (c.has_slot.ensures sides st)
            ∙ ap (λ b. missing_in sides.leaves c.args.low i + cond b 0 1) w.if-not-has_slot.true);
      }
      | else-not-has_slot w ↦ record {
        from = omega (arith, c.loop-cell.invariant.from);
        few = omega (arith, c.loop-cell.invariant.from, c.loop-cell.invariant.few, w.missing-is);
        missing = λ sides st.
            let none : missing_in sides.leaves c.args.low i + 0 ≡ missing_in sides.leaves c.args.low i = omega arith in
            w.missing-is ∙ c.loop-cell.invariant.missing sides st
            ∙ sym (ap (missing_in sides.leaves c.args.low) (sym next) ∙ one sides.leaves c.has_slot.result (c.has_slot.ensures sides st)
            ∙ ap (λ b. missing_in sides.leaves c.args.low i + cond b 0 1) w.if-not-has_slot.false ∙ none);
      }
    ]
