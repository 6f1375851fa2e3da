use Rattle.std.proofs.Common.{◌≡◌, ◌+◌, ◌-◌, ◌*◌, ◌≤◌, ◌<◌, Some, subst, sym, ◌∙◌, refl, arith, inl, inr}
use Rattle.std.proofs.lemmas.Bool.{cases_lt}
use Rattle.kernel_meaning.specs.FrameLaw.{cell_at}
use Rattle.table_levels.specs.Cells.{first_from}
use Rattle.page_tables.specs.declared.tables.PageTables.{PageTables}
use Rattle.page_tables.specs.Sides.{Sides}
use Rattle.page_tables.specs.Clearing.{has_some, IsOutOf}
use Rattle.page_tables.specs.Standing.{TablesStandFor}
use Rattle.page_tables.specs.Held.{frames_of}
use Rattle.page_tables.proofs.FirstCell.{IsFirstFrom, first-none, first-some}
use Rattle.kernel_meaning.specs.EventRequests.{first_in_cell, count_in_cell}
use Rattle.page_tables.specs.Permissions.{StopsWriting}
use Rattle.page_tables.proofs.KeptWriting.{none-stopped, one-stopped, stopped-to-end, stopped-all}
use Rattle.page_tables.proofs.UnmapSteps.{GoesOnFrom, unmap-begins, unmap-goes-on, unmap-ends}
use Rattle.std.proofs.Math.Logic.{∥∥₁_map}
use Rattle.page_tables.proofs.tables.PageTables.unmap.Goals as goal

pub loop-cell-init : goal.loop-cell-init
loop-cell-init g c = (
  refl,
  (omega arith, omega (arith, c.requires.range)),
  unmap-begins g.A.Allot.goes (g.A.Allot.state c.args.allot.now) c.args.first
      c.args.count c.args.self.now,
  refl,
  c.requires.lent.untold,
  refl,
  refl,
  refl,
  none-stopped c.args.first c.args.count c.args.self.now,
)

pub unmap_cell-requires-clause-within : goal.unmap_cell-requires-clause-within
unmap_cell-requires-clause-within g c =
    let found : first_from c.loop-cell.self.directory c.loop-cell.next ≡ Some (c.in-Some.cell, c.in-Some.slot) = sym c.at_or_after.ensures ∙ c.in-Some.is in
    let is_first : IsFirstFrom c.loop-cell.self.directory c.loop-cell.next c.in-Some.cell c.in-Some.slot = first-some c.loop-cell.self.directory c.loop-cell.next c.in-Some.cell c.in-Some.slot found in
    (omega (arith, is_first.reached, c.loop-cell.invariant.1.0), omega (arith, c.if-from-end.false, c.from.ensures))

pub unmap_cell-requires-clause-known : goal.unmap_cell-requires-clause-known
unmap_cell-requires-clause-known g c =
    let found : first_from c.loop-cell.self.directory c.loop-cell.next ≡ Some (c.in-Some.cell, c.in-Some.slot) = sym c.at_or_after.ensures ∙ c.in-Some.is ∙ (λ i. Some (sym c.in-Some.cell-is i, sym c.in-Some.slot-is i)) in
    (first-some c.loop-cell.self.directory c.loop-cell.next c.in-Some.cell c.in-Some.slot found).there

pub unmap_cell-requires-clause-stands : goal.unmap_cell-requires-clause-stands
unmap_cell-requires-clause-stands g c =
    ∥∥₁_map c.requires.stands (λ it.
    let on : GoesOnFrom c.args.first c.args.count c.loop-cell.next it.0 c.loop-cell.invariant.2.deals c.loop-cell.self = c.loop-cell.invariant.2.follows it.0 it.1 in
    (on.mid, on.stands))

pub unmap_cell-requires-clause-lent : goal.unmap_cell-requires-clause-lent
unmap_cell-requires-clause-lent g c = omega (arith, c.requires.lent.lent, c.loop-cell.invariant.3)

pub loop-cell-smaller : goal.loop-cell-smaller
loop-cell-smaller g c =
    let a = c.at_or_after.ensures in
    let b = c.in-Some.is in
    let d = c.in-Some.cell-is in
    let e = c.in-Some.slot-is in
    let found : first_from c.loop-cell.self.directory c.loop-cell.next ≡ Some (c.in-Some.cell, c.in-Some.slot) = cc in
    let is_first : IsFirstFrom c.loop-cell.self.directory c.loop-cell.next c.in-Some.cell c.in-Some.slot = first-some c.loop-cell.self.directory c.loop-cell.next c.in-Some.cell c.in-Some.slot found in
    omega (arith, is_first.reached, c.if-from-end.false, c.from.ensures, c.requires.range)

pub loop-cell-preserved : goal.loop-cell-preserved
loop-cell-preserved g c =
    let now : PageTables = c.loop-cell.self in
    let new : PageTables = c.unmap_cell.new.self in
    let found : first_from c.loop-cell.self.directory c.loop-cell.next ≡ Some (c.in-Some.cell, c.in-Some.slot) = sym c.at_or_after.ensures ∙ c.in-Some.is in
    let is_first : IsFirstFrom c.loop-cell.self.directory c.loop-cell.next c.in-Some.cell c.in-Some.slot = first-some c.loop-cell.self.directory c.loop-cell.next c.in-Some.cell c.in-Some.slot found in
    let within : c.in-Some.cell * 512 < c.args.first + c.args.count = omega (arith, c.if-from-end.false, c.from.ensures) in
    let count : c.args.first + c.args.count - c.args.first ≡ c.args.count = omega arith in
    let held : g.A.Allot.out (g.A.Allot.state c.unmap_cell.new.allot) + frames_of now ≡ g.A.Allot.out (g.A.Allot.state c.loop-cell.allot) + frames_of new = c.unmap_cell.ensures.held in
    let before : g.A.Allot.out (g.A.Allot.state c.loop-cell.allot) + frames_of c.args.self.now ≡ g.A.Allot.out (g.A.Allot.state c.args.allot.now) + frames_of now = c.loop-cell.invariant.3 in (
      refl,
      (omega (arith, is_first.reached, c.loop-cell.invariant.1.0), omega (arith, within, c.requires.range)),
      unmap-goes-on g.A.Allot.goes (g.A.Allot.state c.args.allot.now) (g.A.Allot.state c.loop-cell.allot) (g.A.Allot.state c.unmap_cell.new.allot) c.args.first c.args.count c.loop-cell.next c.in-Some.cell c.in-Some.slot
          c.args.self.now now new (frames_of now - frames_of new) c.loop-cell.invariant.2 found c.loop-cell.invariant.1.0 within c.unmap_cell.ensures.given
          (subst (λ n. (sides : Sides) → TablesStandFor now sides → IsOutOf (has_some c.args.first n c.in-Some.cell (cell_at sides.leaves c.in-Some.cell)) c.in-Some.cell c.args.first n new (frames_of now - frames_of new) sides) count c.unmap_cell.ensures.follows),
      omega (arith, held, before),
      c.unmap_cell.ensures.untold,
      c.unmap_cell.ensures.slots ∙ c.loop-cell.invariant.5,
      c.unmap_cell.ensures.unrefused ∙ c.loop-cell.invariant.6,
      c.unmap_cell.ensures.snapshot ∙ c.loop-cell.invariant.7,
      one-stopped c.args.first c.args.count c.loop-cell.next c.args.self.now now c.loop-cell.invariant.8 c.in-Some.cell c.in-Some.slot
          is_first new c.loop-cell.invariant.1.0
          (subst (λ n. StopsWriting (c.in-Some.cell * 512 + first_in_cell c.in-Some.cell c.args.first) (count_in_cell c.in-Some.cell c.args.first n) now new) count c.unmap_cell.ensures.writable),
    )

pub returns-then-from-end-clause-made : goal.returns-then-from-end-clause-made
returns-then-from-end-clause-made g c =
    let found : first_from c.loop-cell.self.directory c.loop-cell.next ≡ Some (c.in-Some.cell, c.in-Some.slot) = sym c.at_or_after.ensures ∙ c.in-Some.is in
    let is_first : IsFirstFrom c.loop-cell.self.directory c.loop-cell.next c.in-Some.cell c.in-Some.slot = first-some c.loop-cell.self.directory c.loop-cell.next c.in-Some.cell c.in-Some.slot found in
    let behind : c.args.first + c.args.count ≤ c.in-Some.cell * 512 = omega (arith, c.if-from-end.true, c.from.ensures) in
    unmap-ends g.A.Allot.goes (g.A.Allot.state c.args.allot.now) (g.A.Allot.state c.loop-cell.allot) c.args.first c.args.count c.loop-cell.next c.args.self.now c.loop-cell.self c.loop-cell.invariant.2
    (λ q le. elim (cases_lt q c.in-Some.cell) [
      | inl lt ↦ inl (is_first.others q le lt)
      | inr above ↦ inr (omega (arith, behind, above))
    ])

pub returns-in_default-clause-made : goal.returns-in_default-clause-made
returns-in_default-clause-made g c =
    unmap-ends g.A.Allot.goes (g.A.Allot.state c.args.allot.now) (g.A.Allot.state c.loop-cell.allot) c.args.first c.args.count c.loop-cell.next c.args.self.now c.loop-cell.self c.loop-cell.invariant.2
    (λ q le. inl (first-none c.loop-cell.self.directory c.loop-cell.next (sym c.at_or_after.ensures ∙ c.in_default.is) q le))

pub returns-then-from-end-clause-writable : goal.returns-then-from-end-clause-writable
returns-then-from-end-clause-writable g c =
    let found : first_from c.loop-cell.self.directory c.loop-cell.next ≡ Some (c.in-Some.cell, c.in-Some.slot) = sym c.at_or_after.ensures ∙ c.in-Some.is in
    let is_first : IsFirstFrom c.loop-cell.self.directory c.loop-cell.next c.in-Some.cell c.in-Some.slot = first-some c.loop-cell.self.directory c.loop-cell.next c.in-Some.cell c.in-Some.slot found in
    stopped-to-end c.args.first c.args.count c.loop-cell.next c.args.self.now c.loop-cell.self c.loop-cell.invariant.8 c.in-Some.cell
    c.in-Some.slot is_first
    (omega (arith, c.if-from-end.true, c.from.ensures))

pub returns-in_default-clause-writable : goal.returns-in_default-clause-writable
returns-in_default-clause-writable g c =
    stopped-all c.args.first c.args.count c.loop-cell.next c.args.self.now c.loop-cell.self c.loop-cell.invariant.8
    (first-none c.loop-cell.self.directory c.loop-cell.next (sym c.at_or_after.ensures ∙ c.in_default.is))

pub returns-then-from-end-clause-lent : goal.returns-then-from-end-clause-lent
returns-then-from-end-clause-lent g c = record {
  held = c.loop-cell.invariant.3;
  untold = c.loop-cell.invariant.4;
  slots = c.loop-cell.invariant.5;
  snapshot = c.loop-cell.invariant.7;
}

pub returns-in_default-clause-lent : goal.returns-in_default-clause-lent
returns-in_default-clause-lent g c = record {
  held = c.loop-cell.invariant.3;
  untold = c.loop-cell.invariant.4;
  slots = c.loop-cell.invariant.5;
  snapshot = c.loop-cell.invariant.7;
}
