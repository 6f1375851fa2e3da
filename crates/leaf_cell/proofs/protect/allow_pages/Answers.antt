use Rattle.std.proofs.Common.{◌≡◌, ◌∙◌, ◌+◌, ◌-◌, ◌<◌, sym, ap, subst, arith, Some}
use Rattle.std.specs.Prelude.{not, ◌&&◌, nat_eq}
use Rattle.std.specs.Option.{option_eq}
use Rattle.kernel_meaning.specs.Leaves.{version_at}
use Rattle.leaf_cell.specs.Places.{with_entry}
use Rattle.leaf_cell.specs.Inside.{AreWritable, own_places}
use Rattle.leaf_cell.specs.Permissions.{table_allowed, with_allowed}
use Rattle.leaf_cell.proofs.AllowedPages.{next-allowed, skip-allowed, no-allowed}
use Rattle.leaf_cell.proofs.protect.allow_pages.Goals as goal
use Rattle.leaf_cell.proofs.protect.allow_pages.Goals.{in-Some, then-is_writable, else-is_writable, in_default}

pub loop-page-init : goal.loop-page-init
loop-page-init c =
    let none : c.args.first - c.args.first ≡ 0 = omega arith in
    subst (λ n. c.args.table.now ≡ table_allowed c.args.is_writable (own_places c.args.snapshot.now) c.args.first n c.args.table.now)
    (sym none)
    (no-allowed c.args.is_writable (own_places c.args.snapshot.now) c.args.first c.args.table.now
    c.requires.writable.size)

pub loop-page-preserved : goal.loop-page-preserved
loop-page-preserved c =
    let place : c.args.first + (c.loop-page.page - c.args.first) ≡ c.loop-page.page = omega (arith, c.loop-page.auto.page) in
    let next : c.loop-page.page + 1 - c.args.first ≡ c.loop-page.page - c.args.first + 1 = omega (arith, c.loop-page.auto.page) in
    let small : c.loop-page.page < 512 = omega (arith, c.loop-page-test.true, c.requires.range) in
    subst (λ n. c.match-get.table ≡ table_allowed c.args.is_writable (own_places c.args.snapshot.now) c.args.first n c.args.table.now)
    (sym next)
    (elim c.match-get.branch [
      | in-Some w ↦
          let may : w.if-is_writable.set ≡ (c.args.is_writable && not
          (option_eq nat_eq (version_at (own_places c.args.snapshot.now) c.loop-page.page) (Some w.in-Some.place))) =
          elim w.if-is_writable.branch [
            | then-is_writable v ↦ v.set-is ∙ ap not w.names_place-is_alone.ensures
                ∙ sym (ap (λ b. b && not (option_eq nat_eq (version_at (own_places c.args.snapshot.now) c.loop-page.page)
                (Some w.in-Some.place))) v.if-is_writable.true)
            | else-is_writable v ↦ v.set-is ∙ v.if-is_writable.false
                ∙ sym (ap (λ b. b && not (option_eq nat_eq (version_at (own_places c.args.snapshot.now) c.loop-page.page)
                (Some w.in-Some.place))) v.if-is_writable.false)
          ] in
          w.table-is ∙ w.set.ensures ∙ ap (with_entry c.loop-page.table c.loop-page.page w.in-Some.place) may
          ∙ next-allowed c.args.is_writable (own_places c.args.snapshot.now) c.args.first (c.loop-page.page - c.args.first)
          c.args.table.now c.loop-page.table c.loop-page.page w.in-Some.place
          c.loop-page.invariant place small (sym c.get.ensures ∙ w.in-Some.is)
      | in_default w ↦
          w.table-is
          ∙ skip-allowed c.args.is_writable (own_places c.args.snapshot.now) c.args.first (c.loop-page.page - c.args.first)
          c.args.table.now c.loop-page.table c.loop-page.page
          c.loop-page.invariant place (sym c.get.ensures ∙ w.in_default.is)
          (c.requires.writable.apart c.loop-page.page)
    ])

pub returns : goal.returns
returns c =
    let all : c.loop-page.page - c.args.first ≡ c.args.pages = omega
    (arith, c.loop-page.auto.page, c.loop-page.auto.page-end, c.loop-page-test.false) in
    c.loop-page.invariant ∙ ap (λ n. table_allowed c.args.is_writable (own_places c.args.snapshot.now) c.args.first n c.args.table.now) all
