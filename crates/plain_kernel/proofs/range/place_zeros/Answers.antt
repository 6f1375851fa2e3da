-- A page that is there stays, and an absent one gets the last of the zeros.
use Rattle.std.proofs.Common.{◌+◌, List, ℕ, sym, ◌∙◌, ap, subst}
use Rattle.vm_base.specs.FlatMemory.{PageMap}
use Rattle.vm_base.specs.FlatStep.{with_pages}
use Rattle.plain_kernel.proofs.Absent.{Placing, placing_there, placing_here}
use Rattle.plain_kernel.proofs.range.place_zeros.Goals as goal
use Rattle.plain_kernel.proofs.range.place_zeros.Goals.{then-not-contains+in-Some, else-not-contains}

pub loop-page-preserved : goal.loop-page-preserved
loop-page-preserved c =
    let P = λ (pages : PageMap) (zeros : List (List ℕ)). Placing pages zeros (c.loop-page.page + 1) (c.args.first + c.args.count) (with_pages c.args.pages.now c.args.first c.args.count) in
    elim c.if-not-contains.branch [
      | then-not-contains+in-Some w ↦
          subst (λ pages. P pages c.if-not-contains.zeros.items) (sym (w.pages-is ∙ w.put.ensures))
          (subst (P _) (sym (ap (λ v. v.items) w.zeros-is))
          (placing_here c.loop-page.pages c.loop-page.zeros.items w.pop.new.self.items w.in-Some.zero c.loop-page.page _ _ c.loop-page-test.true
          (sym c.contains.ensures ∙ w.if-not-contains.true) w.in-Some.ensures.items c.loop-page.invariant))
      | else-not-contains w ↦
          subst (λ pages. P pages c.if-not-contains.zeros.items) (sym w.pages-is)
          (subst (P _) (sym (ap (λ v. v.items) w.zeros-is))
          (placing_there c.loop-page.pages c.loop-page.zeros.items c.loop-page.page _ _ c.loop-page-test.true (sym c.contains.ensures ∙ w.if-not-contains.false) c.loop-page.invariant))
    ]
