-- A page that is there adds nothing, and an absent one adds a page of zeros.
use Rattle.std.proofs.Common.{◌≡◌, ◌+◌, ◌∷◌, ◌++◌, [], List, ℕ, sym, ◌∙◌, ap, subst}
use Rattle.vm_base.specs.FlatMemory.{zero_page}
use Rattle.plain_kernel.specs.Pages.{absent_count}
use Rattle.plain_kernel.proofs.Absent.{Counting, counting_there, counting_here}
use Rattle.plain_kernel.proofs.range.zeros_for_absent.Goals as goal
use Rattle.plain_kernel.proofs.range.zeros_for_absent.Goals.{then-not-contains+in_ok-zeroed+in_ok-push, else-not-contains}

pub loop-page-preserved : goal.loop-page-preserved
loop-page-preserved c =
    let P = λ (zeros : List (List ℕ)). Counting c.args.pages.now zeros (c.loop-page.page + 1) (c.args.first + c.args.count) (absent_count c.args.pages.now c.args.first c.args.count) in
    elim c.if-not-contains.branch [
      | then-not-contains+in_ok-zeroed+in_ok-push w ↦
          let pushed : c.if-not-contains.zeros.items ≡ c.loop-page.zeros.items ++ zero_page ∷ [] =
          ap (λ v. v.items) w.zeros-is ∙ w.in_ok-push.ensures.items ∙ ap (λ z. c.loop-page.zeros.items ++ z ∷ []) w.in_ok-zeroed.ensures in
          subst P (sym pushed) (counting_here c.args.pages.now c.loop-page.zeros.items c.loop-page.page _ _ c.loop-page-test.true (sym c.contains.ensures ∙ w.if-not-contains.true) c.loop-page.invariant)
      | else-not-contains w ↦
          subst P (sym (ap (λ v. v.items) w.zeros-is)) (counting_there c.args.pages.now c.loop-page.zeros.items c.loop-page.page _ _ c.loop-page-test.true (sym c.contains.ensures ∙ w.if-not-contains.false) c.loop-page.invariant)
    ]
