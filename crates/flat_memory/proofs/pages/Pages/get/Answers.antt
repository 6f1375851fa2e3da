-- The entry of the page has its bytes.
use Rattle.std.proofs.Common.{Some, None, sym, ◌∙◌, ap, subst}
use Rattle.std.specs.FinMap.{get}
use Rattle.flat_memory.specs.Entries.{FoundAt}
use Rattle.flat_memory.proofs.PageLemmas.{get-map}
use Rattle.flat_memory.proofs.pages.Pages.get.Goals as goal

pub returns-in-Some : goal.returns-in-Some
returns-in-Some c =
    let es = c.self.inside.entries.items in
    let found : FoundAt es c.args.page (Some c.in-Some.place) =
    subst (λ l. FoundAt l c.args.page (Some c.in-Some.place)) c.deref.ensures.value
    (subst (FoundAt c.deref.result.now c.args.page) c.in-Some.is c.find_page.ensures) in
    ap Some (c.page.ensures ∙ ap (λ e. e.1) c.index.ensures)
    ∙ sym (found.1 c.index.result.now)
    ∙ sym (get-map es c.self.invariant.0 c.args.page) ∙ ap (λ t. get t.present c.args.page) c.self.view_is

pub returns-in-None : goal.returns-in-None
returns-in-None c =
    let es = c.self.inside.entries.items in
    let found : FoundAt es c.args.page None =
    subst (λ l. FoundAt l c.args.page None) c.deref.ensures.value
    (subst (FoundAt c.deref.result.now c.args.page) c.in-None.is c.find_page.ensures) in
    sym found ∙ sym (get-map es c.self.invariant.0 c.args.page) ∙ ap (λ t. get t.present c.args.page) c.self.view_is
