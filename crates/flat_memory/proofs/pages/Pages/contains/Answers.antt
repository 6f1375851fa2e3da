-- The page has an entry where it is present.
use Rattle.std.proofs.Common.{sym, ◌∙◌, ap, subst}
use Rattle.std.specs.Prelude.{is_some}
use Rattle.std.specs.FinMap.{get}
use Rattle.flat_memory.specs.Entries.{FoundAt}
use Rattle.flat_memory.proofs.PageLemmas.{get-map, found_some}
use Rattle.flat_memory.proofs.pages.Pages.contains.Goals as goal

pub returns : goal.returns
returns c =
    let es = c.self.inside.entries.items in
    let found : FoundAt es c.args.page c.find_page.result = subst (λ l. FoundAt l c.args.page c.find_page.result) c.deref.ensures.value
    c.find_page.ensures in
    c.is_some.ensures ∙ found_some es c.args.page c.find_page.result found
    ∙ ap is_some (sym (get-map es c.self.invariant.0 c.args.page) ∙ ap (λ t. get t.present c.args.page) c.self.view_is)
