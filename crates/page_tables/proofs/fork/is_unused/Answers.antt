use Rattle.std.proofs.Common.{◌≡◌, sym, ◌∙◌, ap}
use Rattle.std.specs.Prelude.{not, is_some, Bool, true, false}
use Rattle.page_tables.proofs.ForkSlots.{used-by, used-there}
use Rattle.page_tables.proofs.fork.is_unused.Goals as goal

turned : (a b : Bool) → a ≡ not b → b ≡ not a
turned a true e = ap not (sym e)
turned a false e = ap not (sym e)

pub returns-then-not-has_pages : goal.returns-then-not-has_pages
returns-then-not-has_pages c =
    turned (is_some c.snap.result) c.is_none.result c.is_none.ensures ∙ ap (λ o. not (is_some o)) c.snap.ensures.nth
    ∙ used-by c.args.cell.now.leaves (sym c.has_pages.ensures.pages ∙ c.if-not-has_pages.true)

pub returns-else-not-has_pages : goal.returns-else-not-has_pages
returns-else-not-has_pages c =
    ap not c.if-not-has_pages.false ∙ used-there c.args.cell.now.leaves (sym c.has_pages.ensures.pages ∙ c.if-not-has_pages.false)
