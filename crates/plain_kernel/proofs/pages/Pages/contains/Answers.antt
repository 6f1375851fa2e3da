-- The slot of the page has one exactly where the map has.
use Rattle.std.proofs.Common.{◌<◌, sym, ◌∙◌, ap, length, None, arith}
use Rattle.std.specs.Prelude.{is_some}
use Rattle.std.proofs.lemmas.List.{get_or_read}
use Rattle.std.specs.FinMap as map
use Rattle.plain_kernel.proofs.Slots.{get-slots}
use Rattle.plain_kernel.proofs.pages.Pages.contains.Goals as goal

pub returns : goal.returns
returns c =
    let inside : c.args.page < length c.self.inside.slots.items = omega arith in
    c.is_some.ensures
    ∙ ap is_some (get_or_read c.self.inside.slots.items c.args.page c.index.result.now inside c.index.ensures None
    ∙ sym (ap (λ m. map.get m c.args.page) (sym c.self.view_is) ∙ get-slots c.self.inside.slots.items c.args.page))
