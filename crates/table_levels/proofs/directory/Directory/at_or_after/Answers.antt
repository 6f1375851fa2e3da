-- The first slot of the walk is that of the map's first cell from this one on.
use Rattle.std.proofs.Common.{◌^◌, ◌∙◌, ap, subst}
use Rattle.table_levels.specs.First.{IsFirst}
use Rattle.table_levels.specs.Cells.{first_from}
use Rattle.table_levels.specs.Walks.{levels_of, slot_of}
use Rattle.table_levels.proofs.FoundFirst.{first_of_cells}
use Rattle.table_levels.proofs.directory.Directory.at_or_after.Goals as goal

pub returns : goal.returns
returns c =
    let top = c.self.inside.top in
    let uppers = c.self.inside.uppers.items in
    let middles = c.self.inside.middles.items in
    let first : IsFirst (2 ^ 27) (slot_of (levels_of top uppers middles)) c.args.cell c.first_slot.result =
    subst (λ l. IsFirst (2 ^ 27) (slot_of (levels_of top uppers l)) c.args.cell c.first_slot.result) c.deref-2.ensures.value
    (subst (λ l. IsFirst (2 ^ 27) (slot_of (levels_of top l c.deref-2.result.now)) c.args.cell c.first_slot.result) c.deref.ensures.value c.first_slot.ensures) in
    first_of_cells (levels_of top uppers middles) c.args.cell c.first_slot.result first ∙ ap (λ m. first_from m c.args.cell) c.self.view_is
