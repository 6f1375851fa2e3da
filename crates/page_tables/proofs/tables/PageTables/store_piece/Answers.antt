-- The slot of the page's cell is found.
use Rattle.std.proofs.Common.{sym, ◌∙◌, ap}
use Rattle.std.specs.FinMap.{get}
use Rattle.page_tables.proofs.tables.PageTables.store_piece.Goals as goal

pub store_in_slot-requires-clause-known : goal.store_in_slot-requires-clause-known
store_in_slot-requires-clause-known c = ap (get c.args.self.now.directory) (sym c.location_of.ensures.cell) ∙ sym c.find.ensures
    ∙ c.in-Some.is
