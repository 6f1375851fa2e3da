-- A cell that is there is unlinked, and one that is not changes nothing.
use Rattle.std.proofs.Common.{◌≡◌, not, sym, ◌∙◌, ap}
use Rattle.std.specs.Prelude.{is_some}
use Rattle.std.specs.FinMap as map
use Rattle.table_levels.specs.Walks.{levels_of}
use Rattle.table_levels.proofs.CellLemmas.{remove_absent}
use Rattle.table_levels.proofs.LessCells.{none_is}
use Rattle.table_levels.proofs.Walking.{get-cells_of}
use Rattle.table_levels.proofs.directory.Directory.remove.Goals as goal

pub returns-then-is_none-clause-removed : goal.returns-then-is_none-clause-removed
returns-then-is_none-clause-removed g c =
    sym (remove_absent c.args.self.now c.args.cell (sym c.find.ensures ∙ none_is c.find.result (c.is_none.ensures ∙ ap not c.if-is_none.true)))

pub unlink-unused-requires-clause-there : goal.unlink-unused-requires-clause-there
unlink-unused-requires-clause-there g c =
    let levels = levels_of c.self.inside.top c.self.inside.uppers.items c.self.inside.middles.items in
    let found : c.find.result ≡ map.get c.args.self.now c.args.cell = c.find.ensures in
    ap is_some (sym (get-cells_of levels c.args.cell c.requires.cell) ∙ ap (λ m. map.get m c.args.cell) c.self.view_is ∙ sym found) ∙ c.is_none.ensures ∙ ap not c.if-is_none.false
