-- The count is what the cells take.
use Rattle.std.proofs.Common.{◌∙◌, ap}
use Rattle.table_levels.specs.Cells.{tables_of}
use Rattle.table_levels.proofs.directory.Directory.tables.Goals as goal

pub returns : goal.returns
returns c = c.self.invariant.directory.taken ∙ ap tables_of c.self.view_is
