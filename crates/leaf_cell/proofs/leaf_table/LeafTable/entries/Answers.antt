use Rattle.std.proofs.Common.{sym, ap, ◌∙◌, length}
use Rattle.leaf_cell.proofs.TableWords.{length-places_of}
use Rattle.leaf_cell.proofs.leaf_table.LeafTable.entries.Goals as goal

pub returns-clause-size : goal.returns-clause-size
returns-clause-size c = ap (λ table. length table.places) (sym c.self.view_is) ∙ length-places_of c.self.inside.frame.bytes
