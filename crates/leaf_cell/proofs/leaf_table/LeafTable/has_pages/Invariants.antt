use Rattle.std.proofs.Common.{◌≡◌, ◌*◌, false}
use Rattle.kernel_meaning.specs.Leaves.{has_present}
use Rattle.leaf_cell.proofs.leaf_table.LeafTable.has_pages.Given as goal

abbrev pub invariant-loop-block : goal.invariant-loop-block
invariant-loop-block l = has_present l.self.places 0 (8 * l.block) ≡ false
