use Rattle.std.proofs.Common.{◌≡◌, ◌-◌, false}
use Rattle.kernel_meaning.specs.Leaves.{has_present}
use Rattle.leaf_cell.proofs.leaf_table.LeafTable.covers.Given as goal

abbrev pub invariant-loop-page : goal.invariant-loop-page
invariant-loop-page l = has_present l.self.places l.first (l.page - l.first) ≡ false
