-- None of those in front is joined by a fork of this kind.
use Rattle.std.proofs.Common.{◌≡◌, ◌≤◌, ◌-◌, length}
use Rattle.std.specs.Prelude.{drop}
use Rattle.share_cell.specs.Copies.{is_joined_by}
use Rattle.share_cell.proofs.JoinedNumbers.{numbers}
use Rattle.share_cell.proofs.copies.first_joined.Given as goal

abbrev pub invariant-loop-number : goal.invariant-loop-number
invariant-loop-number l = (numbers (is_joined_by l.joining) (drop l.nth l.cell.leaves.kept)
    ≡ numbers (is_joined_by l.joining) l.cell.leaves.kept)
    × (l.nth ≤ length l.cell.leaves.kept)

abbrev pub decreases-loop-number : goal.decreases-loop-number
decreases-loop-number l = length l.cell.leaves.kept - l.nth
