-- As many places as the loop has made, and room for all.
use Rattle.std.proofs.Common.{◌≡◌, ◌≤◌, replicate, None, vec_capacity}
use Rattle.leaf_cell.proofs.frame_places.open.Given as goal

abbrev pub invariant-loop-made : goal.invariant-loop-made
invariant-loop-made l = record { made : l.slots.items ≡ replicate l._made None; room : 1024 ≤ vec_capacity l.slots }
