-- As many places as the loop has made, and room for all.
use Rattle.std.proofs.Common.{◌≡◌, ◌≤◌, replicate, None, vec_capacity}
use Rattle.table_levels.proofs.directory.empty_places.Given as goal

abbrev pub invariant-loop-made : goal.invariant-loop-made
invariant-loop-made l = record { made : l.places.items ≡ replicate l._made None; room : 512 ≤ vec_capacity l.places }
