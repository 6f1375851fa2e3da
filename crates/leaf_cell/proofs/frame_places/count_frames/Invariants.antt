use Rattle.std.proofs.Common.{◌≡◌, take}
use Rattle.std.specs.Prelude.{count_by, is_some}
use Rattle.leaf_cell.proofs.frame_places.count_frames.Given as goal

abbrev pub invariant-loop-slot : goal.invariant-loop-slot
invariant-loop-slot l = l.count ≡ count_by is_some (take l.slot-index l.slots)
