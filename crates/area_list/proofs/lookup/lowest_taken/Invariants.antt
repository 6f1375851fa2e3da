-- The areas so far do not meet the range.
use Rattle.std.proofs.Common.{◌≡◌, drop}
use Rattle.area_list.proofs.Found.{first_meeting}
use Rattle.area_list.proofs.lookup.lowest_taken.Given as goal

abbrev pub invariant-loop-area : goal.invariant-loop-area
invariant-loop-area l = first_meeting l.first l.end l.areas ≡ first_meeting l.first l.end (drop l.area-index l.areas)
