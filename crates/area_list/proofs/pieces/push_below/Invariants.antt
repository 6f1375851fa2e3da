-- The pieces of the areas so far are there.
use Rattle.std.proofs.Common.{◌≡◌, List, ◌++◌, take}
use Rattle.vm_base.specs.FlatMemory.{Area}
use Rattle.vm_base.specs.FlatStep.{joined}
use Rattle.area_list.specs.Pieces.{areas_below}
use Rattle.area_list.proofs.pieces.push_below.Given as goal

abbrev pub invariant-loop-area : goal.invariant-loop-area
invariant-loop-area l =
    (before : List Area) → l.fn.list.items ≡ joined before → l.list.items ≡ joined (before ++ areas_below l.page (take l.area-index l.areas))
