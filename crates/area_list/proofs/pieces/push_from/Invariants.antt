-- The pieces of the areas so far are there.
use Rattle.std.proofs.Common.{◌≡◌, List, ◌++◌, take}
use Rattle.vm_base.specs.FlatMemory.{Area}
use Rattle.vm_base.specs.FlatStep.{joined}
use Rattle.area_list.specs.Pieces.{areas_from}
use Rattle.area_list.proofs.pieces.push_from.Given as goal

abbrev pub invariant-loop-area : goal.invariant-loop-area
invariant-loop-area l =
    (before : List Area) → l.fn.list.items ≡ joined before → l.list.items ≡ joined (before ++ areas_from l.page (take l.area-index l.areas))
