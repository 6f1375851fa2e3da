-- How the answer of a call and the list that it leaves stand for the definition's answer.
use Rattle.std.specs.Prelude.{◌≡◌, List, Result, Ok, Err}
use Rattle.vm_base.specs.FlatMemory.{Area}
use Rattle.vm_base.specs.FlatStep.{Refusal, Taken, OutsideAreas, TooManyAreas}
use Rattle.area_list.specs.declared.fault.AreaFault.{AreaFault}
use Rattle.area_list.specs.declared.fault.AreaFault.TheVariants.{NoArea, Overlap, AreasFull}

-- the refusal that a fault is
abbrev pub refusal_of : AreaFault → Refusal
refusal_of (NoArea page) = OutsideAreas page
refusal_of (Overlap page) = Taken page
refusal_of AreasFull = TooManyAreas

-- the list that the definition gives is there, or its refusal was answered and the list is as it was
abbrev pub ChangesAreas : List Area → List Area → Result (Unit {0}) AreaFault → Result (List Area) Refusal → Type 0
ChangesAreas old new (Ok done) answer = answer ≡ Ok new
ChangesAreas old new (Err fault) answer = (answer ≡ Err (refusal_of fault)) × (new ≡ old)
