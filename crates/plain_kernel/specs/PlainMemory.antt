-- How a memory on plain pages stands for a flat memory, and how its answers stand for the flat memory's.
use Rattle.std.specs.Prelude.{◌≡◌, ℕ, List, [], ◌∷◌, Option, Some, None, Result, Ok, Err}
use Rattle.vm_base.specs.FlatMemory.{FlatMemory, Area}
use Rattle.vm_base.specs.FlatStep.{Refusal, OutsideAreas, ReadOnly}
use Rattle.plain_kernel.specs.declared.memory.Area.{Area as PlainArea}
use Rattle.plain_kernel.specs.declared.memory.MemoryFault.{MemoryFault}
use Rattle.plain_kernel.specs.declared.memory.MemoryFault.TheVariants.{NoArea, NoWrite, NoMemory}

-- an area as the definitions have it
abbrev pub area_value : PlainArea → Area
area_value area = record { first = area.first; pages = area.pages; perm = area.perm }

-- the areas of a memory that has at most one
abbrev pub areas_of : Option PlainArea → List Area
areas_of None = []
areas_of (Some area) = area_value area ∷ []

-- a refusal of the flat memory; want of memory may come at any time
abbrev pub IsRefusedBy : {X : Type 0} → Result X Refusal → MemoryFault → Type 0
IsRefusedBy answer (NoArea page) = answer ≡ Err (OutsideAreas page)
IsRefusedBy answer (NoWrite page) = answer ≡ Err (ReadOnly page)
IsRefusedBy answer NoMemory = Unit {0}

-- the bytes, or the refusal, that the flat memory gives
abbrev pub Gives : Result (List ℕ) MemoryFault → Result (List ℕ) Refusal → Type 0
Gives (Ok bytes) answer = answer ≡ Ok bytes
Gives (Err fault) answer = IsRefusedBy answer fault

-- the memory that the flat memory's change gives, or its refusal, which changes nothing
abbrev pub ChangesPages : FlatMemory → FlatMemory → Result (Unit {0}) MemoryFault → Result FlatMemory Refusal → Type 0
ChangesPages old new (Ok done) answer = answer ≡ Ok new
ChangesPages old new (Err fault) answer = IsRefusedBy answer fault × (new ≡ old)
