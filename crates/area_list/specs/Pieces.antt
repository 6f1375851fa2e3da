-- A list of areas made of pieces of another, and how it is built piece by piece.
use Rattle.std.specs.Prelude.{◌≡◌, ℕ, ◌+◌, ◌<◌, ◌≤◌, min, max, List, [], ◌∷◌, ◌++◌, length, Option, Some, None, Result, Ok, Err}
use Rattle.std.specs.List.{flat_map}
use Rattle.arrayvec.specs.ArrayVec.{ArrayVec}
use Rattle.vm_base.specs.FlatMemory.{Area}
use Rattle.vm_base.specs.FlatStep.{joined, area_between}
use Rattle.area_list.specs.declared.fault.AreaFault.{AreaFault}
use Rattle.area_list.specs.declared.fault.AreaFault.TheVariants.{AreasFull}

-- what lies below a page of an area
abbrev pub area_below : ℕ → Area → List Area
area_below page area = area_between area.first (min (area.first + area.pages) page) area.perm

-- what lies from a page on of an area
abbrev pub area_from : ℕ → Area → List Area
area_from page area = area_between (max area.first page) (area.first + area.pages) area.perm

-- what lies below a page of the areas
abbrev pub areas_below : ℕ → List Area → List Area
areas_below page areas = flat_map (area_below page) areas

-- what lies from a page on of the areas
abbrev pub areas_from : ℕ → List Area → List Area
areas_from page areas = flat_map (area_from page) areas

-- one area or none
abbrev pub area_or_none : Option Area → List Area
area_or_none None = []
area_or_none (Some area) = area ∷ []

-- an area, or none, that has just these pages
abbrev pub IsOver : ℕ → ℕ → Option Area → Type 0
IsOver first n None = Unit {0}
IsOver first n (Some area) = (area.first ≡ first) × (area.pages ≡ n)

-- the areas with the pages from first to below end taken out, and one area or none in their place, not joined yet
abbrev pub pieces : ℕ → ℕ → Option Area → List Area → List Area
pieces first end between areas = areas_below first areas ++ area_or_none between ++ areas_from end areas

-- the pieces joined are the list; a refusal comes exactly where they are more than 128
abbrev pub Joined : List Area → Result (Unit {0}) AreaFault → List Area → Type 0
Joined new (Ok done) pieces = new ≡ joined pieces
Joined new (Err fault) pieces = (fault ≡ AreasFull) × (128 < length (joined pieces))

-- from pieces joined to those and more
abbrev pub Pushes : List Area → List Area → Result (Unit {0}) AreaFault → List Area → Type 0
Pushes old new result more = (before : List Area) → old ≡ joined before → Joined new result (before ++ more)

-- the same for a list that is made whole
abbrev pub Joins : Result (ArrayVec Area) AreaFault → List Area → Type 0
Joins (Ok list) pieces = (list.items ≡ joined pieces) × (length list.items ≤ 128)
Joins (Err fault) pieces = (fault ≡ AreasFull) × (128 < length (joined pieces))

-- the same for a list that is changed, which stays where the pieces joined are too many
abbrev pub Rejoins : List Area → List Area → Result (Unit {0}) AreaFault → List Area → Type 0
Rejoins old new (Ok done) pieces = (new ≡ joined pieces) × (length new ≤ 128)
Rejoins old new (Err fault) pieces =
    (fault ≡ AreasFull) × ((128 < length (joined pieces)) × (new ≡ old))
