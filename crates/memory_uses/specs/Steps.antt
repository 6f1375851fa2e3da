-- What several calls on a memory leave, one after another.
use Rattle.std.specs.Prelude.{◌≡◌, ℕ, ◌+◌, ◌≤◌, ◌^◌, ◌⊎◌, max, IsTrue, List, [], ◌∷◌, ◌++◌, length, None, Result, Ok, Err}
use Rattle.std.specs.FinMap.{get}
use Rattle.vm_base.specs.declared.permission.Perm.{Perm}
use Rattle.vm_base.specs.declared.permission.Perm.TheVariants.{ReadWrite}
use Rattle.vm_base.specs.declared.faults.Fault.{Fault}
use Rattle.vm_base.specs.FlatMemory.{Area, FlatMemory, IsFlat}
use Rattle.vm_base.specs.FlatStep.{Refusal, taken, joined, with_area, with_bytes, is_beyond, map_of, protect_of}
use Rattle.vm_base.specs.MemoryState.{MemoryState, IsListed, KeepsReady, own_of}
use Rattle.vm_base.specs.MemoryCalls.{TouchFails, IsReady, touched, fault_of, faulted}

-- an area
abbrev pub area_from_page : ℕ → ℕ → Perm → Area
area_from_page first n perm = record { first = first; pages = n; perm = perm }

-- n free pages were mapped, and since then only pages among them have changed
pub record IsMappedInto (before now : FlatMemory) (first n : ℕ) : Type 0 where
  pub flat : IsFlat before
  pub perm : Perm
  pub free : taken before.areas first n ≡ None
  pub areas : now.areas ≡ joined (with_area (area_from_page first n perm) before.areas)
  pub beyond : (page : ℕ) → IsTrue (is_beyond first n page) → get now.present page ≡ get before.present page

-- ranges, each with its address and the bytes that are meant for it
abbrev pub Ranges : Type 0
Ranges = List (ℕ × List ℕ)

-- the memory with the pages of all these ranges present
abbrev pub touched_all : FlatMemory → Ranges → FlatMemory
touched_all memory [] = memory
touched_all memory (range ∷ ranges) = touched_all (touched memory range.0 (length range.1)) ranges

-- the memory with all these bytes stored
abbrev pub stored_all : FlatMemory → Ranges → FlatMemory
stored_all memory [] = memory
stored_all memory (range ∷ ranges) = stored_all (record memory { present = with_bytes memory.present range.0 range.1 }) ranges

-- the most frames after these ranges were touched
abbrev pub most_after : ℕ → FlatMemory → Ranges → ℕ
most_after most memory [] = most
most_after most memory (range ∷ ranges) =
    most_after (max most (own_of (touched memory range.0 (length range.1)))) (touched memory range.0 (length range.1)) ranges

-- all ranges were touched, and then all bytes stored
pub record StoresAll (old new : MemoryState) (ranges : Ranges) : Type 0 where
  pub mem : new.mem ≡ stored_all (touched_all old.mem ranges) ranges
  pub most : new.most ≡ most_after old.most old.mem ranges
  pub keeps : KeepsReady old new

-- one of the touches was refused: the pages of the ranges before it are present, and nothing is stored
pub record TouchesFront (old new : MemoryState) (ranges : Ranges) (fault : Fault) : Type 0 where
  pub front : Ranges
  pub range : ℕ × List ℕ
  pub back : Ranges
  pub among : front ++ range ∷ back ≡ ranges
  pub mem : new.mem ≡ touched_all old.mem front
  pub keeps : KeepsReady old new
  -- the memory in front of that touch
  pub before : MemoryState
  pub counted : old.refused ≤ before.refused
  pub reached : before.most ≡ most_after old.most old.mem front
  pub fails : TouchFails before new range.0 (length range.1) fault

-- what is answered where the memory before was, and else its refusal
abbrev pub where_mapped : Result FlatMemory Refusal → (FlatMemory → Result FlatMemory Refusal) → Result FlatMemory Refusal
where_mapped (Ok memory) go_on = go_on memory
where_mapped (Err refusal) go_on = Err refusal

-- the memory with these areas mapped, each with its first page and its number of pages, to be read and written; or the first refusal
abbrev pub map_all : FlatMemory → List (ℕ × ℕ) → Result FlatMemory Refusal
map_all memory [] = Ok memory
map_all memory (area ∷ areas) = where_mapped (map_of memory area.0 area.1 ReadWrite) (λ mapped. map_all mapped areas)

-- areas were mapped, and a range touched behind that
pub record MapsThenTouches (old new : MemoryState) (areas : List (ℕ × ℕ)) (address n : ℕ)
    : Type 0 where
  pub mapped : FlatMemory
  pub maps : map_all old.mem areas ≡ Ok mapped
  pub mem : new.mem ≡ touched mapped address n
  pub most : new.most ≡ max old.most (own_of new.mem)
  pub ready : IsReady new address n

-- the touch behind the areas was refused
pub record LacksTouch (old new : MemoryState) (areas : List (ℕ × ℕ)) (address n : ℕ) (fault : Fault) : Type 0 where
  -- the memory in front of that touch and behind it
  pub before : MemoryState
  pub after : MemoryState
  pub maps : map_all old.mem areas ≡ Ok before.mem
  pub before_is : before ≡ record old { mem = before.mem }
  pub fails : TouchFails before after address n fault
  -- what was taken back behind that raises no frames, and may raise the count
  pub reached : new.most ≡ after.most
  pub counted : after.refused ≤ new.refused

-- an area could not be mapped, or the range not touched
abbrev pub MapsOrTouchFails : MemoryState → MemoryState → List (ℕ × ℕ) → ℕ → ℕ → Fault → Type 0
MapsOrTouchFails old new areas address n fault =
    ((refusal : Refusal) × ((map_all old.mem areas ≡ Err refusal) × (fault ≡ fault_of refusal) × (new.most ≡ old.most)))
    ⊎ LacksTouch old new areas address n fault

-- pages were mapped, and given a permission
pub record MapsAndProtects (old new : FlatMemory) (first n : ℕ) (perm : Perm) : Type 0 where
  pub mapped : FlatMemory
  pub map : map_of old first n ReadWrite ≡ Ok mapped
  pub protect : protect_of mapped first n perm ≡ Ok new

-- pages could not be mapped, or not given a permission
abbrev pub ProtectFails : FlatMemory → ℕ → ℕ → Perm → Fault → Type 0
ProtectFails old first n perm fault =
    (faulted (map_of old first n ReadWrite) ≡ Err fault)
    ⊎ ((mapped : FlatMemory) × ((map_of old first n ReadWrite ≡ Ok mapped) × (faulted (protect_of mapped first n perm) ≡ Err fault)))

-- the bytes fit behind the address, and a touch may have them
pub record IsWithin (address : ℕ) (bytes : List ℕ) : Type 0 where
  pub end : address + length bytes ≤ 2 ^ 48
  pub few : length bytes ≤ 4194304

-- the cells are all in the list
abbrev pub AreListed : List ℕ → List ℕ → Type 0
AreListed cells others = (cell : ℕ) → IsListed cell cells → IsListed cell others
