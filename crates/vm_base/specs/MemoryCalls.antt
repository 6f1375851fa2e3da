-- What the calls on a memory answer and leave.
use Rattle.std.specs.Prelude.{◌≡◌, ℕ, ◌+◌, ◌-◌, ◌≤◌, ◌<◌, max, nat_lt, Bool, not, List, length, filter, Result, Ok, Err, IsOk, IsNone, if◌then◌else◌}
use Rattle.std.specs.FinMap.{get}
use Rattle.std.specs.FinSet as set
use Rattle.vm_base.specs.declared.permission.Perm.{Perm}
use Rattle.vm_base.specs.declared.faults.Fault.{Fault}
use Rattle.vm_base.specs.declared.faults.Fault.TheVariants.{NoArea, NoWrite, NoFrame, Overlap, AreasFull, CellsFull}
use Rattle.vm_base.specs.Counts.{Rose}
use Rattle.vm_base.specs.Places.{page_of, page_count, cells_of_range}
use Rattle.vm_base.specs.FlatMemory.{FlatMemory}
use Rattle.vm_base.specs.FlatStep.{Refusal, OutsideAreas, ReadOnly, Taken, TooManyAreas, read_of, touch_of, with_pages, with_bytes, map_of, unmap_of, protect_of}
use Rattle.vm_base.specs.MemoryState.{MemoryState, IsIn, KeepsReady, own_of}

-- the fault that a refusal of the areas is answered with
abbrev pub fault_of : Refusal → Fault
fault_of (OutsideAreas page) = NoArea page
fault_of (ReadOnly page) = NoWrite page
fault_of (Taken page) = Overlap page
fault_of TooManyAreas = AreasFull

-- an answer of the flat memory, with its refusal as a fault
abbrev pub faulted : {X : Type 0} → Result X Refusal → Result X Fault
faulted (Ok value) = Ok value
faulted (Err refusal) = Err (fault_of refusal)

-- the bytes read, or the fault
abbrev pub read_answer : FlatMemory → ℕ → ℕ → Result (List ℕ) Fault
read_answer memory address n = faulted (read_of memory address n)

-- the cells of a range that use no slot
abbrev pub cells_without_slot : MemoryState → ℕ → ℕ → List ℕ
cells_without_slot state address n = filter (λ cell. not (set.contains state.used cell)) (cells_of_range address n)

-- more cells of the range are without a slot than there are free slots
abbrev pub is_out_of_slots : MemoryState → ℕ → ℕ → Bool
is_out_of_slots state address n = nat_lt (state.slots - set.len state.used) (length (cells_without_slot state address n))

-- the answer where the slots suffice, and else that they do not; a refusal of the areas comes first
abbrev pub if_slots : Bool → Result FlatMemory Fault → Result FlatMemory Fault
if_slots out (Err fault) = Err fault
if_slots out (Ok memory) = if out then Err CellsFull else Ok memory

-- the memory that a touch leaves where each of its frames is granted, or the fault
abbrev pub touch_answer : MemoryState → ℕ → ℕ → Result FlatMemory Fault
touch_answer state address n = if_slots (is_out_of_slots state address n) (faulted (touch_of state.mem address n))

-- a memory with the pages of a range present
abbrev pub touched : FlatMemory → ℕ → ℕ → FlatMemory
touched memory address n = record memory { present = with_pages memory.present (page_of address) (page_count address n) }

-- the page is one of the range
abbrev pub IsInRange : ℕ → ℕ → ℕ → Type 0
IsInRange page address n = (page_of address ≤ page) × (page < page_of address + page_count address n)

-- a touch asked for all frames that its range wants
abbrev pub Reaches : MemoryState → MemoryState → ℕ → ℕ → Type 0
Reaches old new address n = new.most ≡ max old.most (own_of (touched old.mem address n))

-- each page of the range is present and may be stored to
pub record Touches (old new : MemoryState) (address n : ℕ) : Type 0 where
  pub mem : touch_answer old address n ≡ Ok new.mem
  pub most : Reaches old new address n
  pub ready : (page : ℕ) → IsInRange page address n → IsIn page new.ready
  pub keeps : KeepsReady old new

-- a frame was refused for an absent page of the range, and all reads as before
pub record LacksFrame (old new : MemoryState) (address n at page : ℕ) : Type 0 where
  pub due : IsOk (touch_answer old address n)
  pub rose : Rose old.refused new.refused
  pub told : at ≡ new.refused
  pub range : IsInRange page address n
  pub absent : IsNone (get old.mem.present page)
  pub mem : new.mem ≡ old.mem
  pub most : Reaches old new address n
  pub keeps : KeepsReady old new

-- the definition answers this fault, and nothing has changed
abbrev pub Refuses : {X : Type 0} → MemoryState → MemoryState → Result X Fault → Fault → Type 0
Refuses old new answer fault = (answer ≡ Err fault) × (new ≡ old)

-- why a touch was refused
abbrev pub TouchFails : MemoryState → MemoryState → ℕ → ℕ → Fault → Type 0
TouchFails old new address n (NoFrame at page) = LacksFrame old new address n at page
TouchFails old new address n (NoArea page) = Refuses old new (touch_answer old address n) (NoArea page)
TouchFails old new address n (NoWrite page) = Refuses old new (touch_answer old address n) (NoWrite page)
TouchFails old new address n (Overlap page) = ⊥
TouchFails old new address n AreasFull = ⊥
TouchFails old new address n CellsFull = Refuses old new (touch_answer old address n) CellsFull

-- each page of the range may be stored to
abbrev pub IsReady : MemoryState → ℕ → ℕ → Type 0
IsReady state address n = (page : ℕ) → IsInRange page address n → IsIn page state.ready

-- the memory with bytes stored, and all else as it was
abbrev pub after_store : MemoryState → ℕ → List ℕ → MemoryState
after_store state address bytes =
    record state { mem = record state.mem { present = with_bytes state.mem.present address bytes } }

-- the memory that mapping pages leaves, or the fault
abbrev pub map_answer : MemoryState → ℕ → ℕ → Perm → Result FlatMemory Fault
map_answer state first n perm = faulted (map_of state.mem first n perm)

-- the memory that unmapping pages leaves, or the fault
abbrev pub unmap_answer : MemoryState → ℕ → ℕ → Result FlatMemory Fault
unmap_answer state first n = faulted (unmap_of state.mem first n)

-- the memory that another permission leaves, or the fault
abbrev pub protect_answer : MemoryState → ℕ → ℕ → Perm → Result FlatMemory Fault
protect_answer state first n perm = faulted (protect_of state.mem first n perm)

-- the memory is the one of the answer, and all else is as it was
abbrev pub Maps : MemoryState → MemoryState → Result FlatMemory Fault → Type 0
Maps old new answer = (answer ≡ Ok new.mem) × (new ≡ record old { mem = new.mem })

-- the memory is the one of the answer; leaf copies may have been refused, and pages may be stored to no more
abbrev pub Changes : MemoryState → MemoryState → Result FlatMemory Fault → Type 0
Changes old new answer = (answer ≡ Ok new.mem) × (new.most ≡ old.most)
