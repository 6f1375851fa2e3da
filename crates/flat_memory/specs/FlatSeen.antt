-- What a process by flat copies is as a memory, as a process, and as the nest of its child.
use Rattle.std.specs.Prelude.{◌≡◌, ℕ, Bool, true, false, ◌+◌, ◌-◌, ◌<◌, ◌≤◌, ◌^◌, ◌==◌, max, not, filter, length, List, [], ◌∷◌, ◌++◌, Option, Some, None, IsSome, Result, Ok, Err}
use Rattle.std.specs.Option.{ForSome}
use Rattle.std.specs.FinMap.{get, empty, keys, len}
use Rattle.std.specs.FinSet as set
use Rattle.vm_base.specs.declared.faults.Fault.{Fault}
use Rattle.vm_base.specs.declared.faults.Fault.TheVariants.{NoArea, NoWrite, NoFrame, Overlap, AreasFull, CellsFull}
use Rattle.vm_base.specs.declared.faults.ForkFault.{ForkFault}
use Rattle.vm_base.specs.declared.faults.ForkFault.TheVariants.{NoFrame as NoFrameLeft, TooMany, NumbersSpent}
use Rattle.vm_base.specs.Counts.{next_count}
use Rattle.vm_base.specs.Places.{page_of}
use Rattle.vm_base.specs.FlatMemory.{Area, FlatMemory, IsFlat, empty_memory, area_of, cells_of}
use Rattle.vm_base.specs.FlatStep.{OutsideAreas, ReadOnly, is_read_only, with_pages, touch_of}
use Rattle.vm_base.specs.MemoryState.{MemoryState, Numbers, own_of}
use Rattle.vm_base.specs.MemoryCalls.{IsInRange, touched, fault_of}
use Rattle.vm_base.specs.ProcessState.{Children, Remains}
use Rattle.vm_base.specs.SnapshotState.{SnapshotState}
use Rattle.area_list.specs.declared.fault.AreaFault.{AreaFault}
use Rattle.area_list.specs.Answers.{refusal_of}
use Rattle.flat_memory.specs.declared.side.Side.{Side}
use Rattle.flat_memory.specs.declared.sides.Sides.{Sides}
use Rattle.flat_memory.specs.SideSeen.{mem_of}

-- ---- as a memory

-- a page that lies in no area that may only be read
abbrev pub may_write : List Area → ℕ → Bool
may_write areas page = not (is_read_only (area_of areas page))

-- the pages that may be stored to: those present whose areas may be written
abbrev pub ready_pages : FlatMemory → Numbers
ready_pages memory = set.from_list (filter (may_write memory.areas) (keys memory.present))

-- the cells of what a child has, where one lives
abbrev pub kept_cells : Option ℕ → FlatMemory → List ℕ
kept_cells None kept = []
kept_cells (Some number) kept = cells_of kept

-- the cells of the memory and of its child
abbrev pub used_cells : FlatMemory → Option ℕ → FlatMemory → Numbers
used_cells memory child kept = set.from_list (cells_of memory ++ kept_cells child kept)

-- one slot for each cell that there is
abbrev pub all_slots : ℕ
all_slots = 2 ^ 27

-- the process as a memory, of which it is not told how many frames are enough
abbrev pub memory_of : Sides → MemoryState
memory_of sides = record {
  mem = mem_of sides.memory;
  refused = sides.refused;
  room = sides.memory.pages.room;
  slots = all_slots;
  used = used_cells (mem_of sides.memory) sides.child (mem_of sides.kept);
  ready = ready_pages (mem_of sides.memory);
  most = sides.most.value;
  enough = None;
}

-- the memory of a new process
abbrev pub opening_flat_memory : ℕ → MemoryState
opening_flat_memory room = record {
  mem = empty_memory;
  refused = 0;
  room = room;
  slots = all_slots;
  used = set.empty;
  ready = set.empty;
  most = 0;
  enough = None;
}

-- the most frames, where a touch asks for those of a range
abbrev pub most_asked : ℕ → Side → ℕ → ℕ → ℕ
most_asked most side address n = max most (own_of (touched (mem_of side) address n))

-- nothing but the memory and its counts has changed
pub record KeepsChild (old new : Sides) : Type 0 where
  pub kept : new.kept ≡ old.kept
  pub child : new.child ≡ old.child
  pub last : new.last ≡ old.last
  pub born : new.born ≡ old.born

-- the range was touched, for which there was room
pub record TouchesRange (old new : Sides) (address n : ℕ) : Type 0 where
  pub granted : touch_of (mem_of old.memory) address n ≡ Ok (touched (mem_of old.memory) address n)
  pub fits : len (touched (mem_of old.memory) address n).present ≤ old.memory.pages.room
  pub memory : new.memory ≡ record old.memory {
    pages =
        record old.memory.pages { present = (touched (mem_of old.memory) address n).present };
  }
  pub refused : new.refused ≡ old.refused
  pub most : new.most.value ≡ most_asked old.most.value old.memory address n
  pub others : KeepsChild old new

-- there was no room for this page: it is absent, and those of the range before it fill the room
pub record LacksPage (old new : Sides) (address n at page : ℕ) : Type 0 where
  pub granted : touch_of (mem_of old.memory) address n ≡ Ok (touched (mem_of old.memory) address n)
  pub range : IsInRange page address n
  pub absent : get old.memory.pages.present page ≡ None
  pub full : len (with_pages old.memory.pages.present (page_of address) (page - page_of address)) ≡
      old.memory.pages.room
  pub memory : new.memory ≡ old.memory
  pub refused : new.refused ≡ next_count old.refused
  pub told : at ≡ new.refused
  pub most : new.most.value ≡ most_asked old.most.value old.memory address n
  pub others : KeepsChild old new

-- how a touch ends
abbrev pub TouchEnds : Sides → Sides → ℕ → ℕ → Result (Unit {0}) Fault → Type 0
TouchEnds old new address n (Ok done) = TouchesRange old new address n
TouchEnds old new address n (Err (NoFrame at page)) = LacksPage old new address n at page
TouchEnds old new address n (Err (NoArea page)) =
    (touch_of (mem_of old.memory) address n ≡ Err (OutsideAreas page)) × (new ≡ old)
TouchEnds old new address n (Err (NoWrite page)) =
    (touch_of (mem_of old.memory) address n ≡ Err (ReadOnly page)) × (new ≡ old)
TouchEnds old new address n (Err (Overlap page)) = ⊥
TouchEnds old new address n (Err AreasFull) = ⊥
TouchEnds old new address n (Err CellsFull) = ⊥

-- the memory was copied to a child with the next number
pub record Forks (old new : Sides) (number : ℕ) : Type 0 where
  pub alone : old.child ≡ None
  pub next : number ≡ old.last + 1
  pub small : number ≤ 4294967295
  pub memory : new.memory ≡ old.memory
  pub kept : mem_of new.kept ≡ mem_of old.memory
  pub room : new.kept.pages.room ≡ old.kept.pages.room
  pub child : new.child ≡ Some number
  pub last : new.last ≡ number
  pub refused : new.refused ≡ old.refused
  pub most : new.most.value ≡ old.most.value
  pub born : new.born.value ≡ old.refused

-- how a fork ends
abbrev pub ForkEnds : Sides → Sides → Result ℕ ForkFault → Type 0
ForkEnds old new (Ok number) = Forks old new number
ForkEnds old new (Err (NoFrameLeft at)) = ⊥
ForkEnds old new (Err TooMany) = IsSome old.child × (new ≡ old)
ForkEnds old new (Err NumbersSpent) = (old.last ≡ 4294967295) × (old.child ≡ None) × (new ≡ old)

-- what is told of a change of areas
abbrev pub fault_answer : Result (Unit {0}) AreaFault → Result (Unit {0}) Fault
fault_answer (Ok done) = Ok done
fault_answer (Err fault) = Err (fault_of (refusal_of fault))

-- a page of the range finds no room exactly where more pages would be present than there is room
-- for; those before it fill the room
abbrev pub IsRefusedByRoom : MemoryState → ℕ → ℕ → Result (Unit {0}) Fault → Type 0
IsRefusedByRoom old address n (Ok done) = len (touched old.mem address n).present ≤ old.room
IsRefusedByRoom old address n (Err (NoFrame at page)) =
    (old.room < len (touched old.mem address n).present)
    × (len (with_pages old.mem.present (page_of address) (page - page_of address)) ≡ old.room)
IsRefusedByRoom old address n (Err (NoArea page)) = Unit {0}
IsRefusedByRoom old address n (Err (NoWrite page)) = Unit {0}
IsRefusedByRoom old address n (Err (Overlap page)) = Unit {0}
IsRefusedByRoom old address n (Err AreasFull) = Unit {0}
IsRefusedByRoom old address n (Err CellsFull) = Unit {0}

-- ---- as a process

-- what stands beside the memory: the child that lives, what it has, the number given out last, and
-- the refused touches at its fork
pub record BesideMemory : Type 0 where
  pub child : Option ℕ
  pub kept : FlatMemory
  pub last : ℕ
  pub born : ℕ

-- the same of these two sides
abbrev pub beside_of : Sides → BesideMemory
beside_of sides = record {
  child = sides.child;
  kept = mem_of sides.kept;
  last = sides.last;
  born =
      sides.born.value;
}

-- the number of the child that lives, if one does
abbrev pub numbers_of : Option ℕ → List ℕ
numbers_of None = []
numbers_of (Some number) = number ∷ []

-- one child may live
abbrev pub children_of : BesideMemory → Children
children_of beside = record {
  numbers = numbers_of beside.child;
  live = length (numbers_of beside.child);
  last = beside.last;
  limit = 1;
}

-- nothing is ever lost or refused of a child
abbrev pub remains_of : ℕ → Remains
remains_of number = record { number = number; found = empty; refused = 0 }

-- ---- as a nest

-- what stands beside a child: all that the process tells of itself, and the number of the child
pub record BesideChild : Type 0 where
  pub memory : MemoryState
  pub beside : BesideMemory
  pub number : ℕ

-- the child of this number lives
abbrev pub is_child : Option ℕ → ℕ → Bool
is_child None number = false
is_child (Some child) number = child == number

-- a child has all of its memory from its fork on, so no cell waits to be copied and none is lost
abbrev pub nest_of : FlatMemory → SnapshotState
nest_of kept = record {
  mem = kept;
  found = empty;
  refused = 0;
  todo = 0;
  passed = true;
  whole =
      true;
}

-- ---- what holds at each moment

-- both sides are flat and have the same room, which the pages keep, and no count has passed its
-- bound
pub record FlatHolds (sides : Sides) : Type 0 where
  pub flat : IsFlat (mem_of sides.memory)
  pub kept : IsFlat (mem_of sides.kept)
  pub room : len sides.memory.pages.present ≤ sides.memory.pages.room
  pub same_room : sides.kept.pages.room ≡ sides.memory.pages.room
  pub own : own_of (mem_of sides.memory) ≤ sides.most.value
  pub given : ForSome sides.child (λ number. (0 < number) × (number ≤ sides.last))
  pub last : sides.last ≤ 4294967295
  pub counted : sides.refused ≤ 2 ^ 64 - 1

-- what calls make of it: a number given out is given to no other child, and a child that lives
-- keeps its memory
pub record FlatWent (old new : BesideMemory) : Type 0 where
  pub last : old.last ≤ new.last
  pub kept : (number : ℕ) → number ≤ old.last → new.child ≡ Some number → (old.child ≡ Some number)
      × (new.kept ≡ old.kept)
