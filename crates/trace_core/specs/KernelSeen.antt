-- What a kernel is as a memory, as a process, and as the nest of its snapshot.
use Rattle.std.specs.Prelude.{◌≡◌, ◌⊎◌, ℕ, ◌+◌, ◌/◌, ◌<◌, ◌≤◌, ◌==◌, if◌then◌else◌, max, length, Bool, true, false, List, [], ◌∷◌, Option, Some, None, IsSome, IsTrue, Result}
use Rattle.std.specs.Option.{ForSome}
use Rattle.std.specs.Ordering.{nat_cmp}
use Rattle.std.specs.FinMap.{FinMap, get, empty}
use Rattle.std.specs.FinSet as set
use Rattle.vm_base.specs.Counts.{next_count}
use Rattle.vm_base.specs.FlatMemory.{FlatMemory, IsFlat, empty_memory, cells_of}
use Rattle.vm_base.specs.MemoryState.{MemoryState, IsIn, IsListed, own_of}
use Rattle.vm_base.specs.ProcessState.{Children, Remains}
use Rattle.vm_base.specs.SnapshotState.{SnapshotState}
use Rattle.vm_base.specs.MemoryCalls.{touched}
use Rattle.trace_events.specs.declared.event.Event.{Event}
use Rattle.trace_events.specs.declared.event.Event.TheVariants.{Write, Fill, Fork, Refuse}
use Rattle.trace_events.specs.declared.outcome.Outcome.{Outcome}
use Rattle.trace_events.specs.declared.outcome.Outcome.TheVariants.{Done, NoFrame}
use Rattle.frame_pool.specs.Policies.{PolicyView}
use Rattle.page_tables.specs.declared.tables.PageTables.{PageTables}
use Rattle.page_tables.specs.Standing.{slot_count}
use Rattle.page_tables.specs.SlotViews.{used_in, ready_in, lost_in, waiting_in}
use Rattle.page_tables.specs.TablesView.{views_of, pages_of, snapshot_has}
use Rattle.vm_base.specs.declared.faults.Fault.{Fault}
use Rattle.vm_base.specs.declared.faults.ForkFault.{ForkFault}
use Rattle.vm_base.specs.declared.faults.ForkFault.TheVariants.{TooMany as TooManyLive, NumbersSpent}
use Rattle.trace_core.specs.declared.parts.SnapshotAreas.{SnapshotAreas}
use Rattle.trace_core.specs.TouchAnswers.{touch_outcome}
use Rattle.trace_core.specs.KernelState.{Machine, KernelState}
use Rattle.trace_core.specs.KernelStanding.{KernelParts, KernelStands, KeptAreas, areas_in, copies_refused_in}
use Rattle.trace_core.specs.SupplyState.{supply_state_of}
use Rattle.trace_core.specs.declared.parts.Parts.{Parts}
use Rattle.trace_core.specs.declared.notes.Notes.{Notes}

-- ---- what a kernel is read off

-- the parts of a kernel whose pool has these policies
abbrev pub parts_with : {Policy : Type 0} {IsPolicy : Policy → Type 0} → Parts Policy IsPolicy → List PolicyView → KernelParts
parts_with parts policies = record {
  areas = parts.areas;
  tables = parts.tables;
  supply = supply_state_of (record {
    made = parts.supply.pool.stack.made;
    free = parts.supply.pool.stack.free;
    asks = parts.supply.pool.asks;
    policies = policies;
  }) parts.supply.asker parts.supply.refused parts.supply.pending;
  snapshot = parts.snapshot;
  last = parts.last;
}

-- the parts of a kernel, whatever the policies of its pool are
abbrev pub parts_of : {Policy : Type 0} {IsPolicy : Policy → Type 0} → Parts Policy IsPolicy → KernelParts
parts_of parts = parts_with parts []

-- what contracts alone know of a kernel: the most frames of its own that it has had, or that a touch has asked for; of the snapshot that lives, the tables and the refused requests at its fork; and how many frames are enough, if told
pub record KernelNotes : Type 0 where
  pub most : ℕ
  pub forked : PageTables
  pub born : ℕ
  pub enough : Option ℕ

-- the values of the notes
abbrev pub notes_of : Notes → KernelNotes
notes_of notes = record {
  most = notes.most.value;
  forked = notes.forked.value;
  born = notes.born.value;
  enough = notes.enough.value;
}

-- ---- the kernel as a memory

-- the parent's memory
abbrev pub parent_of : KernelParts → FlatMemory
parent_of parts = record { areas = parts.areas; present = pages_of parts.tables }

-- the parts as a memory, where it is not told how many frames are enough
abbrev pub memory_of : KernelParts → ℕ → MemoryState
memory_of parts most = record {
  mem = parent_of parts;
  refused = parts.supply.refused;
  room = parts.supply.made;
  slots = slot_count parts.tables;
  used = used_in (views_of parts.tables);
  ready = ready_in parts.areas (views_of parts.tables);
  most = most;
  enough = None;
}

-- the kernel as a memory
abbrev pub kernel_memory : KernelParts → KernelNotes → MemoryState
kernel_memory parts notes = record (memory_of parts notes.most) { enough = notes.enough }

-- how many frames are enough, of so many that were made, under so many policies: where none may refuse a request, at a refusal the parent and its snapshot hold all frames, so one of them had more than half
abbrev pub enough_of : ℕ → ℕ → Option ℕ
enough_of frames policies = if policies == 0 then Some (frames / 2 + 1) else None

-- the memory of a new kernel
abbrev pub opening_memory : ℕ → ℕ → Option ℕ → MemoryState
opening_memory frames slots enough = record {
  mem = empty_memory;
  refused = 0;
  room = frames;
  slots = slots;
  used = set.empty;
  ready = set.empty;
  most = 0;
  enough = enough;
}

-- ---- what stands beside it

-- what stands beside a kernel's memory: the snapshot that lives, the number that was given out last, and for the snapshot the tables at its fork and the refused requests then
pub record BesideMemory : Type 0 where
  pub snapshot : Option KeptAreas
  pub last : ℕ
  pub forked : PageTables
  pub born : ℕ

-- the same of these parts and notes
abbrev pub beside_of : KernelParts → KernelNotes → BesideMemory
beside_of parts notes = record { snapshot = areas_in parts.snapshot; last = parts.last; forked = notes.forked; born = notes.born }

-- the number of a snapshot, if there is one
abbrev pub numbers_among : Option KeptAreas → List ℕ
numbers_among None = []
numbers_among (Some kept) = kept.number ∷ []

-- the number of the snapshot that lives, if one does
abbrev pub live_numbers : Option SnapshotAreas → List ℕ
live_numbers snapshot = numbers_among (areas_in snapshot)

-- the children: one may live
abbrev pub children_among : Option KeptAreas → ℕ → Children
children_among snapshot last = record {
  numbers = numbers_among snapshot;
  live = length (numbers_among snapshot);
  last = last;
  limit = 1;
}

-- the children of a kernel whose snapshot this is
abbrev pub children_of : Option SnapshotAreas → ℕ → Children
children_of snapshot last = children_among (areas_in snapshot) last

-- the memory of a snapshot, from the tables at its fork
abbrev pub kept_memory : SnapshotAreas → PageTables → FlatMemory
kept_memory kept forked = record { areas = kept.areas; present = pages_of forked }

-- the same of one of which this is told, and no page where there is none
abbrev pub memory_among : Option KeptAreas → PageTables → FlatMemory
memory_among None forked = empty_memory
memory_among (Some kept) forked = record { areas = kept.areas; present = pages_of forked }

-- the memory of the one that lives
abbrev pub kept_in : Option SnapshotAreas → PageTables → FlatMemory
kept_in snapshot forked = memory_among (areas_in snapshot) forked

-- what is left of a snapshot: what it has lost is told by the kernel as long as it lives, and not by what is left
abbrev pub remains_of : ℕ → Remains
remains_of number = record { number = number; found = empty; refused = 0 }

-- ---- the kernel as a nest

-- what stands beside a snapshot in its kernel: the kernel's memory, what stands beside that, and the number of the snapshot
pub record BesideChild : Type 0 where
  pub memory : MemoryState
  pub beside : BesideMemory
  pub number : ℕ

-- the snapshot of this number, with the memory at its fork, the cells that it has lost, and as many steps of copying to come as cells of it wait
abbrev pub nest_of : KernelParts → KernelNotes → ℕ → SnapshotState
nest_of parts notes number = record {
  mem = kept_in parts.snapshot notes.forked;
  found = lost_in number (views_of parts.tables);
  refused = copies_refused_in parts.snapshot;
  todo = waiting_in number (views_of parts.tables);
  passed = waiting_in number (views_of parts.tables) == 0;
  whole = waiting_in number (views_of parts.tables) == 0;
}

-- ---- what holds of a kernel

-- each of these snapshots has the number that was given out last, and the pages of the tables at its fork
abbrev pub AreForkedFrom : PageTables → FinMap nat_cmp FlatMemory → ℕ → Type 0
AreForkedFrom tables snapshots last = (n : ℕ) (memory : FlatMemory) → get snapshots n ≡ Some memory
    → (0 < n) × (n ≡ last) × (memory.present ≡ pages_of tables)

-- the parts stand for the state of a run, whose memory is flat and has never had more frames of its own than is noted
pub record IsSound (parts : KernelParts) (notes : KernelNotes) (machine : Machine) (state : KernelState) : Type 0 where
  pub stands : KernelStands parts machine state
  pub flat : IsFlat state.world.parent
  pub own : own_of state.world.parent ≤ notes.most
  pub forked : AreForkedFrom notes.forked state.world.snapshots state.world.last

-- they do so for some state
abbrev pub IsKernelNoted : KernelParts → KernelNotes → Type 0
IsKernelNoted parts notes = (machine : Machine) × ((state : KernelState) × IsSound parts notes machine state)

-- each slot is used by a cell of the parent, or by one of the snapshot that lives
abbrev pub AreSlotsUsed : KernelParts → KernelNotes → Type 0
AreSlotsUsed parts notes = (cell : ℕ) → IsIn cell (used_in (views_of parts.tables))
    → ∥ IsListed cell (cells_of (parent_of parts)) ⊎ (IsSome parts.snapshot × IsListed cell (cells_of (kept_in parts.snapshot notes.forked))) ∥₁

-- each cell of the snapshot that lives uses a slot
abbrev pub AreKeptUsed : KernelParts → KernelNotes → Type 0
AreKeptUsed parts notes = IsSome parts.snapshot → (cell : ℕ) → IsListed cell (cells_of (kept_in parts.snapshot notes.forked))
    → IsIn cell (used_in (views_of parts.tables))

-- what the notes tell of the snapshot that lives, and of refusals, holds
pub record NotesHold (parts : KernelParts) (notes : KernelNotes) : Type 0 where
  -- each of the snapshot's cells had a page at its fork
  pub cells : (c : ℕ) → IsTrue (snapshot_has parts.tables c) → IsListed c (cells_of (kept_in parts.snapshot notes.forked))
  -- where it lives, no more requests were refused by its fork than by now
  pub born : IsSome parts.snapshot → notes.born ≤ parts.supply.refused
  -- each that it has lost was lost behind the fork
  pub since : (n c at : ℕ) → get (lost_in n (views_of parts.tables)) c ≡ Some at → (next_count notes.born ≤ at) × (at ≤ parts.supply.refused)
  -- its memory took no more frames than were noted
  pub own : own_of (kept_in parts.snapshot notes.forked) ≤ notes.most
  -- where enough is told no request is named to be refused, and it is no more than half of the frames, and one
  pub enough : ForSome notes.enough (λ enough. (parts.supply.pending ≡ None) × (enough + enough ≤ parts.supply.made + 2))

-- once a request was refused, as many frames were the kernel's own or asked for as are enough
abbrev pub HasReached : KernelParts → KernelNotes → Type 0
HasReached parts notes = 0 < parts.supply.refused → ForSome notes.enough (λ enough. enough ≤ notes.most)

-- ---- what is noted

-- the most frames behind a touch of n bytes that was granted, or that lacked a frame
abbrev pub most_touched : PageTables → ℕ → ℕ → ℕ → ℕ
most_touched before address n most = max most (own_of (touched (record { areas = []; present = pages_of before }) address n))

-- the same where it was one that was answered so
abbrev pub most_answered : PageTables → ℕ → ℕ → ℕ → Outcome → ℕ
most_answered before address n most Done = most_touched before address n most
most_answered before address n most (NoFrame at) = most_touched before address n most
most_answered before address n most other = most

-- the most frames behind an event
abbrev pub most_behind : PageTables → Event → Outcome → ℕ → ℕ
most_behind before (Write address bytes) outcome most = most_answered before address (length bytes) most outcome
most_behind before (Fill address n byte) outcome most = most_answered before address n most outcome
most_behind before event outcome most = most

-- a snapshot was forked
abbrev pub is_new_fork : Event → Outcome → Bool
is_new_fork (Fork n mode) Done = true
is_new_fork (Fork n mode) other = false
is_new_fork event outcome = false

-- where a request is named to be refused, it is no longer told how many frames are enough
abbrev pub enough_behind : Event → Option ℕ → Option ℕ
enough_behind (Refuse nth) enough = None
enough_behind event enough = enough

-- what is noted behind an event, where these are the tables and the refused requests then
pub record IsNoted (before : PageTables) (event : Event) (outcome : Outcome) (tables : PageTables) (refused : ℕ) (old new : KernelNotes) : Type 0 where
  pub most : new.most ≡ most_behind before event outcome old.most
  pub forked : is_new_fork event outcome ≡ true → (new.forked ≡ tables) × (new.born ≡ refused)
  pub kept : is_new_fork event outcome ≡ false → (new.forked ≡ old.forked) × (new.born ≡ old.born)
  pub enough : new.enough ≡ enough_behind event old.enough

-- the most frames behind a touch that was answered so
abbrev pub most_behind_touch : PageTables → ℕ → ℕ → ℕ → Result (Unit {0}) Fault → ℕ
most_behind_touch before address n most result = most_answered before address n most (touch_outcome result)

-- why there is no fork where the last number was given out: a snapshot lives, or else no number is left
abbrev pub spent_fault : Option SnapshotAreas → ForkFault
spent_fault None = NumbersSpent
spent_fault (Some kept) = TooManyLive
