-- When the parts of a kernel stand for the state of a run.
use Rattle.std.specs.Prelude.{◌≡◌, ℕ, List, ◌++◌, Option, Some, None, Result, Ok, Err}
use Rattle.std.specs.Ordering.{nat_cmp}
use Rattle.std.specs.FinMap.{FinMap, empty, insert, get}
use Rattle.vm_base.specs.Deals.{Deal, LeadsAlong}
use Rattle.vm_base.specs.FlatMemory.{Area, PageMap, FlatMemory}
use Rattle.kernel_meaning.specs.Requests.{Answer, answers_of}
use Rattle.kernel_meaning.specs.FrameLaw.{losses_of}
use Rattle.page_tables.specs.declared.tables.PageTables.{PageTables}
use Rattle.page_tables.specs.Sides.{Sides}
use Rattle.page_tables.specs.Standing.{TablesStandFor, slot_count}
use Rattle.page_tables.specs.TablesView.{snapshot_number}
use Rattle.page_tables.specs.Held.{frames_of}
use Rattle.trace_events.specs.declared.outcome.Outcome.{Outcome}
use Rattle.trace_core.specs.declared.parts.SnapshotAreas.{SnapshotAreas}
use Rattle.trace_core.specs.declared.writing.NoArea.{NoArea}
use Rattle.vm_base.specs.FlatStep.{Refusal, OutsideAreas}
use Rattle.trace_core.specs.SupplyState.{SupplyState, SupplyGoes}
use Rattle.trace_core.specs.Supplied.{IsSupplied}
use Rattle.trace_core.specs.KernelState.{Machine, KernelState}
use Rattle.trace_core.specs.EventMeaning.{EventEnd}

-- what a proof may know of a kernel: the parent's areas, the page tables, where frames come from, the snapshot that lives, and the number of the last one
pub record KernelParts : Type 0 where
  pub areas : List Area
  pub tables : PageTables
  pub supply : SupplyState
  pub snapshot : Option SnapshotAreas
  pub last : ℕ

-- the areas of the snapshot that lives, with these pages
abbrev pub kept_memories : Option SnapshotAreas → FinMap nat_cmp PageMap → FinMap nat_cmp FlatMemory → Type 0
kept_memories None pages memories = memories ≡ empty
kept_memories (Some kept) pages memories = (present : PageMap) × ((get pages kept.number ≡ Some present) × (memories ≡ insert empty kept.number (record { areas = kept.areas; present = present })))

-- how often the copies of the snapshot that lives were refused
abbrev pub kept_counts : Option SnapshotAreas → FinMap nat_cmp ℕ
kept_counts None = empty
kept_counts (Some kept) = insert empty kept.number kept.refused

-- the refused copies of the snapshot that lives
abbrev pub copies_refused_in : Option SnapshotAreas → ℕ
copies_refused_in None = 0
copies_refused_in (Some kept) = kept.refused

-- of a snapshot that lives, what no copy changes: its number and its areas
pub record KeptAreas : Type 0 where
  pub number : ℕ
  pub areas : List Area

-- the same of the one that lives
abbrev pub areas_in : Option SnapshotAreas → Option KeptAreas
areas_in None = None
areas_in (Some kept) = Some (record { number = kept.number; areas = kept.areas })

-- the number of a snapshot, if there is one
abbrev pub number_among : Option KeptAreas → Option ℕ
number_among None = None
number_among (Some kept) = Some kept.number

-- the number of the snapshot that lives, if one does
abbrev pub kept_number : Option SnapshotAreas → Option ℕ
kept_number snapshot = number_among (areas_in snapshot)

-- what the page tables stand for
abbrev pub sides_of : KernelState → FinMap nat_cmp PageMap → Sides
sides_of state pages = record { leaves = state.leaves; pages = state.world.parent.present; snapshots = pages; made = state.made }

-- the parts stand for the state of a run on this machine
pub record KernelStands (parts : KernelParts) (machine : Machine) (state : KernelState) : Type 0 where
  pub pages : FinMap nat_cmp PageMap
  pub areas : state.world.parent.areas ≡ parts.areas
  pub tables : TablesStandFor parts.tables (sides_of state pages)
  pub number : snapshot_number parts.tables ≡ kept_number parts.snapshot
  pub memories : kept_memories parts.snapshot pages state.world.snapshots
  pub losses : state.world.losses ≡ losses_of state.leaves
  pub last : state.world.last ≡ parts.last
  pub counts : state.world.refused_copies ≡ kept_counts parts.snapshot
  pub supply : IsSupplied machine state parts.supply
  pub out : parts.supply.out ≡ frames_of parts.tables
  pub slots : slot_count parts.tables ≡ machine.slots
  pub limit : machine.limit ≡ 1

-- the parts are those of a kernel: they stand for the state of a run on some machine
abbrev pub IsKernel : KernelParts → Type 0
IsKernel parts = (machine : Machine) × ((state : KernelState) × KernelStands parts machine state)

-- an event ran on a kernel: its deals led the supply on, and with their answers the event ends with this outcome and in the state for which the kernel stands then
pub record EventRan (from new : KernelParts) (machine : Machine) (end : List Answer → EventEnd) (outcome : Outcome) : Type 0 where
  pub deals : List Deal
  pub led : LeadsAlong SupplyGoes from.supply deals new.supply
  pub after : KernelState
  pub ends : end (answers_of deals) ≡ record { outcome = outcome; deals = deals; after = after }
  -- no answer that comes behind them is looked at
  pub further : (rest : List Answer) → end (answers_of deals ++ rest) ≡ record { outcome = outcome; deals = deals; after = after }
  pub stands : KernelStands new machine after

-- what a read answers: the bytes that are in the buffer then, or the lowest page outside the areas
abbrev pub buffer_answer : Result (Unit {0}) NoArea → List ℕ → Result (List ℕ) Refusal
buffer_answer (Ok done) bytes = Ok bytes
buffer_answer (Err refused) bytes = Err (OutsideAreas refused.page)
