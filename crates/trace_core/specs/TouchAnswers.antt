-- What a touch of the parent answers and leaves, and what a store leaves.
use Rattle.std.specs.Prelude.{◌≡◌, ℕ, if◌then◌else◌, List, Option, Some, None, Result, Ok, Err, OnOk}
use Rattle.std.specs.FinMap.{get}
use Rattle.vm_base.specs.declared.faults.Fault.{Fault}
use Rattle.vm_base.specs.declared.faults.Fault.TheVariants as fault
use Rattle.vm_base.specs.declared.permission.Perm.{Perm}
use Rattle.vm_base.specs.Places.{page_of, page_count}
use Rattle.vm_base.specs.FlatMemory.{Area, FlatMemory}
use Rattle.vm_base.specs.FlatStep.{is_writable, outside, unwritable, with_bytes}
use Rattle.vm_base.specs.MemoryCalls.{IsInRange}
use Rattle.kernel_meaning.specs.FrameLaw.{Leaves}
use Rattle.page_tables.specs.Accesses.{IsPageReady}
use Rattle.trace_events.specs.declared.outcome.Outcome.{Outcome}
use Rattle.trace_events.specs.declared.outcome.Outcome.TheVariants.{Done, NoArea, NoWrite, Overlap, AreasFull, CellsFull, NoFrame}
use Rattle.trace_core.specs.KernelState.{Machine, KernelState}
use Rattle.trace_core.specs.KernelStanding.{KernelParts, KernelStands, IsKernel}

-- what an event answers where this fault refuses it
abbrev pub fault_outcome : Fault → Outcome
fault_outcome (fault.NoArea page) = NoArea page
fault_outcome (fault.NoWrite page) = NoWrite page
fault_outcome (fault.NoFrame at page) = NoFrame at
fault_outcome (fault.Overlap page) = Overlap page
fault_outcome fault.AreasFull = AreasFull
fault_outcome fault.CellsFull = CellsFull

-- what an event answers that is a touch alone
abbrev pub touch_outcome : Result (Unit {0}) Fault → Outcome
touch_outcome (Ok done) = Done
touch_outcome (Err refused) = fault_outcome refused

-- the areas let n pages be touched: each lies in an area and may be written
abbrev pub AreasAllow : List Area → ℕ → ℕ → Type 0
AreasAllow areas first n = (outside areas first n ≡ None) × (unwritable areas first n ≡ None)

-- the parts stand, and their areas let n bytes be touched
abbrev pub LetsTouch : KernelParts → ℕ → ℕ → Type 0
LetsTouch parts address n =
    ∥ IsKernel parts ∥₁ × AreasAllow parts.areas (page_of address) (page_count address n)

-- they refuse it by this fault: for the lowest page that lies in no area, or else the lowest that
-- may only be read
abbrev pub AreasRefuse : List Area → ℕ → ℕ → Fault → Type 0
AreasRefuse areas first n (fault.NoArea page) = outside areas first n ≡ Some page
AreasRefuse areas first n (fault.NoWrite page) = (outside areas first n ≡ None)
    × (unwritable areas first n ≡ Some page)
AreasRefuse areas first n other = ⊥

-- the lowest page so far that may only be read, where the next one has this permission
abbrev pub or_read_only : Option ℕ → ℕ → Perm → Option ℕ
or_read_only None page perm = if is_writable perm then None else Some page
or_read_only (Some lowest) page perm = Some lowest

-- each page of a range of bytes may be stored to
abbrev pub AreReady : Leaves → ℕ → ℕ → Type 0
AreReady leaves address n = (page : ℕ) → IsInRange page address n → IsPageReady leaves page

-- the parts stand for the state of a run in which each page of a range of bytes may be stored to
abbrev pub IsReadyKernel : KernelParts → ℕ → ℕ → Type 0
IsReadyKernel parts address n =
    (machine : Machine) × ((state : KernelState) × (KernelStands parts machine state × AreReady state.leaves address n))

-- a touch of a range left such parts where it was granted, and each page that might be stored to before still may
pub record LeavesReady (new : KernelParts) (machine : Machine) (before : Leaves) (address n : ℕ) (result : Result (Unit {0}) Fault) : Type 0 where
  pub after : KernelState
  pub stands : KernelStands new machine after
  pub ready : OnOk result (AreReady after.leaves address n)
  pub still : (page : ℕ) → IsPageReady before page → IsPageReady after.leaves page

-- a page that lacks a frame is one of the range, and was absent
abbrev pub LacksPage : FlatMemory → ℕ → ℕ → Fault → Type 0
LacksPage memory address n (fault.NoFrame at page) = IsInRange page address n × (get memory.present page ≡ None)
LacksPage memory address n other = Unit {0}

-- the state with bytes stored in the parent's pages
abbrev pub with_stored : KernelState → ℕ → List ℕ → KernelState
with_stored state address bytes = record state {
  world = record state.world {
    parent = record state.world.parent { present = with_bytes state.world.parent.present address bytes };
  };
}
