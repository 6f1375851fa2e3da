-- What a kernel has run: the events of a run, one after another, with their answers.
use Rattle.std.specs.Prelude.{ℕ, List, ◌++◌}
use Rattle.vm_base.specs.Deals.{Deal}
use Rattle.trace_events.specs.declared.event.Event.{Event}
use Rattle.trace_events.specs.declared.event.Event.TheVariants.{Fork, Refuse}
use Rattle.trace_events.specs.declared.outcome.Outcome.{Outcome}
use Rattle.trace_events.specs.declared.outcome.Outcome.TheVariants.{Done}
use Rattle.kernel_meaning.specs.RefusedRequests.{Request, PolicySum}
use Rattle.kernel_meaning.specs.Stretches.{dealings_of}
use Rattle.trace_core.specs.Answering.{HaveLed}
use Rattle.trace_core.specs.KernelState.{Machine, KernelState, opening_state}
use Rattle.trace_core.specs.EventMeaning.{asker_of}
use Rattle.trace_core.specs.SupplyState.{SupplyState}
use Rattle.trace_core.specs.DealtSupply.{DealtAlong}
use Rattle.trace_core.specs.RunMeaning.{IsEvent, event_requests, IsRunFrom}
use Rattle.trace_core.specs.KernelStanding.{KernelParts, KernelStands}

-- the supply behind an event, but for the request that a refuse line names
abbrev pub unnamed_by : Event → SupplyState → SupplyState → SupplyState
unnamed_by (Refuse nth) from new = record new { pending = from.pending }
unnamed_by event from new = new

-- a kernel that stood for this state ran an event: the event made just its deals, for which the
-- supply's policies were asked, each request among them was answered as it may be, and the kernel
-- stands for what it left
pub record EventFollows (from new : KernelParts) (machine : Machine) (state : KernelState) (event : Event) (outcome : Outcome) : Type 0 where
  pub deals : List Deal
  pub after : KernelState
  pub is_event : IsEvent machine state event deals outcome after
  pub dealt : DealtAlong from.supply (dealings_of (asker_of event) deals)
      (unnamed_by event from.supply new.supply)
  pub led : (opening : PolicySum) (requests : List Request) → HaveLed machine.frames opening requests from.supply.policies
      → HaveLed machine.frames opening (requests ++ event_requests state event deals) new.supply.policies
  pub stands : KernelStands new machine after

-- whatever state the kernel stood for, the event followed there
abbrev pub Ran : KernelParts → KernelParts → Event → Outcome → Type 0
Ran from new event outcome = (machine : Machine) (state : KernelState) → KernelStands from machine state → EventFollows from new machine state event outcome

-- the number of the last fork behind an event: a fork that succeeds gives its own, and all else leaves the one before
abbrev pub last_behind : Event → Outcome → ℕ → ℕ
last_behind (Fork n mode) Done last = n
last_behind (Fork n mode) other last = last
last_behind event outcome last = last

-- the kernel has run these events, with these answers, behind snapshots up to the last number and under policies of which this was known at the start
pub record HasRun (parts : KernelParts) (machine : Machine) (last : ℕ) (policies : PolicySum) (events : List Event) (outcomes : List Outcome) : Type 0 where
  pub state : KernelState
  pub requests : List Request
  pub run : IsRunFrom machine (opening_state last) events outcomes requests state
  pub led : HaveLed machine.frames policies requests parts.supply.policies
  pub stands : KernelStands parts machine state
