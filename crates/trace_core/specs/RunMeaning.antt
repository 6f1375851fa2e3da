-- A whole run of events: what they answer one after another, and which of their requests for frames are refused.
use Rattle.std.specs.Prelude.{◌≡◌, ℕ, if◌then◌else◌, List, [], ◌∷◌, ◌++◌, ◌+◌}
use Rattle.vm_base.specs.Deals.{Deal}
use Rattle.trace_events.specs.declared.event.Event.{Event}
use Rattle.trace_events.specs.declared.outcome.Outcome.{Outcome}
use Rattle.kernel_meaning.specs.Requests.{Answer, answers_of}
use Rattle.kernel_meaning.specs.FrameLaw.{held_frames}
use Rattle.kernel_meaning.specs.RefusedRequests.{Request, requests_of, answers_behind, answers_from, PolicySum, AreAnswered}
use Rattle.trace_core.specs.Answering.{AreCounted}
use Rattle.trace_core.specs.KernelState.{Machine, KernelState, opening_state}
use Rattle.trace_core.specs.EventMeaning.{EventEnd, event_end, asker_of, refused_so_far}

-- the end of an event that made these deals
abbrev pub end_with : Machine → KernelState → Event → List Deal → EventEnd
end_with machine state event deals = event_end machine state (answers_of deals) event

-- an event makes just these deals, answers this, and leaves this state
pub record IsEvent (machine : Machine) (state : KernelState) (event : Event) (deals : List Deal) (outcome : Outcome) (after : KernelState) : Type 0 where
  pub counted : AreCounted (refused_so_far state.world (asker_of event)) deals
  pub deals_are : (end_with machine state event deals).deals ≡ deals
  pub answers : (end_with machine state event deals).outcome ≡ outcome
  pub leaves : (end_with machine state event deals).after ≡ after
  -- no answer that comes behind theirs is looked at
  pub further : (rest : List Answer) → event_end machine state (answers_of deals ++ rest) event ≡ record { outcome = outcome; deals = deals; after = after }

-- the requests that an event made with these deals
abbrev pub event_requests : KernelState → Event → List Deal → List Request
event_requests state event deals =
    requests_of (asker_of event) state.named state.made (held_frames state.leaves) deals

-- the events of a run, one after another: what each of them answers, the requests of all of them, and the state in the end
abbrev pub IsRunFrom : Machine → KernelState → List Event → List Outcome → List Request → KernelState → Type 0
IsRunFrom machine state [] [] requests after = (requests ≡ []) × (after ≡ state)
IsRunFrom machine state [] (outcome ∷ outcomes) requests after = ⊥
IsRunFrom machine state (event ∷ events) [] requests after = ⊥
IsRunFrom machine state (event ∷ events) (outcome ∷ outcomes) requests after =
    (deals : List Deal) × ((next : KernelState) × ((later : List Request)
    × (IsEvent machine state event deals outcome next
    × ((requests ≡ event_requests state event deals ++ later)
    × IsRunFrom machine next events outcomes later after))))

-- the numbers of those that were refused
abbrev pub numbers_refused : List Request → List ℕ
numbers_refused [] = []
numbers_refused (request ∷ requests) =
    if request.is_refused then request.number ∷ numbers_refused requests else numbers_refused requests

-- a run of the machine behind snapshots up to the last number, under policies of which this is known: the answers, and the refused requests R of the whole run, numbered from 1
pub record IsRun (machine : Machine) (last : ℕ) (policies : PolicySum) (events : List Event) (outcomes : List Outcome) (refused : List ℕ) (after : KernelState) : Type 0 where
  pub requests : List Request
  pub run : IsRunFrom machine (opening_state last) events outcomes requests after
  pub answered : AreAnswered machine.frames policies requests
  pub numbers : refused ≡ numbers_refused requests

-- ---- the same as a function of the refused requests

-- the end of an event where the requests of the list are refused
abbrev pub end_by : Machine → KernelState → List ℕ → Event → EventEnd
end_by machine state refused event =
    event_end machine state (answers_from refused state.made (refused_so_far state.world (asker_of event))) event

-- what events answer one after another, where the requests of the list are refused
abbrev pub outcomes_by : Machine → KernelState → List ℕ → List Event → List Outcome
outcomes_by machine state refused [] = []
outcomes_by machine state refused (event ∷ events) =
    let end = end_by machine state refused event in
    end.outcome ∷ outcomes_by machine end.after refused events

-- the state that they leave then
abbrev pub state_by : Machine → KernelState → List ℕ → List Event → KernelState
state_by machine state refused [] = state
state_by machine state refused (event ∷ events) = state_by machine (end_by machine state refused event).after refused events

-- ---- the same whatever the number of answers

-- an event ends so where the requests of the list are refused, however many answers stand behind those that it asks for
pub record EndsBy (machine : Machine) (state : KernelState) (refused : List ℕ) (event : Event) (outcome : Outcome) (after : KernelState) : Type 0 where
  pub asked : ℕ
  pub ends : (n : ℕ) → let end = event_end machine state (answers_behind refused state.made (refused_so_far state.world (asker_of event)) (asked + n)) event in
      (end.outcome ≡ outcome) × (end.after ≡ after)

-- events one after another, where the requests of the list are refused
abbrev pub IsRunBy : Machine → KernelState → List ℕ → List Event → List Outcome → KernelState → Type 0
IsRunBy machine state refused [] [] after = after ≡ state
IsRunBy machine state refused [] (outcome ∷ outcomes) after = ⊥
IsRunBy machine state refused (event ∷ events) [] after = ⊥
IsRunBy machine state refused (event ∷ events) (outcome ∷ outcomes) after =
    (next : KernelState) × (EndsBy machine state refused event outcome next × IsRunBy machine next refused events outcomes after)

-- a run is told by the list of its refused requests
abbrev pub IsToldByRefused : Type 0
IsToldByRefused = (machine : Machine) (last : ℕ) (policies : PolicySum) (events : List Event) (outcomes : List Outcome) (refused : List ℕ) (after : KernelState)
    → IsRun machine last policies events outcomes refused after → IsRunBy machine (opening_state last) refused events outcomes after

-- and by one list of refused requests there is one run
abbrev pub IsOneByRefused : Type 0
IsOneByRefused = (machine : Machine) (state : KernelState) (refused : List ℕ) (events : List Event) (outcomes others : List Outcome) (after other : KernelState)
    → IsRunBy machine state refused events outcomes after → IsRunBy machine state refused events others other → (outcomes ≡ others) × (after ≡ other)
