-- An event that ran on a kernel is one of its run, and the run goes on behind it.
use Rattle.std.proofs.Common.{◌≡◌, ℕ, ◌+◌, ◌<◌, false, List, [], ◌∷◌, ◌++◌, refl, sym, ◌∙◌, ap, subst, arith}
use Rattle.std.specs.Prelude.{Some, true, Result, Ok, Err, IfOk, ◌-◌}
use Rattle.std.proofs.lemmas.List.{append-nil}
use Rattle.std.proofs.lemmas.Bool.{false≢true}
use Rattle.vm_base.specs.declared.fork_mode.Mode.{Mode}
use Rattle.vm_base.specs.declared.fork_mode.Mode.TheVariants.{Eager, OnDemand, Async}
use Rattle.trace_events.specs.EventBounds.{is_fork_mode}
use Rattle.vm_base.specs.declared.frame_request.Asker.TheVariants.{Parent}
use Rattle.kernel_meaning.specs.FrameLaw.{held_frames}
use Rattle.kernel_meaning.specs.Requests.{Answer, answers_of}
use Rattle.kernel_meaning.specs.RefusedRequests.{Request, PolicySum}
use Rattle.trace_events.specs.declared.event.Event.{Event}
use Rattle.trace_events.specs.declared.event.Event.TheVariants.{Copy, Frames, Read, Refuse, SnapRead}
use Rattle.trace_events.specs.declared.outcome.Outcome.{Outcome}
use Rattle.trace_events.specs.declared.outcome.Outcome.TheVariants.{Done, Held}
use Rattle.trace_core.specs.Answering.{AreCounted, HaveLed}
use Rattle.trace_core.specs.KernelState.{Machine, KernelState, opening_state}
use Rattle.trace_core.specs.EventMeaning.{asker_of, copies_refused, copy_end_of, event_end, only_answers, read_outcome, snap_read_outcome, written}
use Rattle.trace_core.specs.RunMeaning.{end_with, event_requests}
use Rattle.trace_core.proofs.events.Copies.{no-deals}
use Rattle.vm_base.specs.Deals.{LeadsAlong}
use Rattle.vm_base.specs.FlatStep.{read_of}
use Rattle.vm_base.specs.TwoSides.{snap_read_of}
use Rattle.trace_core.specs.SupplyState.{SupplyGoes, SupplyState}
use Rattle.trace_core.specs.KernelStanding.{KernelParts, KernelStands, EventRan}
use Rattle.trace_core.specs.KernelRun.{EventFollows, Ran, HasRun}
use Rattle.trace_core.specs.DealtSupply.{as_asker, DealtAlong}
use Rattle.kernel_meaning.specs.Stretches.{dealings_of}
use Rattle.trace_core.proofs.runs.Dealings.{event-dealt}
use Rattle.trace_core.proofs.supplies.AnswerLemmas.{no_request_has_led}
use Rattle.trace_core.proofs.runs.EventCounts.{is_refuse}
use Rattle.trace_core.proofs.runs.RunLemmas.{run-empty, run-push}
use Rattle.trace_core.proofs.runs.SupplyRuns.{Follows, supplied-parent, supplied-refuse}
use Rattle.trace_core.proofs.events.Writes.{ran-unchanged}

-- an event of the parent that ran
pub ran-follows : (from new : KernelParts) (machine : Machine) (state : KernelState) (event : Event) (outcome : Outcome) → asker_of event ≡ Parent → is_refuse event ≡ false
    → KernelStands from machine state → EventRan from new machine (λ answers. event_end machine state answers event) outcome → EventFollows from new machine state event outcome
ran-follows from new machine state event outcome parents plain st ran =
    let makes : (end_with machine state event ran.deals).deals ≡ ran.deals = ap (λ e. e.deals) ran.ends in
    let held : new.supply.out ≡ held_frames (end_with machine state event ran.deals).after.leaves = ran.stands.supply.held ∙ sym (ap (λ e. held_frames e.after.leaves) ran.ends) in
    let follows : (opening : PolicySum) (requests : List Request) → HaveLed machine.frames opening requests from.supply.policies → Follows machine opening requests state event ran.deals new.supply =
    λ opening requests led. supplied-parent machine opening requests state event ran.deals from.supply new.supply parents plain st.supply led ran.led makes held in
    record {
      deals = ran.deals;
      after = ran.after;
      is_event = record {
        counted = (follows from.supply.policies [] (no_request_has_led machine.frames from.supply.policies)).counted;
        deals_are = makes;
        answers = ap (λ e. e.outcome) ran.ends;
        leaves = ap (λ e. e.after) ran.ends;
        further = ran.further;
      };
      dealt = event-dealt event ran.deals from.supply new.supply parents plain st.supply.asker ran.led;
      led = λ opening requests led. (follows opening requests led).led;
      stands = ran.stands;
    }

-- an event that makes no request and changes nothing
pub told-follows : (parts : KernelParts) (machine : Machine) (state : KernelState) (event : Event) (outcome : Outcome) → asker_of event ≡ Parent → is_refuse event ≡ false
    → KernelStands parts machine state → ((answers : List Answer) → event_end machine state answers event ≡ only_answers state outcome) → EventFollows parts parts machine state event outcome
told-follows parts machine state event outcome parents plain st ends =
    ran-follows parts parts machine state event outcome parents plain st (ran-unchanged parts machine state (λ answers. event_end machine state answers event) outcome st ends)

-- the same of an event that is told to be this one
pub ran-same : (from new : KernelParts) (event one : Event) (outcome : Outcome) → event ≡ one → Ran from new one outcome → Ran from new event outcome
ran-same from new event one outcome is ran = subst (λ e. Ran from new e outcome) (sym is) ran

-- whatever state the parts stood for, the event ended there with this outcome
abbrev pub HasEnded : KernelParts → KernelParts → Event → Outcome → Type 0
HasEnded from new event outcome = (machine : Machine) (state : KernelState) → KernelStands from machine state
    → EventRan from new machine (λ answers. event_end machine state answers event) outcome

pub ran-parent : (from new : KernelParts) (event one : Event) (outcome : Outcome) → event ≡ one → asker_of one ≡ Parent → is_refuse one ≡ false
    → HasEnded from new one outcome → Ran from new event outcome
ran-parent from new event one outcome is parents plain ran =
    ran-same from new event one outcome is (λ machine state st. ran-follows from new machine state one outcome parents plain st (ran machine state st))

-- and where memory may be lacking
pub ran-if-ok : {E : Type 0} (from new : KernelParts) (event one : Event) (result : Result Outcome E) → event ≡ one → asker_of one ≡ Parent → is_refuse one ≡ false
    → IfOk result (HasEnded from new one)
    → IfOk result (Ran from new event)
ran-if-ok from new event one (Ok outcome) is parents plain ran = ran-parent from new event one outcome is parents plain ran
ran-if-ok from new event one (Err none) is parents plain ran = tt

-- the one mode in which an event may fork
pub only-eager : (mode : Mode) → is_fork_mode mode ≡ true → mode ≡ Eager
only-eager Eager may = refl
only-eager OnDemand may = absurd (false≢true may)
only-eager Async may = absurd (false≢true may)

-- frames told as they are held and free
pub frames-told : (machine : Machine) (state : KernelState) (held free : ℕ) → held ≡ held_frames state.leaves → free + held_frames state.leaves ≡ machine.frames
    → (answers : List Answer) → event_end machine state answers Frames ≡ only_answers state (Held held free)
frames-told machine state held free out left answers =
    let rest : machine.frames - held_frames state.leaves ≡ free = omega (arith, left) in
    λ i. only_answers state (Held (sym out i) (rest i))

-- a refuse line
pub refuse-follows : (parts : KernelParts) (machine : Machine) (state : KernelState) (nth : ℕ) → 0 < nth → KernelStands parts machine state
    → EventFollows parts
    (record {
      areas = parts.areas;
      tables = parts.tables;
      supply = record parts.supply { pending = Some nth };
      snapshot = parts.snapshot;
      last = parts.last;
    }) machine state (Refuse nth) Done
refuse-follows parts machine state nth some st = record {
  deals = [];
  after = record state { named = Some (state.made + nth) };
  is_event = record { counted = tt; deals_are = refl; answers = refl; leaves = refl; further = λ rest. refl };
  dealt = refl;
  led = λ opening requests led. subst (λ list. HaveLed machine.frames opening list parts.supply.policies) (sym (append-nil requests)) led;
  stands = record {
    pages = st.pages;
    areas = st.areas;
    tables = st.tables;
    number = st.number;
    memories = st.memories;
    losses = st.losses;
    last = st.last;
    counts = st.counts;
    supply = supplied-refuse machine state parts.supply nth some st.supply;
    out = st.out;
    slots = st.slots;
    limit = st.limit;
  };
}

pub refuse-ran : (from : KernelParts) (supply : SupplyState) (nth : ℕ) → 0 < nth → supply ≡ record from.supply { pending = Some nth }
    → Ran from (record { areas = from.areas; tables = from.tables; supply = supply; snapshot = from.snapshot; last = from.last }) (Refuse nth) Done
refuse-ran from supply nth some named machine state st =
    subst (λ supply. EventFollows from (record { areas = from.areas; tables = from.tables; supply = supply; snapshot = from.snapshot; last = from.last }) machine state (Refuse nth) Done)
    (sym named) (refuse-follows from machine state nth some st)

-- bytes that are written are told alike
pub written-alike : (from new : KernelParts) (addr : ℕ) (bytes same : List ℕ) (outcome : Outcome) → bytes ≡ same
    → ((machine : Machine) (state : KernelState) → KernelStands from machine state → EventRan from new machine (λ answers. written machine state answers addr bytes) outcome)
    → (machine : Machine) (state : KernelState) → KernelStands from machine state → EventRan from new machine (λ answers. written machine state answers addr same) outcome
written-alike from new addr bytes same outcome is ran machine state st =
    subst (λ bytes. EventRan from new machine (λ answers. written machine state answers addr bytes) outcome) is (ran machine state st)

-- a copy, which makes no deal
pub copy-follows : (from new : KernelParts) (machine : Machine) (state : KernelState) (n cell : ℕ) (outcome : Outcome) → KernelStands from machine state
    → EventRan from new machine (λ answers. copy_end_of state answers n cell) outcome → EventFollows from new machine state (Copy n cell) outcome
copy-follows from new machine state n cell outcome st ran =
    let none : ran.deals ≡ [] = sym (ap (λ e. e.deals) ran.ends) ∙ no-deals from machine state st n cell (answers_of ran.deals) in
    let same : new.supply ≡ from.supply = subst (λ deals. LeadsAlong SupplyGoes from.supply deals new.supply) none ran.led in
    record {
      deals = ran.deals;
      after = ran.after;
      is_event = record {
        counted = subst (λ deals. AreCounted (copies_refused state.world n) deals) (sym none) tt;
        deals_are = ap (λ e. e.deals) ran.ends;
        answers = ap (λ e. e.outcome) ran.ends;
        leaves = ap (λ e. e.after) ran.ends;
        further = ran.further;
      };
      dealt = subst (λ deals. DealtAlong from.supply (dealings_of (asker_of (Copy n cell)) deals) new.supply) (sym none)
          (subst (λ supply. as_asker from.supply.asker from.supply.refused supply ≡ from.supply) (sym same) refl);
      led = λ opening requests led. subst (λ list. HaveLed machine.frames opening list new.supply.policies)
          (sym (ap (λ deals. requests ++ event_requests state (Copy n cell) deals) none ∙ append-nil requests))
          (subst (λ supply. HaveLed machine.frames opening requests supply.policies) (sym same) led);
      stands = ran.stands;
    }

-- reads, which are told as they are
pub read-follows : (parts : KernelParts) (machine : Machine) (state : KernelState) (addr n : ℕ) (outcome : Outcome) → KernelStands parts machine state
    → read_outcome (read_of state.world.parent addr n) ≡ outcome → EventFollows parts parts machine state (Read addr n) outcome
read-follows parts machine state addr n outcome st tells = told-follows parts machine state (Read addr n) outcome refl refl st (λ answers. ap (only_answers state) tells)

pub snap_read-follows : (parts : KernelParts) (machine : Machine) (state : KernelState) (number addr n : ℕ) (outcome : Outcome) → KernelStands parts machine state
    → snap_read_outcome (snap_read_of state.world number addr n) ≡ outcome → EventFollows parts parts machine state (SnapRead number addr n) outcome
snap_read-follows parts machine state number addr n outcome st tells =
    told-follows parts machine state (SnapRead number addr n) outcome refl refl st (λ answers. ap (only_answers state) tells)

-- a run begins
pub run-opens : (parts : KernelParts) (machine : Machine) (last : ℕ) (policies : PolicySum) → KernelStands parts machine (opening_state last) → parts.supply.policies ≡ policies
    → HasRun parts machine last policies [] []
run-opens parts machine last policies st known = record {
  state = opening_state last;
  requests = [];
  run = run-empty machine (opening_state last);
  led = subst (λ now. HaveLed machine.frames policies [] now) (sym known) (no_request_has_led machine.frames policies);
  stands = st;
}

-- and goes on
pub run-goes-on : (from new : KernelParts) (event : Event) (outcome : Outcome) → Ran from new event outcome
    → (machine : Machine) (last : ℕ) (policies : PolicySum) (events : List Event) (outcomes : List Outcome)
    → HasRun from machine last policies events outcomes → HasRun new machine last policies (events ++ event ∷ []) (outcomes ++ outcome ∷ [])
run-goes-on from new event outcome ran machine last policies events outcomes run =
    let here = ran machine run.state run.stands in
    record {
      state = here.after;
      requests = _;
      run = run-push machine events outcomes run.requests (opening_state last) run.state here.after event here.deals outcome run.run here.is_event;
      led = here.led policies run.requests run.led;
      stands = here.stands;
    }

pub run-if-ok : {E : Type 0} (from new : KernelParts) (event : Event) (result : Result Outcome E) → IfOk result (Ran from new event)
    → IfOk result (λ outcome. (machine : Machine) (last : ℕ) (policies : PolicySum) (events : List Event) (outcomes : List Outcome)
    → HasRun from machine last policies events outcomes → HasRun new machine last policies (events ++ event ∷ []) (outcomes ++ outcome ∷ []))
run-if-ok from new event (Ok outcome) ran = run-goes-on from new event outcome ran
run-if-ok from new event (Err none) ran = tt
