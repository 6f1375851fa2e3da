-- A change of the parent's areas ends as the definitions have it: refused by the areas, or behind what it gives back.
use Rattle.std.proofs.Common.{◌≡◌, ℕ, List, [], length, None, Result, Ok, Err, Some, cond, refl, sym, ◌∙◌, ap, subst, append-nil}
use Rattle.std.specs.Prelude.{true, false, nat_le, OnErr}
use Rattle.std.specs.FinMap.{retain_keys}
use Rattle.vm_base.specs.declared.permission.Perm.{Perm}
use Rattle.vm_base.specs.Deals.{Deal, LeadsAlong}
use Rattle.vm_base.specs.FlatMemory.{Area, FlatMemory}
use Rattle.vm_base.specs.FlatStep.{Refusal, OutsideAreas, Taken, TooManyAreas, map_of, unmap_of, protect_of, taken, outside, joined, with_area, areas_without, is_beyond, at_most_128, or_refused}
use Rattle.kernel_meaning.specs.FrameLaw.{held_frames}
use Rattle.kernel_meaning.specs.Requests.{Answer, answers_of}
use Rattle.kernel_meaning.specs.EventRequests.{Progress, pages_unmapped, pages_protected}
use Rattle.area_list.specs.declared.fault.AreaFault.{AreaFault}
use Rattle.area_list.specs.Answers.{ChangesAreas, refusal_of}
use Rattle.area_list.specs.Calls.{areas_mapped, areas_unmapped, areas_protected, on_memory, if_few}
use Rattle.page_tables.specs.declared.tables.PageTables.{PageTables}
use Rattle.page_tables.specs.Courses.{requests_between, progress_between}
use Rattle.page_tables.specs.Held.{frames_of}
use Rattle.page_tables.specs.Making.{Follows}
use Rattle.page_tables.specs.Clearing.{pages_without}
use Rattle.page_tables.specs.Standing.{slot_count}
use Rattle.page_tables.proofs.view.TablesShown.{number-permissions}
use Rattle.page_tables.specs.Permissions.{LeavesAllButPermissions}
use Rattle.page_tables.proofs.ProtectedPages.{protect-runs}
use Rattle.trace_events.specs.declared.event.Event.TheVariants.{Unmap}
use Rattle.trace_events.specs.declared.outcome.Outcome.{Outcome}
use Rattle.trace_events.specs.declared.outcome.Outcome.TheVariants.{Done}
use Rattle.trace_core.specs.SupplyState.{SupplyState, SupplyGoes}
use Rattle.trace_core.specs.KernelState.{Machine, KernelState}
use Rattle.trace_core.specs.EventMeaning.{EventEnd, begun, areas_changed, mapped, refusal_outcome}
use Rattle.trace_core.specs.CallAnswers.{area_outcome}
use Rattle.trace_core.specs.KernelStanding.{KernelParts, KernelStands, EventRan, sides_of, kept_number}
use Rattle.trace_core.specs.Supplied.{IsSupplied}
use Rattle.trace_core.proofs.supplies.AnswerLemmas.{no_request_has_led}
use Rattle.trace_core.proofs.runs.SupplyRuns.{supplied-parent}
use Rattle.trace_core.proofs.events.Writes.{ran-unchanged, out-then}
use Rattle.page_tables.specs.TablesView.{snapshot_number}

-- ---- each call changes the areas of a memory as it changes their list, or is refused alike

few-on : (memory : FlatMemory) (areas : List Area) → at_most_128 (record memory { areas = areas }) ≡ on_memory memory (if_few areas)
few-on memory areas = elim (nat_le (length areas) 128) as (λ b. cond b (Ok (record memory { areas = areas })) (Err TooManyAreas)
    ≡ on_memory memory (cond b (Ok areas) (Err TooManyAreas))) [ true ↦ refl | false ↦ refl ]

mapped-on : (memory : FlatMemory) (start n : ℕ) (perm : Perm) → map_of memory start n perm ≡ on_memory memory (areas_mapped memory.areas start n perm)
mapped-on memory start n perm =
    let areas = joined (with_area (record { first = start; pages = n; perm = perm }) memory.areas) in
    elim (taken memory.areas start n) as (λ o. or_refused Taken o (at_most_128 (record memory { areas = areas })) ≡ on_memory memory (or_refused Taken o (if_few areas))) [
      | Some page ↦ refl
      | None ↦ few-on memory areas
    ]

protected-on : (memory : FlatMemory) (start n : ℕ) (perm : Perm) → protect_of memory start n perm ≡ on_memory memory (areas_protected memory.areas start n perm)
protected-on memory start n perm =
    let areas = joined (with_area (record { first = start; pages = n; perm = perm }) (areas_without start n memory.areas)) in
    elim (outside memory.areas start n) as (λ o. or_refused OutsideAreas o (at_most_128 (record memory { areas = areas })) ≡ on_memory memory (or_refused OutsideAreas o (if_few areas))) [
      | Some page ↦ refl
      | None ↦ few-on memory areas
    ]

abbrev memory_without : FlatMemory → ℕ → ℕ → FlatMemory
memory_without memory start n = record memory { present = retain_keys memory.present (is_beyond start n) }

unmapped-on : (memory : FlatMemory) (start n : ℕ) → unmap_of memory start n ≡ on_memory (memory_without memory start n) (areas_unmapped memory.areas start n)
unmapped-on memory start n = few-on (memory_without memory start n) (areas_without start n memory.areas)

-- ---- tables that differ in permissions alone

-- a kernel with them stands for the same state, and the event ran on it
ran-permissions : (from late : KernelParts) (machine : Machine) (end : List Answer → EventEnd) (outcome : Outcome) (tables : PageTables) → LeavesAllButPermissions late.tables tables
    → EventRan from late machine end outcome → EventRan from (record { areas = late.areas; tables = tables; supply = late.supply; snapshot = late.snapshot; last = late.last }) machine end outcome
ran-permissions from late machine end outcome tables alike ran = record {
  deals = ran.deals;
  led = ran.led;
  after = ran.after;
  ends = ran.ends;
  further = ran.further;
  stands = record {
    pages = ran.stands.pages;
    areas = ran.stands.areas;
    tables = alike.stands (sides_of ran.after ran.stands.pages) ran.stands.tables;
    number = number-permissions _ _ alike ∙ ran.stands.number;
    memories = ran.stands.memories;
    losses = ran.stands.losses;
    last = ran.stands.last;
    counts = ran.stands.counts;
    supply = ran.stands.supply;
    out = ran.stands.out ∙ sym alike.held;
    slots = alike.slots ∙ ran.stands.slots;
    limit = ran.stands.limit;
  };
}

-- ---- a change ends

module _ (parts : KernelParts) (machine : Machine) (state : KernelState) (st : KernelStands parts machine state) (changed : Result FlatMemory Refusal) (act : Progress → Progress) where
  abbrev change_end : List Answer → EventEnd
  change_end answers = areas_changed state changed (act (begun state answers))

  -- the areas refuse it, and are as they were
  ran-refused_by_areas : (refusal : Refusal) (areas : List Area) (outcome : Outcome) → changed ≡ Err refusal → areas ≡ parts.areas → outcome ≡ refusal_outcome refusal
      → EventRan parts (record { areas = areas; tables = parts.tables; supply = parts.supply; snapshot = parts.snapshot; last = parts.last }) machine change_end outcome
  ran-refused_by_areas refusal areas outcome e same told =
      subst (λ areas. EventRan parts (record { areas = areas; tables = parts.tables; supply = parts.supply; snapshot = parts.snapshot; last = parts.last }) machine change_end outcome) (sym same)
      (subst (EventRan parts parts machine change_end) (sym told)
      (ran-unchanged parts machine state change_end (refusal_outcome refusal) st (λ answers. ap (λ t. areas_changed state t (act (begun state answers))) e)))

  -- only the areas are others
  ran-areas_alone : (areas : List Area) → changed ≡ Ok (record state.world.parent { areas = areas }) → ((answers : List Answer) → act (begun state answers) ≡ begun state answers)
      → EventRan parts (record { areas = areas; tables = parts.tables; supply = parts.supply; snapshot = parts.snapshot; last = parts.last }) machine change_end Done
  ran-areas_alone areas e none = record {
    deals = [];
    led = refl;
    after = (areas_changed state (Ok (record state.world.parent { areas = areas })) (begun state [])).after;
    ends = λ i. areas_changed state (e i) (none [] i);
    further = λ rest. λ i. areas_changed state (e i) (none rest i);
    stands = record {
      pages = st.pages;
      areas = refl;
      tables = st.tables;
      number = st.number;
      memories = st.memories;
      losses = refl;
      last = st.last;
      counts = st.counts;
      supply = record { frames = st.supply.frames; held = st.supply.held; asker = st.supply.asker; refused = st.supply.refused; pending = st.supply.pending };
      out = st.out;
      slots = st.slots;
      limit = st.limit;
    };
  }

module _ (parts : KernelParts) (machine : Machine) (state : KernelState) (st : KernelStands parts machine state) (first n : ℕ) where
  abbrev memory : FlatMemory
  memory = state.world.parent

  abbrev with_areas : List Area → KernelParts
  with_areas areas = record { areas = areas; tables = parts.tables; supply = parts.supply; snapshot = parts.snapshot; last = parts.last }

  -- ---- maps and protects

  module _ (perm : Perm) where
    map-is : (answer : Result (List Area) Refusal) → areas_mapped parts.areas first n perm ≡ answer → map_of memory first n perm ≡ on_memory memory answer
    map-is answer e = mapped-on memory first n perm ∙ ap (λ areas. on_memory memory (areas_mapped areas first n perm)) st.areas ∙ ap (on_memory memory) e

    pub ran-map_refused : (refusal : Refusal) (areas : List Area) (outcome : Outcome) → areas_mapped parts.areas first n perm ≡ Err refusal → areas ≡ parts.areas → outcome ≡ refusal_outcome refusal
        → EventRan parts (with_areas areas) machine (λ answers. mapped state answers first n perm) outcome
    ran-map_refused refusal areas outcome e same told = ran-refused_by_areas parts machine state st (map_of memory first n perm) (λ progress. progress) refusal areas outcome (map-is (Err refusal) e) same told

    pub ran-mapped : (areas : List Area) → areas_mapped parts.areas first n perm ≡ Ok areas → EventRan parts (with_areas areas) machine (λ answers. mapped state answers first n perm) Done
    ran-mapped areas e = ran-areas_alone parts machine state st (map_of memory first n perm) (λ progress. progress) areas (map-is (Ok areas) e) (λ answers. refl)

    -- whatever the areas answer
    pub ran-map : (areas : List Area) (answer : Result (Unit {0}) AreaFault) → ChangesAreas parts.areas areas answer (areas_mapped parts.areas first n perm)
        → EventRan parts (with_areas areas) machine (λ answers. mapped state answers first n perm) (area_outcome answer)
    ran-map areas (Ok done) changes = ran-mapped areas changes
    ran-map areas (Err fault) changes = ran-map_refused (refusal_of fault) areas (refusal_outcome (refusal_of fault)) changes.0 changes.1 refl

    abbrev protect_end : List Answer → EventEnd
    protect_end answers = areas_changed state (protect_of memory first n perm) (pages_protected first n (begun state answers))

    protect-is : (answer : Result (List Area) Refusal) → areas_protected parts.areas first n perm ≡ answer → protect_of memory first n perm ≡ on_memory memory answer
    protect-is answer e = protected-on memory first n perm ∙ ap (λ areas. on_memory memory (areas_protected areas first n perm)) st.areas ∙ ap (on_memory memory) e

    pub ran-protect_refused : (refusal : Refusal) (areas : List Area) (outcome : Outcome) → areas_protected parts.areas first n perm ≡ Err refusal → areas ≡ parts.areas → outcome ≡ refusal_outcome refusal
        → EventRan parts (with_areas areas) machine protect_end outcome
    ran-protect_refused refusal areas outcome e same told = ran-refused_by_areas parts machine state st (protect_of memory first n perm) (pages_protected first n) refusal areas outcome
        (protect-is (Err refusal) e) same told

    -- no leaf is joined, so a protect makes no deal and leaves the leaves as they are
    ran-protected : (areas : List Area) → areas_protected parts.areas first n perm ≡ Ok areas → EventRan parts (with_areas areas) machine protect_end Done
    ran-protected areas e = ran-areas_alone parts machine state st (protect_of memory first n perm) (pages_protected first n) areas (protect-is (Ok areas) e)
        (λ answers. (protect-runs first n parts.tables (sides_of state st.pages) st.tables).runs [] answers)

    -- with tables that differ in permissions alone, and a supply that is as it was
    pub ran-protected_entries : (areas : List Area) → areas_protected parts.areas first n perm ≡ Ok areas → (tables : PageTables) (supply : SupplyState) → LeavesAllButPermissions parts.tables tables → supply ≡ parts.supply
        → EventRan parts (record { areas = areas; tables = tables; supply = supply; snapshot = parts.snapshot; last = parts.last }) machine protect_end Done
    ran-protected_entries areas e tables supply alike still =
        subst (λ supply. EventRan parts (record { areas = areas; tables = tables; supply = supply; snapshot = parts.snapshot; last = parts.last }) machine protect_end Done) (sym still)
        (ran-permissions parts (with_areas areas) machine protect_end Done tables alike (ran-protected areas e))

  -- ---- unmaps

  abbrev unmap_end : List Answer → EventEnd
  unmap_end answers = areas_changed state (unmap_of memory first n) (pages_unmapped first n (begun state answers))

  unmap-is : (answer : Result (List Area) Refusal) → areas_unmapped parts.areas first n ≡ answer → unmap_of memory first n ≡ on_memory (memory_without memory first n) answer
  unmap-is answer e = unmapped-on memory first n ∙ ap (λ areas. on_memory (memory_without memory first n) (areas_unmapped areas first n)) st.areas ∙ ap (on_memory (memory_without memory first n)) e

  pub ran-unmap_refused : (refusal : Refusal) (areas : List Area) (outcome : Outcome) → areas_unmapped parts.areas first n ≡ Err refusal → areas ≡ parts.areas → outcome ≡ refusal_outcome refusal
      → EventRan parts (with_areas areas) machine unmap_end outcome
  ran-unmap_refused refusal areas outcome e same told = ran-refused_by_areas parts machine state st (unmap_of memory first n) (pages_unmapped first n) refusal areas outcome
      (unmap-is (Err refusal) e) same told

  -- the pages are taken out, and their frames come back to the supply
  module _ (areas : List Area) (changed : areas_unmapped parts.areas first n ≡ Ok areas) (to : SupplyState) (new : PageTables) (deals : List Deal) (led : LeadsAlong SupplyGoes parts.supply deals to)
      (follows : Follows (pages_unmapped first n) (pages_without first n) new deals None (sides_of state st.pages)) where
    abbrev progress : Progress
    progress = record { leaves = follows.leaves; requests = requests_between follows.made [] deals; refused = None }

    abbrev unmapped : EventEnd
    unmapped = areas_changed state (Ok (record (memory_without memory first n) { areas = areas })) progress

    unmapped-is : unmap_end (answers_of deals) ≡ unmapped
    unmapped-is =
        let runs : pages_unmapped first n (begun state (answers_of deals)) ≡ progress =
        ap (λ xs. pages_unmapped first n (progress_between state.leaves state.made xs [])) (sym (append-nil (answers_of deals))) ∙ follows.runs.runs [] [] in
        λ i. areas_changed state (unmap-is (Ok areas) changed i) (runs i)

    pub ran-unmapped : to.out ≡ frames_of new → snapshot_number new ≡ kept_number parts.snapshot → slot_count new ≡ machine.slots
        → EventRan parts (record { areas = areas; tables = new; supply = to; snapshot = parts.snapshot; last = parts.last }) machine unmap_end Done
    ran-unmapped out number slots = record {
      deals = deals;
      led = led;
      after = unmapped.after;
      ends = unmapped-is;
      further = λ rest. λ i. areas_changed state (unmap-is (Ok areas) changed i) (follows.runs.runs [] rest i);
      stands = record {
        pages = st.pages;
        areas = refl;
        tables = follows.stands;
        number = number;
        memories = st.memories;
        losses = refl;
        last = st.last;
        counts = st.counts;
        supply = subst (λ e. IsSupplied machine e.after to) unmapped-is
            (supplied-parent machine parts.supply.policies [] state (Unmap first n) deals parts.supply to refl refl st.supply (no_request_has_led machine.frames parts.supply.policies) led
            (ap (λ e. e.deals) unmapped-is) (out-then to.out new _ follows.stands out ∙ sym (ap (λ e. held_frames e.after.leaves)
            unmapped-is))).supplied;
        out = out;
        slots = slots;
        limit = st.limit;
      };
    }

-- ---- a refusal leaves the areas

-- where the areas are as they were, so are the parts
pub with_areas-same : (parts : KernelParts) (areas : List Area) → areas ≡ parts.areas → record parts { areas = areas } ≡ parts
with_areas-same parts areas same = ap (λ (it : List Area). record parts { areas = it }) same

-- so they are where the areas answered a fault
pub refused-same : (parts : KernelParts) (areas : List Area) (answer : Result (Unit {0}) AreaFault) (change : Result (List Area) Refusal) → ChangesAreas parts.areas areas answer change
    → OnErr answer (record parts { areas = areas } ≡ parts)
refused-same parts areas (Ok done) change changes = tt
refused-same parts areas (Err fault) change changes = with_areas-same parts areas changes.1
