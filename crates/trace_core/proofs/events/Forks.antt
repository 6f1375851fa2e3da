-- A fork: a snapshot lives already, a frame was refused, or the snapshot has the parent's areas and pages.
use Rattle.std.proofs.Common.{◌≡◌, ℕ, List, [], Option, Some, None, cond, refl, sym, ◌∙◌, ap, subst, ◌++◌}
use Rattle.std.specs.Prelude.{true, nat_le, is_some}
use Rattle.std.specs.FinMap.{empty, insert, len}
use Rattle.std.proofs.lemmas.Bool.{cond-true, cond-false}
use Rattle.vm_base.specs.declared.fork_mode.Mode.TheVariants.{Eager}
use Rattle.vm_base.specs.Deals.{Deal, LeadsAlong}
use Rattle.vm_base.specs.FlatMemory.{Area, PageMap}
use Rattle.kernel_meaning.specs.Requests.{Answer, answers_of}
use Rattle.kernel_meaning.specs.FrameLaw.{held_frames}
use Rattle.kernel_meaning.specs.EventRequests.{FrameRefusal, snapshot_forked}
use Rattle.page_tables.specs.declared.tables.PageTables.{PageTables}
use Rattle.page_tables.specs.Courses.{requests_between}
use Rattle.page_tables.specs.Held.{frames_of}
use Rattle.page_tables.specs.Forking.{FollowsAt, snapshots_with}
use Rattle.page_tables.specs.Standing.{slot_count}
use Rattle.page_tables.proofs.view.TablesShown.{lacks-number}
use Rattle.trace_events.specs.declared.event.Event.TheVariants.{Fork}
use Rattle.trace_events.specs.declared.outcome.Outcome.TheVariants.{Done, NoFrame, TooMany}
use Rattle.trace_core.specs.SupplyState.{SupplyState, SupplyGoes}
use Rattle.trace_core.specs.Supplied.{IsSupplied}
use Rattle.trace_core.specs.KernelState.{Machine, KernelState}
use Rattle.trace_core.specs.EventMeaning.{EventEnd, fork_end, fork_answered}
use Rattle.trace_core.specs.KernelStanding.{KernelParts, KernelStands, EventRan, sides_of, kept_memories, kept_counts, kept_number}
use Rattle.trace_core.proofs.supplies.AnswerLemmas.{no_request_has_led}
use Rattle.trace_core.proofs.events.OneSnapshot.{lives-len, get-inserted}
use Rattle.trace_core.proofs.runs.SupplyRuns.{supplied-parent}
use Rattle.trace_core.proofs.events.WholeEvents.{progress_behind, runs-whole, all-held}
use Rattle.trace_core.proofs.events.Writes.{ran-unchanged}
use Rattle.page_tables.specs.TablesView.{snapshot_number, LacksSnapshot}

module _ (parts : KernelParts) (machine : Machine) (state : KernelState) (st : KernelStands parts machine state) (n : ℕ) where
  -- as many live as may, where one does
  full-is : nat_le machine.limit (len state.world.snapshots) ≡ nat_le 1 (cond (is_some parts.snapshot) 1 0)
  full-is = λ i. nat_le (st.limit i) (lives-len parts.snapshot st.pages state.world.snapshots st.memories i)

  -- a snapshot lives
  pub ran-too-many : is_some parts.snapshot ≡ true → EventRan parts parts machine (λ answers. fork_end machine state answers n Eager) TooMany
  ran-too-many lives = ran-unchanged parts machine state (λ answers. fork_end machine state answers n Eager) TooMany st
      (λ answers. cond-true (nat_le machine.limit (len state.world.snapshots)) _ _ (full-is ∙ ap (λ b. nat_le 1 (cond b 1 0)) lives))

  module _ (none : parts.snapshot ≡ None) (new : PageTables) (deals : List Deal) (refused : Option FrameRefusal)
      (follows : FollowsAt (snapshot_forked n Eager) (snapshots_with n) new deals refused (sides_of state st.pages)) (to : SupplyState) (led : LeadsAlong SupplyGoes parts.supply deals to)
      (out : to.out ≡ frames_of new) (slots : slot_count new ≡ machine.slots) where
    abbrev end : EventEnd
    end = fork_answered state n refused (progress_behind follows.leaves follows.made deals refused)

    forked-is : fork_end machine state (answers_of deals) n Eager ≡ end
    forked-is = cond-false (nat_le machine.limit (len state.world.snapshots)) _ _ (full-is ∙ ap (λ o. nat_le 1 (cond (is_some o) 1 0)) none)
        ∙ ap (λ p. fork_answered state n p.refused p) (runs-whole (snapshot_forked n Eager) state deals follows.leaves follows.made refused follows.runs)

    forked-behind : (rest : List Answer) → fork_end machine state (answers_of deals ++ rest) n Eager
        ≡ fork_answered state n refused (record { leaves = follows.leaves; requests = requests_between follows.made rest deals; refused = refused })
    forked-behind rest = cond-false (nat_le machine.limit (len state.world.snapshots)) _ _ (full-is ∙ ap (λ o. nat_le 1 (cond (is_some o) 1 0)) none)
        ∙ ap (λ p. fork_answered state n p.refused p) (follows.runs.runs [] rest)

    held : to.out ≡ held_frames follows.leaves
    held = all-held to.out new _ follows.stands out

    supplied : end.deals ≡ deals → held_frames end.after.leaves ≡ held_frames follows.leaves → IsSupplied machine end.after to
    supplied makes same = subst (λ e. IsSupplied machine e.after to) forked-is
        (supplied-parent machine parts.supply.policies [] state (Fork n Eager) deals parts.supply to refl refl st.supply (no_request_has_led machine.frames parts.supply.policies) led
        (ap (λ e. e.deals) forked-is ∙ makes) (held ∙ sym (ap (λ e. held_frames e.after.leaves) forked-is ∙ same))).supplied

  -- a frame was refused
  pub ran-unforked : parts.snapshot ≡ None → (new : PageTables) (deals : List Deal) (refusal : FrameRefusal)
      (follows : FollowsAt (snapshot_forked n Eager) (snapshots_with n) new deals (Some refusal) (sides_of state st.pages)) (to : SupplyState)
      → LeadsAlong SupplyGoes parts.supply deals to → to.out ≡ frames_of new → slot_count new ≡ machine.slots → LacksSnapshot new
      → EventRan parts (record { areas = parts.areas; tables = new; supply = to; snapshot = parts.snapshot; last = parts.last }) machine
      (λ answers. fork_end machine state answers n Eager) (NoFrame refusal.at)
  ran-unforked none new deals refusal follows to led out slots kept = record {
    deals = deals;
    led = led;
    after = (end none new deals (Some refusal) follows to led out slots).after;
    ends = forked-is none new deals (Some refusal) follows to led out slots;
    further = forked-behind none new deals (Some refusal) follows to led out slots;
    stands = record {
      pages = st.pages;
      areas = st.areas;
      tables = follows.stands;
      number = lacks-number new kept ∙ sym (ap kept_number none);
      memories = st.memories;
      losses = refl;
      last = st.last;
      counts = st.counts;
      supply = supplied none new deals (Some refusal) follows to led out slots refl refl;
      out = out;
      slots = slots;
      limit = st.limit;
    };
  }

  -- the snapshot lives, with the parent's areas and pages
  pub ran-forked : parts.snapshot ≡ None → (new : PageTables) (deals : List Deal)
      (follows : FollowsAt (snapshot_forked n Eager) (snapshots_with n) new deals None (sides_of state st.pages)) (to : SupplyState)
      → LeadsAlong SupplyGoes parts.supply deals to → to.out ≡ frames_of new → slot_count new ≡ machine.slots
      → snapshot_number new ≡ Some n → (areas : List Area) → areas ≡ parts.areas
      → EventRan parts (record { areas = parts.areas; tables = new; supply = to; snapshot = Some (record { number = n; areas = areas; refused = 0 }); last = n }) machine
      (λ answers. fork_end machine state answers n Eager) Done
  ran-forked none new deals follows to led out slots lives areas copied =
      let empty_before : state.world.snapshots ≡ empty = subst (λ snapshot. kept_memories snapshot st.pages state.world.snapshots) none st.memories in
      let present : PageMap = state.world.parent.present in
      record {
        deals = deals;
        led = led;
        after = (end none new deals None follows to led out slots).after;
        ends = forked-is none new deals None follows to led out slots;
        further = forked-behind none new deals None follows to led out slots;
        stands = record {
          pages = insert st.pages n present;
          areas = st.areas;
          tables = follows.stands;
          number = lives;
          memories = (present, (get-inserted st.pages n present, λ i. insert (empty_before i) n (record { areas = (st.areas ∙ sym copied) i; present = present })));
          losses = refl;
          last = refl;
          counts = ap (λ m. insert m n 0) (st.counts ∙ ap kept_counts none);
          supply = supplied none new deals None follows to led out slots refl refl;
          out = out;
          slots = slots;
          limit = st.limit;
        };
      }
