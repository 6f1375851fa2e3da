-- A drop: no such snapshot lives, or it goes with what it alone holds.
use Rattle.std.proofs.Common.{◌≡◌, ℕ, List, [], None, refl, sym, ◌∙◌, ap, subst}
use Rattle.std.specs.Prelude.{true, false}
use Rattle.std.specs.FinMap.{remove}
use Rattle.std.proofs.lemmas.Bool.{cond-true, cond-false}
use Rattle.vm_base.specs.Deals.{Deal, LeadsAlong}
use Rattle.vm_base.specs.TwoSides.{dropped}
use Rattle.kernel_meaning.specs.Leaves.{holds_number}
use Rattle.kernel_meaning.specs.Requests.{answers_of}
use Rattle.kernel_meaning.specs.FrameLaw.{held_frames}
use Rattle.kernel_meaning.specs.EventRequests.{Progress, snapshot_dropped}
use Rattle.page_tables.specs.declared.tables.PageTables.{PageTables}
use Rattle.page_tables.specs.Held.{frames_of}
use Rattle.page_tables.specs.Forking.{FollowsAt, snapshots_without}
use Rattle.page_tables.specs.Standing.{slot_count}
use Rattle.page_tables.proofs.view.TablesShown.{lacks-number}
use Rattle.trace_events.specs.declared.event.Event.TheVariants.{Drop}
use Rattle.trace_events.specs.declared.outcome.Outcome.TheVariants.{Done, NoSnap}
use Rattle.trace_core.specs.SupplyState.{SupplyState, SupplyGoes}
use Rattle.trace_core.specs.Supplied.{IsSupplied}
use Rattle.trace_core.specs.KernelState.{Machine, KernelState}
use Rattle.trace_core.specs.EventMeaning.{EventEnd, drop_end, is_live, parent_end}
use Rattle.trace_core.specs.KernelStanding.{KernelParts, KernelStands, EventRan, sides_of, kept_number}
use Rattle.trace_core.proofs.supplies.AnswerLemmas.{no_request_has_led}
use Rattle.trace_core.proofs.events.OneSnapshot.{live-is, none-left, no-count-left}
use Rattle.trace_core.proofs.runs.SupplyRuns.{supplied-parent}
use Rattle.trace_core.proofs.events.WholeEvents.{progress_behind, runs-whole, all-held}
use Rattle.trace_core.proofs.events.Writes.{ran-unchanged}
use Rattle.page_tables.specs.TablesView.{LacksSnapshot}

module _ (parts : KernelParts) (machine : Machine) (state : KernelState) (st : KernelStands parts machine state) (n : ℕ) where
  -- no such snapshot lives
  pub ran-undropped : holds_number (kept_number parts.snapshot) n ≡ false → EventRan parts parts machine (λ answers. drop_end state answers n) NoSnap
  ran-undropped gone = ran-unchanged parts machine state (λ answers. drop_end state answers n) NoSnap st
      (λ answers. cond-false (is_live state.world n) _ _ (live-is parts.snapshot st.pages state.world.snapshots st.memories n ∙ gone))

  module _ (live : holds_number (kept_number parts.snapshot) n ≡ true) (new : PageTables) (deals : List Deal)
      (follows : FollowsAt (snapshot_dropped n) (snapshots_without n) new deals None (sides_of state st.pages)) where
    abbrev progress : Progress
    progress = progress_behind follows.leaves follows.made deals None

    abbrev end : EventEnd
    end = parent_end state (dropped state.world n) Done progress

    dropped-is : drop_end state (answers_of deals) n ≡ end
    dropped-is = cond-true (is_live state.world n) _ _ (live-is parts.snapshot st.pages state.world.snapshots st.memories n ∙ live)
        ∙ ap (λ p. parent_end state (dropped state.world n) Done p) (runs-whole (snapshot_dropped n) state deals follows.leaves follows.made None follows.runs)

    -- the snapshot is gone
    pub ran-dropped : (to : SupplyState) → LeadsAlong SupplyGoes parts.supply deals to
        → to.out ≡ frames_of new → LacksSnapshot new → slot_count new ≡ machine.slots
        → EventRan parts (record { areas = parts.areas; tables = new; supply = to; snapshot = None; last = parts.last }) machine (λ answers. drop_end state answers n) Done
    ran-dropped to led out gone slots =
        let held : to.out ≡ held_frames follows.leaves = all-held to.out new _ follows.stands out in
        record {
          deals = deals;
          led = led;
          after = end.after;
          ends = dropped-is;
          further = λ rest. cond-true (is_live state.world n) _ _ (live-is parts.snapshot st.pages state.world.snapshots st.memories n ∙ live)
              ∙ ap (λ p. parent_end state (dropped state.world n) Done p) (follows.runs.runs [] rest);
          stands = record {
            pages = remove st.pages n;
            areas = st.areas;
            tables = follows.stands;
            number = lacks-number new gone;
            memories = none-left parts.snapshot st.pages state.world.snapshots st.memories n live;
            losses = refl;
            last = st.last;
            counts = ap (λ m. remove m n) st.counts ∙ no-count-left parts.snapshot n live;
            supply = subst (λ e. IsSupplied machine e.after to) dropped-is
                (supplied-parent machine parts.supply.policies [] state (Drop n) deals parts.supply to refl refl st.supply (no_request_has_led machine.frames parts.supply.policies) led
                (ap (λ e. e.deals) dropped-is) (held ∙ sym (ap (λ e. held_frames e.after.leaves) dropped-is))).supplied;
            out = out;
            slots = slots;
            limit = st.limit;
          };
        }
