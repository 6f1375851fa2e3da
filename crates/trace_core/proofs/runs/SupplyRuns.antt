-- An event whose deals a supply made is an event of the run, and the supply stands in its new state.
use Rattle.std.proofs.Common.{◌≡◌, ℕ, ◌+◌, ◌<◌, false, List, [], ◌++◌, Option, refl, sym, ◌∙◌, ap, subst}
use Rattle.std.specs.Prelude.{Some}
use Rattle.vm_base.specs.declared.frame_request.Asker.{Asker}
use Rattle.vm_base.specs.declared.frame_request.Asker.TheVariants.{Parent, Snapshot}
use Rattle.vm_base.specs.Deals.{Deal, LeadsAlong}
use Rattle.kernel_meaning.specs.Requests.{answers_of}
use Rattle.kernel_meaning.specs.FrameLaw.{held_frames}
use Rattle.kernel_meaning.specs.RefusedRequests.{Request, requests_of, count_after, PolicySum}
use Rattle.trace_events.specs.declared.event.Event.{Event}
use Rattle.trace_events.specs.declared.event.Event.TheVariants.{Copy}
use Rattle.frame_pool.specs.Policies.{PolicyView}
use Rattle.trace_core.specs.SupplyState.{SupplyState, SupplyGoes, opening_supply}
use Rattle.trace_core.specs.Answering.{AreCounted, made_after, pending_of, HaveLed, LeadOn}
use Rattle.trace_core.specs.KernelState.{Machine, KernelState, opening_state}
use Rattle.trace_core.specs.EventMeaning.{EventEnd, asker_of, copies_refused, refused_so_far}
use Rattle.trace_core.specs.RunMeaning.{end_with, event_requests}
use Rattle.trace_core.specs.Supplied.{IsSupplied}
use Rattle.trace_core.proofs.supplies.AnswerLemmas.{no_request_has_led, deals_lead_on}
use Rattle.trace_core.proofs.runs.EventCounts.{HasCounted, HasCopied, is_refuse, parent_counts, copy_counts}
use Rattle.trace_core.proofs.runs.RunLemmas.{pending_of-refuse}

-- what is shown of an event: its refusals carry its asker's count, the supply stands in the state that it leaves, and its requests were answered as they may be
pub record Follows (machine : Machine) (opening : PolicySum) (requests : List Request) (state : KernelState) (event : Event) (deals : List Deal) (to : SupplyState) : Type 0 where
  pub counted : AreCounted (refused_so_far state.world (asker_of event)) deals
  pub supplied : IsSupplied machine (end_with machine state event deals).after to
  pub led : HaveLed machine.frames opening (requests ++ event_requests state event deals) to.policies

-- the requests of deals, told by parts that are equal
same_requests : (one other : Asker) (named : Option ℕ) (made : ℕ) (out held : ℕ) (deals : List Deal) → one ≡ other → out ≡ held
    → requests_of one named made out deals ≡ requests_of other named made held deals
same_requests one other named made out held deals asker same = λ i. requests_of (asker i) named made (same i) deals

-- a run begins with all frames there
pub supplied-opening : (machine : Machine) (last : ℕ) (listed : List PolicyView) → IsSupplied machine (opening_state last) (opening_supply machine.frames listed)
supplied-opening machine last listed = record { frames = refl; held = refl; asker = refl; refused = refl; pending = refl }

-- an end of an event of the parent that has counted its deals
pub supplied-end : (machine : Machine) (state : KernelState) (end : EventEnd) (deals : List Deal) (from to : SupplyState)
    → IsSupplied machine state from → LeadsAlong SupplyGoes from deals to → HasCounted state end → end.deals ≡ deals → to.out ≡ held_frames end.after.leaves → IsSupplied machine end.after to
supplied-end machine state end deals from to supplied along counts makes held =
    let on : LeadOn from.policies state.named state.made [] from deals to =
    deals_lead_on from.policies state.named state.made [] from to deals supplied.pending (no_request_has_led from.made from.policies) along in
    record {
      frames = on.all ∙ supplied.frames;
      held = held;
      asker = on.asker ∙ supplied.asker;
      refused = on.refused ∙ ap (λ count. count_after count deals) supplied.refused ∙ sym (counts.refused ∙ ap (count_after state.world.refused) makes);
      pending = on.pending ∙ sym (ap (λ named. pending_of named end.after.made) counts.named ∙ ap (pending_of state.named) (counts.made ∙ ap (made_after state.made) makes));
    }

-- an event of the parent
pub supplied-parent : (machine : Machine) (opening : PolicySum) (requests : List Request) (state : KernelState) (event : Event) (deals : List Deal) (from to : SupplyState)
    → asker_of event ≡ Parent → is_refuse event ≡ false
    → IsSupplied machine state from → HaveLed machine.frames opening requests from.policies → LeadsAlong SupplyGoes from deals to
    → (end_with machine state event deals).deals ≡ deals → to.out ≡ held_frames (end_with machine state event deals).after.leaves
    → Follows machine opening requests state event deals to
supplied-parent machine opening requests state event deals from to parents plain supplied led along makes held =
    let end = end_with machine state event deals in
    let on : LeadOn opening state.named state.made requests from deals to =
    deals_lead_on opening state.named state.made requests from to deals supplied.pending
    (subst (λ frames. HaveLed frames opening requests from.policies) (sym supplied.frames) led) along in
    record {
      counted = subst (λ asker. AreCounted (refused_so_far state.world asker) deals) (sym parents)
          (subst (λ count. AreCounted count deals) supplied.refused on.counted);
      supplied = supplied-end machine state end deals from to supplied along (parent_counts machine state (answers_of deals) event parents plain) makes held;
      led = subst (λ frames. HaveLed frames opening (requests ++ event_requests state event deals) to.policies) supplied.frames
          (subst (λ list. HaveLed from.made opening (requests ++ list) to.policies)
          (same_requests from.asker (asker_of event) state.named state.made from.out (held_frames state.leaves) deals (supplied.asker ∙ sym parents) supplied.held) on.led);
    }

-- a copy of a snapshot, which asks with its own count, and the parent again behind it
pub supplied-copy : (machine : Machine) (opening : PolicySum) (requests : List Request) (state : KernelState) (n cell : ℕ) (deals : List Deal) (from to : SupplyState)
    → IsSupplied machine state from → HaveLed machine.frames opening requests from.policies
    → LeadsAlong SupplyGoes (record from { asker = Snapshot n; refused = copies_refused state.world n }) deals to
    → (end_with machine state (Copy n cell) deals).deals ≡ deals → to.out ≡ held_frames (end_with machine state (Copy n cell) deals).after.leaves
    → Follows machine opening requests state (Copy n cell) deals (record to { asker = Parent; refused = from.refused })
    × (to.refused ≡ copies_refused (end_with machine state (Copy n cell) deals).after.world n)
supplied-copy machine opening requests state n cell deals from to supplied led along makes held =
    let end = end_with machine state (Copy n cell) deals in
    let asks : SupplyState = record from { asker = Snapshot n; refused = copies_refused state.world n } in
    let on : LeadOn opening state.named state.made requests asks deals to =
    deals_lead_on opening state.named state.made requests asks to deals supplied.pending
    (subst (λ frames. HaveLed frames opening requests from.policies) (sym supplied.frames) led) along in
    let counts : HasCopied state n end = copy_counts state (answers_of deals) n cell in (
      record {
        counted = on.counted;
        supplied = record {
          frames = on.all ∙ supplied.frames;
          held = held;
          asker = refl;
          refused = supplied.refused ∙ sym counts.refused;
          pending = on.pending ∙ sym (ap (λ named. pending_of named end.after.made) counts.named ∙ ap (pending_of state.named) (counts.made ∙ ap (made_after state.made) makes));
        };
        led = subst (λ frames. HaveLed frames opening (requests ++ event_requests state (Copy n cell) deals) to.policies) supplied.frames
            (subst (λ list. HaveLed from.made opening (requests ++ list) to.policies)
            (same_requests (Snapshot n) (Snapshot n) state.named state.made from.out (held_frames state.leaves) deals refl supplied.held) on.led);
      },
      on.refused ∙ sym (counts.copies ∙ ap (count_after (copies_refused state.world n)) makes),
    )

-- a refuse line names a request that follows
pub supplied-refuse : (machine : Machine) (state : KernelState) (supply : SupplyState) (nth : ℕ) → 0 < nth → IsSupplied machine state supply
    → IsSupplied machine (record state { named = Some (state.made + nth) }) (record supply { pending = Some nth })
supplied-refuse machine state supply nth some supplied = record {
  frames = supplied.frames;
  held = supplied.held;
  asker = supplied.asker;
  refused = supplied.refused;
  pending = pending_of-refuse state.made nth some;
}
