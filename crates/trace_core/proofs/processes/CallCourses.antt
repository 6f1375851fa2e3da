-- What each call makes of a kernel: no number is used again, what is told of a snapshot that lives goes on, and each request was answered as it may be.
use Rattle.std.proofs.Common.{◌≡◌, inl, inr, ℕ, ◌+◌, ◌-◌, ◌<◌, ◌≤◌, ◌^◌, List, [], ◌∷◌, ◌++◌, Some, None, Result, refl, sym, ◌∙◌, ap, subst, arith}
use Rattle.std.specs.Prelude.{◌==◌, is_some}
use Rattle.std.specs.FinMap.{get}
use Rattle.std.proofs.lemmas.Bool.{false≢true}
use Rattle.std.proofs.lemmas.List.{append-nil}
use Rattle.std.proofs.Math.Logic.{∥∥₁_elim}
use Rattle.vm_base.specs.declared.fork_mode.Mode.TheVariants.{Eager}
use Rattle.vm_base.specs.declared.permission.Perm.{Perm}
use Rattle.vm_base.specs.declared.faults.Fault.{Fault}
use Rattle.vm_base.specs.declared.frame_request.Asker.TheVariants.{Parent, Snapshot}
use Rattle.vm_base.specs.Deals.{Deal, Granted, Denied, Returned}
use Rattle.vm_base.specs.FlatStep.{touch_of, map_of, unmap_of, protect_of}
use Rattle.vm_base.specs.MemoryState.{IsListed}
use Rattle.kernel_meaning.specs.Requests.{Answer, answers_of}
use Rattle.kernel_meaning.specs.FrameLaw.{held_frames}
use Rattle.kernel_meaning.specs.RefusedRequests.{Request, PolicySum, requests_of, out_after}
use Rattle.kernel_meaning.specs.Stretches.{dealings_of, requests_among, made_among, requested_among, AreCountedAmong, IsCountedFrom}
use Rattle.kernel_meaning.proofs.DealingLemmas.{requests_among-of, out_among-of, counted_up-parent, requested_among-parent, stays-counted}
use Rattle.trace_events.specs.declared.event.Event.TheVariants.{Map, Unmap, Protect, Fork, Drop}
use Rattle.trace_events.specs.declared.outcome.Outcome.{Outcome}
use Rattle.trace_core.specs.declared.snapshots.ForkRefusal.{ForkRefusal}
use Rattle.trace_core.specs.CallAnswers.{fork_outcome}
use Rattle.trace_core.specs.Answering.{AreCounted, HaveLed, LeadOn, made_after}
use Rattle.trace_core.specs.EventMeaning.{EventEnd, touch_judged, fork_end, drop_end}
use Rattle.trace_core.specs.KernelState.{Machine, KernelState}
use Rattle.trace_core.specs.KernelStanding.{KernelParts, IsKernel, KernelStands, EventRan, sides_of, copies_refused_in}
use Rattle.trace_core.specs.KernelSeen.{KernelNotes, IsKernelNoted, live_numbers, kept_in}
use Rattle.page_tables.specs.SlotViews.{lost_in, waiting_in}
use Rattle.trace_core.specs.TouchAnswers.{touch_outcome, with_stored}
use Rattle.trace_core.specs.DealtSupply.{as_asker}
use Rattle.trace_core.specs.KernelWent.{IsStretch, HasDealt, KeepsChildren, KernelWent, AreGiven}
use Rattle.trace_core.proofs.supplies.AnswerLemmas.{deals_lead_on, no_request_has_led}
use Rattle.trace_core.proofs.memories.AreaCalls.{HasMapped, HasUnmapped, HasProtected}
use Rattle.trace_core.proofs.runs.Dealings.{led-dealt}
use Rattle.trace_core.proofs.memories.ClauseProps.{number-prop, option-prop}
use Rattle.trace_core.proofs.runs.EventCounts.{HasCounted, counted-touch, parent_counts}
use Rattle.trace_core.proofs.processes.SnapshotEvents.{EndKeeps, lost-keep, lost-stay, map-keeps-leaves, unmap-keeps-leaves, protect-keeps-leaves, touch-keeps-leaves}
use Rattle.trace_core.proofs.processes.SnapshotLeaves.{told-between, same-keeps}
use Rattle.trace_core.proofs.events.LastRefusals.{count-grows}
use Rattle.trace_core.proofs.memories.StepSoundness.{known-noted}
use Rattle.vm_base.specs.Counts.{next_count}
use Rattle.std.specs.Coded.{le_prop}
use mathlib.Core.HLevel.{⊥_prop}
use Rattle.trace_core.proofs.processes.KernelProcesses.{Forked, HasDropped, IsNext, fork-children, drop-children}
use Rattle.trace_core.proofs.memories.TouchCalls.{TouchRan}
use Rattle.page_tables.proofs.view.ViewSides.{seen-waits}
use Rattle.page_tables.specs.TablesView.{views_of}

-- ---- the requests

made_among-of : (made : ℕ) (deals : List Deal) → made_among made (dealings_of Parent deals) ≡ made_after made deals
made_among-of made [] = refl
made_among-of made (Granted want ∷ deals) = made_among-of (made + 1) deals
made_among-of made (Denied want at ∷ deals) = made_among-of (made + 1) deals
made_among-of made (Returned ∷ deals) = made_among-of made deals

-- refusals of the parent that carry its count
counted-parents : (count : ℕ) (deals : List Deal) → AreCounted count deals → AreCountedAmong Parent count (dealings_of Parent deals)
counted-parents count [] counted = tt
counted-parents count (Granted want ∷ deals) counted = counted-parents count deals counted
counted-parents count (Denied want at ∷ deals) counted = (counted.0, counted-parents (next_count count) deals counted.1)
counted-parents count (Returned ∷ deals) counted = counted-parents count deals counted

-- what a call of the parent dealt, which ended so from whatever state the kernel stood for
module _ (old new : KernelParts) (outcome : Outcome) (end : Machine → KernelState → List Answer → EventEnd)
    (ran : (machine : Machine) (state : KernelState) → KernelStands old machine state → EventRan old new machine (end machine state) outcome)
    (counts : (machine : Machine) (state : KernelState) (answers : List Answer) → HasCounted state (end machine state answers))
    (copied : copies_refused_in old.snapshot ≡ 0) (uncopied : copies_refused_in new.snapshot ≡ 0) where
  ran-stretch : (machine : Machine) (state : KernelState) (st : KernelStands old machine state) → IsStretch old new machine state (dealings_of Parent (ran machine state st).deals)
  ran-stretch machine state st = record {
    after = its.after;
    dealt = led-dealt its.deals old.supply new.supply st.supply.asker its.led;
    led = λ opening earlier led. led-by opening earlier led;
    made = sym (ap (λ e. e.after.made) its.ends) ∙ counted.made ∙ ap (λ e. made_after state.made e.deals) its.ends ∙ sym (made_among-of state.made its.deals);
    named = sym (ap (λ e. e.after.named) its.ends) ∙ counted.named;
    out = sym its.stands.supply.held ∙ none-led.out ∙ ap (λ out. out_after out its.deals) st.supply.held ∙ sym (out_among-of Parent (held_frames state.leaves) its.deals);
    refused = record {
      told = counted-parents old.supply.refused its.deals none-led.counted;
      rose = none-led.refused ∙ counted_up-parent old.supply.refused its.deals;
    };
    kept = λ n given lives. subst (IsCountedFrom (Snapshot n) (copies_refused_in old.snapshot) (dealings_of Parent its.deals)) (copied ∙ sym uncopied) (stays-counted n (copies_refused_in old.snapshot) its.deals);
    fresh = λ n above lives. subst (IsCountedFrom (Snapshot n) 0 (dealings_of Parent its.deals)) (sym uncopied) (stays-counted n 0 its.deals);
    askers = λ n some. absurd (none-asked n some);
    stands = its.stands;
  }
    where
      its : EventRan old new machine (end machine state) outcome
      its = ran machine state st

      counted : HasCounted state (end machine state (answers_of its.deals))
      counted = counts machine state (answers_of its.deals)

      lead : (opening : PolicySum) (earlier : List Request) → HaveLed machine.frames opening earlier old.supply.policies
          → LeadOn opening state.named state.made earlier old.supply its.deals new.supply
      lead opening earlier led = deals_lead_on opening state.named state.made earlier old.supply new.supply its.deals st.supply.pending
          (subst (λ frames. HaveLed frames opening earlier old.supply.policies) (sym st.supply.frames) led) its.led

      none-led : LeadOn old.supply.policies state.named state.made [] old.supply its.deals new.supply
      none-led = lead old.supply.policies [] (no_request_has_led machine.frames old.supply.policies)

      -- the deals are the parent's, with the frames out that the definitions count
      same-requests : requests_of old.supply.asker state.named state.made old.supply.out its.deals ≡ requests_among state.named state.made (held_frames state.leaves) (dealings_of Parent its.deals)
      same-requests = (λ i. requests_of (st.supply.asker i) state.named state.made (st.supply.held i) its.deals)
          ∙ sym (requests_among-of Parent state.named state.made (held_frames state.leaves) its.deals)

      led-by : (opening : PolicySum) (earlier : List Request) → HaveLed machine.frames opening earlier old.supply.policies
          → HaveLed machine.frames opening (earlier ++ requests_among state.named state.made (held_frames state.leaves) (dealings_of Parent its.deals)) new.supply.policies
      led-by opening earlier led = subst (λ frames. HaveLed frames opening (earlier ++ requests_among state.named state.made (held_frames state.leaves) (dealings_of Parent its.deals)) new.supply.policies)
          st.supply.frames (subst (λ requests. HaveLed old.supply.made opening (earlier ++ requests) new.supply.policies) same-requests (lead opening earlier led).led)

      none-asked : (n : ℕ) → 0 < requested_among (Snapshot n) (dealings_of Parent its.deals) → ⊥
      none-asked n some = let none : requested_among (Snapshot n) (dealings_of Parent its.deals) ≡ 0 = requested_among-parent n its.deals in omega (arith, some, none)

  pub ran-dealt : HasDealt old new
  ran-dealt machine state st = (dealings_of Parent (ran machine state st).deals, ran-stretch machine state st)

-- ---- the snapshot

-- none is listed in place of one that is
listed-still : (old new : KernelParts) → new.snapshot ≡ old.snapshot → (n : ℕ) → IsListed n (live_numbers new.snapshot) → IsListed n (live_numbers old.snapshot)
listed-still old new same n lives = subst (λ snapshot. IsListed n (live_numbers snapshot)) same lives

module _ (old new : KernelParts) (notes later : KernelNotes) (snapshot : new.snapshot ≡ old.snapshot) (last : new.last ≡ old.last) (forked : later.forked ≡ notes.forked)
    (stays : (n c at : ℕ) → get (lost_in n (views_of old.tables)) c ≡ Some at → get (lost_in n (views_of new.tables)) c ≡ Some at)
    (none : (n : ℕ) → waiting_in n (views_of new.tables) ≡ 0) (risen : old.supply.refused ≤ new.supply.refused)
    (lost : (n c at : ℕ) → get (lost_in n (views_of old.tables)) c ≡ None → get (lost_in n (views_of new.tables)) c ≡ Some at → next_count old.supply.refused ≤ at) where
  -- a call that loses no number, keeps what was lost, and leaves no cell to be copied
  pub keeps-children : KeepsChildren old notes new later
  keeps-children = record {
    last = omega (arith, last);
    lived = λ n given lives. listed-still old new snapshot n lives;
    goes_on = λ n given lives. record {
      mem = λ i. kept_in (snapshot i) (forked i);
      found = λ c at lost. stays n c at lost;
      counted = copies-still;
      todo = let still : waiting_in n (views_of new.tables) ≡ 0 = none n in omega (arith, still);
      passed = λ passed. ap (λ waiting. waiting == 0) (none n);
      whole = λ whole. ap (λ waiting. waiting == 0) (none n);
    };
    counted = risen;
    lost = λ n given lives c at before there. lost n c at before there;
  }
    where
      copies-still : copies_refused_in old.snapshot ≤ copies_refused_in new.snapshot
      copies-still = let same : copies_refused_in new.snapshot ≡ copies_refused_in old.snapshot = ap copies_refused_in snapshot in omega (arith, same)

-- deals of a kernel that stood for a state have counted its refused requests
ran-led : (old new : KernelParts) (machine : Machine) (state : KernelState) (st : KernelStands old machine state) {end : List Answer → EventEnd} {outcome : Outcome} (its : EventRan old new machine end outcome)
    → LeadOn old.supply.policies state.named state.made [] old.supply its.deals new.supply
ran-led old new machine state st its = deals_lead_on old.supply.policies state.named state.made [] old.supply new.supply its.deals st.supply.pending
    (no_request_has_led old.supply.made old.supply.policies) its.led

-- so the count does not fall
pub ran-risen : (old new : KernelParts) (outcome : Outcome) (end : Machine → KernelState → List Answer → EventEnd)
    → ((machine : Machine) (state : KernelState) → KernelStands old machine state → EventRan old new machine (end machine state) outcome)
    → ∥ IsKernel old ∥₁ → old.supply.refused ≤ 2 ^ 64 - 1 → old.supply.refused ≤ new.supply.refused
ran-risen old new outcome end ran known fits = ∥∥₁_elim known le_prop (λ it.
    let its : EventRan old new it.0 (end it.0 it.1.0) outcome = ran it.0 it.1.0 it.1.1 in
    subst (λ count. old.supply.refused ≤ count) (sym (ran-led old new it.0 it.1.0 it.1.1 its).refused) (count-grows old.supply.refused its.deals fits))

-- what was lost stays so behind an event of the parent
module _ (old new : KernelParts) (notes : KernelNotes) (known : ∥ IsKernelNoted old notes ∥₁) (outcome : Outcome) (end : Machine → KernelState → List Answer → EventEnd)
    (ran : (machine : Machine) (state : KernelState) → KernelStands old machine state → EventRan old new machine (end machine state) outcome)
    (keeps : (machine : Machine) (state : KernelState) (answers : List Answer) → EndKeeps state (end machine state answers)) where
  ran-stays : (n c at : ℕ) → get (lost_in n (views_of old.tables)) c ≡ Some at → get (lost_in n (views_of new.tables)) c ≡ Some at
  ran-stays n c at lost = ∥∥₁_elim known (option-prop (get (lost_in n (views_of new.tables)) c) (Some at)) (λ it.
      let st = it.1.1.stands in
      let its : EventRan old new it.0 (end it.0 it.1.0) outcome = ran it.0 it.1.0 st in
      lost-stay old.tables new.tables (sides_of it.1.0 st.pages) (sides_of its.after its.stands.pages) st.tables its.stands.tables its.deals
      (subst (EndKeeps it.1.0) its.ends (keeps it.0 it.1.0 (answers_of its.deals))) n c at lost)

  -- and what is lost then was lost by a request that was refused in it
  ran-lost : old.supply.refused ≤ 2 ^ 64 - 1 → (n c at : ℕ) → get (lost_in n (views_of old.tables)) c ≡ None → get (lost_in n (views_of new.tables)) c ≡ Some at → next_count old.supply.refused ≤ at
  ran-lost fits n c at none lost = ∥∥₁_elim known le_prop (λ it.
      let st = it.1.1.stands in
      let its : EventRan old new it.0 (end it.0 it.1.0) outcome = ran it.0 it.1.0 st in
      elim (lost-keep old.tables new.tables (sides_of it.1.0 st.pages) (sides_of its.after its.stands.pages) st.tables its.stands.tables its.deals
      (subst (EndKeeps it.1.0) its.ends (keeps it.0 it.1.0 (answers_of its.deals))) n c at lost) [
        | inl before ↦ absurd (false≢true (ap is_some (sym none ∙ before)))
        | inr told ↦ (told-between old.supply.refused its.deals at (ran-led old new it.0 it.1.0 st its).counted fits told).0
      ])

-- ---- the calls of the parent

-- what a call of the parent starts from and leaves beside its memory
pub record IsParents (old new : KernelParts) (notes later : KernelNotes) : Type 0 where
  pub known : ∥ IsKernelNoted old notes ∥₁
  pub snapshot : new.snapshot ≡ old.snapshot
  pub last : new.last ≡ old.last
  pub forked : later.forked ≡ notes.forked
  pub copied : copies_refused_in old.snapshot ≡ 0
  pub fits : old.supply.refused ≤ 2 ^ 64 - 1

module _ (old new : KernelParts) (notes later : KernelNotes) (its : IsParents old new notes later) where
  still-copied : copies_refused_in new.snapshot ≡ 0
  still-copied = ap copies_refused_in its.snapshot ∙ its.copied

  parents-went : (outcome : Outcome) (end : Machine → KernelState → List Answer → EventEnd)
      → ((machine : Machine) (state : KernelState) → KernelStands old machine state → EventRan old new machine (end machine state) outcome)
      → ((machine : Machine) (state : KernelState) (answers : List Answer) → HasCounted state (end machine state answers))
      → ((machine : Machine) (state : KernelState) (answers : List Answer) → EndKeeps state (end machine state answers)) → KernelWent old notes new later
  parents-went outcome end ran counts keeps = record {
    children = keeps-children old new notes later its.snapshot its.last its.forked (ran-stays old new notes its.known outcome end ran keeps)
        (λ n. ∥∥₁_elim its.known (number-prop (waiting_in n (views_of new.tables)) 0) (λ it.
        let then : EventRan old new it.0 (end it.0 it.1.0) outcome = ran it.0 it.1.0 it.1.1.stands in
        seen-waits new.tables (sides_of then.after then.stands.pages) then.stands.tables n))
        (ran-risen old new outcome end ran (known-noted old notes its.known) its.fits) (ran-lost old new notes its.known outcome end ran keeps its.fits);
    dealt = ran-dealt old new outcome end ran counts its.copied still-copied;
  }

  pub touch-went : (addr len : ℕ) (result : Result (Unit {0}) Fault) → TouchRan old new notes later addr len its.known result → KernelWent old notes new later
  touch-went addr len result ran = parents-went (touch_outcome result) (λ machine state answers. touch_judged machine state answers addr len (touch_of state.world.parent addr len)) ran
      (λ machine state answers. counted-touch machine state answers addr len (touch_of state.world.parent addr len))
      (λ machine state answers. touch-keeps-leaves machine state answers addr len (touch_of state.world.parent addr len))

  pub map-went : (first n : ℕ) (perm : Perm) (outcome : Outcome) → HasMapped old new first n perm outcome → KernelWent old notes new later
  map-went first n perm outcome ran = parents-went outcome _ ran (λ machine state answers. parent_counts machine state answers (Map first n perm) refl refl)
      (λ machine state answers. map-keeps-leaves state answers (map_of state.world.parent first n perm))

  pub unmap-went : (first n : ℕ) (outcome : Outcome) → HasUnmapped old new first n outcome → KernelWent old notes new later
  unmap-went first n outcome ran = parents-went outcome _ ran (λ machine state answers. parent_counts machine state answers (Unmap first n) refl refl)
      (λ machine state answers. unmap-keeps-leaves state answers (unmap_of state.world.parent first n) first n)

  pub protect-went : (first n : ℕ) (perm : Perm) (outcome : Outcome) → HasProtected old new first n perm outcome → KernelWent old notes new later
  protect-went first n perm outcome ran = parents-went outcome _ ran (λ machine state answers. parent_counts machine state answers (Protect first n perm) refl refl)
      (λ machine state answers. protect-keeps-leaves state answers (protect_of state.world.parent first n perm) first n)

-- a store asks for nothing
pub store-went : (old new : KernelParts) (notes : KernelNotes) (addr : ℕ) (bytes : List ℕ) → ∥ IsKernelNoted old notes ∥₁
    → ((machine : Machine) (state : KernelState) → KernelStands old machine state → KernelStands new machine (with_stored state addr bytes)) → new ≡ record old { tables = new.tables }
    → AreGiven old → KernelWent old notes new notes
store-went old new notes addr bytes known stored others given = record {
  children = keeps-children old new notes notes snapshot (ap (λ parts. parts.last) others) refl stays none risen lost;
  dealt = λ machine state st. (
    [],
    record {
      after = with_stored state addr bytes;
      dealt = ap (λ parts. as_asker old.supply.asker old.supply.refused parts.supply) others;
      led = λ opening earlier led. subst (λ requests. HaveLed machine.frames opening requests new.supply.policies) (sym (append-nil earlier))
          (subst (λ parts. HaveLed machine.frames opening earlier parts.supply.policies) (sym others) led);
      made = refl;
      named = refl;
      out = refl;
      refused = record { told = tt; rose = ap (λ parts. parts.supply.refused) others };
      kept = λ n below lives. record { told = tt; rose = ap copies_refused_in snapshot };
      fresh = λ n above lives. absurd (none-fresh n above lives);
      askers = λ n some. absurd (none-asked some);
      stands = stored machine state st;
    },
  );
}
  where
    snapshot : new.snapshot ≡ old.snapshot
    snapshot = ap (λ parts. parts.snapshot) others

    none : (n : ℕ) → waiting_in n (views_of new.tables) ≡ 0
    none n = ∥∥₁_elim known (number-prop (waiting_in n (views_of new.tables)) 0) (λ it.
        let then : KernelStands new it.0 (with_stored it.1.0 addr bytes) = stored it.0 it.1.0 it.1.1.stands in
        seen-waits new.tables (sides_of (with_stored it.1.0 addr bytes) then.pages) then.tables n)

    none-asked : 0 < 0 → ⊥
    none-asked some = omega (arith, some)

    risen : old.supply.refused ≤ new.supply.refused
    risen = let same : new.supply.refused ≡ old.supply.refused = ap (λ parts. parts.supply.refused) others in omega (arith, same)

    lost : (n c at : ℕ) → get (lost_in n (views_of old.tables)) c ≡ None → get (lost_in n (views_of new.tables)) c ≡ Some at → next_count old.supply.refused ≤ at
    lost n c at before there = absurd (∥∥₁_elim known ⊥_prop (λ it.
        let st = it.1.1.stands in
        let then : KernelStands new it.0 (with_stored it.1.0 addr bytes) = stored it.0 it.1.0 st in
        elim (lost-keep old.tables new.tables (sides_of it.1.0 st.pages) (sides_of (with_stored it.1.0 addr bytes) then.pages) st.tables then.tables [] (same-keeps it.1.0.leaves []) n c at there) [
          | inl was ↦ false≢true (ap is_some (sym before ∙ was))
          | inr told ↦ told
        ]))

    none-fresh : (n : ℕ) → old.last < n → IsListed n (live_numbers new.snapshot) → ⊥
    none-fresh n above lives = let below : n ≤ old.last = given n (listed-still old new snapshot n lives) in omega (arith, above, below)

    stays : (n c at : ℕ) → get (lost_in n (views_of old.tables)) c ≡ Some at → get (lost_in n (views_of new.tables)) c ≡ Some at
    stays n c at lost = ∥∥₁_elim known (option-prop (get (lost_in n (views_of new.tables)) c) (Some at)) (λ it.
        let st = it.1.1.stands in
        let then : KernelStands new it.0 (with_stored it.1.0 addr bytes) = stored it.0 it.1.0 st in
        lost-stay old.tables new.tables (sides_of it.1.0 st.pages) (sides_of (with_stored it.1.0 addr bytes) then.pages) st.tables then.tables [] (same-keeps it.1.0.leaves []) n c at lost)

-- ---- a fork and a drop

pub fork-went : (old new : KernelParts) (notes later : KernelNotes) (n : ℕ) (known : ∥ IsKernelNoted old notes ∥₁) (answer : Result (Unit {0}) ForkRefusal) → Forked old new notes later n answer
    → IsNext old n → old.supply.refused ≤ 2 ^ 64 - 1 → copies_refused_in old.snapshot ≡ 0 → copies_refused_in new.snapshot ≡ 0 → KernelWent old notes new later
fork-went old new notes later n known answer its next fits copied uncopied = record {
  children = fork-children old new notes later n known answer its next
      (ran-risen old new (fork_outcome answer) (λ machine state answers. fork_end machine state answers n Eager) its.ran (known-noted old notes known) fits);
  dealt = ran-dealt old new (fork_outcome answer) (λ machine state answers. fork_end machine state answers n Eager) its.ran
      (λ machine state answers. parent_counts machine state answers (Fork n Eager) refl refl) copied uncopied;
}

pub drop-went : (old new : KernelParts) (notes : KernelNotes) (n : ℕ) (known : ∥ IsKernelNoted old notes ∥₁) (outcome : Outcome) → HasDropped old new n outcome → IsListed n (live_numbers old.snapshot)
    → old.supply.refused ≤ 2 ^ 64 - 1 → copies_refused_in old.snapshot ≡ 0 → copies_refused_in new.snapshot ≡ 0 → KernelWent old notes new notes
drop-went old new notes n known outcome ran lives fits copied uncopied = record {
  children = drop-children old new notes n known outcome ran lives (ran-risen old new outcome (λ machine state answers. drop_end state answers n) ran (known-noted old notes known) fits);
  dealt = ran-dealt old new outcome (λ machine state answers. drop_end state answers n) ran
      (λ machine state answers. parent_counts machine state answers (Drop n) refl refl) copied uncopied;
}
