-- What is noted of a kernel holds behind each event of a step.
use Rattle.std.proofs.Common.{◌≡◌, ◌≢◌, ℕ, ◌≤◌, ◌^◌, Bool, true, false, cond, List, [], ◌∷◌, length, replicate, Option, Some, None, Result, Ok, Err, refl, sym, ◌∙◌, ap, subst, arith, le_refl}
use Rattle.std.specs.Prelude.{not, ◌==◌, IsTrue, ◌-◌, is_some, nat_le, IfOk, OnErr}
use Rattle.std.specs.Ordering.{nat_cmp}
use Rattle.std.specs.FinMap.{empty, len, len-empty}
use Rattle.std.proofs.lemmas.Bool.{false≢true}
use Rattle.std.proofs.Math.Logic.{∥∥₁_elim}
use Rattle.vm_base.specs.declared.fork_mode.Mode.{Mode}
use Rattle.vm_base.specs.declared.fork_mode.Mode.TheVariants.{Eager}
use Rattle.vm_base.specs.declared.frame_request.Asker.TheVariants.{Parent}
use Rattle.vm_base.specs.Deals.{Deal}
use Rattle.vm_base.specs.FlatMemory.{FlatMemory, cells_of}
use Rattle.vm_base.specs.FlatStep.{map_of, unmap_of, protect_of, write_of}
use Rattle.vm_base.specs.MemoryState.{IsListed, own_of}
use Rattle.vm_base.specs.TwoSides.{dropped}
use Rattle.kernel_meaning.specs.Requests.{Answer, answers_of}
use Rattle.kernel_meaning.specs.Leaves.{Kept}
use Rattle.kernel_meaning.specs.FrameLaw.{cell_at, parent_cells}
use Rattle.kernel_meaning.specs.EventRequests.{FrameRefusal, Progress, with_fork_at, snapshot_forked, snapshot_dropped}
use Rattle.kernel_meaning.specs.RefusedRequests.{count_after}
use Rattle.trace_events.specs.declared.event.Event.{Event}
use Rattle.trace_events.specs.declared.event.Event.TheVariants.{Map, Unmap, Protect, Read, Write, Fill, Fork, Copy, Drop, SnapRead, Frames, ListAreas, Refuse}
use Rattle.trace_events.specs.declared.outcome.Outcome.{Outcome}
use Rattle.trace_events.specs.declared.outcome.Outcome.TheVariants.{Done, TooMany, NoSnap}
use Rattle.trace_events.specs.EventBounds.{IsWithinBounds}
use Rattle.page_tables.specs.declared.tables.PageTables.{PageTables}
use Rattle.page_tables.proofs.view.TablesShown.{cell-shown, kept-shown}
use Rattle.trace_core.specs.declared.parts.SnapshotAreas.{SnapshotAreas}
use Rattle.trace_core.specs.Answering.{AreCounted, made_after, pending_of}
use Rattle.trace_core.specs.KernelState.{Machine, KernelState}
use Rattle.trace_core.specs.EventMeaning.{EventEnd, begun, only_answers, parent_end, fork_answered, is_live, event_end, asker_of, refused_so_far}
use Rattle.trace_core.specs.KernelStanding.{KernelParts, KernelStands, sides_of}
use Rattle.trace_core.specs.KernelRun.{Ran, EventFollows}
use Rattle.trace_core.specs.KernelSeen.{KernelNotes, IsSound, IsKernelNoted, NotesHold, IsNoted, parent_of, kept_in, is_new_fork, most_behind}
use Rattle.trace_core.proofs.events.Copies.{no-deals, same-leaves}
use Rattle.trace_core.proofs.runs.EventCounts.{HasCounted, HasCopied, is_refuse, parent_counts, copy_counts}
use Rattle.trace_core.proofs.processes.NoteCalls.{EnoughHolds, NotesHold-prop, AreAmong, none-kept, none-hold, pending-stays, enough-then, among-hold}
use Rattle.trace_core.proofs.memories.TouchCalls.{answered-grows}
use Rattle.trace_core.proofs.processes.SnapshotEvents.{EndKeeps, map-keeps-leaves, unmap-keeps-leaves, protect-keeps-leaves, touch-keeps-leaves, forked-leaves, unforked-leaves, forked-only, forked-lost}
use Rattle.trace_core.proofs.processes.SnapshotLeaves.{KeepsLeaves, same-keeps, loss_of}
use Rattle.trace_core.proofs.events.OneSnapshot.{lives-len, none-left}
use Rattle.trace_core.proofs.runs.RunSteps.{only-eager}
use Rattle.trace_core.proofs.memories.AreaViews.{was-there}
use Rattle.trace_core.proofs.processes.Children.{lives-is, full-is, none-lives}
use Rattle.page_tables.proofs.view.ViewSides.{seen-pages, seen-lost}
use Rattle.trace_core.proofs.memories.EventSoundness.{event-kept}
use Rattle.trace_core.proofs.memories.StepSoundness.{is_fork}
use Rattle.page_tables.specs.TablesView.{pages_of, has_cell, snapshot_has}

-- the most frames never fall behind an event
pub behind-grows : (before : PageTables) (event : Event) (outcome : Outcome) (most : ℕ) → most ≤ most_behind before event outcome most
behind-grows before (Map first n perm) outcome most = le_refl most
behind-grows before (Unmap first n) outcome most = le_refl most
behind-grows before (Protect first n perm) outcome most = le_refl most
behind-grows before (Read address n) outcome most = le_refl most
behind-grows before (Write address bytes) outcome most = answered-grows before address (length bytes) most outcome
behind-grows before (Fill address n byte) outcome most = answered-grows before address n most outcome
behind-grows before (Fork n mode) outcome most = le_refl most
behind-grows before (Copy n cell) outcome most = le_refl most
behind-grows before (Drop n) outcome most = le_refl most
behind-grows before (SnapRead n address size) outcome most = le_refl most
behind-grows before Frames outcome most = le_refl most
behind-grows before ListAreas outcome most = le_refl most
behind-grows before (Refuse nth) outcome most = le_refl most

none-counted : (snapshot : Option SnapshotAreas) → ◌≡◌ {A = ℕ} 0 (cond (is_some snapshot) 1 0) → snapshot ≡ None
none-counted None few = refl
none-counted (Some kept) few = absurd (omega (arith, few))

-- the parent has a page in each cell of its directory
abbrev pub AreFilled : KernelParts → Type 0
AreFilled parts = (c : ℕ) → IsTrue (has_cell parts.tables c) → IsListed c (cells_of (parent_of parts))

module _ (old new : KernelParts) (notes later : KernelNotes) (machine : Machine) (state : KernelState) (sound : IsSound old notes machine state)
    (fits : old.supply.refused ≤ 2 ^ 64 - 1) (holds : NotesHold old notes) (outcome : Outcome) where
  -- ---- behind an end that leaves the snapshots

  module _ (deals : List Deal) (after : KernelState) (then : KernelStands new machine after) (counted : AreCounted state.world.refused deals) (most : notes.most ≤ later.most)
      (end : EventEnd) (is_deals : end.deals ≡ deals) (leaves : end.after ≡ after) where
    -- what is told to be enough still is
    counted-enough : HasCounted state end → later.enough ≡ notes.enough → EnoughHolds later.enough new
    counted-enough counts same =
        let pending : new.supply.pending ≡ pending_of state.named (made_after state.made end.deals) =
        then.supply.pending ∙ ap (λ s. pending_of s.named s.made) (sym leaves) ∙ (λ i. pending_of (counts.named i) (counts.made i)) in
        enough-then old new notes later machine state after sound.stands then same
        (λ none. pending ∙ pending-stays state.named state.made end.deals (sym sound.stands.supply.pending ∙ none)) holds.enough

    kept-end : EndKeeps state end → AreAmong end.after.world.snapshots state.world.snapshots → end.after.world.refused ≡ count_after state.world.refused end.deals
        → later.forked ≡ notes.forked → later.born ≡ notes.born → EnoughHolds later.enough new → NotesHold new later
    kept-end keeps among count forked born enough =
        among-hold old new notes later machine state after sound.stands then deals
        (subst (λ deals. KeepsLeaves state.leaves after.leaves deals) is_deals (subst (λ s. KeepsLeaves state.leaves s.leaves end.deals) leaves keeps))
        (subst (λ count. AreCounted count deals) (sym sound.stands.supply.refused) counted)
        (then.supply.refused ∙ ap (λ s. s.world.refused) (sym leaves) ∙ count
        ∙ (λ i. count_after (sym sound.stands.supply.refused i) (is_deals i)))
        fits born most enough holds forked (subst (λ s. AreAmong s.world.snapshots state.world.snapshots) leaves among)

    counted-end : HasCounted state end → EndKeeps state end → AreAmong end.after.world.snapshots state.world.snapshots
        → later.forked ≡ notes.forked → later.born ≡ notes.born → later.enough ≡ notes.enough → NotesHold new later
    counted-end counts keeps among forked born same = kept-end keeps among counts.refused forked born (counted-enough counts same)

  -- ---- a fork

  module _ (n : ℕ) (after : KernelState) (then : KernelStands new machine after) (none : old.snapshot ≡ None)
      (leaves : after.leaves ≡ with_fork_at (parent_cells state.leaves) n Eager state.leaves) (parent : after.world.parent ≡ state.world.parent) where
    none-before : (c : ℕ) → (cell_at state.leaves c).kept ≡ []
    none-before c = none-kept old machine state sound.stands none c

    pages-then : pages_of new.tables ≡ state.world.parent.present
    pages-then = seen-pages new.tables (sides_of after then.pages) then.tables ∙ ap (λ memory. memory.present) parent

    -- each cell of the new snapshot is one of the parent's directory
    forked-there : (c : ℕ) → IsTrue (snapshot_has new.tables c) → IsTrue (has_cell old.tables c)
    forked-there c there =
        cell-shown old.tables (sides_of state sound.stands.pages) sound.stands.tables c
        ∙ forked-only n state.leaves sound.stands.tables.kept.sorted none-before c
        (λ gone. false≢true (sym (sym there ∙ kept-shown new.tables (sides_of after then.pages) then.tables c
        ∙ ap (λ leaves. not (length (cell_at leaves c).kept == 0)) leaves ∙ ap (λ (kept : List Kept). not (length kept == 0)) gone)))

    -- it has lost none
    forked-unlost : (m c : ℕ) → loss_of after.leaves m c ≡ None
    forked-unlost m c = ap (λ leaves. loss_of leaves m c) leaves ∙ forked-lost n state.leaves sound.stands.tables.kept.sorted none-before m c

    granted-hold : AreFilled old → later.forked ≡ new.tables → later.born ≡ new.supply.refused → notes.most ≤ later.most → EnoughHolds later.enough new → NotesHold new later
    granted-hold filled forked born most enough = by new.snapshot refl
      where
        present : pages_of later.forked ≡ state.world.parent.present
        present = ap pages_of forked ∙ pages-then

        before : pages_of old.tables ≡ state.world.parent.present
        before = seen-pages old.tables (sides_of state sound.stands.pages) sound.stands.tables

        by : (snapshot : Option SnapshotAreas) → new.snapshot ≡ snapshot → NotesHold new later
        by None gone = none-hold new machine after then gone later enough
        by (Some kept) lives =
            let cells : cells_of (kept_in new.snapshot later.forked) ≡ cells_of (parent_of old) =
            ap (λ snapshot. cells_of (kept_in snapshot later.forked)) lives ∙ ap (λ pages. cells_of (record { areas = []; present = pages })) (present ∙ sym before) in
            let own : own_of (kept_in new.snapshot later.forked) ≡ own_of state.world.parent =
            ap (λ snapshot. own_of (kept_in snapshot later.forked)) lives ∙ ap (λ pages. own_of (record { areas = []; present = pages })) present in
            let small : own_of state.world.parent ≤ notes.most = sound.own in
            record {
              cells = λ c there. subst (IsListed c) (sym cells) (filled c (forked-there c there));
              born = λ there. subst (λ born. born ≤ new.supply.refused) (sym born) (le_refl new.supply.refused);
              since = λ m c at lost. absurd (false≢true
                  (sym (ap is_some (seen-lost new.tables (sides_of after then.pages) then.tables m c ∙ forked-unlost m c)) ∙ ap is_some lost));
              own = subst (λ own. own ≤ later.most) (sym own) (omega (arith, small, most));
              enough = enough;
            }

  fork-cases : (n : ℕ) (mode : Mode) (full : Bool) (refused : Option FrameRefusal) (progress : Progress) (deals : List Deal) (after : KernelState)
      (then : KernelStands new machine after)
      → (is_new_fork (Fork n mode) outcome ≡ true → AreFilled old) → (full ≡ false → old.snapshot ≡ None)
      → (refused ≡ None → progress.leaves ≡ with_fork_at (parent_cells state.leaves) n Eager state.leaves) → (is_some refused ≡ true → progress.leaves ≡ state.leaves)
      → AreCounted state.world.refused deals → IsNoted old.tables (Fork n mode) outcome new.tables new.supply.refused notes later
      → let end : EventEnd = cond full (only_answers state TooMany) (fork_answered state n refused progress) in
      HasCounted state end → end.outcome ≡ outcome → end.deals ≡ deals → end.after ≡ after → NotesHold new later
  fork-cases n mode true refused progress deals after then filled none granted same counted noted counts answers is_deals leaves =
      let kept = noted.kept (ap (is_new_fork (Fork n mode)) (sym answers)) in
      counted-end deals after then counted (subst (λ most. notes.most ≤ most) (sym noted.most) (le_refl notes.most))
      (only_answers state TooMany) is_deals leaves counts (same-keeps state.leaves [])
      (λ m memory there. there) kept.0 kept.1 noted.enough
  fork-cases n mode false (Some refusal) progress deals after then filled none granted same counted noted counts answers is_deals leaves =
      let kept = noted.kept (ap (is_new_fork (Fork n mode)) (sym answers)) in
      counted-end deals after then counted (subst (λ most. notes.most ≤ most) (sym noted.most) (le_refl notes.most))
      (fork_answered state n (Some refusal) progress) is_deals leaves counts
      (subst (λ leaves. KeepsLeaves state.leaves leaves progress.requests.deals) (sym (same refl)) (same-keeps state.leaves progress.requests.deals))
      (λ m memory there. there) kept.0 kept.1 noted.enough
  fork-cases n mode false None progress deals after then filled none granted same counted noted counts answers is_deals leaves =
      let done : is_new_fork (Fork n mode) outcome ≡ true = ap (is_new_fork (Fork n mode)) (sym answers) in
      let forked = noted.forked done in
      let most : notes.most ≤ later.most = subst (λ most. notes.most ≤ most) (sym noted.most) (le_refl notes.most) in
      granted-hold n after then (none refl) (ap (λ s. s.leaves) (sym leaves) ∙ granted refl) (ap (λ s. s.world.parent) (sym leaves)) (filled done) forked.0 forked.1 most
      (counted-enough deals after then counted most (fork_answered state n None progress) is_deals leaves counts noted.enough)

  -- ---- a drop

  drop-cases : (n : ℕ) (live : Bool) (progress : Progress) (deals : List Deal) (after : KernelState) (then : KernelStands new machine after)
      → is_live state.world n ≡ live
      → AreCounted state.world.refused deals → IsNoted old.tables (Drop n) outcome new.tables new.supply.refused notes later
      → let end : EventEnd = cond live (parent_end state (dropped state.world n) Done progress) (only_answers state NoSnap) in
      HasCounted state end → end.deals ≡ deals → end.after ≡ after → NotesHold new later
  drop-cases n true progress deals after then lives counted noted counts is_deals leaves =
      let most : notes.most ≤ later.most = subst (λ most. notes.most ≤ most) (sym noted.most) (le_refl notes.most) in
      let gone : after.world.snapshots ≡ empty =
      ap (λ s. s.world.snapshots) (sym leaves)
      ∙ none-left old.snapshot sound.stands.pages state.world.snapshots sound.stands.memories n (sym (lives-is old machine state sound.stands n) ∙ lives) in
      none-hold new machine after then
      (none-counted new.snapshot (sym (len-empty nat_cmp FlatMemory) ∙ ap len (sym gone) ∙ lives-len new.snapshot then.pages after.world.snapshots then.memories))
      later (counted-enough deals after then counted most (parent_end state (dropped state.world n) Done progress) is_deals leaves counts noted.enough)
  drop-cases n false progress deals after then lives counted noted counts is_deals leaves =
      let kept = noted.kept refl in
      counted-end deals after then counted (subst (λ most. notes.most ≤ most) (sym noted.most) (le_refl notes.most))
      (only_answers state NoSnap) is_deals leaves counts (same-keeps state.leaves [])
      (λ m memory there. there) kept.0 kept.1 noted.enough

  -- ---- each event

  module _ (event : Event) (follows : EventFollows old new machine state event outcome)
      (noted : IsNoted old.tables event outcome new.tables new.supply.refused notes later)
      (unforked : is_new_fork event outcome ≡ false) (other : (n : ℕ) (mode : Mode) → event ≡ Fork n mode → ⊥) where
    abbrev ending : EventEnd
    ending = event_end machine state (answers_of follows.deals) event

    among : AreAmong ending.after.world.snapshots state.world.snapshots
    among = event-kept (λ snapshots last. AreAmong snapshots state.world.snapshots) machine state (answers_of follows.deals) (λ m memory there. there)
        (λ n m memory there. was-there state.world.snapshots n m memory there) event other

    grown : notes.most ≤ later.most
    grown = subst (λ most. notes.most ≤ most) (sym noted.most) (behind-grows old.tables event outcome notes.most)

    -- an event of the parent that keeps the leaves of snapshots
    parent-holds : asker_of event ≡ Parent → is_refuse event ≡ false → later.enough ≡ notes.enough → EndKeeps state ending → NotesHold new later
    parent-holds parents plain same keeps =
        counted-end follows.deals follows.after follows.stands (subst (λ asker. AreCounted (refused_so_far state.world asker) follows.deals) parents follows.is_event.counted) grown
        ending follows.is_event.deals_are follows.is_event.leaves (parent_counts machine state (answers_of follows.deals) event parents plain) keeps among
        (noted.kept unforked).0 (noted.kept unforked).1 same

    -- an event that makes no deal
    dealless-holds : ending.deals ≡ [] → ending.after.leaves ≡ state.leaves → ending.after.world.refused ≡ state.world.refused → EnoughHolds later.enough new → NotesHold new later
    dealless-holds none same count enough =
        let no-deal : [] ≡ follows.deals = sym none ∙ follows.is_event.deals_are in
        kept-end follows.deals follows.after follows.stands (subst (AreCounted state.world.refused) no-deal tt) grown
        ending follows.is_event.deals_are follows.is_event.leaves
        (subst (λ leaves. KeepsLeaves state.leaves leaves ending.deals) (sym same) (same-keeps state.leaves ending.deals)) among
        (count ∙ ap (count_after state.world.refused) (sym none)) (noted.kept unforked).0 (noted.kept unforked).1 enough

  event-holds : (event : Event) → IsWithinBounds event → EventFollows old new machine state event outcome
      → IsNoted old.tables event outcome new.tables new.supply.refused notes later → (is_new_fork event outcome ≡ true → AreFilled old) → NotesHold new later
  event-holds (Map first n perm) within follows noted filled =
      parent-holds (Map first n perm) follows noted refl (λ m mode e. false≢true (ap is_fork e)) refl refl noted.enough
      (map-keeps-leaves state (answers_of follows.deals) (map_of state.world.parent first n perm))
  event-holds (Unmap first n) within follows noted filled =
      parent-holds (Unmap first n) follows noted refl (λ m mode e. false≢true (ap is_fork e)) refl refl noted.enough
      (unmap-keeps-leaves state (answers_of follows.deals) (unmap_of state.world.parent first n) first n)
  event-holds (Protect first n perm) within follows noted filled =
      parent-holds (Protect first n perm) follows noted refl (λ m mode e. false≢true (ap is_fork e)) refl refl noted.enough
      (protect-keeps-leaves state (answers_of follows.deals) (protect_of state.world.parent first n perm) first n)
  event-holds (Read address n) within follows noted filled =
      parent-holds (Read address n) follows noted refl (λ m mode e. false≢true (ap is_fork e)) refl refl noted.enough (same-keeps state.leaves [])
  event-holds (Write address bytes) within follows noted filled =
      parent-holds (Write address bytes) follows noted refl (λ m mode e. false≢true (ap is_fork e)) refl refl noted.enough
      (touch-keeps-leaves machine state (answers_of follows.deals) address (length bytes) (write_of state.world.parent address bytes))
  event-holds (Fill address n byte) within follows noted filled =
      parent-holds (Fill address n byte) follows noted refl (λ m mode e. false≢true (ap is_fork e)) refl refl noted.enough
      (touch-keeps-leaves machine state (answers_of follows.deals) address (length (replicate n byte)) (write_of state.world.parent address (replicate n byte)))
  event-holds (Fork n mode) within follows noted filled =
      let answers : List Answer = answers_of follows.deals in
      let progress : Progress = snapshot_forked n mode (begun state answers) in
      fork-cases n mode (nat_le machine.limit (len state.world.snapshots)) progress.refused progress follows.deals follows.after follows.stands filled
      (λ few. none-lives old.snapshot (sym (full-is old machine state sound.stands) ∙ few))
      (λ granted. forked-leaves n mode (begun state answers) granted ∙ ap (λ mode. with_fork_at (parent_cells state.leaves) n mode state.leaves) (only-eager mode within.1))
      (unforked-leaves n mode (begun state answers) refl) follows.is_event.counted noted (parent_counts machine state answers (Fork n mode) refl refl)
      follows.is_event.answers follows.is_event.deals_are follows.is_event.leaves
  event-holds (Copy n cell) within follows noted filled =
      let answers : List Answer = answers_of follows.deals in
      let copied : HasCopied state n (event_end machine state answers (Copy n cell)) = copy_counts state answers n cell in
      let none : (event_end machine state answers (Copy n cell)).deals ≡ [] = no-deals old machine state sound.stands n cell answers in
      dealless-holds (Copy n cell) follows noted refl (λ m mode e. false≢true (ap is_fork e)) none (same-leaves old machine state sound.stands n cell answers) copied.refused
      (counted-enough follows.deals follows.after follows.stands (subst (AreCounted state.world.refused) (sym none ∙ follows.is_event.deals_are) tt)
      (subst (λ most. notes.most ≤ most) (sym noted.most) (le_refl notes.most)) (event_end machine state answers (Copy n cell)) follows.is_event.deals_are follows.is_event.leaves
      (record { made = copied.made; refused = copied.refused ∙ ap (count_after state.world.refused) (sym none); named = copied.named }) noted.enough)
  event-holds (Drop n) within follows noted filled =
      let answers : List Answer = answers_of follows.deals in
      drop-cases n (is_live state.world n) (snapshot_dropped n (begun state answers)) follows.deals follows.after follows.stands refl follows.is_event.counted noted
      (parent_counts machine state answers (Drop n) refl refl) follows.is_event.deals_are follows.is_event.leaves
  event-holds (SnapRead n address size) within follows noted filled =
      parent-holds (SnapRead n address size) follows noted refl (λ m mode e. false≢true (ap is_fork e)) refl refl noted.enough (same-keeps state.leaves [])
  event-holds Frames within follows noted filled =
      parent-holds Frames follows noted refl (λ m mode e. false≢true (ap is_fork e)) refl refl noted.enough (same-keeps state.leaves [])
  event-holds ListAreas within follows noted filled =
      parent-holds ListAreas follows noted refl (λ m mode e. false≢true (ap is_fork e)) refl refl noted.enough (same-keeps state.leaves [])
  event-holds (Refuse nth) within follows noted filled =
      dealless-holds (Refuse nth) follows noted refl (λ m mode e. false≢true (ap is_fork e)) refl refl refl
      (λ frames told. absurd (false≢true (sym (ap is_some noted.enough) ∙ ap is_some told)))

-- what is noted holds behind an event of a step, where before a fork the parent has a page in each cell of its directory
pub holds-behind : (old new : KernelParts) (notes later : KernelNotes) (event : Event) (outcome : Outcome) → IsWithinBounds event → Ran old new event outcome
    → IsNoted old.tables event outcome new.tables new.supply.refused notes later → old.supply.refused ≤ 2 ^ 64 - 1 → (is_new_fork event outcome ≡ true → AreFilled old)
    → ∥ IsKernelNoted old notes ∥₁ → NotesHold old notes → NotesHold new later
holds-behind old new notes later event outcome within ran noted fits filled known holds = ∥∥₁_elim known (NotesHold-prop new later) (λ it.
    event-holds old new notes later it.0 it.1.0 it.1.1 fits holds outcome event within (ran it.0 it.1.0 it.1.1.stands) noted filled)

-- whatever a step answers, what is noted holds behind it
pub holds-step : (old new : KernelParts) (before : PageTables) (refused : ℕ) (event : Event) {E : Type 0} (result : Result Outcome E) (notes later : KernelNotes)
    → before ≡ old.tables → refused ≡ new.supply.refused → IsWithinBounds event → IfOk result (Ran old new event) → OnErr result (new ≡ old)
    → IfOk result (λ outcome. IsNoted before event outcome new.tables refused notes later) → OnErr result (later ≡ notes) → old.supply.refused ≤ 2 ^ 64 - 1
    → IfOk result (λ outcome. is_new_fork event outcome ≡ true → AreFilled old) → ∥ IsKernelNoted old notes ∥₁ → NotesHold old notes → NotesHold new later
holds-step old new before refused event (Ok outcome) notes later same count within ran kept noted left fits filled known holds =
    holds-behind old new notes later event outcome within ran
    (subst (λ tables. IsNoted tables event outcome new.tables new.supply.refused notes later) same
    (subst (λ count. IsNoted before event outcome new.tables count notes later) count noted)) fits filled known holds
holds-step old new before refused event (Err e) notes later same count within ran kept noted left fits filled known holds =
    subst (λ it. NotesHold new it) (sym left) (subst (λ it. NotesHold it notes) (sym kept) holds)
