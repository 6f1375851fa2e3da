-- Once a request was refused, a kernel has had, or has asked for, as many frames of its own as are enough: each event keeps it so.
use Rattle.std.proofs.Common.{◌≡◌, ℕ, ◌+◌, ◌-◌, ◌<◌, ◌≤◌, ◌⊎◌, inl, inr, Bool, true, false, cond, List, [], ◌∷◌, ◌++◌, length, replicate, Option, Some, None, Result, Ok, Err, refl, sym, ◌∙◌, ap, subst, arith}
use Rattle.std.specs.Prelude.{IsTrue, is_some, nat_le, IfOk, OnErr}
use Rattle.std.specs.Coded.{le_prop}
use Rattle.std.specs.Option.{ForSome}
use Rattle.std.specs.FinMap.{len}
use Rattle.std.proofs.lemmas.Bool.{cases_eq, cases_Bool, false≢true}
use Rattle.std.proofs.lemmas.List.{length-replicate}
use Rattle.std.proofs.Math.Logic.{∥∥₁_elim}
use Rattle.vm_base.specs.declared.fork_mode.Mode.TheVariants.{Eager}
use Rattle.vm_base.specs.declared.frame_request.Want.{Want}
use Rattle.vm_base.specs.declared.permission.Perm.{Perm}
use Rattle.vm_base.specs.Deals.{Deal, Denied, Returned}
use Rattle.vm_base.specs.Places.{page_of, page_count, cells_of_range}
use Rattle.vm_base.specs.FlatMemory.{FlatMemory}
use Rattle.vm_base.specs.FlatStep.{Refusal, OutsideAreas, ReadOnly, Taken, TooManyAreas, touch_of, map_of, unmap_of, protect_of, stored}
use Rattle.vm_base.specs.TwoSides.{dropped}
use Rattle.vm_base.specs.MemoryState.{own_of}
use Rattle.vm_base.specs.MemoryCalls.{touched}
use Rattle.leaf_cell.specs.CellView.{AreUnjoined}
use Rattle.leaf_cell.proofs.TouchCourses.{before_change-none}
use Rattle.kernel_meaning.specs.Leaves.{CellLeaves, has_present}
use Rattle.kernel_meaning.specs.CellActs.{Course, before_change, cleared, pages_cleared}
use Rattle.kernel_meaning.specs.Requests.{Answer, answers_of}
use Rattle.kernel_meaning.specs.FrameLaw.{Leaves, cell_at, with_cell, is_used, held_frames, lacks_slots, snapshot_cells}
use Rattle.kernel_meaning.specs.EventRequests.{FrameRefusal, Progress, course_at, with_course, first_in_cell, count_in_cell, directory_shrunk, changed_cells, unmapped_at, pages_unmapped, pages_protected, pages_touched, snapshot_forked, without_snapshot_at, snapshot_dropped}
use Rattle.kernel_meaning.specs.RefusedRequests.{out_after, count_after}
use Rattle.page_tables.specs.declared.tables.PageTables.{PageTables}
use Rattle.page_tables.proofs.LeafMap.{unjoined-with_cell}
use Rattle.page_tables.proofs.GoneCell.{cell_at-gone, cell_at-stays}
use Rattle.page_tables.proofs.ProtectedPages.{protect-runs}
use Rattle.trace_events.specs.EventBounds.{IsWithinBounds}
use Rattle.trace_events.specs.declared.event.Event.{Event}
use Rattle.trace_events.specs.declared.event.Event.TheVariants.{Map, Unmap, Protect, Read, Write, Fill, Fork, Copy, Drop, SnapRead, Frames, ListAreas, Refuse}
use Rattle.trace_events.specs.declared.outcome.Outcome.{Outcome}
use Rattle.trace_events.specs.declared.outcome.Outcome.TheVariants.{Done, TooMany, CellsFull, NoSnap}
use Rattle.trace_core.specs.Answering.{HaveLed}
use Rattle.trace_core.specs.KernelState.{Machine, KernelState}
use Rattle.trace_core.specs.EventMeaning.{EventEnd, begun, asker_of, parent_end, areas_changed, mapped, only_answers, touch_answered, touch_judged, fork_answered, fork_end, is_live, event_end}
use Rattle.trace_core.specs.RunMeaning.{event_requests}
use Rattle.trace_core.specs.KernelStanding.{KernelParts, KernelStands, EventRan, sides_of}
use Rattle.trace_core.specs.KernelRun.{Ran, EventFollows}
use Rattle.trace_core.specs.KernelSeen.{KernelNotes, IsSound, IsKernelNoted, NotesHold, HasReached, IsNoted, most_touched, most_answered, most_behind, enough_behind}
use Rattle.trace_core.proofs.supplies.AnswerLemmas.{no_request_has_led}
use Rattle.trace_core.proofs.memories.AreaCalls.{HasMapped, HasUnmapped, HasProtected}
use Rattle.trace_core.proofs.events.Copies.{no-deals}
use Rattle.trace_core.proofs.runs.EventCounts.{counted-touch, parent_counts, copy_counts}
use Rattle.trace_core.proofs.runs.RunSteps.{only-eager}
use Rattle.trace_core.proofs.processes.Children.{none-lives, full-is}
use Rattle.page_tables.proofs.view.ViewSides.{seen-pages}
use Rattle.trace_core.proofs.memories.TouchSoundness.{le-max}
use Rattle.page_tables.proofs.enough.Deals.{AreSpent, spent-at, spent-given}
use Rattle.trace_core.proofs.enough.FullSupplies.{plain-spent}
use Rattle.trace_core.proofs.enough.FrameReach.{denial-or-none, AreOutAt, answered-out, touch-bound, fork-bound}
use Rattle.page_tables.specs.TablesView.{pages_of}

-- ---- events that are never denied a frame

-- none of the deals is a denial, whatever is out before them
abbrev AreGiven : ℕ → List Deal → Type 0
AreGiven out deals = AreSpent 0 out deals

given-more : (out n : ℕ) (deals : List Deal) → AreGiven out deals → AreGiven out (deals ++ replicate n Returned)
given-more out n deals given = (spent-given 0 out (out_after out deals) n deals (record { spent = given; out = omega arith })).spent

-- where a cell has unjoined leaves then, all cells have
unjoined-then : (leaves : Leaves) (c : ℕ) (new : CellLeaves) → AreUnjoined new.kept → ((q : ℕ) → AreUnjoined (cell_at leaves q).kept)
    → (q : ℕ) → AreUnjoined (cell_at (with_cell leaves c new) q).kept
unjoined-then leaves c new here_too unjoined q = elim (cases_Bool (is_used new)) [
  | inl used ↦ unjoined-with_cell leaves c new used here_too unjoined q
  | inr unused ↦ elim (cases_eq q c) [
    | inl here ↦ subst (λ cell. AreUnjoined cell.kept) (sym (cell_at-gone leaves c new unused q here)) tt
    | inr apart ↦ subst (λ cell. AreUnjoined cell.kept) (sym (cell_at-stays leaves c new unused q apart)) (unjoined q)
  ]
]

-- pages of a cell are cleared: frames come back, and the snapshots' leaves stay
cleared-given : (out first n : ℕ) (course : Course) → AreUnjoined course.cell.kept → AreGiven out course.requests.deals
    → AreGiven out (cleared first n course).requests.deals × AreUnjoined (cleared first n course).cell.kept
cleared-given out first n course unjoined given =
    elim (has_present course.cell.parent first n) as (λ b. let end : Course = cond b (pages_cleared first n (before_change course)) course in
    AreGiven out end.requests.deals × AreUnjoined end.cell.kept) [
      | true ↦ subst (λ before. AreGiven out (pages_cleared first n before).requests.deals × AreUnjoined (pages_cleared first n before).cell.kept)
          (sym (before_change-none course unjoined)) (given-more out _ course.requests.deals given, unjoined)
      | false ↦ (given, unjoined)
    ]

unmapped-given : (out : ℕ) (cells : List ℕ) (first n : ℕ) (progress : Progress) → ((q : ℕ) → AreUnjoined (cell_at progress.leaves q).kept) → AreGiven out progress.requests.deals
    → AreGiven out (unmapped_at cells first n progress).requests.deals
unmapped-given out [] first n progress unjoined given = given
unmapped-given out (cell ∷ cells) first n progress unjoined given =
    let course : Course = cleared (first_in_cell cell first) (count_in_cell cell first n) (course_at cell progress) in
    let here : AreGiven out course.requests.deals × AreUnjoined course.cell.kept =
    cleared-given out (first_in_cell cell first) (count_in_cell cell first n) (course_at cell progress) (unjoined cell) given in
    unmapped-given out cells first n (directory_shrunk progress.leaves (with_course cell course progress))
    (unjoined-then progress.leaves cell course.cell here.1 unjoined) (given-more out _ course.requests.deals here.0)

-- ---- what an event reaches

-- behind an event that ends so, where each denial came when all frames were out, these were no more than the most frames of the kernel's own that are noted before it and behind it
record Reaches (machine : Machine) (state : KernelState) (most : ℕ) (most_then : Outcome → ℕ) (end : EventEnd) : Type 0 where
  counted : end.after.world.refused ≡ count_after state.world.refused end.deals
  grows : most ≤ most_then end.outcome
  spent : (front : List Deal) (want : Want) (at : ℕ) (back : List Deal) → end.deals ≡ front ++ Denied want at ∷ back
      → out_after (held_frames state.leaves) front ≡ machine.frames → machine.frames + 1 ≤ most_then end.outcome + most

-- a change of areas that gives frames back alone
changed-given : (out : ℕ) (state : KernelState) (result : Result FlatMemory Refusal) (progress : Progress) → AreGiven out progress.requests.deals
    → AreGiven out (areas_changed state result progress).deals
changed-given out state (Ok memory) progress given = given
changed-given out state (Err refusal) progress given = tt

-- that as many frames as are enough were wanted, where a request was refused, has one proof at most
pub HasReached-prop : (parts : KernelParts) (notes : KernelNotes) → IsProp (HasReached parts notes)
HasReached-prop parts notes one other = λ i rose enough told. le_prop (one rose enough told) (other rose enough told) i

-- an event leaves it told how many frames are enough, or tells it no longer
enough-cases : (event : Event) (enough : Option ℕ) → (enough_behind event enough ≡ enough) ⊎ (enough_behind event enough ≡ None)
enough-cases (Map first n perm) enough = inl refl
enough-cases (Unmap first n) enough = inl refl
enough-cases (Protect first n perm) enough = inl refl
enough-cases (Read address n) enough = inl refl
enough-cases (Write address bytes) enough = inl refl
enough-cases (Fill address n byte) enough = inl refl
enough-cases (Fork n mode) enough = inl refl
enough-cases (Copy n cell) enough = inl refl
enough-cases (Drop n) enough = inl refl
enough-cases (SnapRead n address size) enough = inl refl
enough-cases Frames enough = inl refl
enough-cases ListAreas enough = inl refl
enough-cases (Refuse nth) enough = inr refl

module _ (old : KernelParts) (notes : KernelNotes) (machine : Machine) (state : KernelState) (sound : IsSound old notes machine state) (holds : NotesHold old notes) where
  abbrev out : ℕ
  out = held_frames state.leaves

  abbrev Counted : EventEnd → Type 0
  Counted end = end.after.world.refused ≡ count_after state.world.refused end.deals

  abbrev TouchReaches : ℕ → ℕ → EventEnd → Type 0
  TouchReaches addr n end = Reaches machine state notes.most (λ outcome. most_answered old.tables addr n notes.most outcome) end

  -- an end without denials
  given-reaches : (most_then : Outcome → ℕ) (end : EventEnd) → Counted end → notes.most ≤ most_then end.outcome
      → AreGiven out end.deals → Reaches machine state notes.most most_then end
  given-reaches most_then end counted grows given = record {
    counted = counted;
    grows = grows;
    spent = λ front want at back split all.
        let never : out_after out front + 1 ≤ 0 = spent-at 0 out front want at back (subst (AreGiven out) split given) in absurd (omega (arith, never));
  }

  -- the most frames behind a touch that lacked a frame, or lacked none
  most-wanted : (addr n : ℕ) → own_of (touched state.world.parent addr n) ≤ most_touched old.tables addr n notes.most
  most-wanted addr n =
      let pages : pages_of old.tables ≡ state.world.parent.present = seen-pages old.tables (sides_of state sound.stands.pages) sound.stands.tables in
      let own : own_of (touched (record { areas = []; present = pages_of old.tables }) addr n) ≡ own_of (touched state.world.parent addr n) =
      ap (λ present. own_of (touched (record { areas = []; present = present }) addr n)) pages in
      omega (arith, own)

  module _ (answers : List Answer) where
    -- a touch
    judged-reaches : (addr n : ℕ) (result : Result FlatMemory Refusal)
        → TouchReaches addr n (touch_judged machine state answers addr n result)
    judged-reaches addr n result = by result (counted-touch machine state answers addr n result).refused
      where
        progress : Progress
        progress = pages_touched (page_of addr) (page_count addr n) (begun state answers)

        enough : (front : List Deal) (want : Want) (at : ℕ) (back : List Deal) → progress.requests.deals ≡ front ++ Denied want at ∷ back
            → out_after out front ≡ machine.frames → machine.frames + 1 ≤ most_touched old.tables addr n notes.most + notes.most
        enough front want at back split all = omega (arith, touch-bound old notes machine state sound holds addr n answers front want at back split all, most-wanted addr n)

        answered : (memory : FlatMemory) (refused : Option FrameRefusal) → Counted (touch_answered state memory refused progress)
            → TouchReaches addr n (touch_answered state memory refused progress)
        answered memory None counted = record { counted = counted; grows = le-max notes.most _; spent = enough }
        answered memory (Some refusal) counted = record { counted = counted; grows = le-max notes.most _; spent = enough }

        by : (result : Result FlatMemory Refusal) → Counted (touch_judged machine state answers addr n result)
            → TouchReaches addr n (touch_judged machine state answers addr n result)
        by (Err (OutsideAreas page)) counted = given-reaches _ _ counted (omega arith) tt
        by (Err (ReadOnly page)) counted = given-reaches _ _ counted (omega arith) tt
        by (Err (Taken page)) counted = given-reaches _ _ counted (omega arith) tt
        by (Err TooManyAreas) counted = given-reaches _ _ counted (omega arith) tt
        by (Ok memory) counted =
            (elim (lacks_slots machine.slots state.leaves (cells_of_range addr n)) as (λ b.
            Counted (cond b (only_answers state CellsFull) (touch_answered state memory progress.refused progress))
            → TouchReaches addr n (cond b (only_answers state CellsFull) (touch_answered state memory progress.refused progress))) [
              | true ↦ λ counted. given-reaches _ _ counted (omega arith) tt
              | false ↦ answered memory progress.refused
            ]) counted

    -- a fork
    forked-reaches : (n : ℕ) → Reaches machine state notes.most (λ outcome. notes.most) (fork_end machine state answers n Eager)
    forked-reaches n = by (nat_le machine.limit (len state.world.snapshots)) refl (parent_counts machine state answers (Fork n Eager) refl refl).refused
      where
        progress : Progress
        progress = snapshot_forked n Eager (begun state answers)

        granted : old.snapshot ≡ None → (refused : Option FrameRefusal) → Counted (fork_answered state n refused progress)
            → Reaches machine state notes.most (λ outcome. notes.most) (fork_answered state n refused progress)
        granted none None counted = record { counted = counted; grows = omega arith; spent = fork-bound old notes machine state sound holds none n answers }
        granted none (Some refusal) counted = record { counted = counted; grows = omega arith; spent = fork-bound old notes machine state sound holds none n answers }

        by : (full : Bool) → nat_le machine.limit (len state.world.snapshots) ≡ full
            → let end : EventEnd = cond full (only_answers state TooMany) (fork_answered state n progress.refused progress) in
            Counted end → Reaches machine state notes.most (λ outcome. notes.most) end
        by true is counted = given-reaches _ _ counted (omega arith) tt
        by false is counted = granted (none-lives old.snapshot (sym (full-is old machine state sound.stands) ∙ is)) progress.refused counted

    abbrev ReachedBy : Event → Type 0
    ReachedBy event = Reaches machine state notes.most (λ outcome. most_behind old.tables event outcome notes.most) (event_end machine state answers event)

    -- a change of areas, a copy and a drop are denied nothing
    mapped-reaches : (first n : ℕ) (perm : Perm) → ReachedBy (Map first n perm)
    mapped-reaches first n perm =
        given-reaches _ _ (parent_counts machine state answers (Map first n perm) refl refl).refused (omega arith)
        (changed-given out state (map_of state.world.parent first n perm) (begun state answers) tt)

    unmapped-reaches : (first n : ℕ) → ReachedBy (Unmap first n)
    unmapped-reaches first n =
        given-reaches _ _ (parent_counts machine state answers (Unmap first n) refl refl).refused (omega arith)
        (changed-given out state (unmap_of state.world.parent first n) (pages_unmapped first n (begun state answers))
        (unmapped-given out (changed_cells state.leaves first n) first n (begun state answers) sound.stands.tables.kept.unjoined tt))

    protected-reaches : (first n : ℕ) (perm : Perm) → ReachedBy (Protect first n perm)
    protected-reaches first n perm =
        given-reaches _ _ (parent_counts machine state answers (Protect first n perm) refl refl).refused (omega arith)
        (changed-given out state (protect_of state.world.parent first n perm) (pages_protected first n (begun state answers))
        (subst (λ progress. AreGiven out progress.requests.deals)
        (sym ((protect-runs first n old.tables (sides_of state sound.stands.pages) sound.stands.tables).runs [] answers)) tt))

    copied-reaches : (n cell : ℕ) → ReachedBy (Copy n cell)
    copied-reaches n cell =
        let none : (event_end machine state answers (Copy n cell)).deals ≡ [] = no-deals old machine state sound.stands n cell answers in
        given-reaches _ _ ((copy_counts state answers n cell).refused ∙ sym (ap (count_after state.world.refused) none)) (omega arith) (subst (AreGiven out) (sym none) tt)

    dropped-reaches : (n : ℕ) → ReachedBy (Drop n)
    dropped-reaches n =
        given-reaches _ _ (parent_counts machine state answers (Drop n) refl refl).refused (omega arith)
        (elim (is_live state.world n) as (λ b.
        AreGiven out (cond b (parent_end state (dropped state.world n) Done (snapshot_dropped n (begun state answers))) (only_answers state NoSnap)).deals) [
          | true ↦ given-more out (held_frames state.leaves - held_frames (without_snapshot_at (snapshot_cells state.leaves n) n state.leaves)) [] tt
          | false ↦ tt
        ])

    -- whatever the event
    event-reaches : (event : Event) → IsWithinBounds event → ReachedBy event
    event-reaches (Map first n perm) within = mapped-reaches first n perm
    event-reaches (Unmap first n) within = unmapped-reaches first n
    event-reaches (Protect first n perm) within = protected-reaches first n perm
    event-reaches (Read address n) within = given-reaches _ _ refl (omega arith) tt
    event-reaches (Write address bytes) within = judged-reaches address (length bytes) (stored (touch_of state.world.parent address (length bytes)) address bytes)
    event-reaches (Fill address n byte) within =
        subst (λ size. TouchReaches address size (event_end machine state answers (Fill address n byte)))
        (length-replicate n byte)
        (judged-reaches address (length (replicate n byte)) (stored (touch_of state.world.parent address (length (replicate n byte))) address (replicate n byte)))
    event-reaches (Fork n mode) within =
        subst (λ mode. Reaches machine state notes.most (λ outcome. notes.most) (fork_end machine state answers n mode)) (sym (only-eager mode within.1)) (forked-reaches n)
    event-reaches (Copy n cell) within = copied-reaches n cell
    event-reaches (Drop n) within = dropped-reaches n
    event-reaches (SnapRead n address size) within = given-reaches _ _ refl (omega arith) tt
    event-reaches Frames within = given-reaches _ _ refl (omega arith) tt
    event-reaches ListAreas within = given-reaches _ _ refl (omega arith) tt
    event-reaches (Refuse nth) within = given-reaches _ _ refl (omega arith) tt

  -- an end that reaches so much keeps it so
  goes-on : (new : KernelParts) (later : KernelNotes) (most_then : Outcome → ℕ) (end : EventEnd) → Reaches machine state notes.most most_then end
      → later.most ≡ most_then end.outcome → later.enough ≡ notes.enough → new.supply.refused ≡ end.after.world.refused
      → ForSome notes.enough (λ enough. IsTrue old.supply.policies.is_empty)
      → (old.supply.pending ≡ None → IsTrue old.supply.policies.is_empty → AreOutAt machine.frames out end.deals) → HasReached old notes → HasReached new later
  goes-on new later most_then end reaches most same refused unasked all reached rose enough told =
      let mine : notes.enough ≡ Some enough = sym same ∙ told in
      let plain : (old.supply.pending ≡ None) × (enough + enough ≤ old.supply.made + 2) = holds.enough enough mine in
      let count : new.supply.refused ≡ count_after old.supply.refused end.deals =
      refused ∙ reaches.counted ∙ ap (λ count. count_after count end.deals) (sym sound.stands.supply.refused) in
      elim (denial-or-none end.deals) [
        | inl found ↦
            let spent : machine.frames + 1 ≤ most_then end.outcome + notes.most =
            reaches.spent found.front found.want found.at found.back found.split (all plain.0 (unasked enough mine) found.front found.want found.at found.back found.split) in
            omega (arith, spent, plain.1, most, reaches.grows, sound.stands.supply.frames)
        | inr none ↦
            let before : 0 < old.supply.refused = subst (λ count. 0 < count) (count ∙ none old.supply.refused) rose in
            let had : enough ≤ notes.most = reached before enough mine in
            omega (arith, had, most, reaches.grows)
      ]

-- behind an event that ran, as many frames as are enough have been wanted once a request was refused, where it was so before
pub has-reached-behind : (old new : KernelParts) (notes later : KernelNotes) (event : Event) (outcome : Outcome) → IsWithinBounds event → Ran old new event outcome
    → IsNoted old.tables event outcome new.tables new.supply.refused notes later → ForSome notes.enough (λ enough. IsTrue old.supply.policies.is_empty)
    → ∥ IsKernelNoted old notes ∥₁ → NotesHold old notes → HasReached old notes → HasReached new later
has-reached-behind old new notes later event outcome within ran noted unasked known holds reached =
    elim (enough-cases event notes.enough) [
      | inr untold ↦ λ rose enough told. absurd (false≢true (ap is_some (sym (noted.enough ∙ untold) ∙ told)))
      | inl same ↦ ∥∥₁_elim known (HasReached-prop new later) (λ it. behind it.0 it.1.0 it.1.1 (noted.enough ∙ same))
    ]
  where
    behind : (machine : Machine) (state : KernelState) → IsSound old notes machine state → later.enough ≡ notes.enough → HasReached new later
    behind machine state sound same =
        let follows : EventFollows old new machine state event outcome = ran machine state sound.stands in
        let end : EventEnd = event_end machine state (answers_of follows.deals) event in
        let led : HaveLed machine.frames old.supply.policies (event_requests state event follows.deals) new.supply.policies =
        follows.led old.supply.policies [] (no_request_has_led machine.frames old.supply.policies) in
        goes-on old notes machine state sound holds new later (λ outcome. most_behind old.tables event outcome notes.most) end
        (event-reaches old notes machine state sound holds (answers_of follows.deals) event within)
        (noted.most ∙ ap (λ outcome. most_behind old.tables event outcome notes.most) (sym follows.is_event.answers)) same
        (follows.stands.supply.refused ∙ ap (λ state. state.world.refused) (sym follows.is_event.leaves)) unasked
        (λ unnamed empty. subst (AreOutAt machine.frames (held_frames state.leaves)) (sym follows.is_event.deals_are)
        (answered-out machine.frames (asker_of event) state.named state.made (held_frames state.leaves) follows.deals
        (sym sound.stands.supply.pending ∙ unnamed) (led.answered.none empty)))
        reached

-- whatever a step answers, it is so behind it
pub reached-step : (old new : KernelParts) (before : PageTables) (refused : ℕ) (event : Event) {E : Type 0} (result : Result Outcome E) (notes later : KernelNotes)
    → before ≡ old.tables → refused ≡ new.supply.refused → IsWithinBounds event → IfOk result (Ran old new event) → OnErr result (new ≡ old)
    → IfOk result (λ outcome. IsNoted before event outcome new.tables refused notes later) → OnErr result (later ≡ notes)
    → ForSome notes.enough (λ enough. IsTrue old.supply.policies.is_empty) → ∥ IsKernelNoted old notes ∥₁ → NotesHold old notes → HasReached old notes → HasReached new later
reached-step old new before refused event (Ok outcome) notes later same count within ran kept noted left unasked known holds reached =
    has-reached-behind old new notes later event outcome within ran
    (subst (λ tables. IsNoted tables event outcome new.tables new.supply.refused notes later) same
    (subst (λ count. IsNoted before event outcome new.tables count notes later) count noted)) unasked known holds reached
reached-step old new before refused event (Err e) notes later same count within ran kept noted left unasked known holds reached =
    subst (λ it. HasReached new it) (sym left) (subst (λ it. HasReached it notes) (sym kept) reached)

-- ---- the calls of the parent as a memory

module _ (old new : KernelParts) (notes : KernelNotes) (known : ∥ IsKernelNoted old notes ∥₁) (holds : NotesHold old notes)
    (unasked : ForSome notes.enough (λ enough. IsTrue old.supply.policies.is_empty)) (reached : HasReached old notes) where
  -- what ran keeps it so, where each end of it reaches so much
  ran-reached : (later : KernelNotes) (outcome : Outcome) (most_then : Outcome → ℕ) (end : KernelState → Machine → List Answer → EventEnd)
      → ((machine : Machine) (state : KernelState) → IsSound old notes machine state → (answers : List Answer)
      → Reaches machine state notes.most most_then (end state machine answers))
      → ((machine : Machine) (state : KernelState) → KernelStands old machine state → EventRan old new machine (end state machine) outcome)
      → later.most ≡ most_then outcome → later.enough ≡ notes.enough → HasReached new later
  ran-reached later outcome most_then end reaches ran most same = ∥∥₁_elim known (HasReached-prop new later) (λ it. by it.0 it.1.0 it.1.1)
    where
      by : (machine : Machine) (state : KernelState) → IsSound old notes machine state → HasReached new later
      by machine state sound =
          let its : EventRan old new machine (end state machine) outcome = ran machine state sound.stands in
          goes-on old notes machine state sound holds new later most_then (end state machine (answers_of its.deals)) (reaches machine state sound (answers_of its.deals))
          (most ∙ ap (λ end. most_then end.outcome) (sym its.ends)) same (its.stands.supply.refused ∙ ap (λ end. end.after.world.refused) (sym its.ends)) unasked
          (λ unnamed empty. subst (AreOutAt machine.frames (held_frames state.leaves)) (sym (ap (λ end. end.deals) its.ends)) (λ front want at back split.
          ap (λ out. out_after out front) (sym sound.stands.supply.held)
          ∙ plain-spent old.supply new.supply its.deals (record { unnamed = unnamed; unasked = empty }) its.led front want at back split ∙ sound.stands.supply.frames))
          reached

  -- a touch keeps it so, where the most frames are noted
  pub touch-reached : (later : KernelNotes) (addr n : ℕ) (outcome : Outcome)
      → ((machine : Machine) (state : KernelState) → KernelStands old machine state
      → EventRan old new machine (λ answers. touch_judged machine state answers addr n (touch_of state.world.parent addr n)) outcome)
      → later.most ≡ most_answered old.tables addr n notes.most outcome → later.enough ≡ notes.enough → HasReached new later
  touch-reached later addr n outcome ran most same =
      ran-reached later outcome (λ outcome. most_answered old.tables addr n notes.most outcome)
      (λ state machine answers. touch_judged machine state answers addr n (touch_of state.world.parent addr n))
      (λ machine state sound answers. judged-reaches old notes machine state sound holds answers addr n (touch_of state.world.parent addr n)) ran most same

  -- so does a map
  pub map-reached : (first n : ℕ) (perm : Perm) (outcome : Outcome) → HasMapped old new first n perm outcome → HasReached new notes
  map-reached first n perm outcome ran =
      ran-reached notes outcome (λ outcome. notes.most) (λ state machine answers. mapped state answers first n perm)
      (λ machine state sound answers. mapped-reaches old notes machine state sound holds answers first n perm) ran refl refl

  -- an unmap
  pub unmap-reached : (first n : ℕ) (outcome : Outcome) → HasUnmapped old new first n outcome → HasReached new notes
  unmap-reached first n outcome ran =
      ran-reached notes outcome (λ outcome. notes.most)
      (λ state machine answers. areas_changed state (unmap_of state.world.parent first n) (pages_unmapped first n (begun state answers)))
      (λ machine state sound answers. unmapped-reaches old notes machine state sound holds answers first n) ran refl refl

  -- and another permission
  pub protect-reached : (first n : ℕ) (perm : Perm) (outcome : Outcome) → HasProtected old new first n perm outcome → HasReached new notes
  protect-reached first n perm outcome ran =
      ran-reached notes outcome (λ outcome. notes.most)
      (λ state machine answers. areas_changed state (protect_of state.world.parent first n perm) (pages_protected first n (begun state answers)))
      (λ machine state sound answers. protected-reaches old notes machine state sound holds answers first n perm) ran refl refl
