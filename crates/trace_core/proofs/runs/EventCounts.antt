-- What an event counts: the requests of its deals, and those of them that were refused.
use Rattle.std.proofs.Common.{◌≡◌, ℕ, arith, Bool, true, false, List, Option, refl, sym, ap}
use Rattle.std.specs.Prelude.{Some, None, Ok, Err, Result, if◌then◌else◌, nat_le, replicate, length, unwrap_or}
use Rattle.std.specs.FinMap.{len}
use Rattle.vm_base.specs.declared.fork_mode.Mode.{Mode}
use Rattle.vm_base.specs.declared.frame_request.Asker.{Asker}
use Rattle.vm_base.specs.declared.frame_request.Asker.TheVariants.{Parent, Snapshot}
use Rattle.vm_base.specs.Places.{page_of, page_count, cells_of_range}
use Rattle.vm_base.specs.FlatMemory.{FlatMemory}
use Rattle.vm_base.specs.FlatStep.{Refusal, read_of, touch_of, stored, map_of, unmap_of, protect_of}
use Rattle.vm_base.specs.TwoSides.{World, with_parent, forked, dropped, snap_read_of}
use Rattle.vm_base.proofs.NumberedMaps.{get_inserted_here}
use Rattle.kernel_meaning.specs.Requests.{Answer}
use Rattle.kernel_meaning.specs.FrameLaw.{lacks_slots}
use Rattle.kernel_meaning.specs.EventRequests.{Progress, FrameRefusal, pages_touched, snapshot_forked, copy_end_at, snapshot_copied, snapshot_dropped, pages_unmapped, pages_protected}
use Rattle.kernel_meaning.specs.RefusedRequests.{count_after}
use Rattle.trace_events.specs.declared.event.Event.{Event}
use Rattle.trace_events.specs.declared.event.Event.TheVariants.{Map, Unmap, Protect, Read, Write, Fill, Fork, Copy, Drop, SnapRead, Frames, ListAreas, Refuse}
use Rattle.trace_events.specs.declared.outcome.Outcome.{Outcome}
use Rattle.trace_events.specs.declared.outcome.Outcome.TheVariants.{Done, AreaRow, NoFrame, CellsFull, TooMany, NoSnap}
use Rattle.trace_core.specs.KernelState.{Machine, KernelState}
use Rattle.trace_core.specs.EventMeaning.{EventEnd, begun, with_progress, snapshot_counted, refusal_outcome, read_outcome, snap_read_outcome, copy_outcome, frames_told, only_answers, parent_end, areas_changed, touch_answered, touch_judged, is_live, fork_answered, fork_end, copies_refused, copy_end_of, drop_end, event_end, asker_of}
use Rattle.trace_core.specs.Answering.{made_after}
use Rattle.trace_core.proofs.runs.Tallies.{Over, tally-pages_touched, tally-forked, tally-copied, tally-dropped, tally-unmapped, tally-protect}

-- an end of an event of the parent: the state has counted its deals, and keeps the request that was named
pub record HasCounted (state : KernelState) (end : EventEnd) : Type 0 where
  pub made : end.after.made ≡ made_after state.made end.deals
  pub refused : end.after.world.refused ≡ count_after state.world.refused end.deals
  pub named : end.after.named ≡ state.named

counted-only : (state : KernelState) (outcome : Outcome) → HasCounted state (only_answers state outcome)
counted-only state outcome = record { made = refl; refused = refl; named = refl }

counted-parent : (state : KernelState) (world : World) (outcome : Outcome) (progress : Progress) → world.refused ≡ state.world.refused → Over state.made progress → HasCounted state (parent_end state world outcome progress)
counted-parent state world outcome progress same tally =
    record { made = tally; refused = ap (λ count. count_after count progress.requests.deals) same; named = refl }

choose : (state : KernelState) (b : Bool) (x y : EventEnd) → HasCounted state x → HasCounted state y → HasCounted state (if b then x else y)
choose state true x y this that = this
choose state false x y this that = that

counted-areas : (state : KernelState) (answer : Result FlatMemory Refusal) (progress : Progress) → Over state.made progress → HasCounted state (areas_changed state answer progress)
counted-areas state (Ok memory) progress tally = counted-parent state (with_parent state.world memory) Done progress refl tally
counted-areas state (Err refusal) progress tally = counted-only state (refusal_outcome refusal)

counted-touch_answered : (state : KernelState) (memory : FlatMemory) (refused : Option FrameRefusal) (progress : Progress) → Over state.made progress → HasCounted state (touch_answered state memory refused progress)
counted-touch_answered state memory None progress tally = counted-parent state (with_parent state.world memory) Done progress refl tally
counted-touch_answered state memory (Some refusal) progress tally = counted-parent state state.world (NoFrame refusal.at) progress refl tally

pub counted-touch : (machine : Machine) (state : KernelState) (answers : List Answer) (address n : ℕ) (answer : Result FlatMemory Refusal) → HasCounted state (touch_judged machine state answers address n answer)
counted-touch machine state answers address n (Ok memory) =
    let progress = pages_touched (page_of address) (page_count address n) (begun state answers) in
    choose state (lacks_slots machine.slots state.leaves (cells_of_range address n)) (only_answers state CellsFull) (touch_answered state memory progress.refused progress)
    (counted-only state CellsFull)
    (counted-touch_answered state memory progress.refused progress (tally-pages_touched state.made (page_of address) (page_count address n) (begun state answers) refl))
counted-touch machine state answers address n (Err refusal) = counted-only state (refusal_outcome refusal)

counted-fork_answered : (state : KernelState) (n : ℕ) (refused : Option FrameRefusal) (progress : Progress) → Over state.made progress → HasCounted state (fork_answered state n refused progress)
counted-fork_answered state n None progress tally = counted-parent state (forked state.world n) Done progress refl tally
counted-fork_answered state n (Some refusal) progress tally = counted-parent state state.world (NoFrame refusal.at) progress refl tally

counted-fork : (machine : Machine) (state : KernelState) (answers : List Answer) (n : ℕ) (mode : Mode) → HasCounted state (fork_end machine state answers n mode)
counted-fork machine state answers n mode =
    let progress = snapshot_forked n mode (begun state answers) in
    choose state (nat_le machine.limit (len state.world.snapshots)) (only_answers state TooMany) (fork_answered state n progress.refused progress)
    (counted-only state TooMany)
    (counted-fork_answered state n progress.refused progress (tally-forked state.made n mode (begun state answers) refl))

counted-drop : (state : KernelState) (answers : List Answer) (n : ℕ) → HasCounted state (drop_end state answers n)
counted-drop state answers n =
    let progress = snapshot_dropped n (begun state answers) in
    choose state (is_live state.world n) (parent_end state (dropped state.world n) Done progress) (only_answers state NoSnap)
    (counted-parent state (dropped state.world n) Done progress refl (tally-dropped state.made n (begun state answers) refl))
    (counted-only state NoSnap)

-- a refuse line names a request
abbrev pub is_refuse : Event → Bool
is_refuse (Map first n perm) = false
is_refuse (Unmap first n) = false
is_refuse (Protect first n perm) = false
is_refuse (Read address n) = false
is_refuse (Write address bytes) = false
is_refuse (Fill address n byte) = false
is_refuse (Fork n mode) = false
is_refuse (Copy n cell) = false
is_refuse (Drop n) = false
is_refuse (SnapRead n address len) = false
is_refuse Frames = false
is_refuse ListAreas = false
is_refuse (Refuse nth) = true

no_true : {X : Type 0} → true ≡ false → X
no_true is = absurd (grind arith)

abbrev is_parent : Asker → Bool
is_parent Parent = true
is_parent (Snapshot n) = false

no_snapshot_is_parent : (n : ℕ) → Snapshot n ≡ Parent → ⊥
no_snapshot_is_parent n same = no_true (sym (ap is_parent same))

-- each event of the parent but a refuse line
pub parent_counts : (machine : Machine) (state : KernelState) (answers : List Answer) (event : Event) → asker_of event ≡ Parent → is_refuse event ≡ false → HasCounted state (event_end machine state answers event)
parent_counts machine state answers (Map first n perm) parents plain = counted-areas state (map_of state.world.parent first n perm) (begun state answers) refl
parent_counts machine state answers (Unmap first n) parents plain = counted-areas state (unmap_of state.world.parent first n) (pages_unmapped first n (begun state answers)) (tally-unmapped state.made first n (begun state answers) refl)
parent_counts machine state answers (Protect first n perm) parents plain = counted-areas state (protect_of state.world.parent first n perm) (pages_protected first n (begun state answers)) (tally-protect state.made first n (begun state answers) refl)
parent_counts machine state answers (Read address n) parents plain = counted-only state (read_outcome (read_of state.world.parent address n))
parent_counts machine state answers (Write address bytes) parents plain = counted-touch machine state answers address (length bytes) (stored (touch_of state.world.parent address (length bytes)) address bytes)
parent_counts machine state answers (Fill address n byte) parents plain =
    counted-touch machine state answers address (length (replicate n byte)) (stored (touch_of state.world.parent address (length (replicate n byte))) address (replicate n byte))
parent_counts machine state answers (Fork n mode) parents plain = counted-fork machine state answers n mode
parent_counts machine state answers (Copy n cell) parents plain = absurd (no_snapshot_is_parent n parents)
parent_counts machine state answers (Drop n) parents plain = counted-drop state answers n
parent_counts machine state answers (SnapRead n address len) parents plain = counted-only state (snap_read_outcome (snap_read_of state.world n address len))
parent_counts machine state answers Frames parents plain = counted-only state (frames_told machine state.leaves)
parent_counts machine state answers ListAreas parents plain = counted-only state (AreaRow state.world.parent.areas)
parent_counts machine state answers (Refuse nth) parents plain = no_true plain

-- a copy: the state has counted its deals, and the snapshot those that were refused
pub record HasCopied (state : KernelState) (n : ℕ) (end : EventEnd) : Type 0 where
  pub made : end.after.made ≡ made_after state.made end.deals
  pub refused : end.after.world.refused ≡ state.world.refused
  pub copies : copies_refused end.after.world n ≡ count_after (copies_refused state.world n) end.deals
  pub named : end.after.named ≡ state.named

pub copy_counts : (state : KernelState) (answers : List Answer) (n cell : ℕ) → HasCopied state n (copy_end_of state answers n cell)
copy_counts state answers n cell = by (is_live state.world n)
  where
    progress : Progress
    progress = snapshot_copied n cell (begun state answers)

    end : EventEnd
    end = record {
      outcome = copy_outcome (copy_end_at n cell (begun state answers));
      deals = progress.requests.deals;
      after = with_progress state (snapshot_counted state.world n progress.requests.deals) progress;
    }

    by : (live : Bool) → HasCopied state n (if live then end else only_answers state NoSnap)
    by true = record {
      made = tally-copied state.made n cell (begun state answers) refl;
      refused = refl;
      copies = ap (λ found. unwrap_or found 0) (get_inserted_here state.world.refused_copies n _ n refl);
      named = refl;
    }
    by false = record { made = refl; refused = refl; copies = refl; named = refl }
