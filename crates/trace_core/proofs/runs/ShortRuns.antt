-- Short runs, worked out from the definitions.
use Rattle.std.proofs.Common.{◌≡◌, ℕ, true, List, [], ◌∷◌, ◌++◌, refl, ◌∙◌, ap}
use Rattle.std.specs.Prelude.{if◌then◌else◌, nat_le, is_some}
use Rattle.std.specs.Ordering.{nat_cmp}
use Rattle.std.specs.FinMap.{empty, len, len-empty, get-empty}
use Rattle.vm_base.specs.declared.permission.Perm.{Perm}
use Rattle.vm_base.specs.declared.permission.Perm.TheVariants as perm
use Rattle.vm_base.specs.declared.fork_mode.Mode.{Mode}
use Rattle.vm_base.specs.declared.fork_mode.Mode.TheVariants as mode
use Rattle.vm_base.specs.FlatMemory.{Area, FlatMemory}
use Rattle.vm_base.specs.TwoSides.{dropped}
use Rattle.vm_base.proofs.NumberedMaps.{get_inserted_here}
use Rattle.trace_events.specs.declared.event.Event.{Event}
use Rattle.trace_events.specs.declared.event.Event.TheVariants.{Map, Unmap, Protect, Read, Write, Fill, Fork, Copy, Drop, Frames, ListAreas, Refuse}
use Rattle.trace_events.specs.declared.outcome.Outcome.{Outcome}
use Rattle.trace_events.specs.declared.outcome.Outcome.TheVariants.{Done, Held, AreaRow, NoArea, NoWrite, Overlap, CellsFull, NoFrame, TooMany, NoSnap}
use Rattle.kernel_meaning.specs.RefusedRequests.{answers_from}
use Rattle.kernel_meaning.specs.EventRequests.{snapshot_forked, snapshot_copied, copy_end_at, snapshot_dropped}
use Rattle.trace_core.specs.KernelState.{Machine, KernelState, opening_state}
use Rattle.trace_core.specs.EventMeaning.{begun, only_answers, parent_end, fork_answered, is_live, with_progress, snapshot_counted, copy_outcome}
use Rattle.trace_core.specs.RunMeaning.{outcomes_by, state_by}

abbrev machine : ℕ → ℕ → Machine
machine frames slots = record { frames = frames; slots = slots; limit = 1 }

-- what events answer on a machine of so many frames, with 256 slots and one snapshot at a time, where these requests are refused
abbrev on : ℕ → List ℕ → List Event → List Outcome
on frames refused events = outcomes_by (machine frames 256) (opening_state 0) refused events

abbrev area : ℕ → ℕ → Perm → Area
area first pages perm = record { first = first; pages = pages; perm = perm }

-- ---- the parent alone

-- pages that may only be read, or that no area has; an area that is split, and one again
areas_split_and_joined : on 64 [] (Map 0x100 3 perm.ReadWrite ∷ Protect 0x101 1 perm.Read ∷ ListAreas ∷ Write 0x100000 (97 ∷ []) ∷ Write 0x101000 (97 ∷ []) ∷ Write 0x102000 (97 ∷ []) ∷ Protect 0x101 1 perm.ReadWrite ∷ ListAreas ∷ Frames ∷ [])
    ≡ Done ∷ Done ∷ AreaRow (area 0x100 1 perm.ReadWrite ∷ area 0x101 1 perm.Read ∷ area 0x102 1 perm.ReadWrite ∷ []) ∷ Done ∷ NoWrite 0x101 ∷ Done ∷ Done ∷ AreaRow (area 0x100 3 perm.ReadWrite ∷ []) ∷ Held 6 58 ∷ []
areas_split_and_joined = refl

-- the lowest page concerned is named, and NoArea stands before NoWrite
order_of_refusals : on 64 [] (Map 0x100 1 perm.ReadWrite ∷ Map 0x101 1 perm.Read ∷ Write 0x300000 (97 ∷ []) ∷ Write 0x101000 (97 ∷ []) ∷ Write 0x100fff (97 ∷ 98 ∷ []) ∷ Write 0x101fff (97 ∷ 98 ∷ []) ∷ Unmap 0x101 1 ∷ Write 0x100fff (97 ∷ 98 ∷ []) ∷ Map 0xff 3 perm.Read ∷ Frames ∷ [])
    ≡ Done ∷ Done ∷ NoArea 0x300 ∷ NoWrite 0x101 ∷ NoWrite 0x101 ∷ NoArea 0x102 ∷ Done ∷ NoArea 0x101 ∷ Overlap 0x100 ∷ Held 0 64 ∷ []
order_of_refusals = refl

-- a page of each of two cells: three directory tables serve both
a_write_across_cells : on 64 [] (Map 0x1ff 2 perm.ReadWrite ∷ Write 0x1fffff (97 ∷ 98 ∷ []) ∷ Frames ∷ Unmap 0x1ff 1 ∷ Frames ∷ Unmap 0x200 1 ∷ Frames ∷ [])
    ≡ Done ∷ Done ∷ Held 7 57 ∷ Done ∷ Held 5 59 ∷ Done ∷ Held 0 64 ∷ []
a_write_across_cells = refl

the_last_page : on 8 [] (Map 0xfffffffff 1 perm.ReadWrite ∷ Write 0xffffffffffff (122 ∷ []) ∷ Frames ∷ []) ≡ Done ∷ Done ∷ Held 5 3 ∷ []
the_last_page = refl

-- five frames are enough for one page, and not for two: the sixth request is refused, and all that was taken goes back
a_touch_taken_back : on 5 (6 ∷ []) (Map 0x100 2 perm.ReadWrite ∷ Fill 0x100fff 2 97 ∷ Frames ∷ Fill 0x100fff 1 97 ∷ Frames ∷ [])
    ≡ Done ∷ NoFrame 1 ∷ Held 0 5 ∷ Done ∷ Held 5 0 ∷ []
a_touch_taken_back = refl

-- one slot: the second cell has none, and the whole range is looked at before anything is asked for
one_slot : outcomes_by (machine 64 1) (opening_state 0) [] (Map 0 1024 perm.ReadWrite ∷ Write 0x1fffff (97 ∷ []) ∷ Write 0x200000 (97 ∷ []) ∷ Fill 0x1fffff 2 98 ∷ Map 1 1 perm.Read ∷ Frames ∷ [])
    ≡ Done ∷ Done ∷ CellsFull ∷ CellsFull ∷ Overlap 1 ∷ Held 5 59 ∷ []
one_slot = refl

-- a refuse line counts the requests that follow: the second one from here on is the seventh of the run, and it makes the last write's touch fail
a_named_request : on 64 (7 ∷ []) (Map 0x100 1 perm.ReadWrite ∷ Write 0x100000 (97 ∷ []) ∷ Refuse 2 ∷ Write 0x100000 (97 ∷ []) ∷ Map 0x200 1 perm.ReadWrite ∷ Write 0x200000 (97 ∷ []) ∷ Frames ∷ [])
    ≡ Done ∷ Done ∷ Done ∷ Done ∷ Done ∷ NoFrame 1 ∷ Held 5 59 ∷ []
a_named_request = refl

-- a range without a present page is no change of a cell, and takes nothing
absent_pages : on 64 (1 ∷ []) (Map 0x100 4 perm.ReadWrite ∷ Protect 0x100 4 perm.Read ∷ Unmap 0x100 1 ∷ Read 0x100000 1 ∷ Frames ∷ []) ≡ Done ∷ Done ∷ Done ∷ NoArea 0x100 ∷ Held 0 64 ∷ []
absent_pages = refl

-- ---- a snapshot beside it

-- a fork where no snapshot lives
first_fork : (frames : ℕ) (state : KernelState) (refused : List ℕ) (n : ℕ) (how : Mode) (events : List Event) → len state.world.snapshots ≡ 0
    → let progress = snapshot_forked n how (begun state (answers_from refused state.made state.world.refused)) in
    let end = fork_answered state n progress.refused progress in
    outcomes_by (machine frames 256) state refused (Fork n how ∷ events) ≡ end.outcome ∷ outcomes_by (machine frames 256) end.after refused events
first_fork frames state refused n how events none =
    let progress = snapshot_forked n how (begun state (answers_from refused state.made state.world.refused)) in
    ap (λ live.
    let end = if nat_le 1 live then only_answers state TooMany else fork_answered state n progress.refused progress in
    end.outcome ∷ outcomes_by (machine frames 256) end.after refused events) none

-- the drop of a snapshot that lives
live_dropped : (frames : ℕ) (state : KernelState) (refused : List ℕ) (n : ℕ) (events : List Event) → is_live state.world n ≡ true
    → let progress = snapshot_dropped n (begun state (answers_from refused state.made state.world.refused)) in
    let end = parent_end state (dropped state.world n) Done progress in
    outcomes_by (machine frames 256) state refused (Drop n ∷ events) ≡ end.outcome ∷ outcomes_by (machine frames 256) end.after refused events
live_dropped frames state refused n events lives =
    let progress = snapshot_dropped n (begun state (answers_from refused state.made state.world.refused)) in
    ap (λ live.
    let end = if live then parent_end state (dropped state.world n) Done progress else only_answers state NoSnap in
    end.outcome ∷ outcomes_by (machine frames 256) end.after refused events) lives

-- a page is written, and the parent forks
abbrev one_page : List Event
one_page = Map 0x100 2 perm.ReadWrite ∷ Write 0x100000 (97 ∷ 98 ∷ []) ∷ []

abbrev before_fork : ℕ → List ℕ → KernelState
before_fork frames refused = state_by (machine frames 256) (opening_state 0) refused one_page

-- the fork takes a directory and a leaf, and the write behind it a copy of the page
a_fork_and_a_write : on 64 [] (one_page ++ Fork 1 mode.Eager ∷ Frames ∷ Write 0x100000 (122 ∷ []) ∷ Frames ∷ []) ≡ Done ∷ Done ∷ Done ∷ Held 9 55 ∷ Done ∷ Held 10 54 ∷ []
a_fork_and_a_write = ap (λ outcomes. Done ∷ Done ∷ outcomes) (first_fork 64 (before_fork 64 []) [] 1 mode.Eager (Frames ∷ Write 0x100000 (122 ∷ []) ∷ Frames ∷ []) (len-empty nat_cmp FlatMemory))

-- the copy of the page is refused, which a line names: the snapshot has lost the cell, and its leaf is free at once
a_loss : on 64 (10 ∷ []) (one_page ++ Fork 1 mode.Eager ∷ Refuse 1 ∷ Write 0x100000 (122 ∷ []) ∷ Frames ∷ []) ≡ Done ∷ Done ∷ Done ∷ Done ∷ Done ∷ Held 8 56 ∷ []
a_loss = ap (λ outcomes. Done ∷ Done ∷ outcomes) (first_fork 64 (before_fork 64 (10 ∷ [])) (10 ∷ []) 1 mode.Eager (Refuse 1 ∷ Write 0x100000 (122 ∷ []) ∷ Frames ∷ []) (len-empty nat_cmp FlatMemory))

-- nine frames hold a page and its fork, and no page more: the touch is refused, and what the fork took stays
a_full_machine : on 9 (10 ∷ []) (one_page ++ Fork 1 mode.Eager ∷ Frames ∷ Write 0x101000 (98 ∷ []) ∷ Frames ∷ []) ≡ Done ∷ Done ∷ Done ∷ Held 9 0 ∷ NoFrame 1 ∷ Held 9 0 ∷ []
a_full_machine = ap (λ outcomes. Done ∷ Done ∷ outcomes) (first_fork 9 (before_fork 9 (10 ∷ [])) (10 ∷ []) 1 mode.Eager (Frames ∷ Write 0x101000 (98 ∷ []) ∷ Frames ∷ []) (len-empty nat_cmp FlatMemory))

-- eight frames hold no fork: its last request is refused, and nothing of it stays
a_refused_fork : on 8 (9 ∷ []) (one_page ++ Fork 1 mode.Eager ∷ Frames ∷ []) ≡ Done ∷ Done ∷ NoFrame 1 ∷ Held 5 3 ∷ []
a_refused_fork = ap (λ outcomes. Done ∷ Done ∷ outcomes) (first_fork 8 (before_fork 8 (9 ∷ [])) (9 ∷ []) 1 mode.Eager (Frames ∷ []) (len-empty nat_cmp FlatMemory))

-- a fork of a parent without pages takes no frame
an_empty_fork : on 8 [] (Map 0x100 1 perm.ReadWrite ∷ Fork 1 mode.Eager ∷ Frames ∷ []) ≡ Done ∷ Done ∷ Held 0 8 ∷ []
an_empty_fork = ap (λ outcomes. Done ∷ outcomes)
    (first_fork 8 (state_by (machine 8 256) (opening_state 0) [] (Map 0x100 1 perm.ReadWrite ∷ [])) [] 1 mode.Eager (Frames ∷ []) (len-empty nat_cmp FlatMemory))

-- with the drop the snapshot's directory, its leaf and the page that it alone names go back
abbrev forked_state : KernelState
forked_state =
    let progress = snapshot_forked 1 mode.Eager (begun (before_fork 64 []) []) in
    (fork_answered (before_fork 64 []) 1 progress.refused progress).after

abbrev before_drop : KernelState
before_drop = state_by (machine 64 256) forked_state [] (Write 0x100000 (122 ∷ []) ∷ [])

lives : is_live before_drop.world 1 ≡ true
lives = ap is_some (get_inserted_here empty 1 (before_fork 64 []).world.parent 1 refl)

a_drop : on 64 [] (one_page ++ Fork 1 mode.Eager ∷ Write 0x100000 (122 ∷ []) ∷ Drop 1 ∷ Frames ∷ []) ≡ Done ∷ Done ∷ Done ∷ Done ∷ Done ∷ Held 5 59 ∷ []
a_drop = ap (λ outcomes. Done ∷ Done ∷ outcomes) (first_fork 64 (before_fork 64 []) [] 1 mode.Eager (Write 0x100000 (122 ∷ []) ∷ Drop 1 ∷ Frames ∷ []) (len-empty nat_cmp FlatMemory))
    ∙ ap (λ outcomes. Done ∷ Done ∷ Done ∷ Done ∷ outcomes) (live_dropped 64 before_drop [] 1 (Frames ∷ []) lives)

-- where no snapshot of that number lives, nothing is asked for
no_snapshot : on 64 [] (Copy 1 0 ∷ Frames ∷ []) ≡ NoSnap ∷ Held 0 64 ∷ []
no_snapshot =
    let state = opening_state 0 in
    let progress = snapshot_copied 1 0 (begun state []) in
    ap (λ live.
    let end = if live then record {
      outcome = copy_outcome (copy_end_at 1 0 (begun state []));
      deals = progress.requests.deals;
      after = with_progress state (snapshot_counted state.world 1 progress.requests.deals) progress;
    } else only_answers state NoSnap in
    end.outcome ∷ outcomes_by (machine 64 256) end.after [] (Frames ∷ [])) (ap is_some (get-empty nat_cmp 1))
