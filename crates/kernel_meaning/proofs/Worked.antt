-- Small cases of the definitions, worked out.
use Rattle.std.proofs.Common.{◌≡◌, ℕ, List, [], ◌∷◌, ◌++◌, map, replicate, take, inl, inr, lit<, lit≤, refl, sym, arith}
use mathlib.Core.Bool.{true≢false}
use Rattle.std.specs.Prelude.{Option, Some, None, true, false}
use Rattle.vm_base.specs.declared.fork_mode.Mode.{Mode}
use Rattle.vm_base.specs.declared.fork_mode.Mode.TheVariants.{Eager, OnDemand, Async}
use Rattle.vm_base.specs.declared.frame_request.Want.TheVariants as want
use Rattle.vm_base.specs.declared.frame_request.Asker.TheVariants.{Parent}
use Rattle.vm_base.specs.Deals.{Granted, Denied, Returned}
use Rattle.vm_base.specs.TwoSides.{Loss}
use Rattle.kernel_meaning.specs.Requests.{Answer, Yes, No, opening_requests, answers_of}
use Rattle.kernel_meaning.specs.Leaves.{Leaf, Own, Lost, CellLeaves, unused_cell, version_at, share}
use Rattle.kernel_meaning.specs.CellActs.{Course, opening_course, course_touched, cleared, protected, course_forked, copied, dropped, unmarked, Copied, NothingToCopy, FoundLost, CopyRefused, copy_end}
use Rattle.kernel_meaning.specs.FrameLaw.{Leaves, held_frames, losses_of, lacks_slots}
use Rattle.kernel_meaning.specs.EventRequests.{Progress, opening_progress, pages_touched, snapshot_forked, snapshot_copied, snapshot_dropped, pages_unmapped, pages_protected}
use Rattle.kernel_meaning.specs.RefusedRequests.{answers_from, refused_numbers, requests_of, out_after, is_forced}
use Rattle.kernel_meaning.specs.CellAccount.{CellAct, CellEntry, Touch, Store, Clear, Protect, Fork, Copy, Unmark, Drop, account_of, account_share, entry_course, seat_of, AllowsAct, HasOwnSeat, MayStandBehind, AreEntries}
use Rattle.vm_base.specs.declared.permission.Perm.TheVariants.{Read}
use Rattle.kernel_meaning.specs.PoolAccount.{PoolAct, PoolEntry, Take, Give, Allow, Parted, Reaped, Lent, NoneFree, DeniedBy, pool_account_of, frames_out, load, ArePoolEntries}

-- ---- one cell, act after act

-- an act on a cell behind so many requests, with these answers
abbrev on : CellLeaves → ℕ → List Answer → Course
on cell made answers = opening_course cell (opening_requests made answers)

-- a page that was never touched: the parent's leaf, and the page
abbrev one_page : Course
one_page = course_touched 0 (on unused_cell 0 [])

a_first_touch : (one_page.requests.deals ≡ Granted want.Leaf ∷ Granted want.Page ∷ []) × (share one_page.cell ≡ 2) × (version_at one_page.cell.parent 0 ≡ Some 2)
a_first_touch = (refl, refl, refl)

-- where the page is refused, the leaf that was taken for it goes back
a_refused_touch : ((course_touched 0 (on unused_cell 0 (Yes ∷ No 1 ∷ []))).requests.deals ≡ Granted want.Leaf ∷ Denied want.Page 1 ∷ Returned ∷ []) × ((course_touched 0 (on unused_cell 0 (Yes ∷ No 1 ∷ []))).cell ≡ unused_cell)
a_refused_touch = (refl, refl)

-- a page that no snapshot names takes no frame when it is touched again
a_touch_in_place : (course_touched 0 one_page).requests.deals ≡ one_page.requests.deals
a_touch_in_place = refl

-- an eager fork takes a leaf, and the first write behind it a copy of the page
abbrev eager_fork : Course
eager_fork = course_forked 1 Eager one_page

an_eager_fork_and_a_write : (share eager_fork.cell ≡ 3) × (share (course_touched 0 eager_fork).cell ≡ 4) × (share (dropped 1 (course_touched 0 eager_fork)).cell ≡ 2) × (version_at (course_touched 0 eager_fork).cell.parent 0 ≡ Some 4)
an_eager_fork_and_a_write = (refl, refl, refl, refl)

-- the copy is due once: the snapshot names the old version, and no one the new
no_second_copy : (course_touched 0 (course_touched 0 eager_fork)).cell ≡ (course_touched 0 eager_fork).cell
no_second_copy = refl

-- any other fork takes nothing; a page that was absent costs the copy of the leaf, and that stays where the page is refused
abbrev lazy_fork : Mode → Course
lazy_fork mode = course_forked 1 mode (on one_page.cell 2 (Yes ∷ No 1 ∷ []))

a_copied_leaf_stays : (share (lazy_fork OnDemand).cell ≡ 2) × ((course_touched 5 (lazy_fork OnDemand)).requests.deals ≡ Granted want.Leaf ∷ Denied want.Page 1 ∷ []) × (share (course_touched 5 (lazy_fork OnDemand)).cell ≡ 3) × ((course_touched 5 (lazy_fork OnDemand)).refused ≡ Some 1)
a_copied_leaf_stays = (refl, refl, refl, refl)

-- a child copies what is marked, and nothing else
a_marked_leaf_is_copied : (copy_end 1 (lazy_fork Async) ≡ Copied) × (share (copied 1 (lazy_fork Async)).cell ≡ 3) × (copy_end 1 (copied 1 (lazy_fork Async)) ≡ NothingToCopy) × (copy_end 1 (lazy_fork OnDemand) ≡ NothingToCopy) × (copy_end 2 (lazy_fork Async) ≡ NothingToCopy)
a_marked_leaf_is_copied = (refl, refl, refl, refl, refl)

-- a refused copy of the child leaves the mark; a refused copy of the parent loses the cell
abbrev refused_fork : Course
refused_fork = course_forked 1 Async (on one_page.cell 2 (No 3 ∷ []))

refused_copies : (copy_end 1 refused_fork ≡ CopyRefused 3) × ((copied 1 refused_fork).cell ≡ refused_fork.cell) × (copy_end 1 (course_touched 0 refused_fork) ≡ FoundLost 3) × ((course_touched 0 refused_fork).refused ≡ None) × (share (course_touched 0 refused_fork).cell ≡ 2)
refused_copies = (refl, refl, refl, refl, refl)

-- the copies of a change: on-demand forks first, then async forks, each in rising order of numbers
abbrev three_forks : Course
three_forks = course_forked 7 OnDemand (course_forked 5 Async (course_forked 3 OnDemand (on one_page.cell 2 (No 1 ∷ No 2 ∷ No 3 ∷ []))))

-- the leaf of each snapshot there
abbrev leaves_of : Course → List Leaf
leaves_of course = map (λ kept. kept.leaf) course.cell.kept

order_of_copies : leaves_of (course_touched 0 three_forks) ≡ Lost 1 ∷ Lost 3 ∷ Lost 2 ∷ []
order_of_copies = refl

-- one refused copy of a page loses every snapshot whose own leaf names the version, and what they alone named is free at once
abbrev two_forks : Course
two_forks = course_forked 2 Eager (course_forked 1 Eager (on one_page.cell 2 (Yes ∷ Yes ∷ No 1 ∷ [])))

two_losses : (leaves_of (course_touched 0 two_forks) ≡ Lost 1 ∷ Lost 1 ∷ []) × ((course_touched 0 two_forks).requests.deals ≡ Granted want.Leaf ∷ Granted want.Leaf ∷ Denied want.Page 1 ∷ Returned ∷ Returned ∷ []) × (share (course_touched 0 two_forks).cell ≡ 2)
two_losses = (refl, refl, refl)

-- a range without a present page is no change; the last page of a cell takes the leaf with it, and the snapshot keeps the page
clears : ((cleared 1 511 (lazy_fork Async)).cell ≡ (lazy_fork Async).cell) × ((protected 1 511 (lazy_fork Async)).cell ≡ (lazy_fork Async).cell) × (leaves_of (protected 0 2 (lazy_fork Async)) ≡ Own ∷ []) × ((cleared 0 1 (lazy_fork Async)).requests.deals ≡ Granted want.Leaf ∷ Returned ∷ []) × (share (cleared 0 1 (lazy_fork Async)).cell ≡ 2)
clears = (refl, refl, refl, refl, refl)

-- a mark that is taken away leaves what was there before the fork
a_mark_taken_away : (unmarked 1 (lazy_fork Async)).cell ≡ one_page.cell
a_mark_taken_away = refl

-- ---- events, over all cells

-- an event behind so many requests, with these answers
abbrev begun : Leaves → ℕ → List Answer → Progress
begun leaves made answers = opening_progress leaves (opening_requests made answers)

-- a write to page 256, where nothing was present
abbrev written : List Answer → Progress
written answers = pages_touched 256 1 (begun [] 0 answers)

the_tables_of_a_walk : (written []).requests.deals ≡ Granted want.Top ∷ Granted want.Upper ∷ Granted want.Middle ∷ Granted want.Leaf ∷ Granted want.Page ∷ []
the_tables_of_a_walk = refl

held_after_a_write : held_frames (written []).leaves ≡ 5
held_after_a_write = refl

-- a fork, the parent's write behind it, and the drop
abbrev fork_write_drop : Mode → List Answer → List ℕ
fork_write_drop mode answers =
    let forked = snapshot_forked 1 mode (written answers) in
    let written = pages_touched 256 1 forked in
    held_frames forked.leaves ∷ held_frames written.leaves ∷ held_frames (snapshot_dropped 1 written).leaves ∷ []

eager_counts : fork_write_drop Eager [] ≡ 9 ∷ 10 ∷ 5 ∷ []
eager_counts = refl

on_demand_counts : fork_write_drop OnDemand [] ≡ 8 ∷ 10 ∷ 5 ∷ []
on_demand_counts = refl

-- the copy of the page is refused, which is request 10 in eager mode: the snapshot has lost the cell
eager_counts_at_a_loss : fork_write_drop Eager (answers_from (10 ∷ []) 0 0) ≡ 9 ∷ 8 ∷ 5 ∷ []
eager_counts_at_a_loss = refl

-- a touch of many pages that the machine can't hold takes nothing: 8 frames, of which 3 and 1 and 4 are taken before the fifth page is refused
a_touch_taken_back : (held_frames (pages_touched 256 5 (begun [] 0 (answers_from (9 ∷ []) 0 0))).leaves ≡ 0) × ((pages_touched 256 5 (begun [] 0 (answers_from (9 ∷ []) 0 0))).leaves ≡ []) × ((pages_touched 256 5 (begun [] 0 (answers_from (9 ∷ []) 0 0))).refused ≡ Some (record { at = 1; page = Some 260 }))
a_touch_taken_back = (refl, refl, refl)

-- a range across two cells: the second has its leaf, but no table of the directory
two_cells : held_frames (pages_touched 511 2 (begun [] 0 [])).leaves ≡ 7
two_cells = refl

-- a refused fork leaves nothing behind, whichever of its requests it is
a_refused_fork : ((snapshot_forked 1 Async (written (answers_from (8 ∷ []) 0 0))).leaves ≡ (written []).leaves) × (out_after 0 (snapshot_forked 1 Async (written (answers_from (8 ∷ []) 0 0))).requests.deals ≡ 5) × (refused_numbers 0 (snapshot_forked 1 Async (written (answers_from (8 ∷ []) 0 0))).requests.deals ≡ 8 ∷ [])
a_refused_fork = (refl, refl, refl)

-- an async fork; the page is pages_unmapped, and mapped and written anew
abbrev unmapped_and_written : Progress
unmapped_and_written = pages_touched 256 1 (pages_unmapped 256 1 (snapshot_forked 1 Async (written [])))

an_unmap_keeps_the_snapshot : (held_frames (pages_unmapped 256 1 (snapshot_forked 1 Async (written []))).leaves ≡ 5) × (held_frames unmapped_and_written.leaves ≡ 10) × (held_frames (pages_protected 256 1 (snapshot_forked 1 Async (written []))).leaves ≡ 9)
an_unmap_keeps_the_snapshot = (refl, refl, refl)

-- the child's copy, and the write behind it
copied_and_written : (held_frames (snapshot_copied 1 0 (snapshot_forked 1 Async (written []))).leaves ≡ 9) × (held_frames (pages_touched 256 1 (snapshot_copied 1 0 (snapshot_forked 1 Async (written [])))).leaves ≡ 10)
copied_and_written = (refl, refl)

-- two forks with a write between them: each has its own version, and the parent a third
abbrev two_async_forks : Progress
two_async_forks = snapshot_forked 2 Async (pages_touched 256 1 (snapshot_forked 1 Async (written [])))

two_snapshots : (held_frames two_async_forks.leaves ≡ 13) × (held_frames (pages_touched 256 1 two_async_forks).leaves ≡ 15) × (held_frames (snapshot_dropped 1 (pages_touched 256 1 two_async_forks)).leaves ≡ 10) × (held_frames (snapshot_dropped 2 (snapshot_dropped 1 (pages_touched 256 1 two_async_forks))).leaves ≡ 5)
two_snapshots = (refl, refl, refl, refl)

abbrev loss : ℕ → ℕ → ℕ → Loss
loss snapshot cell at = record { snapshot = snapshot; cell = cell; at = at }

-- an async and an on-demand fork, and a write of which one request is refused: 12 is the copy of the second leaf, 14 the copy of the page
abbrev write_behind_two_modes : List ℕ → Progress
write_behind_two_modes refused = pages_touched 256 1 (snapshot_forked 2 OnDemand (snapshot_forked 1 Async (written (answers_from refused 0 0))))

refused_behind_two_modes : (held_frames (write_behind_two_modes []).leaves ≡ 14) × (held_frames (write_behind_two_modes (12 ∷ [])).leaves ≡ 13) × (losses_of (write_behind_two_modes (12 ∷ [])).leaves ≡ loss 2 0 1 ∷ []) × (held_frames (write_behind_two_modes (14 ∷ [])).leaves ≡ 11) × (losses_of (write_behind_two_modes (14 ∷ [])).leaves ≡ loss 1 0 1 ∷ loss 2 0 1 ∷ [])
refused_behind_two_modes = (refl, refl, refl, refl, refl)

-- nine frames of which all are out: the next request is forced to be refused, and the one before was not
forced_requests : (map (is_forced 9) (requests_of Parent None 7 8 (Granted want.Leaf ∷ Denied want.Page 1 ∷ Returned ∷ Granted want.Page ∷ [])) ≡ false ∷ true ∷ false ∷ []) × (map (is_forced 64) (requests_of Parent (Some 9) 7 8 (Granted want.Leaf ∷ Denied want.Page 1 ∷ [])) ≡ false ∷ true ∷ [])
forced_requests = (refl, refl)

-- one slot: a second cell has none, and the first needs none
slots : (lacks_slots 1 [] (0 ∷ []) ≡ false) × (lacks_slots 1 [] (0 ∷ 1 ∷ []) ≡ true) × (lacks_slots 1 (written []).leaves (0 ∷ []) ≡ false) × (lacks_slots 1 (written []).leaves (1 ∷ []) ≡ true)
slots = (refl, refl, refl, refl)

-- ---- accounts

abbrev entry : CellAct → ℕ → List Answer → CellEntry
entry act seat answers = record { act = act; seat = seat; answers = answers }

-- a page is touched, an async fork names seat 3, which copies and drops
abbrev log : List CellEntry
log = entry (Touch 0) 0 (Yes ∷ Yes ∷ []) ∷ entry (Fork 1 Async 3) 0 [] ∷ entry (Copy 1) 3 (Yes ∷ []) ∷ entry (Touch 0) 0 (Yes ∷ []) ∷ entry (Drop 1) 3 [] ∷ []

the_account_of_a_cell : (account_share (account_of log) ≡ 2) × ((account_of log).made ≡ 4) × (account_share (account_of (take 4 log)) ≡ 4)
the_account_of_a_cell = (refl, refl, refl)

-- an entry that may stand there
abbrev plainly : {before : List CellEntry} {it : CellEntry} → seat_of before it.act ≡ Some it.seat
    → AllowsAct (account_of before).state.leaves it.act → HasOwnSeat before it.act
    → answers_of (entry_course (account_of before) it).requests.deals ≡ it.answers → MayStandBehind before it
plainly seat allowed own answers = record { seat = seat; allowed = allowed; own = own; answers = answers }

-- seat 3 is not seat 4
seats_apart : ◌≡◌ {A = Option ℕ} (Some 3) (Some 4) → ⊥
seats_apart same = grind (arith, same)

-- each of these entries may stand where it stands, and the number may be forked again behind its drop
the_log_is_one : AreEntries (log ++ entry (Fork 1 Eager 5) 0 (Yes ∷ []) ∷ [])
the_log_is_one = (
  plainly refl (lit< tt) tt refl,
  (
    plainly refl (refl, lit< tt, refl) tt refl,
    (
      plainly refl refl tt refl,
      (
        plainly refl (lit< tt) tt refl,
        (
          plainly refl refl tt refl,
          (
            plainly refl (refl, lit< tt, refl) tt refl,
            tt,
          ),
        ),
      ),
    ),
  ),
)

-- behind a page and an async fork of number 1 for seat 3
abbrev forked_once : List CellEntry
forked_once = take 2 log

-- a number that is kept is not forked again
a_second_fork : MayStandBehind forked_once (entry (Fork 1 Async 4) 0 []) → ⊥
a_second_fork may = true≢false may.allowed.2

-- another number may be, for a seat of its own: not for that of the snapshot that is kept, nor for the parent's
a_fork_of_another_number : (MayStandBehind forked_once (entry (Fork 2 Async 4) 0 []))
    × (MayStandBehind forked_once (entry (Fork 2 Async 3) 0 []) → ⊥) × (MayStandBehind forked_once (entry (Fork 2 Async 0) 0 []) → ⊥)
a_fork_of_another_number = (
  plainly refl (refl, lit< tt, refl) ((λ same. absurd (seats_apart same)), tt) refl,
  λ may. may.own.0 refl,
  λ may. absurd (omega (arith, may.allowed.1)),
)

-- a cell without a page of the parent is not forked
a_fork_of_no_page : MayStandBehind [] (entry (Fork 1 Async 3) 0 []) → ⊥
a_fork_of_no_page may = true≢false (sym may.allowed.0)

-- a cell has 512 pages, and a store stays within its page
beyond_the_cell : (MayStandBehind [] (entry (Touch 512) 0 (Yes ∷ Yes ∷ [])) → ⊥)
    × (MayStandBehind [] (entry (Clear 1 512) 0 []) → ⊥) × (MayStandBehind [] (entry (Protect 512 1 Read) 0 []) → ⊥)
    × (MayStandBehind (take 1 log) (entry (Store 0 4096 (1 ∷ [])) 0 []) → ⊥)
beyond_the_cell = (
  λ may. absurd (omega (arith, may.allowed)),
  λ may. absurd (omega (arith, may.allowed)),
  λ may. absurd (omega (arith, may.allowed)),
  λ may. absurd (omega (arith, may.allowed.2)),
)

-- what was dropped is not dropped again, nor copied
a_second_drop : (MayStandBehind log (entry (Drop 1) 3 []) → ⊥) × (MayStandBehind log (entry (Copy 1) 3 []) → ⊥)
a_second_drop = (λ may. true≢false (sym may.allowed), λ may. true≢false (sym may.allowed))

-- a mark goes where the leaf is joined, and not where it was copied
a_mark_goes : (MayStandBehind forked_once (entry (Unmark 1) 3 [])) × (MayStandBehind (take 3 log) (entry (Unmark 1) 3 []) → ⊥)
a_mark_goes = (plainly refl refl tt refl, λ may. true≢false (sym may.allowed))

abbrev stored : CellEntry
stored = entry (Store 0 7 (1 ∷ [])) 0 []

-- bytes are stored to a page that is there and the parent's alone: not to one that is absent, not behind a fork, and again behind the touch that copies it
a_store : (MayStandBehind [] stored → ⊥) × (MayStandBehind (take 1 log) stored) × (MayStandBehind forked_once stored → ⊥) × (MayStandBehind (take 4 log) stored)
a_store = (
  λ may. true≢false (sym may.allowed.0.present),
  plainly refl (record { present = refl; unnamed = λ version is named. named }, lit< tt, lit≤ tt) tt refl,
  λ may. may.allowed.0.unnamed 2 refl (inl (refl, refl)),
  plainly refl (record { present = refl; unnamed = λ version is named. elim named as (λ _. ⊥) [ inl old ↦ absurd (grind (arith, is, old.1)) | inr none ↦ none ] }, lit< tt, lit≤ tt) tt refl,
)

abbrev dealt : PoolAct → ℕ → PoolEntry
dealt act seat = record { act = act; seat = seat }

-- the parent takes five frames and three for the directory of snapshot 1, which may take one leaf, takes it, gives all four back and parts
abbrev pool_log : List PoolEntry
pool_log = replicate 8 (dealt (Take want.Page Lent) 0) ++ dealt (Allow 1 2 1) 0 ∷ dealt (Take want.Leaf Lent) 2 ∷ dealt (Take want.Leaf NoneFree) 0 ∷ dealt Give 2 ∷ dealt Give 2 ∷ dealt Give 2 ∷ dealt Give 2 ∷ dealt (Parted 1) 2 ∷ dealt (Reaped 1) 0 ∷ []

-- the frames out and the load, behind so many entries
abbrev out_and_load : ℕ → ℕ × ℕ
out_and_load n = (frames_out (pool_account_of (take n pool_log)), load (pool_account_of (take n pool_log)))

the_load_of_a_pool : (out_and_load 8 ≡ (8, 8)) × (out_and_load 9 ≡ (8, 9)) × (out_and_load 10 ≡ (9, 9)) × (out_and_load 15 ≡ (5, 9)) × (out_and_load 17 ≡ (5, 5))
the_load_of_a_pool = (refl, refl, refl, refl, refl)

-- of nine frames all are out as none is free; a snapshot takes within its allowance and parts, and is reaped then
the_pool_log_is_one : ArePoolEntries 9 1 pool_log
the_pool_log_is_one = (
  (lit< tt, inl refl),
  (
    (lit< tt, inl refl),
    (
      (lit< tt, inl refl),
      (
        (lit< tt, inl refl),
        (
          (lit< tt, inl refl),
          (
            (lit< tt, inl refl),
            (
              (lit< tt, inl refl),
              (
                (lit< tt, inl refl),
                (
                  (refl, lit< tt, refl, refl),
                  (
                    (lit< tt, inr ((refl, lit< tt), refl)),
                    (
                      (refl, inl refl),
                      (
                        (lit< tt, inr ((refl, tt), refl)),
                        (
                          (lit< tt, inr ((refl, tt), refl)),
                          (
                            (lit< tt, inr ((refl, tt), refl)),
                            (
                              (lit< tt, inr ((refl, tt), refl)),
                              (
                                ((refl, refl), refl),
                                (
                                  (refl, refl, refl),
                                  tt,
                                ),
                              ),
                            ),
                          ),
                        ),
                      ),
                    ),
                  ),
                ),
              ),
            ),
          ),
        ),
      ),
    ),
  ),
)

-- nothing is given back while nothing is out
a_give_with_nothing_out : ArePoolEntries 9 1 (dealt Give 0 ∷ []) → ⊥
a_give_with_nothing_out are = absurd (omega (arith, are.0.0))

-- no frame is lent that was not made
a_frame_too_many : ArePoolEntries 1 1 (dealt (Take want.Page Lent) 0 ∷ dealt (Take want.Page Lent) 0 ∷ []) → ⊥
a_frame_too_many are = absurd (omega (arith, are.1.0.0))

-- while a frame is free the pool does not tell that none is, and once none is it asks no policy
answers_at_the_wrong_time : (ArePoolEntries 1 1 (dealt (Take want.Page NoneFree) 0 ∷ []) → ⊥) × (ArePoolEntries 0 1 (dealt (Take want.Page (DeniedBy 0)) 0 ∷ []) → ⊥)
answers_at_the_wrong_time = (λ are. absurd (omega (arith, are.0.0)), λ are. absurd (omega (arith, are.0.0.0)))

-- a policy that was handed in denies while a frame is free, and no other
a_denial : (ArePoolEntries 1 1 (dealt (Take want.Page (DeniedBy 0)) 0 ∷ []))
    × (ArePoolEntries 1 0 (dealt (Take want.Page (DeniedBy 0)) 0 ∷ []) → ⊥)
a_denial = (((((lit< tt, lit< tt), inl refl), tt)), λ are. absurd (omega (arith, are.0.0.1)))

-- a number is in one stretch at a time, and so is a seat
two_stretches : (ArePoolEntries 9 1 (dealt (Allow 1 2 1) 0 ∷ dealt (Allow 1 3 1) 0 ∷ []) → ⊥) × (ArePoolEntries 9 1 (dealt (Allow 1 2 1) 0 ∷ dealt (Allow 2 2 1) 0 ∷ []) → ⊥)
two_stretches = (λ are. true≢false are.1.0.3, λ are. true≢false are.1.0.2)

-- behind its reaping a number may be allowed anew, by the same seat
a_stretch_anew : ArePoolEntries 9 1 (dealt (Allow 1 2 1) 0 ∷ dealt (Parted 1) 2 ∷ dealt (Reaped 1) 0 ∷ dealt (Allow 1 2 1) 0 ∷ [])
a_stretch_anew = ((refl, lit< tt, refl, refl), (((refl, refl), refl), ((refl, refl, refl), ((refl, lit< tt, refl, refl), tt))))

-- no snapshot takes above its amount, behind its parting or outside a stretch
a_take_outside : (ArePoolEntries 9 1 (dealt (Allow 1 2 0) 0 ∷ dealt (Take want.Leaf Lent) 2 ∷ []) → ⊥) × (ArePoolEntries 9 1 (dealt (Take want.Leaf Lent) 2 ∷ []) → ⊥)
a_take_outside = (
  λ are. elim are.1.0.1 as (λ _. ⊥) [ inl parents ↦ absurd (omega (arith, parents)) | inr here ↦ absurd (omega (arith, here.0.1)) ],
  λ are. elim are.0.1 as (λ _. ⊥) [ inl parents ↦ absurd (omega (arith, parents)) | inr here ↦ true≢false (sym here.1) ],
)
