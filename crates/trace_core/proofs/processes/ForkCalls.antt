-- What a fork and a drop keep of a kernel: the count of refused requests, the cells in use, the pages that may be stored to, and that it is sound.
use Rattle.std.proofs.Common.{◌≡◌, ℕ, zero, suc, ◌+◌, ◌<◌, ◌≤◌, Bool, true, false, cond, eqb, List, [], ◌∷◌, ◌++◌, Option, Some, None, refl, sym, ◌∙◌, ap, subst, arith, inl, inr}
use Rattle.std.specs.Prelude.{◌%◌, ◌==◌, not, replicate, nat_le, is_some, unwrap_or}
use Rattle.std.specs.Ordering.{nat_cmp}
use Rattle.std.specs.FinMap.{FinMap, get, remove, len}
use Rattle.std.proofs.lemmas.Bool.{false≢true}
use Rattle.std.proofs.lemmas.Bool.Decides.{nat_tests}
use Rattle.vm_base.specs.declared.fork_mode.Mode.{Mode}
use Rattle.vm_base.specs.declared.frame_request.Want.{Want}
use Rattle.vm_base.specs.Counts.{next_count}
use Rattle.vm_base.specs.Deals.{Deal, Granted, Denied, Returned, LeadsAlong}
use Rattle.vm_base.specs.Places.{cell_of}
use Rattle.vm_base.specs.FlatMemory.{FlatMemory, IsFlat, area_of}
use Rattle.vm_base.specs.FlatStep.{is_read_only}
use Rattle.vm_base.specs.TwoSides.{dropped}
use Rattle.vm_base.specs.MemoryState.{IsIn, IsKept, KeepsReady, own_of}
use Rattle.vm_base.specs.ProcessState.{ForkFails, LeavesMemory, LeavesAtReap}
use Rattle.vm_base.specs.declared.faults.ForkFault.TheVariants.{NoFrame as FrameLacking}
use Rattle.kernel_meaning.specs.Leaves.{CellLeaves, Kept, has_pages, holds_number, kept_by, without_kept}
use Rattle.kernel_meaning.specs.CellActs.{with_fork}
use Rattle.kernel_meaning.specs.Requests.{Answer, Yes, No, Requests, RowEnd, answers_of, deal_of, asked_in_row, row_end, next_answer, later_answers}
use Rattle.kernel_meaning.specs.RefusedRequests.{count_after}
use Rattle.kernel_meaning.specs.FrameLaw.{Leaves, cell_at, with_cell, parent_cells, snapshot_cells}
use Rattle.kernel_meaning.specs.EventRequests.{FrameRefusal, Progress, fork_wants, fork_leaf, with_fork_at, without_snapshot_at, snapshot_forked, snapshot_dropped, fork_answered as requests_answered}
use Rattle.leaf_cell.specs.CellView.{without_snapshot}
use Rattle.leaf_cell.specs.Renaming.{IsNamedBy}
use Rattle.leaf_cell.specs.Touching.{IsAlone}
use Rattle.page_tables.specs.declared.tables.PageTables.{PageTables}
use Rattle.page_tables.specs.Accesses.{IsPageReady}
use Rattle.page_tables.proofs.DroppedLeaves.{cell-dropped}
use Rattle.trace_events.specs.declared.outcome.Outcome.{Outcome}
use Rattle.trace_events.specs.declared.outcome.Outcome.TheVariants.{Done, NoFrame, TooMany, NoSnap}
use Rattle.trace_core.specs.SupplyState.{SupplyState, SupplyGoes}
use Rattle.trace_core.specs.Answering.{AreCounted}
use Rattle.trace_core.specs.KernelState.{Machine, KernelState}
use Rattle.trace_core.specs.EventMeaning.{EventEnd, only_answers, begun, parent_end, fork_answered, fork_end, is_live, drop_end}
use Rattle.trace_core.specs.KernelStanding.{KernelParts, KernelStands, EventRan, kept_number, sides_of}
use Rattle.trace_core.specs.KernelSeen.{KernelNotes, IsSound, AreForkedFrom, parent_of, memory_of, children_of}
use Rattle.trace_core.proofs.events.OneSnapshot.{live-is}
use Rattle.page_tables.proofs.view.ViewSides.{seen-ready, ready-seen}
use Rattle.trace_core.proofs.memories.KernelMemories.{sound-memory}
use Rattle.trace_core.proofs.processes.Children.{stands-parent, fork-parent, drop-parent, unforked-may, forked-lives, forked-number, forked-there}
use Rattle.trace_core.proofs.memories.AreaViews.{IsWithin, AreHad, had-where, with-had, used-within, was-there, IsInBounds, deals-bounds}

-- ---- the count of refused requests

-- deals that led a supply on have counted their refusals, and each carries its count
led-counts : (old new : SupplyState) (deals : List Deal) → LeadsAlong SupplyGoes old deals new → (new.refused ≡ count_after old.refused deals) × AreCounted old.refused deals
led-counts old new [] same = (ap (λ s. s.refused) same, tt)
led-counts old new (Granted want ∷ deals) led =
    let here : led.0.refused ≡ old.refused = ap (λ s. s.refused) led.1.0.is in
    let rest = led-counts led.0 new deals led.1.1 in
    (rest.0 ∙ ap (λ count. count_after count deals) here, subst (λ count. AreCounted count deals) here rest.1)
led-counts old new (Denied want at ∷ deals) led =
    let here : led.0.refused ≡ next_count old.refused = ap (λ s. s.refused) led.1.0.is in
    let rest = led-counts led.0 new deals led.1.1 in
    (rest.0 ∙ ap (λ count. count_after count deals) here, (led.1.0.count, subst (λ count. AreCounted count deals) here rest.1))
led-counts old new (Returned ∷ deals) led =
    let here : led.0.refused ≡ old.refused = ap (λ s. s.refused) led.1.0.is in
    let rest = led-counts led.0 new deals led.1.1 in
    (rest.0 ∙ ap (λ count. count_after count deals) here, subst (λ count. AreCounted count deals) here rest.1)

count-append : (front tail : List Deal) (count : ℕ) → count_after count (front ++ tail) ≡ count_after (count_after count front) tail
count-append [] tail count = refl
count-append (Granted want ∷ front) tail count = count-append front tail count
count-append (Denied want at ∷ front) tail count = count-append front tail (next_count count)
count-append (Returned ∷ front) tail count = count-append front tail count

counted-front : (front tail : List Deal) (count : ℕ) → AreCounted count (front ++ tail) → AreCounted count front × AreCounted (count_after count front) tail
counted-front [] tail count counted = (tt, counted)
counted-front (Granted want ∷ front) tail count counted = counted-front front tail count counted
counted-front (Denied want at ∷ front) tail count counted =
    let rest = counted-front front tail (next_count count) counted.1 in
    ((counted.0, rest.0), rest.1)
counted-front (Returned ∷ front) tail count counted = counted-front front tail count counted

count-returned : (n count : ℕ) → count_after count (replicate n Returned) ≡ count
count-returned zero count = refl
count-returned (suc n) count = count-returned n count

-- frames given back behind deals are not counted
count-back : (deals : List Deal) (n count : ℕ) → count_after count (deals ++ replicate n Returned) ≡ count_after count deals
count-back deals n count = count-append deals (replicate n Returned) count ∙ count-returned n (count_after count deals)

-- deals behind others counted no refusal; or one, which carries the count
abbrev CountsOn : ℕ → ℕ → Option ℕ → List Deal → Type 0
CountsOn opening count None deals = count_after opening deals ≡ count
CountsOn opening count (Some at) deals = (count_after opening deals ≡ next_count count) × (AreCounted opening deals → at ≡ next_count count)

-- a row of requests counts the one that was refused
row-counts : (wants : List Want) (requests : Requests) (opening count : ℕ) → count_after opening requests.deals ≡ count
    → CountsOn opening count (asked_in_row wants requests).refused (asked_in_row wants requests).requests.deals
row-counts [] requests opening count same = same
row-counts (want ∷ wants) requests opening count same = by (row-counts wants) (next_answer requests)
  where
    behind : Answer → Requests
    behind answer = record { made = requests.made + 1; coming = later_answers requests.coming; deals = requests.deals ++ deal_of want answer ∷ [] }

    by : ((others : Requests) (opening count : ℕ) → count_after opening others.deals ≡ count → CountsOn opening count (asked_in_row wants others).refused (asked_in_row wants others).requests.deals)
        → (answer : Answer) → CountsOn opening count (row_end answer (behind answer) (asked_in_row wants (behind answer))).refused
        (row_end answer (behind answer) (asked_in_row wants (behind answer))).requests.deals
    by rest Yes = rest (behind Yes) opening count (count-append requests.deals (Granted want ∷ []) opening ∙ same)
    by rest (No at) = (
      count-append requests.deals (Denied want at ∷ []) opening ∙ ap next_count same,
      λ counted. (counted-front requests.deals (Denied want at ∷ []) opening counted).1.0 ∙ ap next_count same,
    )

-- the count that the refusal of a fork tells
abbrev at_of : Option FrameRefusal → Option ℕ
at_of None = None
at_of (Some refusal) = Some refusal.at

ended-counts : (n : ℕ) (mode : Mode) (progress : Progress) (refused : Option ℕ) (taken opening count : ℕ) → progress.refused ≡ None → CountsOn opening count refused progress.requests.deals
    → CountsOn opening count (at_of (requests_answered refused taken n mode progress).refused) (requests_answered refused taken n mode progress).requests.deals
ended-counts n mode progress None taken opening count none counts = subst (λ o. CountsOn opening count (at_of o) progress.requests.deals) (sym none) counts
ended-counts n mode progress (Some at) taken opening count none counts = (
  count-back progress.requests.deals taken opening ∙ counts.0,
  λ counted. counts.1 (counted-front progress.requests.deals (replicate taken Returned) opening counted).0,
)

-- so does a fork
fork-counts : (n : ℕ) (mode : Mode) (state : KernelState) (answers : List Answer) (count : ℕ)
    → let progress : Progress = snapshot_forked n mode (begun state answers) in CountsOn count count (at_of progress.refused) progress.requests.deals
fork-counts n mode state answers count =
    let start : Progress = begun state answers in
    let row : RowEnd = asked_in_row (fork_wants mode (parent_cells start.leaves)) start.requests in
    ended-counts n mode (record start { requests = row.requests }) row.refused row.granted count count refl (row-counts (fork_wants mode (parent_cells start.leaves)) start.requests count count refl)

-- the event was done
abbrev pub is_done : Outcome → Bool
is_done Done = true
is_done other = false

-- the count of the frame that was lacking
abbrev lacking_at : Outcome → Option ℕ
lacking_at (NoFrame at) = Some at
lacking_at other = None

module _ (state : KernelState) (n : ℕ) (deals : List Deal) (after : KernelState) where
  granted-counts : (full : Bool) (refused : Option FrameRefusal) (progress : Progress) (count : ℕ) → CountsOn count count (at_of refused) progress.requests.deals
      → cond full (only_answers state TooMany) (fork_answered state n refused progress) ≡ record { outcome = Done; deals = deals; after = after }
      → count_after count deals ≡ count
  granted-counts true refused progress count counts e = absurd (false≢true (ap (λ end. is_done end.outcome) e))
  granted-counts false None progress count counts e = ap (λ end. count_after count end.deals) (sym e) ∙ counts
  granted-counts false (Some refusal) progress count counts e = absurd (false≢true (ap (λ end. is_done end.outcome) e))

  lacking-counts : (at : ℕ) (full : Bool) (refused : Option FrameRefusal) (progress : Progress) (count : ℕ) → CountsOn count count (at_of refused) progress.requests.deals
      → cond full (only_answers state TooMany) (fork_answered state n refused progress) ≡ record { outcome = NoFrame at; deals = deals; after = after }
      → CountsOn count count (Some at) deals
  lacking-counts at true refused progress count counts e = absurd (false≢true (ap (λ end. is_some (lacking_at end.outcome)) e))
  lacking-counts at false None progress count counts e = absurd (false≢true (ap (λ end. is_some (lacking_at end.outcome)) e))
  lacking-counts at false (Some refusal) progress count counts e =
      subst (λ end. CountsOn count count (lacking_at end.outcome) end.deals) e counts

  dropped-counts : (live : Bool) (outcome : Outcome) (taken : ℕ) (gone : EventEnd) (count : ℕ) → gone.deals ≡ replicate taken Returned
      → cond live gone (only_answers state NoSnap) ≡ record { outcome = outcome; deals = deals; after = after } → count_after count deals ≡ count
  dropped-counts true outcome taken gone count back e = ap (λ end. count_after count end.deals) (sym e) ∙ ap (count_after count) back ∙ count-returned taken count
  dropped-counts false outcome taken gone count back e = ap (λ end. count_after count end.deals) (sym e)

module _ (old new : KernelParts) (machine : Machine) (state : KernelState) (n : ℕ) (mode : Mode) where
  -- a fork that is granted leaves the count
  pub forked-count : (most later : ℕ) → EventRan old new machine (λ answers. fork_end machine state answers n mode) Done → (memory_of new later).refused ≡ (memory_of old most).refused
  forked-count most later ran =
      let progress : Progress = snapshot_forked n mode (begun state (answers_of ran.deals)) in
      (led-counts old.supply new.supply ran.deals ran.led).0
      ∙ granted-counts state n ran.deals ran.after (nat_le machine.limit (len state.world.snapshots)) progress.refused progress old.supply.refused
      (fork-counts n mode state (answers_of ran.deals) old.supply.refused) ran.ends

  -- one that lacks a frame counts it, and tells the count
  pub unforked-count : (most later at : ℕ) → EventRan old new machine (λ answers. fork_end machine state answers n mode) (NoFrame at)
      → ((memory_of new later).refused ≡ next_count (memory_of old most).refused) × (at ≡ (memory_of new later).refused)
  unforked-count most later at ran =
      let progress : Progress = snapshot_forked n mode (begun state (answers_of ran.deals)) in
      let led = led-counts old.supply new.supply ran.deals ran.led in
      let counts : CountsOn old.supply.refused old.supply.refused (Some at) ran.deals =
      lacking-counts state n ran.deals ran.after at (nat_le machine.limit (len state.world.snapshots)) progress.refused progress old.supply.refused
      (fork-counts n mode state (answers_of ran.deals) old.supply.refused) ran.ends in
      let rose : new.supply.refused ≡ next_count old.supply.refused = led.0 ∙ counts.0 in
      (rose, counts.1 led.1 ∙ sym rose)

-- a drop leaves the count
pub drop-count : (old new : KernelParts) (machine : Machine) (state : KernelState) (n : ℕ) (outcome : Outcome) (most later : ℕ) → EventRan old new machine (λ answers. drop_end state answers n) outcome
    → (memory_of new later).refused ≡ (memory_of old most).refused
drop-count old new machine state n outcome most later ran =
    let gone : EventEnd = parent_end state (dropped state.world n) Done (snapshot_dropped n (begun state (answers_of ran.deals))) in
    (led-counts old.supply new.supply ran.deals ran.led).0
    ∙ dropped-counts state n ran.deals ran.after (is_live state.world n) outcome _ gone old.supply.refused refl ran.ends

-- ---- the leaves behind a fork and a drop

forked-within : (before : Leaves) (cells : List ℕ) (n : ℕ) (mode : Mode) (leaves : Leaves) → AreHad cells before → IsWithin leaves before → IsWithin (with_fork_at cells n mode leaves) before
forked-within before [] n mode leaves had within = within
forked-within before (c ∷ cells) n mode leaves had within =
    forked-within before cells n mode (with_cell leaves c (with_fork n mode (fork_leaf mode) (cell_at leaves c))) had.1
    (with-had before leaves c (with_fork n mode (fork_leaf mode) (cell_at leaves c)) had.0 within)

dropped-within : (before : Leaves) (cells : List ℕ) (n : ℕ) (leaves : Leaves) → AreHad cells before → IsWithin leaves before → IsWithin (without_snapshot_at cells n leaves) before
dropped-within before [] n leaves had within = within
dropped-within before (c ∷ cells) n leaves had within =
    dropped-within before cells n (with_cell leaves c (without_snapshot n (cell_at leaves c))) had.1 (with-had before leaves c (without_snapshot n (cell_at leaves c)) had.0 within)

-- what holds of the leaves before a fork and of those with the snapshot holds of those behind it
module _ (P : Leaves → Type 0) (state : KernelState) (n : ℕ) (before : P state.leaves) where
  requests-leaves : (refused : Option ℕ) (taken : ℕ) (mode : Mode) (progress : Progress) → progress.leaves ≡ state.leaves → P (with_fork_at (parent_cells state.leaves) n mode state.leaves)
      → P (requests_answered refused taken n mode progress).leaves
  requests-leaves None taken mode progress same forked = subst (λ leaves. P (with_fork_at (parent_cells leaves) n mode leaves)) (sym same) forked
  requests-leaves (Some at) taken mode progress same forked = subst P (sym same) before

  answered-leaves : (full : Bool) (refused : Option FrameRefusal) (progress : Progress) → P progress.leaves → P (cond full (only_answers state TooMany) (fork_answered state n refused progress)).after.leaves
  answered-leaves true refused progress then = before
  answered-leaves false None progress then = then
  answered-leaves false (Some refusal) progress then = then

  fork-leaves : (mode : Mode) (machine : Machine) (answers : List Answer) → P (with_fork_at (parent_cells state.leaves) n mode state.leaves) → P (fork_end machine state answers n mode).after.leaves
  fork-leaves mode machine answers forked =
      let progress : Progress = snapshot_forked n mode (begun state answers) in
      let row : RowEnd = asked_in_row (fork_wants mode (parent_cells state.leaves)) (begun state answers).requests in
      answered-leaves (nat_le machine.limit (len state.world.snapshots)) progress.refused progress
      (requests-leaves row.refused row.granted mode (record (begun state answers) { requests = row.requests }) refl forked)

  drop-leaves : (answers : List Answer) → P (without_snapshot_at (snapshot_cells state.leaves n) n state.leaves) → P (drop_end state answers n).after.leaves
  drop-leaves answers then = by (is_live state.world n)
    where
      by : (live : Bool) → P (cond live (parent_end state (dropped state.world n) Done (snapshot_dropped n (begun state answers))) (only_answers state NoSnap)).after.leaves
      by true = then
      by false = before

-- where none was granted, they are as they were
refused-leaves : (n : ℕ) (mode : Mode) (refused : Option ℕ) (taken : ℕ) (progress : Progress) → progress.refused ≡ None → is_some (requests_answered refused taken n mode progress).refused ≡ true
    → (requests_answered refused taken n mode progress).leaves ≡ progress.leaves
refused-leaves n mode None taken progress none some = absurd (false≢true (sym (ap is_some none) ∙ some))
refused-leaves n mode (Some at) taken progress none some = refl

ungranted-leaves : (state : KernelState) (n : ℕ) (outcome : Outcome) (deals : List Deal) (after : KernelState) → is_done outcome ≡ false
    → (full : Bool) (refused : Option FrameRefusal) (progress : Progress) → (is_some refused ≡ true → progress.leaves ≡ state.leaves)
    → cond full (only_answers state TooMany) (fork_answered state n refused progress) ≡ record { outcome = outcome; deals = deals; after = after } → after.leaves ≡ state.leaves
ungranted-leaves state n outcome deals after undone true refused progress same e = sym (ap (λ end. end.after.leaves) e)
ungranted-leaves state n outcome deals after undone false None progress same e = absurd (false≢true (sym undone ∙ ap (λ end. is_done end.outcome) (sym e)))
ungranted-leaves state n outcome deals after undone false (Some refusal) progress same e = sym (ap (λ end. end.after.leaves) e) ∙ same refl

-- ---- the cells in use

module _ (old new : KernelParts) (machine : Machine) (state : KernelState) (stands : KernelStands old machine state) (n : ℕ) where
  -- whatever a fork answers, a cell that is used behind it was used before
  pub fork-used : (mode : Mode) (outcome : Outcome) → EventRan old new machine (λ answers. fork_end machine state answers n mode) outcome
      → (most later cell : ℕ) → IsIn cell (memory_of new later).used → IsIn cell (memory_of old most).used
  fork-used mode outcome ran =
      used-within old new machine state stands ran.after ran.stands
      (subst (λ end. IsWithin end.after.leaves state.leaves) ran.ends
      (fork-leaves (λ leaves. IsWithin leaves state.leaves) state n (λ q there. there) mode machine (answers_of ran.deals)
      (forked-within state.leaves (parent_cells state.leaves) n mode state.leaves (had-where (λ entry. has_pages entry.1.parent) state.leaves) (λ q there. there))))

  -- the same of a drop
  pub drop-used : (outcome : Outcome) → EventRan old new machine (λ answers. drop_end state answers n) outcome
      → (most later cell : ℕ) → IsIn cell (memory_of new later).used → IsIn cell (memory_of old most).used
  drop-used outcome ran =
      used-within old new machine state stands ran.after ran.stands
      (subst (λ end. IsWithin end.after.leaves state.leaves) ran.ends
      (drop-leaves (λ leaves. IsWithin leaves state.leaves) state n (λ q there. there) (answers_of ran.deals)
      (dropped-within state.leaves (snapshot_cells state.leaves n) n state.leaves (had-where (λ entry. is_some (kept_by entry.1.kept n)) state.leaves) (λ q there. there))))

-- ---- the pages that may be stored to

named-without : (n page version : ℕ) (kept : List Kept) → IsNamedBy page version (without_kept n kept) → IsNamedBy page version kept
named-without n page version [] named = absurd named
named-without n page version (it ∷ others) named = by (it.number == n) (named-without n page version others) named
  where
    by : (b : Bool) → (IsNamedBy page version (without_kept n others) → IsNamedBy page version others)
        → IsNamedBy page version (cond (not b) (it ∷ without_kept n others) (without_kept n others)) → IsNamedBy page version (it ∷ others)
    by true rest named = inr (rest named)
    by false rest (inl here) = inl here
    by false rest (inr there) = inr (rest there)

-- a page that the parent has alone it has alone without a snapshot
alone-without : (n : ℕ) (cell : CellLeaves) (page : ℕ) → IsAlone cell page → IsAlone (without_snapshot n cell) page
alone-without n cell page alone = record {
  present = alone.present;
  unnamed = λ version there named. alone.unnamed version there (named-without n page version cell.kept named);
}

module _ (old new : KernelParts) (machine : Machine) (state after : KernelState) (stands : KernelStands old machine state) (then : KernelStands new machine after) where
  -- where the parent's memory is as it was, and each page that was its alone still is
  ready-then : (most later : ℕ) → parent_of new ≡ parent_of old → ((page : ℕ) → IsPageReady state.leaves page → IsPageReady after.leaves page) → KeepsReady (memory_of old most) (memory_of new later)
  ready-then most later same keeps = λ page ready.
      let was = seen-ready old.tables (sides_of state stands.pages) stands.tables old.areas page ready in
      let memory : after.world.parent ≡ state.world.parent = sym (stands-parent new machine after then) ∙ same ∙ stands-parent old machine state stands in
      ready-seen new.tables (sides_of after then.pages) then.tables new.areas page (keeps page was.0)
      (ap (λ memory. is_some (get memory.present page)) memory ∙ was.1)
      (ap (λ memory. is_read_only (area_of memory.areas page)) same ∙ was.2)

module _ (old new : KernelParts) (machine : Machine) (state : KernelState) (stands : KernelStands old machine state) (n : ℕ) where
  -- a fork that is not granted leaves each page that may be stored to
  pub unforked-ready : (mode : Mode) (outcome : Outcome) → is_done outcome ≡ false → (most later : ℕ) → EventRan old new machine (λ answers. fork_end machine state answers n mode) outcome
      → KeepsReady (memory_of old most) (memory_of new later)
  unforked-ready mode outcome undone most later ran =
      let progress : Progress = snapshot_forked n mode (begun state (answers_of ran.deals)) in
      let row : RowEnd = asked_in_row (fork_wants mode (parent_cells state.leaves)) (begun state (answers_of ran.deals)).requests in
      let same : ran.after.leaves ≡ state.leaves =
      ungranted-leaves state n outcome ran.deals ran.after undone (nat_le machine.limit (len state.world.snapshots)) progress.refused progress
      (refused-leaves n mode row.refused row.granted (record (begun state (answers_of ran.deals)) { requests = row.requests }) refl) ran.ends in
      ready-then old new machine state ran.after stands ran.stands most later (fork-parent old new machine state stands n mode outcome ran)
      (λ page ready. subst (λ leaves. IsPageReady leaves page) (sym same) ready)

  -- the same of a drop
  pub drop-ready : (outcome : Outcome) (most later : ℕ) → EventRan old new machine (λ answers. drop_end state answers n) outcome → KeepsReady (memory_of old most) (memory_of new later)
  drop-ready outcome most later ran =
      ready-then old new machine state ran.after stands ran.stands most later (drop-parent old new machine state stands n outcome ran)
      (λ page ready. subst (λ end. IsPageReady end.after.leaves page) ran.ends
      (drop-leaves (λ leaves. IsPageReady leaves page) state n ready (answers_of ran.deals)
      (subst (λ cell. IsAlone cell (page % 512)) (sym (cell-dropped n state.leaves stands.tables.kept (cell_of page))) (alone-without n (cell_at state.leaves (cell_of page)) (page % 512) ready))))

-- ---- a sound kernel is sound behind each of them

-- where none was granted, the snapshots and the last number are as they were
module _ (Q : FinMap nat_cmp FlatMemory → ℕ → Type 0) (state : KernelState) (n : ℕ) (outcome : Outcome) (deals : List Deal) (after : KernelState) (before : Q state.world.snapshots state.world.last) where
  ungranted-kept : is_done outcome ≡ false → (full : Bool) (refused : Option FrameRefusal) (progress : Progress)
      → cond full (only_answers state TooMany) (fork_answered state n refused progress) ≡ record { outcome = outcome; deals = deals; after = after } → Q after.world.snapshots after.world.last
  ungranted-kept undone true refused progress e = subst (λ end. Q end.after.world.snapshots end.after.world.last) e before
  ungranted-kept undone false None progress e = absurd (false≢true (sym undone ∙ ap (λ end. is_done end.outcome) (sym e)))
  ungranted-kept undone false (Some refusal) progress e = subst (λ end. Q end.after.world.snapshots end.after.world.last) e before

  dropped-kept : Q (remove state.world.snapshots n) state.world.last → (live : Bool) (progress : Progress)
      → cond live (parent_end state (dropped state.world n) Done progress) (only_answers state NoSnap) ≡ record { outcome = outcome; deals = deals; after = after } → Q after.world.snapshots after.world.last
  dropped-kept without true progress e = subst (λ end. Q end.after.world.snapshots end.after.world.last) e without
  dropped-kept without false progress e = subst (λ end. Q end.after.world.snapshots end.after.world.last) e before

granted-last : (state : KernelState) (n : ℕ) (deals : List Deal) (after : KernelState) (full : Bool) (refused : Option FrameRefusal) (progress : Progress)
    → cond full (only_answers state TooMany) (fork_answered state n refused progress) ≡ record { outcome = Done; deals = deals; after = after } → n ≡ after.world.last
granted-last state n deals after true refused progress e = absurd (false≢true (ap (λ end. is_done end.outcome) e))
granted-last state n deals after false None progress e = ap (λ end. end.after.world.last) e
granted-last state n deals after false (Some refusal) progress e = absurd (false≢true (ap (λ end. is_done end.outcome) e))

some-memory : {one other : FlatMemory} → ◌≡◌ {A = Option FlatMemory} (Some one) (Some other) → one ≡ other
some-memory {one = one} same = ap (λ o. unwrap_or o one) same

module _ (old new : KernelParts) (notes : KernelNotes) (machine : Machine) (state : KernelState) (sound : IsSound old notes machine state) (n : ℕ) where
  sound-then : (forked : PageTables) (born : ℕ) (after : KernelState) → KernelStands new machine after → parent_of new ≡ parent_of old → AreForkedFrom forked after.world.snapshots after.world.last
      → IsSound new (record notes { forked = forked; born = born }) machine after
  sound-then forked born after then same from =
      let memory : state.world.parent ≡ after.world.parent = sym (stands-parent old machine state sound.stands) ∙ sym same ∙ stands-parent new machine after then in
      record {
        stands = then;
        flat = subst IsFlat memory sound.flat;
        own = subst (λ memory. own_of memory ≤ notes.most) memory sound.own;
        forked = from;
      }

  -- behind a fork that was granted, its snapshot's tables are noted, whatever is noted of its count
  pub forked-sound : (born : ℕ) (mode : Mode) → 0 < n → (ran : EventRan old new machine (λ answers. fork_end machine state answers n mode) Done)
      → IsSound new (record notes { forked = new.tables; born = born }) machine ran.after
  forked-sound born mode some ran =
      let progress : Progress = snapshot_forked n mode (begun state (answers_of ran.deals)) in
      let same : parent_of new ≡ parent_of old = fork-parent old new machine state sound.stands n mode Done ran in
      let lives = forked-lives old new machine state sound.stands n mode ran in
      let number : lives.0.number ≡ n = forked-number old new machine state sound.stands n mode ran lives.0 lives.1 in
      let last : n ≡ ran.after.world.last = granted-last state n ran.deals ran.after (nat_le machine.limit (len state.world.snapshots)) progress.refused progress ran.ends in
      sound-then new.tables born ran.after ran.stands same (λ m memory there.
      let held : holds_number (kept_number new.snapshot) m ≡ true =
      sym (live-is new.snapshot ran.stands.pages ran.after.world.snapshots ran.stands.memories m) ∙ ap is_some there in
      let mine : n ≡ m = same-number n m (sym (ap (λ snapshot. holds_number (kept_number snapshot) m) lives.1 ∙ ap (λ k. k == m) number) ∙ held) in
      let copied : state.world.parent ≡ memory =
      some-memory (sym (forked-there old new machine state sound.stands n mode ran) ∙ ap (get ran.after.world.snapshots) mine ∙ there) in (
        subst (λ k. 0 < k) mine some,
        sym mine ∙ last,
        ap (λ memory. memory.present) (sym copied ∙ sym (stands-parent old machine state sound.stands) ∙ sym same),
      ))
    where
      same-number : (a b : ℕ) → (a == b) ≡ true → a ≡ b
      same-number a b is = (let t : eqb a b ≡ true = is in grind (arith, nat_tests))

  -- behind one that was not, as much is noted as before
  pub unforked-sound : (mode : Mode) (outcome : Outcome) → is_done outcome ≡ false → (ran : EventRan old new machine (λ answers. fork_end machine state answers n mode) outcome)
      → IsSound new notes machine ran.after
  unforked-sound mode outcome undone ran =
      let progress : Progress = snapshot_forked n mode (begun state (answers_of ran.deals)) in
      sound-then notes.forked notes.born ran.after ran.stands (fork-parent old new machine state sound.stands n mode outcome ran)
      (ungranted-kept (λ snapshots last. AreForkedFrom notes.forked snapshots last) state n outcome ran.deals ran.after sound.forked undone
      (nat_le machine.limit (len state.world.snapshots)) progress.refused progress ran.ends)

  -- the same behind a drop
  pub drop-sound : (outcome : Outcome) → (ran : EventRan old new machine (λ answers. drop_end state answers n) outcome) → IsSound new notes machine ran.after
  drop-sound outcome ran =
      sound-then notes.forked notes.born ran.after ran.stands (drop-parent old new machine state sound.stands n outcome ran)
      (dropped-kept (λ snapshots last. AreForkedFrom notes.forked snapshots last) state n outcome ran.deals ran.after sound.forked
      (λ m memory there. sound.forked m memory (was-there state.world.snapshots n m memory there)) (is_live state.world n) (snapshot_dropped n (begun state (answers_of ran.deals))) ran.ends)

  -- ---- what each of them keeps

  module _ (bounds : IsInBounds old.supply) where
    kept-then : (forked : PageTables) {end : List Answer → EventEnd} {outcome : Outcome} (ran : EventRan old new machine end outcome) → IsSound new (record notes { forked = forked }) machine ran.after
        → ((cell : ℕ) → IsIn cell (memory_of new notes.most).used → IsIn cell (memory_of old notes.most).used) → IsKept (memory_of old notes.most) (memory_of new notes.most) []
    kept-then forked ran later used =
        let then : IsInBounds new.supply × (old.supply.refused ≤ new.supply.refused) = deals-bounds old.supply new.supply ran.deals ran.led bounds in
        record {
          before = sound-memory old notes machine state sound bounds.0;
          after = sound-memory new (record notes { forked = forked }) machine ran.after later then.0.0;
          room = later.stands.supply.frames ∙ sym sound.stands.supply.frames;
          slots = later.stands.slots ∙ sym sound.stands.slots;
          used = λ cell there. inl (used cell there);
          enough = refl;
          counted = then.1;
          grown = omega arith;
        }

    -- a fork that was granted
    pub forked-keeps : (mode : Mode) → 0 < n → EventRan old new machine (λ answers. fork_end machine state answers n mode) Done → IsKept (memory_of old notes.most) (memory_of new notes.most) []
    forked-keeps mode some ran =
        kept-then new.tables ran (forked-sound notes.born mode some ran) (fork-used old new machine state sound.stands n mode Done ran notes.most notes.most)

    -- one that was not
    pub unforked-keeps : (mode : Mode) (outcome : Outcome) → is_done outcome ≡ false → EventRan old new machine (λ answers. fork_end machine state answers n mode) outcome
        → IsKept (memory_of old notes.most) (memory_of new notes.most) []
    unforked-keeps mode outcome undone ran =
        kept-then notes.forked ran (unforked-sound mode outcome undone ran) (fork-used old new machine state sound.stands n mode outcome ran notes.most notes.most)

    -- and a drop
    pub drop-keeps : (outcome : Outcome) → EventRan old new machine (λ answers. drop_end state answers n) outcome → IsKept (memory_of old notes.most) (memory_of new notes.most) []
    drop-keeps outcome ran = kept-then notes.forked ran (drop-sound outcome ran) (drop-used old new machine state sound.stands n outcome ran notes.most notes.most)

-- ---- what the calls on a process tell of the memory

module _ (old new : KernelParts) (machine : Machine) (state : KernelState) (stands : KernelStands old machine state) (n : ℕ) where
  -- whatever a fork answers
  pub fork-memory : (mode : Mode) (outcome : Outcome) (most : ℕ) → EventRan old new machine (λ answers. fork_end machine state answers n mode) outcome → LeavesMemory (memory_of old most) (memory_of new most)
  fork-memory mode outcome most ran = record { mem = fork-parent old new machine state stands n mode outcome ran; most = refl }

  -- where it lacked a frame
  pub unforked-fails : (mode : Mode) (most at : ℕ) → old.last < 4294967295 → EventRan old new machine (λ answers. fork_end machine state answers n mode) (NoFrame at)
      → ForkFails (children_of old.snapshot old.last) (memory_of old most) (memory_of new most) (FrameLacking at)
  unforked-fails mode most at below ran =
      let count = unforked-count old new machine state n mode most most at ran in
      (unforked-may old new machine state stands n mode at ran below, count.0, count.1)

  -- a drop leaves what reaping does
  pub drop-reap : (outcome : Outcome) (most : ℕ) → EventRan old new machine (λ answers. drop_end state answers n) outcome → LeavesAtReap (memory_of old most) (memory_of new most)
  drop-reap outcome most ran = record {
    mem = drop-parent old new machine state stands n outcome ran;
    most = refl;
    refused = drop-count old new machine state n outcome most most ran;
    keeps = drop-ready old new machine state stands n outcome most most ran;
  }
