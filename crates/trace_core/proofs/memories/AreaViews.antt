-- What mapping, unmapping and protecting leave of a kernel, as whoever has it sees it as a memory.
use Rattle.std.proofs.Common.{◌≡◌, ℕ, ◌+◌, ◌-◌, ◌^◌, ◌<◌, ◌≤◌, Bool, true, false, cond, leb, ltb, inl, inr, List, [], ◌∷◌, map, filter, Option, Some, None, Result, Ok, Err, refl, sym, ◌∙◌, ap, subst, arith, le_refl, le_trans}
use Rattle.std.specs.Prelude.{is_some, is_ok, length, not, ◌&&◌}
use Rattle.std.specs.Option.{option_map}
use Rattle.std.specs.FinSet as set
use Rattle.std.specs.Ordering.{nat_cmp, eq_by_cmp}
use Rattle.std.specs.Cmp.{nat_cmp_total}
use Rattle.std.specs.FinMap.{FinMap, remove, get, get-remove, find, nat_cmp-IsAntisymmetric}
use Rattle.std.proofs.lemmas.Bool.{cases_Bool, cases_eq, cond-true, cond-false, leb-true, ltb-true, le-leb, and_parts, and_right, false≢true}
use Rattle.vm_base.specs.declared.permission.Perm.{Perm}
use Rattle.vm_base.specs.declared.faults.Fault.{Fault}
use Rattle.vm_base.specs.declared.faults.Fault.TheVariants as fault
use Rattle.vm_base.specs.FlatMemory.{Area, FlatMemory, IsFlat, area_of}
use Rattle.vm_base.specs.FlatStep.{Refusal, OutsideAreas, ReadOnly, Taken, TooManyAreas, or_refused, at_most_128, taken, joined, with_area, is_writable, is_read_only, map_of, unmap_of, protect_of}
use Rattle.vm_base.specs.MemoryState.{IsIn, IsKept, own_of}
use Rattle.vm_base.specs.MemoryCalls.{fault_of, faulted, map_answer, unmap_answer, protect_answer, Refuses, Changes, Maps}
use Rattle.vm_base.specs.Counts.{next_count}
use Rattle.vm_base.specs.Deals.{Deal, Granted, Denied, Returned, LeadsAlong}
use Rattle.area_list.specs.AreaList.{permission_at, is_among, Sets}
use Rattle.area_list.specs.Calls.{area_at, if_few}
use Rattle.area_list.specs.Pieces.{pieces}
use Rattle.area_list.proofs.Permissions.{pieces_set}
use Rattle.area_list.proofs.Found.{fails_below}
use Rattle.area_list.proofs.Made.{made_mapped}
use Rattle.kernel_meaning.specs.Requests.{Answer, answers_of}
use Rattle.kernel_meaning.specs.Leaves.{CellLeaves}
use Rattle.kernel_meaning.specs.FrameLaw.{Leaves, is_used, with_cell}
use Rattle.kernel_meaning.specs.CellActs.{Course, cleared, protected}
use Rattle.kernel_meaning.specs.EventRequests.{Progress, course_at, with_course, first_in_cell, count_in_cell, changed_cells, directory_shrunk, unmapped_at, protected_at, pages_unmapped, pages_protected}
use Rattle.trace_events.specs.declared.event.Event.{Event}
use Rattle.trace_events.specs.declared.event.Event.TheVariants.{Map, Unmap, Protect, Read, Write, Fill, Fork, Copy, Drop, SnapRead, Frames, ListAreas, Refuse}
use Rattle.trace_events.specs.declared.outcome.Outcome.{Outcome}
use Rattle.trace_events.specs.declared.outcome.Outcome.TheVariants.{Done, NoArea, NoWrite, Overlap, AreasFull, NoFrame}
use Rattle.trace_events.specs.EventBounds.{IsWithinBounds}
use Rattle.page_tables.specs.declared.tables.PageTables.{PageTables}
use Rattle.trace_core.specs.KernelState.{Machine, KernelState}
use Rattle.trace_core.specs.SupplyState.{SupplyState, SupplyGoes}
use Rattle.trace_core.specs.EventMeaning.{EventEnd, areas_changed, mapped, begun, refusal_outcome, event_end}
use Rattle.trace_core.specs.TouchAnswers.{fault_outcome}
use Rattle.trace_core.specs.KernelStanding.{KernelParts, KernelStands, EventRan, sides_of}
use Rattle.trace_core.specs.KernelSeen.{KernelNotes, IsSound, AreForkedFrom, parent_of, memory_of, most_behind}
use Rattle.page_tables.specs.SlotViews.{pages_in, used_in, is_alone_in, ready_in}
use Rattle.page_tables.specs.Standing.{slot_count}
use Rattle.page_tables.proofs.FirstCell.{find-head, find-tail}
use Rattle.page_tables.proofs.LeafMap.{find-apart}
use Rattle.page_tables.proofs.GoneCell.{find-stays}
use Rattle.page_tables.proofs.view.ViewReads.{ready-is}
use Rattle.page_tables.proofs.view.ViewSides.{seen-pages, seen-used}
use Rattle.trace_core.proofs.memories.KernelMemories.{sound-memory}
use Rattle.trace_core.proofs.memories.EventSoundness.{event-flat, event-own, event-kept}
use Rattle.page_tables.specs.TablesView.{views_of, pages_of}

-- ---- what a change of areas answers

-- the event was done
abbrev pub is_done : Outcome → Bool
is_done Done = true
is_done other = false

-- the fault that is told, where one is
abbrev fault_in : Outcome → Fault
fault_in (NoArea page) = fault.NoArea page
fault_in (NoWrite page) = fault.NoWrite page
fault_in (NoFrame at) = fault.NoFrame at 0
fault_in (Overlap page) = fault.Overlap page
fault_in AreasFull = fault.AreasFull
fault_in other = fault.CellsFull

pub refusal-undone : (refusal : Refusal) → is_done (refusal_outcome refusal) ≡ false
refusal-undone (OutsideAreas page) = refl
refusal-undone (ReadOnly page) = refl
refusal-undone (Taken page) = refl
refusal-undone TooManyAreas = refl

pub fault-undone : (it : Fault) → is_done (fault_outcome it) ≡ false
fault-undone (fault.NoArea page) = refl
fault-undone (fault.NoWrite page) = refl
fault-undone (fault.NoFrame at page) = refl
fault-undone (fault.Overlap page) = refl
fault-undone fault.AreasFull = refl
fault-undone fault.CellsFull = refl

-- a frame was lacking
abbrev is_frame : Outcome → Bool
is_frame (NoFrame at) = true
is_frame other = false

no-frame : (refusal : Refusal) → is_frame (refusal_outcome refusal) ≡ false
no-frame (OutsideAreas page) = refl
no-frame (ReadOnly page) = refl
no-frame (Taken page) = refl
no-frame TooManyAreas = refl

in-fault : (refusal : Refusal) → fault_of refusal ≡ fault_in (refusal_outcome refusal)
in-fault (OutsideAreas page) = refl
in-fault (ReadOnly page) = refl
in-fault (Taken page) = refl
in-fault TooManyAreas = refl

-- a refusal of the areas is told as its fault
same-fault : (refusal : Refusal) (it : Fault) → refusal_outcome refusal ≡ fault_outcome it → fault_of refusal ≡ it
same-fault refusal (fault.NoArea page) same = in-fault refusal ∙ ap fault_in same
same-fault refusal (fault.NoWrite page) same = in-fault refusal ∙ ap fault_in same
same-fault refusal (fault.NoFrame at page) same = absurd (false≢true (sym (no-frame refusal) ∙ ap is_frame same))
same-fault refusal (fault.Overlap page) same = in-fault refusal ∙ ap fault_in same
same-fault refusal fault.AreasFull same = in-fault refusal ∙ ap fault_in same
same-fault refusal fault.CellsFull same = in-fault refusal ∙ ap fault_in same

-- where it was done, the parent's memory is that of the change
changed-done : (state : KernelState) (change : Result FlatMemory Refusal) (progress : Progress) (end : EventEnd) → areas_changed state change progress ≡ end → end.outcome ≡ Done
    → faulted change ≡ Ok end.after.world.parent
changed-done state (Ok memory) progress end ends done = ap (λ e. Ok e.after.world.parent) ends
changed-done state (Err refusal) progress end ends done = absurd (false≢true (sym (refusal-undone refusal) ∙ ap (λ e. is_done e.outcome) ends ∙ ap is_done done))

-- where a fault is told, it is that of the change
changed-fault : (state : KernelState) (change : Result FlatMemory Refusal) (progress : Progress) (end : EventEnd) (it : Fault) → areas_changed state change progress ≡ end → end.outcome ≡ fault_outcome it
    → faulted change ≡ Err it
changed-fault state (Ok memory) progress end it ends told = absurd (false≢true (sym (fault-undone it) ∙ ap is_done (sym told) ∙ ap (λ e. is_done e.outcome) (sym ends)))
changed-fault state (Err refusal) progress end it ends told = ap Err (same-fault refusal it (ap (λ e. e.outcome) ends ∙ told))

-- the parent's memory, as the parts that stand for a state have it
pub stands-parent : (parts : KernelParts) (machine : Machine) (state : KernelState) → KernelStands parts machine state → parent_of parts ≡ state.world.parent
stands-parent parts machine state stands =
    let areas : parts.areas ≡ state.world.parent.areas = sym stands.areas in
    let present : pages_of parts.tables ≡ state.world.parent.present = seen-pages parts.tables (sides_of state stands.pages) stands.tables in
    λ i. record { areas = areas i; present = present i }

module _ (old new : KernelParts) (machine : Machine) (state : KernelState) (stands : KernelStands old machine state) where
  -- a change of areas that was done leaves the memory that it answers
  answered-done : (change : FlatMemory → Result FlatMemory Refusal) (progress : List Answer → Progress)
      → EventRan old new machine (λ answers. areas_changed state (change state.world.parent) (progress answers)) Done → faulted (change (parent_of old)) ≡ Ok (parent_of new)
  answered-done change progress ran =
      ap (λ memory. faulted (change memory)) (stands-parent old machine state stands)
      ∙ changed-done state (change state.world.parent) (progress (answers_of ran.deals)) _ ran.ends refl
      ∙ ap Ok (sym (stands-parent new machine ran.after ran.stands))

  -- one that was refused answers its fault
  answered-fault : (change : FlatMemory → Result FlatMemory Refusal) (progress : List Answer → Progress) (it : Fault)
      → EventRan old new machine (λ answers. areas_changed state (change state.world.parent) (progress answers)) (fault_outcome it) → faulted (change (parent_of old)) ≡ Err it
  answered-fault change progress it ran =
      ap (λ memory. faulted (change memory)) (stands-parent old machine state stands)
      ∙ changed-fault state (change state.world.parent) (progress (answers_of ran.deals)) _ it ran.ends refl

  -- ---- mapping

  -- what mapping answers, where it was done
  pub map-done : (most later first n : ℕ) (perm : Perm) → EventRan old new machine (λ answers. mapped state answers first n perm) Done
      → map_answer (memory_of old most) first n perm ≡ Ok (memory_of new later).mem
  map-done most later first n perm ran = answered-done (λ memory. map_of memory first n perm) (begun state) ran

  -- and where it was refused
  pub map-fault : (most first n : ℕ) (perm : Perm) (it : Fault) → EventRan old new machine (λ answers. mapped state answers first n perm) (fault_outcome it)
      → map_answer (memory_of old most) first n perm ≡ Err it
  map-fault most first n perm it ran = answered-fault (λ memory. map_of memory first n perm) (begun state) it ran

  pub map-refuses : (most first n : ℕ) (perm : Perm) (it : Fault) → EventRan old new machine (λ answers. mapped state answers first n perm) (fault_outcome it) → new ≡ old
      → Refuses (memory_of old most) (memory_of new most) (map_answer (memory_of old most) first n perm) it
  map-refuses most first n perm it ran same = (map-fault most first n perm it ran, ap (λ parts. memory_of parts most) same)

  -- ---- unmapping

  -- what unmapping answers, where it was done
  pub unmap-done : (most later first n : ℕ) → EventRan old new machine (λ answers. areas_changed state (unmap_of state.world.parent first n) (pages_unmapped first n (begun state answers))) Done
      → unmap_answer (memory_of old most) first n ≡ Ok (memory_of new later).mem
  unmap-done most later first n ran = answered-done (λ memory. unmap_of memory first n) (λ answers. pages_unmapped first n (begun state answers)) ran

  -- and where it was refused
  pub unmap-fault : (most first n : ℕ) (it : Fault) → EventRan old new machine (λ answers. areas_changed state (unmap_of state.world.parent first n) (pages_unmapped first n (begun state answers))) (fault_outcome it)
      → unmap_answer (memory_of old most) first n ≡ Err it
  unmap-fault most first n it ran = answered-fault (λ memory. unmap_of memory first n) (λ answers. pages_unmapped first n (begun state answers)) it ran

  pub unmap-refuses : (most first n : ℕ) (it : Fault) → EventRan old new machine (λ answers. areas_changed state (unmap_of state.world.parent first n) (pages_unmapped first n (begun state answers))) (fault_outcome it)
      → new ≡ old → Refuses (memory_of old most) (memory_of new most) (unmap_answer (memory_of old most) first n) it
  unmap-refuses most first n it ran same = (unmap-fault most first n it ran, ap (λ parts. memory_of parts most) same)

  -- the memory is the one of the answer
  pub unmap-changes : (most first n : ℕ) → EventRan old new machine (λ answers. areas_changed state (unmap_of state.world.parent first n) (pages_unmapped first n (begun state answers))) Done
      → Changes (memory_of old most) (memory_of new most) (unmap_answer (memory_of old most) first n)
  unmap-changes most first n ran = (unmap-done most most first n ran, refl)

  -- ---- protecting

  -- what another permission answers, where it was given
  pub protect-done : (most later first n : ℕ) (perm : Perm)
      → EventRan old new machine (λ answers. areas_changed state (protect_of state.world.parent first n perm) (pages_protected first n (begun state answers))) Done
      → protect_answer (memory_of old most) first n perm ≡ Ok (memory_of new later).mem
  protect-done most later first n perm ran = answered-done (λ memory. protect_of memory first n perm) (λ answers. pages_protected first n (begun state answers)) ran

  -- and where it was refused
  pub protect-fault : (most first n : ℕ) (perm : Perm) (it : Fault)
      → EventRan old new machine (λ answers. areas_changed state (protect_of state.world.parent first n perm) (pages_protected first n (begun state answers))) (fault_outcome it)
      → protect_answer (memory_of old most) first n perm ≡ Err it
  protect-fault most first n perm it ran = answered-fault (λ memory. protect_of memory first n perm) (λ answers. pages_protected first n (begun state answers)) it ran

  pub protect-refuses : (most first n : ℕ) (perm : Perm) (it : Fault)
      → EventRan old new machine (λ answers. areas_changed state (protect_of state.world.parent first n perm) (pages_protected first n (begun state answers))) (fault_outcome it)
      → new ≡ old → Refuses (memory_of old most) (memory_of new most) (protect_answer (memory_of old most) first n perm) it
  protect-refuses most first n perm it ran same = (protect-fault most first n perm it ran, ap (λ parts. memory_of parts most) same)

  -- the memory is the one of the answer
  pub protect-changes : (most first n : ℕ) (perm : Perm)
      → EventRan old new machine (λ answers. areas_changed state (protect_of state.world.parent first n perm) (pages_protected first n (begun state answers))) Done
      → Changes (memory_of old most) (memory_of new most) (protect_answer (memory_of old most) first n perm)
  protect-changes most first n perm ran = (protect-done most most first n perm ran, refl)

-- ---- a sound kernel is sound behind each of them

-- the memory of a snapshot that was not taken out
pub was-there : (snapshots : FinMap nat_cmp FlatMemory) (n m : ℕ) (memory : FlatMemory) → get (remove snapshots n) m ≡ Some memory → get snapshots m ≡ Some memory
was-there snapshots n m memory is = kept (eq_by_cmp nat_cmp m n) (sym (get-remove nat_cmp_total snapshots n m) ∙ is)
  where
    kept : (b : Bool) → cond b None (get snapshots m) ≡ Some memory → get snapshots m ≡ Some memory
    kept true e = absurd (false≢true (ap is_some e))
    kept false e = e

-- the event changes areas
abbrev is_change : Event → Bool
is_change (Map first n perm) = true
is_change (Unmap first n) = true
is_change (Protect first n perm) = true
is_change event = false

-- a change of areas notes no more frames
change-most : (before : PageTables) (event : Event) (outcome : Outcome) (most : ℕ) → is_change event ≡ true → most_behind before event outcome most ≡ most
change-most before (Map first n perm) outcome most changes = refl
change-most before (Unmap first n) outcome most changes = refl
change-most before (Protect first n perm) outcome most changes = refl
change-most before (Read address n) outcome most changes = refl
change-most before (Write address bytes) outcome most changes = absurd (false≢true changes)
change-most before (Fill address n byte) outcome most changes = absurd (false≢true changes)
change-most before (Fork n mode) outcome most changes = refl
change-most before (Copy n cell) outcome most changes = refl
change-most before (Drop n) outcome most changes = refl
change-most before (SnapRead n address size) outcome most changes = refl
change-most before Frames outcome most changes = refl
change-most before ListAreas outcome most changes = refl
change-most before (Refuse nth) outcome most changes = refl

module _ (old new : KernelParts) (notes : KernelNotes) (machine : Machine) (state : KernelState) (sound : IsSound old notes machine state) where
  -- whatever it answers
  change-sound : (event : Event) (outcome : Outcome) → is_change event ≡ true → IsWithinBounds event
      → (ran : EventRan old new machine (λ answers. event_end machine state answers event) outcome) → IsSound new notes machine ran.after
  change-sound event outcome changes within ran =
      let end : EventEnd = event_end machine state (answers_of ran.deals) event in
      let leaves : end.after ≡ ran.after = ap (λ e. e.after) ran.ends in
      let same : pages_of old.tables ≡ state.world.parent.present = seen-pages old.tables (sides_of state sound.stands.pages) sound.stands.tables in
      record {
        stands = ran.stands;
        flat = subst (λ s. IsFlat s.world.parent) leaves (event-flat machine state (answers_of ran.deals) event within sound.flat);
        own = subst (λ s. own_of s.world.parent ≤ notes.most) leaves
            (subst (λ most. own_of end.after.world.parent ≤ most) (change-most old.tables event end.outcome notes.most changes)
            (event-own machine state (answers_of ran.deals) old.tables same notes.most sound.own event));
        forked = subst (λ s. AreForkedFrom notes.forked s.world.snapshots s.world.last) leaves
            (event-kept (λ snapshots last. AreForkedFrom notes.forked snapshots last) machine state (answers_of ran.deals) sound.forked
            (λ n m memory there. sound.forked m memory (was-there state.world.snapshots n m memory there)) event (λ n mode is. false≢true (sym (ap is_change is) ∙ changes)));
      }

  -- whatever mapping answers, the kernel is sound behind it
  pub map-sound : (first n : ℕ) (perm : Perm) (outcome : Outcome) → 0 < n → first + n ≤ 2 ^ 36
      → (ran : EventRan old new machine (λ answers. mapped state answers first n perm) outcome) → IsSound new notes machine ran.after
  map-sound first n perm outcome some within ran = change-sound (Map first n perm) outcome refl (some, within) ran

  -- the same of unmapping
  pub unmap-sound : (first n : ℕ) (outcome : Outcome) → 0 < n → first + n ≤ 2 ^ 36
      → (ran : EventRan old new machine (λ answers. areas_changed state (unmap_of state.world.parent first n) (pages_unmapped first n (begun state answers))) outcome) → IsSound new notes machine ran.after
  unmap-sound first n outcome some within ran = change-sound (Unmap first n) outcome refl (some, within) ran

  -- and of protecting
  pub protect-sound : (first n : ℕ) (perm : Perm) (outcome : Outcome) → 0 < n → first + n ≤ 2 ^ 36
      → (ran : EventRan old new machine (λ answers. areas_changed state (protect_of state.world.parent first n perm) (pages_protected first n (begun state answers))) outcome) → IsSound new notes machine ran.after
  protect-sound first n perm outcome some within ran = change-sound (Protect first n perm) outcome refl (some, within) ran

-- ---- mapping leaves each page that could be stored to

not-refused : {X : Type 0} (why : ℕ → Refusal) (found : Option ℕ) (answer : Result X Refusal) (x : X) → or_refused why found answer ≡ Ok x → (found ≡ None) × (answer ≡ Ok x)
not-refused why None answer x is = (refl, is)
not-refused why (Some page) answer x is = absurd (false≢true (ap is_ok is))

ok-same : {X E : Type 0} (x y : X) → ◌≡◌ {A = Result X E} (Ok x) (Ok y) → x ≡ y
ok-same {X} {E} x y same = ap (λ (r : Result X E). elim r [ Ok z ↦ z | Err e ↦ x ]) same

-- a memory that has few enough areas
few-then : (memory after : FlatMemory) → at_most_128 memory ≡ Ok after → (memory ≡ after) × (length memory.areas ≤ 128)
few-then memory after is = elim (cases_Bool (leb (length memory.areas) 128)) [
  | inl few ↦ (ok-same memory after (sym (cond-true (leb (length memory.areas) 128) (Ok memory) (Err TooManyAreas) few) ∙ is), leb-true (length memory.areas) 128 few)
  | inr many ↦ absurd (false≢true (ap is_ok (sym (cond-false (leb (length memory.areas) 128) (Ok memory) (Err TooManyAreas) many) ∙ is)))
]

same-few : (areas other : List Area) → length other ≤ 128 → if_few areas ≡ if_few other → areas ≡ other
same-few areas other short same =
    let is : if_few areas ≡ Ok other = same ∙ cond-true (leb (length other) 128) (Ok other) (Err TooManyAreas) (le-leb (length other) 128 short) in
    elim (cases_Bool (leb (length areas) 128)) [
      | inl few ↦ ok-same areas other (sym (cond-true (leb (length areas) 128) (Ok areas) (Err TooManyAreas) few) ∙ is)
      | inr many ↦ absurd (false≢true (ap is_ok (sym (cond-false (leb (length areas) 128) (Ok areas) (Err TooManyAreas) many) ∙ is)))
    ]

-- mapped pages lay in no area, and all others have the permission that they had
map-sets : (memory after : FlatMemory) (first n : ℕ) (perm : Perm) → IsFlat memory → 0 < n → map_of memory first n perm ≡ Ok after
    → (taken memory.areas first n ≡ None) × Sets memory.areas after.areas first n (Some perm)
map-sets memory after first n perm flat some is =
    let new : List Area = joined (with_area (area_at first n perm) memory.areas) in
    let free = not-refused Taken (taken memory.areas first n) (at_most_128 (record memory { areas = new })) after is in
    let few = few-then (record memory { areas = new }) after free.1 in
    let made : if_few (joined (pieces first (first + n) (Some (area_at first n perm)) memory.areas)) ≡ if_few new =
    made_mapped memory.areas first n perm some flat.in_order free.0 ∙ ap (λ found. or_refused Taken found (if_few new)) free.0 in
    let same : joined (pieces first (first + n) (Some (area_at first n perm)) memory.areas) ≡ new =
    same-few (joined (pieces first (first + n) (Some (area_at first n perm)) memory.areas)) new few.1 made in
    (free.0, pieces_set first n (Some (area_at first n perm)) memory.areas after.areas (refl, refl) (sym (same ∙ ap (λ m. m.areas) few.0)))

-- a permission that lets a page be read alone
abbrev only_reads : Option Perm → Bool
only_reads None = false
only_reads (Some perm) = not (is_writable perm)

read-only-is : (areas : List Area) (page : ℕ) → is_read_only (area_of areas page) ≡ only_reads (permission_at areas page)
read-only-is areas page = by (area_of areas page)
  where
    by : (o : Option Area) → is_read_only o ≡ only_reads (option_map (λ (area : Area). area.perm) o)
    by None = refl
    by (Some area) = refl

-- a page of an area may be written behind a mapping where it might before
map-keeps : (memory after : FlatMemory) (first n : ℕ) (perm : Perm) → IsFlat memory → 0 < n → map_of memory first n perm ≡ Ok after
    → (page : ℕ) → is_some (area_of memory.areas page) ≡ true → is_read_only (area_of after.areas page) ≡ is_read_only (area_of memory.areas page)
map-keeps memory after first n perm flat some is page inside =
    let sets = map-sets memory after first n perm flat some is in
    read-only-is after.areas page ∙ ap only_reads (sets.1 page ∙ elim (cases_Bool (is_among first n page)) [
      | inl among ↦
          let parts = and_parts (leb first page) (ltb page (first + n)) among in
          absurd (false≢true (sym (fails_below n (λ q. is_some (area_of memory.areas q)) first sets.0 page (leb-true first page parts.0) (ltb-true page (first + n) parts.1)) ∙ inside))
      | inr beyond ↦ cond-false (is_among first n page) (Some perm) (permission_at memory.areas page) beyond
    ]) ∙ sym (read-only-is memory.areas page)

-- what a page that is not there may be is of no matter
alike : (a r s there : Bool) → (there ≡ true → r ≡ s) → ((a && not r) && there) ≡ ((a && not s) && there)
alike a r s true same = ap (λ b. (a && not b) && true) (same refl)
alike a r s false same = and_right (a && not r) false refl ∙ sym (and_right (a && not s) false refl)

unfaulted : (result : Result FlatMemory Refusal) (memory : FlatMemory) → faulted result ≡ Ok memory → result ≡ Ok memory
unfaulted (Ok other) memory is = ap Ok (ok-same other memory is)
unfaulted (Err refusal) memory is = absurd (false≢true (ap is_ok is))

module _ (old new : KernelParts) (notes : KernelNotes) (machine : Machine) (state : KernelState) (sound : IsSound old notes machine state) where
  seen-flat : IsFlat (parent_of old)
  seen-flat = subst IsFlat (sym (stands-parent old machine state sound.stands)) sound.flat

  ready-kept : (first n : ℕ) (perm : Perm) → 0 < n → map_of (parent_of old) first n perm ≡ Ok (parent_of new)
      → ready_in new.areas (views_of old.tables) ≡ ready_in old.areas (views_of old.tables)
  ready-kept first n perm some is =
      set.same_set nat_cmp_total nat_cmp-IsAntisymmetric (ready_in new.areas (views_of old.tables)) (ready_in old.areas (views_of old.tables)) (λ page.
      ready-is new.areas (views_of old.tables) page
      ∙ alike (is_alone_in (views_of old.tables) page) (is_read_only (area_of new.areas page)) (is_read_only (area_of old.areas page)) (is_some (get (pages_in (views_of old.tables)) page))
      (λ there. map-keeps (parent_of old) (parent_of new) first n perm seen-flat some is page (seen-flat.in_areas page there))
      ∙ sym (ready-is old.areas (views_of old.tables) page))

  -- where it was done and changed no more than the areas, the memory is the one of the answer, and all else is as it was
  pub map-maps : (most first n : ℕ) (perm : Perm) → 0 < n → EventRan old new machine (λ answers. mapped state answers first n perm) Done → new ≡ record old { areas = new.areas }
      → Maps (memory_of old most) (memory_of new most) (map_answer (memory_of old most) first n perm)
  map-maps most first n perm some ran same =
      let answer : map_answer (memory_of old most) first n perm ≡ Ok (parent_of new) = map-done old new machine state sound.stands most most first n perm ran in
      let ready : ready_in new.areas (views_of new.tables) ≡ ready_in old.areas (views_of old.tables) =
      ap (λ parts. ready_in new.areas (views_of parts.tables)) same ∙ ready-kept first n perm some (unfaulted (map_of (parent_of old) first n perm) (parent_of new) answer) in (
        answer,
        λ i. record {
          mem = parent_of new;
          refused = (same i).supply.refused;
          room = (same i).supply.made;
          slots = slot_count (same i).tables;
          used = used_in (views_of (same i).tables);
          ready = ready i;
          most = most;
          enough = None;
        },
      )

-- ---- no cell is used that was not

-- each cell that somebody has is one of the others
abbrev pub IsWithin : Leaves → Leaves → Type 0
IsWithin later before = (q : ℕ) → is_some (find nat_cmp q later) ≡ true → is_some (find nat_cmp q before) ≡ true

-- somebody has each of these cells
abbrev pub AreHad : List ℕ → Leaves → Type 0
AreHad [] leaves = Unit {0}
AreHad (c ∷ cells) leaves = (is_some (find nat_cmp c leaves) ≡ true) × AreHad cells leaves

had-further : (e : ℕ × CellLeaves) (cells : List ℕ) (leaves : Leaves) → AreHad cells leaves → AreHad cells (e ∷ leaves)
had-further e [] leaves had = tt
had-further e (c ∷ cells) leaves had = (
  elim (cases_eq c e.0) [ inl same ↦ ap is_some (find-head c e leaves same) | inr apart ↦ ap is_some (find-tail c e leaves apart) ∙ had.0 ],
  had-further e cells leaves had.1,
)

-- the cells of entries that pass a test are had
pub had-where : (test : ℕ × CellLeaves → Bool) (leaves : Leaves) → AreHad (map (λ entry. entry.0) (filter test leaves)) leaves
had-where test [] = tt
had-where test (e ∷ leaves) = elim (test e) as (λ b. AreHad (map (λ entry. entry.0) (cond b (e ∷ filter test leaves) (filter test leaves))) (e ∷ leaves)) [
  | true ↦ (ap is_some (find-head e.0 e leaves refl), had-further e _ leaves (had-where test leaves))
  | false ↦ had-further e _ leaves (had-where test leaves)
]

-- whatever becomes of a cell that is had, no other is had
pub with-had : (before leaves : Leaves) (c : ℕ) (cell : CellLeaves) → is_some (find nat_cmp c before) ≡ true → IsWithin leaves before → IsWithin (with_cell leaves c cell) before
with-had before leaves c cell had within q there = elim (cases_eq q c) [
  | inl same ↦ ap (λ n. is_some (find nat_cmp n before)) same ∙ had
  | inr apart ↦ elim (cases_Bool (is_used cell)) [
    | inl used ↦ within q (ap is_some (sym (find-apart leaves c cell used q apart)) ∙ there)
    | inr unused ↦ within q (ap is_some (sym (find-stays leaves c cell unused q apart)) ∙ there)
  ]
]

unmapped-within : (before : Leaves) (cells : List ℕ) (first n : ℕ) (progress : Progress) → AreHad cells before → IsWithin progress.leaves before → IsWithin (unmapped_at cells first n progress).leaves before
unmapped-within before [] first n progress had within = within
unmapped-within before (c ∷ cells) first n progress had within =
    let course : Course = cleared (first_in_cell c first) (count_in_cell c first n) (course_at c progress) in
    unmapped-within before cells first n (directory_shrunk progress.leaves (with_course c course progress)) had.1 (with-had before progress.leaves c course.cell had.0 within)

protected-within : (before : Leaves) (cells : List ℕ) (first n : ℕ) (progress : Progress) → AreHad cells before → IsWithin progress.leaves before → IsWithin (protected_at cells first n progress).leaves before
protected-within before [] first n progress had within = within
protected-within before (c ∷ cells) first n progress had within =
    let course : Course = protected (first_in_cell c first) (count_in_cell c first n) (course_at c progress) in
    protected-within before cells first n (with_course c course progress) had.1 (with-had before progress.leaves c course.cell had.0 within)

changed-within : (state : KernelState) (change : Result FlatMemory Refusal) (progress : Progress) (end : EventEnd) → areas_changed state change progress ≡ end → IsWithin progress.leaves state.leaves
    → IsWithin end.after.leaves state.leaves
changed-within state (Ok memory) progress end ends within = subst (λ e. IsWithin e.after.leaves state.leaves) ends within
changed-within state (Err refusal) progress end ends within = subst (λ e. IsWithin e.after.leaves state.leaves) ends (λ q there. there)

module _ (old new : KernelParts) (machine : Machine) (state : KernelState) (stands : KernelStands old machine state) where
  pub used-within : (after : KernelState) → KernelStands new machine after → IsWithin after.leaves state.leaves → (most later cell : ℕ) → IsIn cell (memory_of new later).used → IsIn cell (memory_of old most).used
  used-within after then within most later cell used =
      seen-used old.tables (sides_of state stands.pages) stands.tables cell
      ∙ within cell (sym (seen-used new.tables (sides_of after then.pages) then.tables cell) ∙ used)

  -- whatever mapping answers, a cell that is used behind it was used before
  pub map-used : (first n : ℕ) (perm : Perm) (outcome : Outcome) → EventRan old new machine (λ answers. mapped state answers first n perm) outcome
      → (most later cell : ℕ) → IsIn cell (memory_of new later).used → IsIn cell (memory_of old most).used
  map-used first n perm outcome ran =
      used-within ran.after ran.stands
      (changed-within state (map_of state.world.parent first n perm) (begun state (answers_of ran.deals)) _ ran.ends (λ q there. there))

  -- the same of unmapping
  pub unmap-used : (first n : ℕ) (outcome : Outcome)
      → EventRan old new machine (λ answers. areas_changed state (unmap_of state.world.parent first n) (pages_unmapped first n (begun state answers))) outcome
      → (most later cell : ℕ) → IsIn cell (memory_of new later).used → IsIn cell (memory_of old most).used
  unmap-used first n outcome ran =
      let start : Progress = begun state (answers_of ran.deals) in
      used-within ran.after ran.stands
      (changed-within state (unmap_of state.world.parent first n) (pages_unmapped first n start) _ ran.ends
      (unmapped-within state.leaves (changed_cells state.leaves first n) first n start (had-where _ state.leaves) (λ q there. there)))

  -- and of protecting
  pub protect-used : (first n : ℕ) (perm : Perm) (outcome : Outcome)
      → EventRan old new machine (λ answers. areas_changed state (protect_of state.world.parent first n perm) (pages_protected first n (begun state answers))) outcome
      → (most later cell : ℕ) → IsIn cell (memory_of new later).used → IsIn cell (memory_of old most).used
  protect-used first n perm outcome ran =
      let start : Progress = begun state (answers_of ran.deals) in
      used-within ran.after ran.stands
      (changed-within state (protect_of state.world.parent first n perm) (pages_protected first n start) _ ran.ends
      (protected-within state.leaves (changed_cells state.leaves first n) first n start (had-where _ state.leaves) (λ q there. there)))

-- ---- what each of them keeps

-- no more frames are out than were made, and the count of refused requests is one of 64 bits
abbrev pub IsInBounds : SupplyState → Type 0
IsInBounds supply = (supply.out ≤ supply.made) × (supply.refused ≤ 2 ^ 64 - 1)

-- a deal keeps the bounds, and the count does not fall
deal-bounds : (old new : SupplyState) (deal : Deal) → SupplyGoes old deal new → IsInBounds old → IsInBounds new × (old.refused ≤ new.refused)
deal-bounds old new (Granted want) goes bounds =
    let out : new.out ≡ old.out + 1 = ap (λ s. s.out) goes.is in
    let made : new.made ≡ old.made = ap (λ s. s.made) goes.is in
    let refused : new.refused ≡ old.refused = ap (λ s. s.refused) goes.is in
    ((omega (arith, out, made, goes.some_free), omega (arith, refused, bounds.1)), omega (arith, refused))
deal-bounds old new (Denied want at) goes bounds =
    let out : new.out ≡ old.out = ap (λ s. s.out) goes.is in
    let made : new.made ≡ old.made = ap (λ s. s.made) goes.is in
    let refused : new.refused ≡ next_count old.refused = ap (λ s. s.refused) goes.is in
    ((omega (arith, out, made, bounds.0), omega (arith, refused, bounds.1)), omega (arith, refused, bounds.1))
deal-bounds old new Returned goes bounds =
    let out : new.out ≡ old.out - 1 = ap (λ s. s.out) goes.is in
    let made : new.made ≡ old.made = ap (λ s. s.made) goes.is in
    let refused : new.refused ≡ old.refused = ap (λ s. s.refused) goes.is in
    ((omega (arith, out, made, bounds.0), omega (arith, refused, bounds.1)), omega (arith, refused))

-- the same of deals, one after another
pub deals-bounds : (old new : SupplyState) (deals : List Deal) → LeadsAlong SupplyGoes old deals new → IsInBounds old → IsInBounds new × (old.refused ≤ new.refused)
deals-bounds old new [] same bounds = subst (λ s. IsInBounds s × (old.refused ≤ s.refused)) (sym same) (bounds, le_refl old.refused)
deals-bounds old new (deal ∷ deals) led bounds =
    let first : IsInBounds led.0 × (old.refused ≤ led.0.refused) = deal-bounds old led.0 deal led.1.0 bounds in
    let rest : IsInBounds new × (led.0.refused ≤ new.refused) = deals-bounds led.0 new deals led.1.1 first.0 in
    (rest.0, le_trans first.1 rest.1)

module _ (old new : KernelParts) (notes : KernelNotes) (machine : Machine) (state : KernelState) (sound : IsSound old notes machine state) (bounds : IsInBounds old.supply) where
  call-kept : {end : List Answer → EventEnd} {outcome : Outcome} (ran : EventRan old new machine end outcome) → IsSound new notes machine ran.after
      → ((cell : ℕ) → IsIn cell (memory_of new notes.most).used → IsIn cell (memory_of old notes.most).used) → IsKept (memory_of old notes.most) (memory_of new notes.most) []
  call-kept ran later used =
      let then : IsInBounds new.supply × (old.supply.refused ≤ new.supply.refused) = deals-bounds old.supply new.supply ran.deals ran.led bounds in
      record {
        before = sound-memory old notes machine state sound bounds.0;
        after = sound-memory new notes machine ran.after later then.0.0;
        room = later.stands.supply.frames ∙ sym sound.stands.supply.frames;
        slots = later.stands.slots ∙ sym sound.stands.slots;
        used = λ cell there. inl (used cell there);
        enough = refl;
        counted = then.1;
        grown = omega arith;
      }

  -- whatever mapping answers
  pub map-kept : (first n : ℕ) (perm : Perm) (outcome : Outcome) → 0 < n → first + n ≤ 2 ^ 36
      → EventRan old new machine (λ answers. mapped state answers first n perm) outcome → IsKept (memory_of old notes.most) (memory_of new notes.most) []
  map-kept first n perm outcome some within ran =
      call-kept ran (map-sound old new notes machine state sound first n perm outcome some within ran) (map-used old new machine state sound.stands first n perm outcome ran notes.most notes.most)

  -- the same of unmapping
  pub unmap-kept : (first n : ℕ) (outcome : Outcome) → 0 < n → first + n ≤ 2 ^ 36
      → EventRan old new machine (λ answers. areas_changed state (unmap_of state.world.parent first n) (pages_unmapped first n (begun state answers))) outcome
      → IsKept (memory_of old notes.most) (memory_of new notes.most) []
  unmap-kept first n outcome some within ran =
      call-kept ran (unmap-sound old new notes machine state sound first n outcome some within ran) (unmap-used old new machine state sound.stands first n outcome ran notes.most notes.most)

  -- and of protecting
  pub protect-kept : (first n : ℕ) (perm : Perm) (outcome : Outcome) → 0 < n → first + n ≤ 2 ^ 36
      → EventRan old new machine (λ answers. areas_changed state (protect_of state.world.parent first n perm) (pages_protected first n (begun state answers))) outcome
      → IsKept (memory_of old notes.most) (memory_of new notes.most) []
  protect-kept first n perm outcome some within ran =
      call-kept ran (protect-sound old new notes machine state sound first n perm outcome some within ran) (protect-used old new machine state sound.stands first n perm outcome ran notes.most notes.most)
