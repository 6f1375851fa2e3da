-- What an event leaves of the parent's memory and of its snapshots.
use Rattle.std.proofs.Common.{◌≡◌, ℕ, ◌≤◌, ◌<◌, Bool, true, false, cond, List, [], length, replicate, Option, Some, None, Result, Ok, Err, refl, sym, ◌∙◌, ap, subst, arith, le_trans}
use Rattle.std.specs.Prelude.{max, nat_le, is_ok, is_some, IsSome}
use Rattle.std.specs.Ordering.{nat_cmp}
use Rattle.std.specs.FinMap.{FinMap, get, remove, len, get-empty}
use Rattle.std.proofs.lemmas.Bool.{false≢true}
use Rattle.std.proofs.lemmas.List.Elements.{All-replicate}
use Rattle.std.proofs.lemmas.List.{length-replicate}
use Rattle.vm_base.specs.declared.permission.Perm.{Perm}
use Rattle.vm_base.specs.declared.fork_mode.Mode.{Mode}
use Rattle.vm_base.specs.Places.{page_of, page_count, cells_of_range}
use Rattle.vm_base.specs.FlatMemory.{FlatMemory, IsFlat}
use Rattle.vm_base.specs.FlatStep.{Refusal, OutsideAreas, ReadOnly, Taken, TooManyAreas, or_refused, at_most_128, taken, outside, is_beyond, with_pages, with_bytes, touch_of, write_of, map_of, unmap_of, protect_of}
use Rattle.vm_base.specs.MemoryState.{own_of}
use Rattle.kernel_meaning.specs.Requests.{Answer}
use Rattle.kernel_meaning.specs.FrameLaw.{lacks_slots}
use Rattle.kernel_meaning.specs.EventRequests.{FrameRefusal, Progress, pages_touched, snapshot_forked}
use Rattle.trace_events.specs.declared.event.Event.{Event}
use Rattle.trace_events.specs.declared.event.Event.TheVariants.{Map, Unmap, Protect, Read, Write, Fill, Fork, Copy, Drop, SnapRead, Frames, ListAreas, Refuse}
use Rattle.trace_events.specs.declared.outcome.Outcome.TheVariants.{CellsFull}
use Rattle.trace_events.specs.EventBounds.{IsWithinBounds}
use Rattle.page_tables.specs.declared.tables.PageTables.{PageTables}
use Rattle.trace_core.specs.KernelState.{Machine, KernelState, opening_state}
use Rattle.trace_core.specs.EventMeaning.{EventEnd, begun, areas_changed, touch_answered, touch_judged, fork_answered, is_live, event_end}
use Rattle.trace_core.specs.KernelStanding.{KernelParts, KernelStands}
use Rattle.trace_core.specs.KernelSeen.{IsSound, KernelNotes, most_touched, most_answered, most_behind}
use Rattle.vm_base.proofs.FlatLaws.{keys-with_bytes, get-unmapped}
use Rattle.area_list.proofs.FlatSteps.{opening-flat, map-flat, unmap-flat, protect-flat, write-flat, touched_is, stored_is, present-touched}
use Rattle.vm_base.proofs.OwnFrames.{own-fewer, own-alike, own-empty}
use Rattle.page_tables.specs.TablesView.{pages_of}

-- the value of an answer
abbrev value_or : {X E : Type 0} → X → Result X E → X
value_or default (Ok value) = value
value_or default (Err refused) = default

ok-is : {X E : Type 0} {one other : X} → ◌≡◌ {A = Result X E} (Ok one) (Ok other) → one ≡ other
ok-is {one = one} same = ap (value_or one) same

le-max : (m n : ℕ) → m ≤ max m n
le-max m n = omega arith

le-max-right : (m n : ℕ) → n ≤ max m n
le-max-right m n = omega arith

-- ---- the parent's memory

-- the memory that an event changes the parent's to, where nothing stands against it
abbrev pub change_of : FlatMemory → Event → Result FlatMemory Refusal
change_of memory (Map first n perm) = map_of memory first n perm
change_of memory (Unmap first n) = unmap_of memory first n
change_of memory (Protect first n perm) = protect_of memory first n perm
change_of memory (Write address bytes) = write_of memory address bytes
change_of memory (Fill address n byte) = write_of memory address (replicate n byte)
change_of memory event = Ok memory

-- a state behind an event keeps what its parent's memory has, where the changed one has it too
module _ (P : FlatMemory → Type 0) (machine : Machine) (state : KernelState) (answers : List Answer) (before : P state.world.parent) where
  picked : (b : Bool) (one other : EventEnd) → P one.after.world.parent → P other.after.world.parent → P (cond b one other).after.world.parent
  picked true one other first second = first
  picked false one other first second = second

  changed-parent : (result : Result FlatMemory Refusal) (progress : Progress) → ((memory : FlatMemory) → result ≡ Ok memory → P memory)
      → P (areas_changed state result progress).after.world.parent
  changed-parent (Ok memory) progress given = given memory refl
  changed-parent (Err refusal) progress given = before

  answered-parent : (memory : FlatMemory) (refused : Option FrameRefusal) (progress : Progress) → P memory → P (touch_answered state memory refused progress).after.world.parent
  answered-parent memory None progress given = given
  answered-parent memory (Some refusal) progress given = before

  judged-parent : (address n : ℕ) (result : Result FlatMemory Refusal) → ((memory : FlatMemory) → result ≡ Ok memory → P memory)
      → P (touch_judged machine state answers address n result).after.world.parent
  judged-parent address n (Err refusal) given = before
  judged-parent address n (Ok memory) given =
      let progress : Progress = pages_touched (page_of address) (page_count address n) (begun state answers) in
      picked (lacks_slots machine.slots state.leaves (cells_of_range address n)) _ (touch_answered state memory progress.refused progress) before (answered-parent memory progress.refused progress (given memory refl))

  forked-parent : (n : ℕ) (refused : Option FrameRefusal) (progress : Progress) → P (fork_answered state n refused progress).after.world.parent
  forked-parent n None progress = before
  forked-parent n (Some refusal) progress = before

  pub event-parent : (event : Event) → ((memory : FlatMemory) → change_of state.world.parent event ≡ Ok memory → P memory) → P (event_end machine state answers event).after.world.parent
  event-parent (Map first n perm) given = changed-parent (map_of state.world.parent first n perm) (begun state answers) given
  event-parent (Unmap first n) given = changed-parent (unmap_of state.world.parent first n) _ given
  event-parent (Protect first n perm) given = changed-parent (protect_of state.world.parent first n perm) _ given
  event-parent (Read address n) given = before
  event-parent (Write address bytes) given = judged-parent address (length bytes) (write_of state.world.parent address bytes) given
  event-parent (Fill address n byte) given =
      judged-parent address (length (replicate n byte)) (write_of state.world.parent address (replicate n byte)) given
  event-parent (Fork n mode) given =
      let progress : Progress = snapshot_forked n mode (begun state answers) in
      picked (nat_le machine.limit (len state.world.snapshots)) _ (fork_answered state n progress.refused progress) before (forked-parent n progress.refused progress)
  event-parent (Copy n cell) given = picked (is_live state.world n) _ _ before before
  event-parent (Drop n) given = picked (is_live state.world n) _ _ before before
  event-parent (SnapRead n address size) given = before
  event-parent Frames given = before
  event-parent ListAreas given = before
  event-parent (Refuse nth) given = before

-- a flat memory is flat behind each event
pub event-flat : (machine : Machine) (state : KernelState) (answers : List Answer) (event : Event) → IsWithinBounds event → IsFlat state.world.parent → IsFlat (event_end machine state answers event).after.world.parent
event-flat machine state answers event within flat = event-parent IsFlat machine state answers flat event (changes-flat event within)
  where
    changes-flat : (event : Event) → IsWithinBounds event → (memory : FlatMemory) → change_of state.world.parent event ≡ Ok memory → IsFlat memory
    changes-flat (Map first n perm) within memory is = map-flat state.world.parent first n perm memory flat within.0 within.1 is
    changes-flat (Unmap first n) within memory is = unmap-flat state.world.parent first n memory flat within.0 is
    changes-flat (Protect first n perm) within memory is = protect-flat state.world.parent first n perm memory flat within.0 within.1 is
    changes-flat (Write address bytes) within memory is = write-flat state.world.parent address bytes memory flat within.1 is
    changes-flat (Fill address n byte) within memory is = write-flat state.world.parent address (replicate n byte) memory flat (All-replicate (λ b. b < 256) n byte within.1) is
    changes-flat (Read address n) within memory is = subst IsFlat (ok-is is) flat
    changes-flat (Fork n mode) within memory is = subst IsFlat (ok-is is) flat
    changes-flat (Copy n cell) within memory is = subst IsFlat (ok-is is) flat
    changes-flat (Drop n) within memory is = subst IsFlat (ok-is is) flat
    changes-flat (SnapRead n address size) within memory is = subst IsFlat (ok-is is) flat
    changes-flat Frames within memory is = subst IsFlat (ok-is is) flat
    changes-flat ListAreas within memory is = subst IsFlat (ok-is is) flat
    changes-flat (Refuse nth) within memory is = subst IsFlat (ok-is is) flat

-- ---- its own frames

-- an answer behind refusals that did not come
or-is : {X : Type 0} (why : ℕ → Refusal) (page : Option ℕ) (answer : Result X Refusal) (given : X) → or_refused why page answer ≡ Ok given → answer ≡ Ok given
or-is why None answer given is = is
or-is why (Some page) answer given is = absurd (false≢true (ap is_ok is))

few-is : (memory after : FlatMemory) → at_most_128 memory ≡ Ok after → memory ≡ after
few-is memory after is = elim (nat_le (length memory.areas) 128) as (λ b. cond b (Ok memory) (Err TooManyAreas) ≡ Ok after → memory ≡ after) [
  | true ↦ ok-is
  | false ↦ λ e. absurd (false≢true (ap is_ok e))
] is

module _ (memory after : FlatMemory) where
  mapped-own : (first n : ℕ) (perm : Perm) → map_of memory first n perm ≡ Ok after → own_of after ≤ own_of memory
  mapped-own first n perm is =
      let made : _ ≡ after = few-is _ after (or-is Taken (taken memory.areas first n) _ after is) in
      own-fewer after memory (λ page there. subst (λ present. IsSome (get present page)) (sym (ap (λ m. m.present) made)) there)

  protected-own : (first n : ℕ) (perm : Perm) → protect_of memory first n perm ≡ Ok after → own_of after ≤ own_of memory
  protected-own first n perm is =
      let made : _ ≡ after = few-is _ after (or-is OutsideAreas (outside memory.areas first n) _ after is) in
      own-fewer after memory (λ page there. subst (λ present. IsSome (get present page)) (sym (ap (λ m. m.present) made)) there)

  unmapped-own : (first n : ℕ) → unmap_of memory first n ≡ Ok after → own_of after ≤ own_of memory
  unmapped-own first n is =
      let made : _ ≡ after = few-is _ after is in
      own-fewer after memory (λ page there.
      kept (is_beyond first n page) (get memory.present page)
      (subst IsSome (get-unmapped memory.present first n page) (subst (λ present. IsSome (get present page)) (sym (ap (λ m. m.present) made)) there)))
    where
      kept : (b : Bool) (o : Option (List ℕ)) → IsSome (cond b o None) → IsSome o
      kept true o there = there
      kept false o there = absurd (false≢true there)

-- a write leaves the frames of its range's touch
written-own : (memory : FlatMemory) (address : ℕ) (bytes : List ℕ) (after : FlatMemory) → write_of memory address bytes ≡ Ok after
    → own_of after ≡ own_of (record { areas = []; present = with_pages memory.present (page_of address) (page_count address (length bytes)) })
written-own memory address bytes after is =
    let parts = stored_is (touch_of memory address (length bytes)) address bytes after is in
    let touched : FlatMemory = parts.0 in
    let there = present-touched memory address (length bytes) touched parts.1 in
    let pages = touched_is memory address (length bytes) touched parts.1 in
    ap own_of (sym parts.2)
    ∙ own-alike (record touched { present = with_bytes touched.present address bytes }) touched (keys-with_bytes touched.present address bytes there)
    ∙ ap (λ present. own_of (record { areas = []; present = present })) (sym (ap (λ m. m.present) pages.1))

module _ (machine : Machine) (state : KernelState) (answers : List Answer) (before : PageTables) (same : pages_of before ≡ state.world.parent.present)
    (most : ℕ) (own : own_of state.world.parent ≤ most) where
  answered-own : (address n : ℕ) (memory : FlatMemory) (refused : Option FrameRefusal) (progress : Progress) → own_of memory ≤ most_touched before address n most
      → own_of (touch_answered state memory refused progress).after.world.parent ≤ most_answered before address n most (touch_answered state memory refused progress).outcome
  answered-own address n memory None progress given = given
  answered-own address n memory (Some refusal) progress given = le_trans own (le-max most _)

  judged-own : (address n : ℕ) (result : Result FlatMemory Refusal) → ((memory : FlatMemory) → result ≡ Ok memory → own_of memory ≤ most_touched before address n most)
      → own_of (touch_judged machine state answers address n result).after.world.parent ≤ most_answered before address n most (touch_judged machine state answers address n result).outcome
  judged-own address n (Err (OutsideAreas page)) given = own
  judged-own address n (Err (ReadOnly page)) given = own
  judged-own address n (Err (Taken page)) given = own
  judged-own address n (Err TooManyAreas) given = own
  judged-own address n (Ok memory) given =
      let progress : Progress = pages_touched (page_of address) (page_count address n) (begun state answers) in
      elim (lacks_slots machine.slots state.leaves (cells_of_range address n)) as (λ b. let end : EventEnd = cond b (record { outcome = CellsFull; deals = []; after = state }) (touch_answered state memory progress.refused progress) in
      own_of end.after.world.parent ≤ most_answered before address n most end.outcome) [
        | true ↦ own
        | false ↦ answered-own address n memory progress.refused progress (given memory refl)
      ]

  wrote-own : (address : ℕ) (bytes : List ℕ) (memory : FlatMemory) → write_of state.world.parent address bytes ≡ Ok memory → own_of memory ≤ most_touched before address (length bytes) most
  wrote-own address bytes memory is =
      let reached : own_of memory ≡ own_of (record { areas = []; present = with_pages (pages_of before) (page_of address) (page_count address (length bytes)) }) =
      written-own state.world.parent address bytes memory is
      ∙ ap (λ present. own_of (record { areas = []; present = with_pages present (page_of address) (page_count address (length bytes)) })) (sym same) in
      subst (λ n. n ≤ most_touched before address (length bytes) most) (sym reached) (le-max-right most _)

  unchanged-own : (memory : FlatMemory) → ◌≡◌ {A = Result FlatMemory Refusal} (Ok state.world.parent) (Ok memory) → own_of memory ≤ most
  unchanged-own memory is = subst (λ m. own_of m ≤ most) (ok-is is) own

  pub event-own : (event : Event) → own_of (event_end machine state answers event).after.world.parent ≤ most_behind before event (event_end machine state answers event).outcome most
  event-own (Map first n perm) = event-parent (λ m. own_of m ≤ most) machine state answers own (Map first n perm) (λ memory is. le_trans (mapped-own state.world.parent memory first n perm is) own)
  event-own (Unmap first n) = event-parent (λ m. own_of m ≤ most) machine state answers own (Unmap first n) (λ memory is. le_trans (unmapped-own state.world.parent memory first n is) own)
  event-own (Protect first n perm) = event-parent (λ m. own_of m ≤ most) machine state answers own (Protect first n perm) (λ memory is. le_trans (protected-own state.world.parent memory first n perm is) own)
  event-own (Write address bytes) = judged-own address (length bytes) (write_of state.world.parent address bytes) (wrote-own address bytes)
  event-own (Fill address n byte) =
      subst (λ size. own_of (touch_judged machine state answers address (length (replicate n byte)) (write_of state.world.parent address (replicate n byte))).after.world.parent
      ≤ most_answered before address size most (touch_judged machine state answers address (length (replicate n byte)) (write_of state.world.parent address (replicate n byte))).outcome)
      (length-replicate n byte) (judged-own address (length (replicate n byte)) (write_of state.world.parent address (replicate n byte)) (wrote-own address (replicate n byte)))
  event-own (Read address n) = own
  event-own (Fork n mode) = event-parent (λ m. own_of m ≤ most) machine state answers own (Fork n mode) unchanged-own
  event-own (Copy n cell) = event-parent (λ m. own_of m ≤ most) machine state answers own (Copy n cell) unchanged-own
  event-own (Drop n) = event-parent (λ m. own_of m ≤ most) machine state answers own (Drop n) unchanged-own
  event-own (SnapRead n address size) = own
  event-own Frames = own
  event-own ListAreas = own
  event-own (Refuse nth) = own

-- ---- the snapshots

-- an event other than a fork or a drop leaves the snapshots and the last number
module _ (Q : FinMap nat_cmp FlatMemory → ℕ → Type 0) (machine : Machine) (state : KernelState) (answers : List Answer)
    (before : Q state.world.snapshots state.world.last) (without : (n : ℕ) → Q (remove state.world.snapshots n) state.world.last) where
  abbrev Kept : EventEnd → Type 0
  Kept end = Q end.after.world.snapshots end.after.world.last

  picked-kept : (b : Bool) (one other : EventEnd) → Kept one → Kept other → Kept (cond b one other)
  picked-kept true one other first second = first
  picked-kept false one other first second = second

  changed-kept : (result : Result FlatMemory Refusal) (progress : Progress) → Kept (areas_changed state result progress)
  changed-kept (Ok memory) progress = before
  changed-kept (Err refusal) progress = before

  answered-kept : (memory : FlatMemory) (refused : Option FrameRefusal) (progress : Progress) → Kept (touch_answered state memory refused progress)
  answered-kept memory None progress = before
  answered-kept memory (Some refusal) progress = before

  judged-kept : (address n : ℕ) (result : Result FlatMemory Refusal) → Kept (touch_judged machine state answers address n result)
  judged-kept address n (Err refusal) = before
  judged-kept address n (Ok memory) =
      let progress : Progress = pages_touched (page_of address) (page_count address n) (begun state answers) in
      picked-kept (lacks_slots machine.slots state.leaves (cells_of_range address n)) _ (touch_answered state memory progress.refused progress) before (answered-kept memory progress.refused progress)

  pub event-kept : (event : Event) → ((n : ℕ) (mode : Mode) → event ≡ Fork n mode → ⊥) → Kept (event_end machine state answers event)
  event-kept (Map first n perm) other = changed-kept (map_of state.world.parent first n perm) (begun state answers)
  event-kept (Unmap first n) other = changed-kept (unmap_of state.world.parent first n) _
  event-kept (Protect first n perm) other = changed-kept (protect_of state.world.parent first n perm) _
  event-kept (Read address n) other = before
  event-kept (Write address bytes) other = judged-kept address (length bytes) (write_of state.world.parent address bytes)
  event-kept (Fill address n byte) other = judged-kept address (length (replicate n byte)) (write_of state.world.parent address (replicate n byte))
  event-kept (Fork n mode) other = absurd (other n mode refl)
  event-kept (Copy n cell) other = picked-kept (is_live state.world n) _ _ before before
  event-kept (Drop n) other = picked-kept (is_live state.world n) _ _ (without n) before
  event-kept (SnapRead n address size) other = before
  event-kept Frames other = before
  event-kept ListAreas other = before
  event-kept (Refuse nth) other = before

-- ---- a new kernel

-- the opening state is sound
pub opening-sound : (parts : KernelParts) (notes : KernelNotes) (machine : Machine) (last : ℕ) → KernelStands parts machine (opening_state last) → IsSound parts notes machine (opening_state last)
opening-sound parts notes machine last st = record {
  stands = st;
  flat = opening-flat;
  own = subst (λ n. n ≤ notes.most) (sym own-empty) (omega arith);
  forked = λ n memory is. absurd (false≢true (sym (ap is_some (get-empty nat_cmp n)) ∙ ap is_some is));
}
