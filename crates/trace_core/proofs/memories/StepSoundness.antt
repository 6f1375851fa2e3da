-- A kernel that is sound is sound behind each event.
use Rattle.std.proofs.Common.{◌≡◌, ℕ, ◌≤◌, ◌<◌, Bool, true, false, cond, List, Option, Some, None, refl, sym, ◌∙◌, ap, subst, inl, inr}
use Rattle.std.specs.Prelude.{nat_le, is_some, unwrap_or, Result, Ok, Err, IfOk, OnErr}
use Rattle.std.specs.Ordering.{nat_cmp, eq_by_cmp}
use Rattle.std.specs.Cmp.{nat_cmp_total}
use Rattle.std.specs.FinMap.{FinMap, get, remove, len, get-empty, get-remove}
use Rattle.std.proofs.lemmas.Bool.{false≢true, cases_eq}
use Rattle.std.proofs.Math.Logic.{∥∥₁_map}
use Rattle.vm_base.specs.declared.fork_mode.Mode.{Mode}
use Rattle.vm_base.specs.FlatMemory.{PageMap, FlatMemory, IsFlat}
use Rattle.vm_base.specs.MemoryState.{own_of}
use Rattle.vm_base.proofs.NumberedMaps.{get_inserted_here, get_inserted_apart}
use Rattle.kernel_meaning.specs.Requests.{Answer, answers_of}
use Rattle.kernel_meaning.specs.EventRequests.{FrameRefusal, Progress, snapshot_forked}
use Rattle.trace_events.specs.declared.event.Event.{Event}
use Rattle.trace_events.specs.declared.event.Event.TheVariants.{Map, Unmap, Protect, Read, Write, Fill, Fork, Copy, Drop, SnapRead, Frames, ListAreas, Refuse}
use Rattle.trace_events.specs.declared.outcome.Outcome.{Outcome}
use Rattle.trace_events.specs.declared.outcome.Outcome.TheVariants.{TooMany}
use Rattle.trace_events.specs.EventBounds.{IsWithinBounds}
use Rattle.page_tables.specs.declared.tables.PageTables.{PageTables}
use Rattle.page_tables.specs.Sides.{Sides}
use Rattle.page_tables.specs.Standing.{TablesStandFor}
use Rattle.trace_core.specs.declared.parts.SnapshotAreas.{SnapshotAreas}
use Rattle.trace_core.specs.KernelState.{Machine, KernelState}
use Rattle.trace_core.specs.EventMeaning.{EventEnd, begun, fork_answered, event_end}
use Rattle.trace_core.specs.KernelStanding.{KernelParts, IsKernel, kept_memories, sides_of}
use Rattle.trace_core.specs.KernelRun.{Ran, EventFollows}
use Rattle.trace_core.specs.KernelSeen.{KernelNotes, IsSound, IsKernelNoted, AreForkedFrom, most_behind, is_new_fork, IsNoted}
use Rattle.frame_pool.specs.Policies.{PolicyView}
use Rattle.trace_core.proofs.events.OneSnapshot.{lives-len}
use Rattle.trace_core.proofs.supplies.Policies.{under, stands-under}
use Rattle.trace_core.proofs.memories.EventSoundness.{event-flat, event-own, event-kept}
use Rattle.page_tables.specs.TablesView.{pages_of}

-- no memory of a snapshot is there where none lives
none-there : (snapshot : Option SnapshotAreas) (pages : FinMap nat_cmp PageMap) (memories : FinMap nat_cmp FlatMemory) → kept_memories snapshot pages memories
    → nat_le 1 (len memories) ≡ false → (m : ℕ) → get memories m ≡ None
none-there None pages memories none few m = ap (λ map. get map m) none ∙ get-empty nat_cmp m
none-there (Some kept) pages memories its few m = absurd (false≢true (sym few ∙ ap (nat_le 1) (lives-len (Some kept) pages memories its)))

-- the event is a fork
abbrev pub is_fork : Event → Bool
is_fork (Fork n mode) = true
is_fork event = false

apart : false ≡ true → ⊥
apart = false≢true

-- the memory of a snapshot that was not taken out
was-there : (snapshots : FinMap nat_cmp FlatMemory) (n m : ℕ) (memory : FlatMemory) → get (remove snapshots n) m ≡ Some memory → get snapshots m ≡ Some memory
was-there snapshots n m memory is = kept (eq_by_cmp nat_cmp m n) (sym (get-remove nat_cmp_total snapshots n m) ∙ is)
  where
    kept : (b : Bool) → cond b None (get snapshots m) ≡ Some memory → get snapshots m ≡ Some memory
    kept true e = absurd (false≢true (ap is_some e))
    kept false e = e

some-is : {one other : FlatMemory} → ◌≡◌ {A = Option FlatMemory} (Some one) (Some other) → one ≡ other
some-is {one = one} same = ap (λ o. unwrap_or o one) same

module _ (seen : (tables : PageTables) (sides : Sides) → TablesStandFor tables sides → pages_of tables ≡ sides.pages) where
  module _ (old new : KernelParts) (notes later : KernelNotes) (outcome : Outcome) (machine : Machine) (state : KernelState) (sound : IsSound old notes machine state) where
    -- the snapshots behind a fork
    fork-cases : (n : ℕ) (mode : Mode) (b : Bool) (refused : Option FrameRefusal) (progress : Progress) (few : EventEnd) → few.outcome ≡ TooMany → few.after ≡ state → 0 < n
        → (b ≡ false → (m : ℕ) → get state.world.snapshots m ≡ None)
        → let end : EventEnd = cond b few (fork_answered state n refused progress) in end.outcome ≡ outcome → pages_of new.tables ≡ end.after.world.parent.present
        → (is_new_fork (Fork n mode) outcome ≡ true → later.forked ≡ new.tables) → (is_new_fork (Fork n mode) outcome ≡ false → later.forked ≡ notes.forked)
        → AreForkedFrom later.forked end.after.world.snapshots end.after.world.last
    fork-cases n mode true refused progress few many same some none is pages forked kept =
        subst (λ s. AreForkedFrom later.forked s.world.snapshots s.world.last) (sym same)
        (subst (λ t. AreForkedFrom t state.world.snapshots state.world.last) (sym (kept (ap (is_new_fork (Fork n mode)) (sym is ∙ many)))) sound.forked)
    fork-cases n mode false (Some refusal) progress few many same some none is pages forked kept =
        subst (λ t. AreForkedFrom t state.world.snapshots state.world.last) (sym (kept (ap (is_new_fork (Fork n mode)) (sym is)))) sound.forked
    fork-cases n mode false None progress few many same some none is pages forked kept = λ m memory there. elim (cases_eq m n) [
      | inl here ↦
          let mine : state.world.parent ≡ memory = some-is (sym (get_inserted_here state.world.snapshots n state.world.parent m here) ∙ there) in
          (subst (λ k. 0 < k) (sym here) some, here, ap (λ it. it.present) (sym mine) ∙ sym pages ∙ ap pages_of (sym (forked (ap (is_new_fork (Fork n mode)) (sym is)))))
      | inr away ↦ absurd (false≢true (ap is_some (sym (none refl m) ∙ sym (get_inserted_apart state.world.snapshots n state.world.parent m away) ∙ there)))
    ]

    others : (answers : List Answer) (event : Event) → later.forked ≡ notes.forked → ((n : ℕ) (mode : Mode) → event ≡ Fork n mode → ⊥)
        → AreForkedFrom later.forked (event_end machine state answers event).after.world.snapshots (event_end machine state answers event).after.world.last
    others answers event same other =
        subst (λ t. AreForkedFrom t (event_end machine state answers event).after.world.snapshots (event_end machine state answers event).after.world.last) (sym same)
        (event-kept (λ snapshots last. AreForkedFrom notes.forked snapshots last) machine state answers sound.forked
        (λ n m memory there. sound.forked m memory (was-there state.world.snapshots n m memory there)) event other)

    forked-behind : (answers : List Answer) (event : Event) → IsWithinBounds event → (event_end machine state answers event).outcome ≡ outcome
        → pages_of new.tables ≡ (event_end machine state answers event).after.world.parent.present
        → (is_new_fork event outcome ≡ true → later.forked ≡ new.tables) → (is_new_fork event outcome ≡ false → later.forked ≡ notes.forked)
        → AreForkedFrom later.forked (event_end machine state answers event).after.world.snapshots (event_end machine state answers event).after.world.last
    forked-behind answers (Fork n mode) within is pages forked kept =
        let progress : Progress = snapshot_forked n mode (begun state answers) in
        fork-cases n mode (nat_le machine.limit (len state.world.snapshots)) progress.refused progress _ refl refl within.0.0
        (λ few. none-there old.snapshot sound.stands.pages state.world.snapshots sound.stands.memories (ap (λ limit. nat_le limit (len state.world.snapshots)) (sym sound.stands.limit) ∙ few))
        is pages forked kept
    forked-behind answers (Map first n perm) within is pages forked kept = others answers (Map first n perm) (kept refl) (λ m mode e. apart (ap is_fork e))
    forked-behind answers (Unmap first n) within is pages forked kept = others answers (Unmap first n) (kept refl) (λ m mode e. apart (ap is_fork e))
    forked-behind answers (Protect first n perm) within is pages forked kept = others answers (Protect first n perm) (kept refl) (λ m mode e. apart (ap is_fork e))
    forked-behind answers (Read address n) within is pages forked kept = others answers (Read address n) (kept refl) (λ m mode e. apart (ap is_fork e))
    forked-behind answers (Write address bytes) within is pages forked kept = others answers (Write address bytes) (kept refl) (λ m mode e. apart (ap is_fork e))
    forked-behind answers (Fill address n byte) within is pages forked kept = others answers (Fill address n byte) (kept refl) (λ m mode e. apart (ap is_fork e))
    forked-behind answers (Copy n cell) within is pages forked kept = others answers (Copy n cell) (kept refl) (λ m mode e. apart (ap is_fork e))
    forked-behind answers (Drop n) within is pages forked kept = others answers (Drop n) (kept refl) (λ m mode e. apart (ap is_fork e))
    forked-behind answers (SnapRead n address size) within is pages forked kept = others answers (SnapRead n address size) (kept refl) (λ m mode e. apart (ap is_fork e))
    forked-behind answers Frames within is pages forked kept = others answers Frames (kept refl) (λ m mode e. apart (ap is_fork e))
    forked-behind answers ListAreas within is pages forked kept = others answers ListAreas (kept refl) (λ m mode e. apart (ap is_fork e))
    forked-behind answers (Refuse nth) within is pages forked kept = others answers (Refuse nth) (kept refl) (λ m mode e. apart (ap is_fork e))

  -- whatever an event answers, the parts behind it are sound again
  pub sound-behind : (old new : KernelParts) (notes later : KernelNotes) (event : Event) (outcome : Outcome) → IsWithinBounds event → Ran old new event outcome
      → later.most ≡ most_behind old.tables event outcome notes.most
      → (is_new_fork event outcome ≡ true → later.forked ≡ new.tables) → (is_new_fork event outcome ≡ false → later.forked ≡ notes.forked)
      → ∥ IsKernelNoted old notes ∥₁ → ∥ IsKernelNoted new later ∥₁
  sound-behind old new notes later event outcome within ran most forked kept known = ∥∥₁_map known (λ it.
      let machine : Machine = it.0 in
      let state : KernelState = it.1.0 in
      let sound : IsSound old notes machine state = it.1.1 in
      let follows : EventFollows old new machine state event outcome = ran machine state sound.stands in
      let end : EventEnd = event_end machine state (answers_of follows.deals) event in
      let same : pages_of old.tables ≡ state.world.parent.present = seen old.tables (sides_of state sound.stands.pages) sound.stands.tables in
      let then : pages_of new.tables ≡ follows.after.world.parent.present = seen new.tables (sides_of follows.after follows.stands.pages) follows.stands.tables in
      let leaves : end.after ≡ follows.after = follows.is_event.leaves in
      let answered : end.outcome ≡ outcome = follows.is_event.answers in (
        machine,
        (
          follows.after,
          record {
            stands = follows.stands;
            flat = subst (λ s. IsFlat s.world.parent) leaves (event-flat machine state (answers_of follows.deals) event within sound.flat);
            own = subst (λ n. own_of follows.after.world.parent ≤ n) (sym most) (subst (λ o. own_of follows.after.world.parent ≤ most_behind old.tables event o notes.most) answered
                (subst (λ s. own_of s.world.parent ≤ most_behind old.tables event end.outcome notes.most) leaves
                (event-own machine state (answers_of follows.deals) old.tables same notes.most sound.own event)));
            forked = subst (λ s. AreForkedFrom later.forked s.world.snapshots s.world.last) leaves
                (forked-behind old new notes later outcome machine state sound (answers_of follows.deals) event within answered (then ∙ sym (ap (λ s. s.world.parent.present) leaves)) forked kept);
          },
        ),
      ))

-- ---- under other policies

-- the parts of a sound kernel stand for the state of a run
pub known-noted : (parts : KernelParts) (notes : KernelNotes) → ∥ IsKernelNoted parts notes ∥₁ → ∥ IsKernel parts ∥₁
known-noted parts notes known = ∥∥₁_map known (λ it. (it.0, (it.1.0, it.1.1.stands)))

-- it is sound whatever the policies of its pool are
pub noted-under : (parts : KernelParts) (notes : KernelNotes) (listed : List PolicyView) → ∥ IsKernelNoted parts notes ∥₁ → ∥ IsKernelNoted (under parts listed) notes ∥₁
noted-under parts notes listed known = ∥∥₁_map known (λ it. (
  it.0,
  (
    it.1.0,
    record {
      stands = stands-under parts listed it.0 it.1.0 it.1.1.stands;
      flat = it.1.1.flat;
      own = it.1.1.own;
      forked = it.1.1.forked;
    },
  ),
))

-- ---- by the answer of a step

-- whatever a step answers, the kernel behind it is sound again
pub sound-step : (seen : (tables : PageTables) (sides : Sides) → TablesStandFor tables sides → pages_of tables ≡ sides.pages) (old new : KernelParts) (before : PageTables) (refused : ℕ)
    (event : Event) {E : Type 0} (result : Result Outcome E) (notes later : KernelNotes) → before ≡ old.tables → IsWithinBounds event → IfOk result (Ran old new event) → OnErr result (new ≡ old)
    → IfOk result (λ outcome. IsNoted before event outcome new.tables refused notes later) → OnErr result (later ≡ notes) → ∥ IsKernelNoted old notes ∥₁ → ∥ IsKernelNoted new later ∥₁
sound-step seen old new before refused event (Ok outcome) notes later same within ran kept noted left known =
    sound-behind seen old new notes later event outcome within ran (noted.most ∙ ap (λ tables. most_behind tables event outcome notes.most) same)
    (λ e. (noted.forked e).0) (λ e. (noted.kept e).0) known
sound-step seen old new before refused event (Err e) notes later same within ran kept noted left known =
    subst (λ it. ∥ IsKernelNoted new it ∥₁) (sym left) (subst (λ it. ∥ IsKernelNoted it notes ∥₁) (sym kept) known)

-- what was equal where memory was wanted is seen as equal
pub err-seen : {E X : Type 0} (result : Result Outcome E) (notes : X → KernelNotes) (new old : X) → OnErr result (new ≡ old) → OnErr result (notes new ≡ notes old)
err-seen (Ok outcome) notes new old same = tt
err-seen (Err e) notes new old same = ap notes same
