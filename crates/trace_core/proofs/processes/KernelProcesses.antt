-- A fork and a reap of the kernel do what clauses know of a process, whatever state it stands for.
use Rattle.std.proofs.Common.{◌≡◌, ℕ, ◌+◌, ◌<◌, ◌≤◌, ◌^◌, List, [], ◌∷◌, ◌++◌, length, Option, Some, None, Result, Ok, Err, refl, sym, ◌∙◌, ap, subst, arith, inl, inr}
use Rattle.std.specs.Prelude.{◌-◌, ◌||◌, false, is_some, IsTrue, ◌==◌, OnOk, IfOk, OnErr, IfErr}
use Rattle.std.specs.Option.{ForSome, IfSome}
use Rattle.std.specs.Coded.{×_prop, le_prop}
use Rattle.std.specs.Ordering.{nat_cmp}
use Rattle.std.specs.FinMap.{get, len, len-empty}
use Rattle.page_tables.specs.SlotViews.{lost_in}
use Rattle.std.specs.List.{list_any}
use Rattle.std.proofs.lemmas.Bool.{false≢true, cases_eq, ne_eqb}
use Rattle.std.proofs.Math.Logic.{∥∥₁_elim, ∥∥₁_map}
use mathlib.Core.HLevel.{⊥_prop, ×₃_prop}
use Rattle.vm_base.specs.declared.fork_mode.Mode.TheVariants.{Eager}
use Rattle.vm_base.specs.declared.faults.ForkFault.{ForkFault}
use Rattle.vm_base.specs.declared.faults.ForkFault.TheVariants.{NoFrame as FrameLacking, TooMany as TooManyLive}
use Rattle.vm_base.specs.MemoryState.{IsKept, IsListed, KeepsReady}
use Rattle.vm_base.specs.ProcessState.{Children, AreChildren, MayFork, ForkFails, LeavesMemory, LeavesAtReap, Reaps, HadRefusal, after_fork}
use Rattle.trace_events.specs.declared.event.Event.TheVariants.{Fork, Drop}
use Rattle.trace_events.specs.declared.outcome.Outcome.{Outcome}
use Rattle.trace_events.specs.declared.outcome.Outcome.TheVariants.{Done, NoFrame, TooMany}
use Rattle.trace_events.specs.EventBounds.{IsCounted}
use Rattle.page_tables.specs.declared.tables.PageTables.{PageTables}
use Rattle.trace_core.specs.declared.parts.SnapshotAreas.{SnapshotAreas}
use Rattle.trace_core.specs.declared.process.SoloChild.{SoloChild}
use Rattle.trace_core.specs.declared.snapshots.ForkRefusal.{ForkRefusal}
use Rattle.trace_core.specs.declared.snapshots.ForkRefusal.TheVariants.{NoFrame as FrameRefused, TooMany as LivesAlready}
use Rattle.trace_core.specs.CallAnswers.{fork_outcome, child_answer}
use Rattle.trace_core.specs.KernelState.{Machine, KernelState}
use Rattle.trace_core.specs.EventMeaning.{fork_end, drop_end}
use Rattle.trace_core.specs.KernelStanding.{KernelParts, KernelStands, EventRan}
use Rattle.trace_core.specs.KernelRun.{Ran}
use Rattle.trace_core.specs.KernelWent.{KeepsChildren, AreGiven}
use Rattle.trace_core.specs.WentOn.{goes_on-none}
use Rattle.vm_base.specs.SnapshotState.{GoesOn}
use Rattle.trace_core.specs.KernelSeen.{KernelNotes, IsSound, IsKernelNoted, NotesHold, IsNoted, HasReached, remains_of, parent_of, memory_of, kernel_memory, live_numbers, children_of, kept_memory, kept_in, nest_of}
use Rattle.trace_core.proofs.memories.ClauseProps.{number-prop, flat-prop, children-prop, MayFork-prop, AreChildren-prop, ForkFails-prop, KeepsReady-prop, LeavesAtReap-prop, Reaps-prop, known-kept}
use Rattle.trace_core.proofs.memories.ParentCells.{cells-filled}
use Rattle.trace_core.proofs.enough.EventReach.{has-reached-behind}
use Rattle.trace_core.proofs.processes.NoteEvents.{holds-behind}
use Rattle.trace_core.proofs.processes.ForkCalls.{forked-count, unforked-ready, forked-keeps, unforked-keeps, drop-sound, drop-keeps, fork-memory, unforked-fails, drop-reap}
use Rattle.trace_core.proofs.runs.RunSteps.{ran-parent}
use Rattle.trace_core.proofs.memories.AreaViews.{IsInBounds}
use Rattle.trace_core.proofs.processes.Children.{sound-number, sound-children, forked-may, forked-children, forked-lives, forked-kept, full-live, full-children, unforked-children, unforked-may, dropped-children, number-held, listed-held}
use Rattle.page_tables.proofs.view.ViewSides.{seen-pages}
use Rattle.trace_core.proofs.memories.StepSoundness.{known-noted, sound-behind}
use Rattle.trace_core.proofs.memories.WithEnough.{telling, told-kept}
use Rattle.page_tables.specs.TablesView.{views_of}

-- ---- the answers of a fork

-- what holds of each answer of a fork holds of all
by-answer : (P : Result (Unit {0}) ForkRefusal → Type 0) → P (Ok tt) → ((at : ℕ) → P (Err (FrameRefused at))) → P (Err LivesAlready) → (answer : Result (Unit {0}) ForkRefusal) → P answer
by-answer P done lacking full (Ok it) = done
by-answer P done lacking full (Err (FrameRefused at)) = lacking at
by-answer P done lacking full (Err LivesAlready) = full

-- ---- children that live

-- none is listed where none lives
none-there : (snapshot : Option SnapshotAreas) (k : ℕ) → length (live_numbers snapshot) < 1 → IsListed k (live_numbers snapshot) → ⊥
none-there None k few listed = false≢true listed
none-there (Some kept) k few listed = past few
  where
    past : 1 < 1 → ⊥
    past few = omega (arith, few)

-- one that is forked where none lives is the only one
one-new : (snapshot : Option SnapshotAreas) (k m : ℕ) → length (live_numbers snapshot) < 1 → IsListed k (live_numbers snapshot ++ m ∷ []) → m ≡ k
one-new None k m few listed = elim (cases_eq m k) [
  | inl same ↦ same
  | inr apart ↦ absurd (false≢true (sym (ap (λ b. b || false) (ne_eqb m k apart)) ∙ listed))
]
one-new (Some kept) k m few listed = absurd (past few)
  where
    past : 1 < 1 → ⊥
    past few = omega (arith, few)

few-live : (snapshot : Option SnapshotAreas) → length (live_numbers snapshot) ≤ 1
few-live None = omega arith
few-live (Some kept) = omega arith

-- the children of a kernel
abbrev pub children_in : KernelParts → Children
children_in parts = children_of parts.snapshot parts.last

-- they are children
pub known-children : (parts : KernelParts) (notes : KernelNotes) → ∥ IsKernelNoted parts notes ∥₁ → parts.last ≤ 4294967295 → AreChildren (children_in parts)
known-children parts notes known last = ∥∥₁_elim known (AreChildren-prop (children_in parts)) (λ it. sound-children parts notes it.0 it.1.0 it.1.1 last)

-- their numbers were given out
pub known-given : (parts : KernelParts) (notes : KernelNotes) → ∥ IsKernelNoted parts notes ∥₁ → AreGiven parts
known-given parts notes known n listed = ∥∥₁_elim known le_prop (λ it. by it.0 it.1.0 it.1.1 parts.snapshot refl listed)
  where
    by : (machine : Machine) (state : KernelState) → IsSound parts notes machine state → (snapshot : Option SnapshotAreas) → parts.snapshot ≡ snapshot → IsListed n (live_numbers snapshot) → n ≤ parts.last
    by machine state sound None none lives = absurd (false≢true lives)
    by machine state sound (Some kept) is lives =
        let number = sound-number parts notes machine state sound kept is in
        let same : kept.number ≡ n = one-new None n kept.number (omega arith) lives in
        omega (arith, number.1, same)

-- ---- a fork

-- it forked from whatever state it stood for
abbrev pub HasForked : KernelParts → KernelParts → ℕ → Outcome → Type 0
HasForked old new n outcome = (machine : Machine) (state : KernelState) → KernelStands old machine state
    → EventRan old new machine (λ answers. fork_end machine state answers n Eager) outcome

-- it answered so, which was noted
pub record Forked (old new : KernelParts) (notes later : KernelNotes) (n : ℕ) (answer : Result (Unit {0}) ForkRefusal) : Type 0 where
  pub ran : HasForked old new n (fork_outcome answer)
  pub noted : IsNoted old.tables (Fork n Eager) (fork_outcome answer) new.tables new.supply.refused notes later
  pub full : answer ≡ Err LivesAlready → new ≡ old

-- what is noted over any tables, of the count as it is
pub forked-noted : (refused : ℕ) (old new : KernelParts) (notes later : KernelNotes) (n : ℕ) (answer : Result (Unit {0}) ForkRefusal) → refused ≡ new.supply.refused
    → ((before : PageTables) (number : ℕ) → IsNoted before (Fork number Eager) (fork_outcome answer) new.tables refused notes later)
    → HasForked old new n (fork_outcome answer) → (answer ≡ Err LivesAlready → new ≡ old) → Forked old new notes later n answer
forked-noted refused old new notes later n answer count noted ran full = record {
  ran = ran;
  noted = subst (λ count. IsNoted old.tables (Fork n Eager) (fork_outcome answer) new.tables count notes later) count (noted old.tables n);
  full = full;
}

-- the next number, where one is left
abbrev pub IsNext : KernelParts → ℕ → Type 0
IsNext parts n = (parts.last + 1 < 4294967296) × (n ≡ parts.last + 1)

next-counted : (parts : KernelParts) (n : ℕ) → IsNext parts n → IsCounted n
next-counted parts n next = (omega (arith, next.1), omega (arith, next.0, next.1))

next-below : (parts : KernelParts) (n : ℕ) → IsNext parts n → parts.last < 4294967295
next-below parts n next = omega (arith, next.0)

module _ (old new : KernelParts) (notes later : KernelNotes) (n : ℕ) (known : ∥ IsKernelNoted old notes ∥₁) (answer : Result (Unit {0}) ForkRefusal) where
  abbrev outcome : Outcome
  outcome = fork_outcome answer

  module _ (its : Forked old new notes later n answer) where
    by-forked : (P : Result (Unit {0}) ForkRefusal → Type 0) → (Forked old new notes later n (Ok tt) → P (Ok tt)) → ((at : ℕ) → Forked old new notes later n (Err (FrameRefused at)) → P (Err (FrameRefused at)))
        → (Forked old new notes later n (Err LivesAlready) → P (Err LivesAlready)) → P answer
    by-forked P done lacking full = by-answer (λ a. Forked old new notes later n a → P a) done lacking full answer its

    by-result : (P : Result SoloChild ForkFault → Type 0) → (Forked old new notes later n (Ok tt) → P (Ok (record { number = n })))
        → ((at : ℕ) → Forked old new notes later n (Err (FrameRefused at)) → P (Err (FrameLacking at))) → (Forked old new notes later n (Err LivesAlready) → P (Err TooManyLive))
        → (result : Result SoloChild ForkFault) → result ≡ child_answer answer n → P result
    by-result P done lacking full result told = subst P (sym told) (by-forked (λ a. P (child_answer a n)) done lacking full)

    -- one child more lives, and no request was refused
    abbrev pub AddsChild : Type 0
    AddsChild = MayFork (children_in old) × (children_in new ≡ after_fork (children_in old)) × (new.supply.refused ≡ old.supply.refused)

    -- no child is there, and what could be stored to still can be
    abbrev pub LeavesChildren : Type 0
    LeavesChildren = (children_in new ≡ children_in old) × KeepsReady (kernel_memory old notes) (kernel_memory new later)

    -- what is kept for a child
    abbrev pub LeavesKept : Type 0
    LeavesKept = (kept_in new.snapshot later.forked ≡ kept_in old.snapshot notes.forked) × (◌≡◌ {A = Option ℕ} (Some later.born) (Some notes.born))

    -- ---- the child

    -- it has the memory whole
    pub fork-copy : (result : Result SoloChild ForkFault) → result ≡ child_answer answer n → IfOk result (λ child. kept_in new.snapshot later.forked ≡ parent_of old)
    fork-copy = by-result (λ r. IfOk r (λ child. kept_in new.snapshot later.forked ≡ parent_of old))
        (λ its. ∥∥₁_elim known (flat-prop (kept_in new.snapshot later.forked) (parent_of old)) (λ it.
        let ran : EventRan old new it.0 (λ answers. fork_end it.0 it.1.0 answers n Eager) Done = its.ran it.0 it.1.0 it.1.1.stands in
        let lives = forked-lives old new it.0 it.1.0 it.1.1.stands n Eager ran in
        ap (λ snapshot. kept_in snapshot later.forked) lives.1 ∙ ap (kept_memory lives.0) (its.noted.forked refl).0
        ∙ forked-kept old new it.0 it.1.0 it.1.1.stands n Eager ran lives.0 lives.1))
        (λ at its. tt) (λ its. tt)

    -- one child more lives
    pub fork-forked : IsNext old n → (result : Result SoloChild ForkFault) → result ≡ child_answer answer n
        → OnOk result AddsChild
    fork-forked next =
        by-result (λ r. OnOk r AddsChild)
        (λ its. ∥∥₁_elim known
        (×₃_prop (MayFork-prop (children_in old)) (children-prop (children_in new) (after_fork (children_in old)))
        (number-prop new.supply.refused old.supply.refused)) (λ it.
        let ran : EventRan old new it.0 (λ answers. fork_end it.0 it.1.0 answers n Eager) Done = its.ran it.0 it.1.0 it.1.1.stands in (
          forked-may old new it.0 it.1.0 it.1.1.stands n Eager ran (next-below old n next),
          forked-children old new it.0 it.1.0 it.1.1.stands n Eager ran next.1,
          forked-count old new it.0 it.1.0 n Eager notes.most later.most ran,
        )))
        (λ at its. tt) (λ its. tt)

    -- it was forked behind so many refused requests
    pub fork-born : (result : Result SoloChild ForkFault) → result ≡ child_answer answer n → IfOk result (λ child. IfSome (Some later.born) (λ born. born ≡ new.supply.refused))
    fork-born = by-result (λ r. IfOk r (λ child. IfSome (Some later.born) (λ born. born ≡ new.supply.refused)))
        (λ its. (its.noted.forked refl).1) (λ at its. tt) (λ its. tt)

    -- ---- where it is refused

    -- it tells why
    pub fork-fails : IsNext old n → (result : Result SoloChild ForkFault) → result ≡ child_answer answer n
        → IfErr result (λ fault. ForkFails (children_in old) (kernel_memory old notes) (kernel_memory new later) fault)
    fork-fails next = by-result (λ r. IfErr r (λ fault. ForkFails (children_in old) (kernel_memory old notes) (kernel_memory new later) fault))
        (λ its. tt)
        (λ at its. ∥∥₁_elim known (ForkFails-prop (children_in old) (kernel_memory old notes) (kernel_memory new later) (FrameLacking at)) (λ it.
        unforked-fails old new it.0 it.1.0 it.1.1.stands n Eager notes.most at (next-below old n next) (its.ran it.0 it.1.0 it.1.1.stands)))
        (λ its.
        let same : new ≡ old = its.full refl in (
          ∥∥₁_elim known (number-prop (children_in old).live (children_in old).limit) (λ it.
              full-live old new it.0 it.1.0 it.1.1.stands n Eager (its.ran it.0 it.1.0 it.1.1.stands)),
          λ i. telling (its.noted.enough i) (memory_of (same i) (its.noted.most i)),
        ))

    failed-prop : IsProp LeavesChildren
    failed-prop = ×_prop (children-prop (children_in new) (children_in old)) (KeepsReady-prop (kernel_memory old notes) (kernel_memory new later))

    -- no child is there, and what could be stored to still can be
    pub fork-failed : (result : Result SoloChild ForkFault) → result ≡ child_answer answer n
        → OnErr result LeavesChildren
    fork-failed = by-result (λ r. OnErr r LeavesChildren)
        (λ its. tt)
        (λ at its. ∥∥₁_elim known failed-prop (λ it.
        let ran : EventRan old new it.0 (λ answers. fork_end it.0 it.1.0 answers n Eager) (NoFrame at) = its.ran it.0 it.1.0 it.1.1.stands in
        (unforked-children old new it.0 it.1.0 it.1.1.stands n Eager at ran, unforked-ready old new it.0 it.1.0 it.1.1.stands n Eager (NoFrame at) refl notes.most later.most ran)))
        (λ its. ∥∥₁_elim known failed-prop (λ it.
        let ran : EventRan old new it.0 (λ answers. fork_end it.0 it.1.0 answers n Eager) TooMany = its.ran it.0 it.1.0 it.1.1.stands in
        (full-children old new it.0 it.1.0 it.1.1.stands n Eager ran, unforked-ready old new it.0 it.1.0 it.1.1.stands n Eager TooMany refl notes.most later.most ran)))

    -- ---- whatever it answers

    -- the memory is as it was
    pub fork-leaves : LeavesMemory (kernel_memory old notes) (kernel_memory new later)
    fork-leaves =
        let same : parent_of new ≡ parent_of old = ∥∥₁_elim known (flat-prop (parent_of new) (parent_of old)) (λ it.
        (fork-memory old new it.0 it.1.0 it.1.1.stands n Eager outcome notes.most (its.ran it.0 it.1.0 it.1.1.stands)).mem) in
        record { mem = same; most = its.noted.most }

    -- and keeps what each call keeps
    pub fork-kept : IsNext old n → IsInBounds old.supply → HasReached old notes → HasReached new later → IsKept (kernel_memory old notes) (kernel_memory new later) []
    fork-kept next bounds stood reached = told-kept (memory_of old notes.most) (memory_of new later.most) notes.enough later.enough its.noted.enough [] stood reached
        (subst (λ most. IsKept (memory_of old notes.most) (memory_of new most) []) (sym its.noted.most)
        (known-kept (memory_of old notes.most) (memory_of new notes.most) [] known (λ it.
        by-forked (λ a. IsKept (memory_of old notes.most) (memory_of new notes.most) [])
        (λ its. forked-keeps old new notes it.0 it.1.0 it.1.1 n bounds Eager (next-counted old n next).0 (its.ran it.0 it.1.0 it.1.1.stands))
        (λ at its. unforked-keeps old new notes it.0 it.1.0 it.1.1 n bounds Eager (NoFrame at) refl (its.ran it.0 it.1.0 it.1.1.stands))
        (λ its. unforked-keeps old new notes it.0 it.1.0 it.1.1 n bounds Eager TooMany refl (its.ran it.0 it.1.0 it.1.1.stands)))))

    -- the other children are as they were: where one lives, nothing changes
    pub fork-others : IsNext old n → (k : ℕ) → IsListed k (live_numbers old.snapshot)
        → LeavesKept
    fork-others next k listed = by-forked (λ a. LeavesKept)
        (λ its. absurd (∥∥₁_elim known ⊥_prop (λ it.
        none-there old.snapshot k (forked-may old new it.0 it.1.0 it.1.1.stands n Eager (its.ran it.0 it.1.0 it.1.1.stands) (next-below old n next)).place listed)))
        (λ at its. absurd (∥∥₁_elim known ⊥_prop (λ it.
        none-there old.snapshot k (unforked-may old new it.0 it.1.0 it.1.1.stands n Eager at (its.ran it.0 it.1.0 it.1.1.stands) (next-below old n next)).place listed)))
        (λ its.
        let same : new ≡ old = its.full refl in
        let kept = its.noted.kept refl in
        (λ i. kept_in (same i).snapshot (kept.0 i), ap Some kept.1))

    -- no number is used again, and what is told of a child that lives goes on: where one is forked none lived
    pub fork-children : IsNext old n → old.supply.refused ≤ new.supply.refused → KeepsChildren old notes new later
    fork-children next risen = by-forked (λ a. KeepsChildren old notes new later)
        (λ its. forked-only
        (∥∥₁_elim known le_prop (λ it. (forked-may old new it.0 it.1.0 it.1.1.stands n Eager (its.ran it.0 it.1.0 it.1.1.stands) (next-below old n next)).place))
        (∥∥₁_elim known (children-prop (children_in new) (after_fork (children_in old))) (λ it. forked-children old new it.0 it.1.0 it.1.1.stands n Eager (its.ran it.0 it.1.0 it.1.1.stands) next.1)))
        (λ at its. unforked-only
        (∥∥₁_elim known le_prop (λ it. (unforked-may old new it.0 it.1.0 it.1.1.stands n Eager at (its.ran it.0 it.1.0 it.1.1.stands) (next-below old n next)).place))
        (∥∥₁_elim known (children-prop (children_in new) (children_in old)) (λ it. unforked-children old new it.0 it.1.0 it.1.1.stands n Eager at (its.ran it.0 it.1.0 it.1.1.stands))))
        (λ its. full-only (its.full refl) (its.noted.kept refl).0)
      where
        forked-only : length (live_numbers old.snapshot) < 1 → children_in new ≡ after_fork (children_in old) → KeepsChildren old notes new later
        forked-only few same =
            let last : new.last ≡ old.last + 1 = ap (λ children. children.last) same in
            let none : (k : ℕ) → k ≤ old.last → IsListed k (live_numbers new.snapshot) → ⊥ =
            λ k old-one listed. above k old-one (one-new old.snapshot k (old.last + 1) few (subst (IsListed k) (ap (λ children. children.numbers) same) listed)) in
            record {
              last = omega (arith, last);
              lived = λ k old-one listed. absurd (none k old-one listed);
              goes_on = λ k old-one listed. absurd (none k old-one listed);
              counted = risen;
              lost = λ k old-one listed. absurd (none k old-one listed);
            }
          where
            above : (k : ℕ) → k ≤ old.last → old.last + 1 ≡ k → ⊥
            above k low same = omega (arith, low, same)

        unforked-only : length (live_numbers old.snapshot) < 1 → children_in new ≡ children_in old → KeepsChildren old notes new later
        unforked-only few same =
            let last : new.last ≡ old.last = ap (λ children. children.last) same in
            let none : (k : ℕ) → IsListed k (live_numbers new.snapshot) → ⊥ =
            λ k listed. none-there old.snapshot k few (subst (IsListed k) (ap (λ children. children.numbers) same) listed) in
            record {
              last = omega (arith, last);
              lived = λ k old-one listed. absurd (none k listed);
              goes_on = λ k old-one listed. absurd (none k listed);
              counted = risen;
              lost = λ k old-one listed. absurd (none k listed);
            }

        full-only : new ≡ old → later.forked ≡ notes.forked → KeepsChildren old notes new later
        full-only same forked =
            let last : new.last ≡ old.last = ap (λ parts. parts.last) same in
            record {
              last = omega (arith, last);
              lived = λ k old-one listed. subst (λ parts. IsListed k (live_numbers parts.snapshot)) same listed;
              goes_on = λ k old-one listed. subst (GoesOn (nest_of old notes k)) (λ i. nest_of (sym same i) (record notes { forked = sym forked i }) k) (goes_on-none (nest_of old notes k));
              counted = risen;
              lost = λ k old-one listed c at before there.
                  absurd (false≢true (ap is_some (sym before ∙ ap (λ (parts : KernelParts). get (lost_in k (views_of parts.tables)) c) (sym same) ∙ there)));
            }

    -- ---- the kernel behind it

    fork-ran : Ran old new (Fork n Eager) outcome
    fork-ran = ran-parent old new (Fork n Eager) (Fork n Eager) outcome refl refl refl its.ran

    -- it is sound again
    pub fork-known : IsNext old n → ∥ IsKernelNoted new later ∥₁
    fork-known next =
        sound-behind seen-pages old new notes later (Fork n Eager) outcome (next-counted old n next, refl) fork-ran its.noted.most
        (λ e. (its.noted.forked e).0) (λ e. (its.noted.kept e).0) known

    -- and what is noted holds
    pub fork-holds : IsNext old n → old.supply.refused ≤ 2 ^ 64 - 1 → NotesHold old notes → NotesHold new later
    fork-holds next fits holds =
        holds-behind old new notes later (Fork n Eager) outcome (next-counted old n next, refl) fork-ran its.noted fits
        (λ e. cells-filled old (known-noted old notes known)) known holds

    -- and as many frames as are enough were wanted once a request was refused
    pub fork-reached : IsNext old n → ForSome notes.enough (λ enough. IsTrue old.supply.policies.is_empty) → NotesHold old notes → HasReached old notes → HasReached new later
    fork-reached next unasked holds reached =
        has-reached-behind old new notes later (Fork n Eager) outcome (next-counted old n next, refl) fork-ran its.noted unasked known holds reached

-- ---- a drop

-- it dropped from whatever state it stood for
abbrev pub HasDropped : KernelParts → KernelParts → ℕ → Outcome → Type 0
HasDropped old new n outcome = (machine : Machine) (state : KernelState) → KernelStands old machine state → EventRan old new machine (λ answers. drop_end state answers n) outcome

-- no refusal is told by what is left
pub no-refusal : (n : ℕ) {X : Type 0} → HadRefusal (remains_of n) → X
no-refusal n (inl copies) = absurd (past copies)
  where
    past : 0 < 0 → ⊥
    past low = omega (arith, low)
no-refusal n (inr found) = absurd (past (len (remains_of n).found) (len-empty nat_cmp ℕ) found)
  where
    past : (k : ℕ) → k ≡ 0 → 0 < k → ⊥
    past k none some = omega (arith, none, some)

module _ (old new : KernelParts) (notes : KernelNotes) (n : ℕ) (known : ∥ IsKernelNoted old notes ∥₁) (outcome : Outcome) (ran : HasDropped old new n outcome) where
  -- the kernel is sound again
  pub drop-known : ∥ IsKernelNoted new notes ∥₁
  drop-known = ∥∥₁_map known (λ it.
      let its = ran it.0 it.1.0 it.1.1.stands in (it.0, (its.after, drop-sound old new notes it.0 it.1.0 it.1.1 n outcome its)))

  -- the memory is as it was
  pub drop-leaves : LeavesAtReap (kernel_memory old notes) (kernel_memory new notes)
  drop-leaves = ∥∥₁_elim known (LeavesAtReap-prop (kernel_memory old notes) (kernel_memory new notes)) (λ it.
      let its : LeavesAtReap (memory_of old notes.most) (memory_of new notes.most) =
      drop-reap old new it.0 it.1.0 it.1.1.stands n outcome notes.most (ran it.0 it.1.0 it.1.1.stands) in
      record { mem = its.mem; most = its.most; refused = its.refused; keeps = its.keeps })

  pub drop-kept : IsInBounds old.supply → HasReached old notes → HasReached new notes → IsKept (kernel_memory old notes) (kernel_memory new notes) []
  drop-kept bounds stood reached = told-kept (memory_of old notes.most) (memory_of new notes.most) notes.enough notes.enough refl [] stood reached
      (known-kept (memory_of old notes.most) (memory_of new notes.most) [] known (λ it.
      drop-keeps old new notes it.0 it.1.0 it.1.1 n bounds outcome (ran it.0 it.1.0 it.1.1.stands)))

  module _ (lives : IsListed n (live_numbers old.snapshot)) where
    -- the child of this number lives no more
    pub drop-reaps : Reaps (children_in old) (children_in new) n
    drop-reaps = ∥∥₁_elim known (Reaps-prop (children_in old) (children_in new) n) (λ it.
        dropped-children old new it.0 it.1.0 it.1.1.stands n outcome (ran it.0 it.1.0 it.1.1.stands) lives)

    -- so none is listed
    pub drop-unlisted : {X : Type 0} (k : ℕ) → IsListed k (live_numbers new.snapshot) → X
    drop-unlisted k listed =
        let fewer : length (live_numbers new.snapshot) + 1 ≡ length (live_numbers old.snapshot) = drop-reaps.live in
        absurd (none-there new.snapshot k (omega (arith, fewer, few-live old.snapshot)) listed)

    -- no number is used again, and no child lives of which more could be told
    pub drop-children : old.supply.refused ≤ new.supply.refused → KeepsChildren old notes new notes
    drop-children risen =
        let last : new.last ≡ old.last = drop-reaps.last in
        record {
          last = omega (arith, last);
          lived = λ k old-one listed. drop-unlisted k listed;
          goes_on = λ k old-one listed. drop-unlisted k listed;
          counted = risen;
          lost = λ k old-one listed. drop-unlisted k listed;
        }

    -- its number is one that was given out
    drop-counted : old.last ≤ 4294967295 → IsCounted n
    drop-counted last = ∥∥₁_elim known (×_prop le_prop le_prop) (λ it. by it.0 it.1.0 it.1.1 old.snapshot refl)
      where
        first-is : (one other : ℕ) → ◌≡◌ {A = List ℕ} (one ∷ []) (other ∷ []) → one ≡ other
        first-is one other same = ap (λ list. elim list [ [] ↦ one | m ∷ rest ↦ m ]) same

        by : (machine : Machine) (state : KernelState) → IsSound old notes machine state → (snapshot : Option SnapshotAreas) → old.snapshot ≡ snapshot → IsCounted n
        by machine state sound None none = absurd (false≢true (ap (λ snapshot. list_any (λ other. other == n) (live_numbers snapshot)) (sym none) ∙ lives))
        by machine state sound (Some kept) is =
            let number = sound-number old notes machine state sound kept is in
            let same : kept.number ≡ n = first-is kept.number n (ap live_numbers (sym is) ∙ number-held old.snapshot n (listed-held old.snapshot n lives)) in
            (omega (arith, number.0, same), omega (arith, number.1, same, last))

    -- what is noted holds
    pub drop-holds : old.last ≤ 4294967295 → old.supply.refused ≤ 2 ^ 64 - 1 → NotesHold old notes → NotesHold new notes
    drop-holds last fits holds =
        holds-behind old new notes notes (Drop n) outcome (drop-counted last) (ran-parent old new (Drop n) (Drop n) outcome refl refl refl ran)
        (record { most = refl; forked = λ e. absurd (false≢true e); kept = λ e. (refl, refl); enough = refl }) fits (λ e. absurd (false≢true e)) known holds
