-- The kernel as a process: the snapshot that lives is its one child, with the memory that the parent had at the fork.
use Rattle.std.proofs.Common.{◌≡◌, ℕ, ◌+◌, ◌<◌, ◌≤◌, List, [], ◌∷◌, ◌++◌, length, Option, Some, None, Result, Ok, Err, refl, sym, ◌∙◌, ap, subst, arith, cond, eqb}
use Rattle.std.specs.Prelude.{Bool, true, false, not, ◌==◌, ◌||◌, nat_le, is_some, unwrap_or, filter, All}
use Rattle.std.specs.Ordering.{nat_cmp}
use Rattle.std.specs.FinMap.{FinMap, get, insert, empty, len, contains_key, get-empty}
use Rattle.std.proofs.lemmas.Bool.{false≢true, cond-true}
use Rattle.std.proofs.lemmas.Bool.Decides.{nat_tests}
use Rattle.std.proofs.lemmas.List.Elements.{All-nil, All-cons}
use Rattle.vm_base.specs.Places.{distinct}
use Rattle.vm_base.specs.declared.fork_mode.Mode.{Mode}
use Rattle.vm_base.specs.Deals.{Deal}
use Rattle.vm_base.specs.FlatMemory.{PageMap, FlatMemory}
use Rattle.vm_base.specs.TwoSides.{World, dropped}
use Rattle.vm_base.specs.MemoryState.{IsListed}
use Rattle.vm_base.specs.ProcessState.{AreChildren, MayFork, Reaps, after_fork}
use Rattle.vm_base.proofs.NumberedMaps.{get_inserted_here}
use Rattle.kernel_meaning.specs.Leaves.{holds_number}
use Rattle.kernel_meaning.specs.Requests.{answers_of}
use Rattle.kernel_meaning.specs.EventRequests.{FrameRefusal, Progress, snapshot_forked, snapshot_dropped}
use Rattle.trace_events.specs.declared.event.Event.TheVariants.{Fork, Drop}
use Rattle.trace_events.specs.declared.outcome.Outcome.{Outcome}
use Rattle.trace_events.specs.declared.outcome.Outcome.TheVariants.{Done, NoFrame, TooMany}
use Rattle.trace_core.specs.declared.parts.SnapshotAreas.{SnapshotAreas}
use Rattle.trace_core.specs.KernelState.{Machine, KernelState}
use Rattle.trace_core.specs.EventMeaning.{only_answers, begun, parent_end, fork_answered, fork_end, is_live, drop_end}
use Rattle.trace_core.specs.KernelStanding.{KernelParts, KernelStands, EventRan, kept_memories, kept_number, sides_of}
use Rattle.trace_core.specs.KernelSeen.{KernelNotes, IsSound, parent_of, live_numbers, children_of, kept_memory}
use Rattle.trace_core.proofs.events.OneSnapshot.{live-is, lives-len, none-left}
use Rattle.page_tables.proofs.view.ViewSides.{seen-pages}
use Rattle.trace_core.proofs.memories.EventSoundness.{event-parent}
use Rattle.page_tables.specs.TablesView.{pages_of}

-- ---- the snapshot that lives

-- a snapshot whose number is told
pub number-held : (snapshot : Option SnapshotAreas) (n : ℕ) → holds_number (kept_number snapshot) n ≡ true → live_numbers snapshot ≡ n ∷ []
number-held None n held = absurd (false≢true held)
number-held (Some kept) n held =
    let same : kept.number ≡ n = (let t : eqb kept.number n ≡ true = held in grind (arith, nat_tests)) in
    ap (λ m. m ∷ []) same

itself : (n : ℕ) → (n == n) ≡ true
itself n = grind (arith, nat_tests)

-- the numbers that are held are those that live
same-live : (one other : Option SnapshotAreas) → ((n : ℕ) → holds_number (kept_number one) n ≡ holds_number (kept_number other) n) → live_numbers one ≡ live_numbers other
same-live None None same = refl
same-live None (Some kept) same = absurd (false≢true (same kept.number ∙ itself kept.number))
same-live (Some kept) other same = sym (number-held other kept.number (sym (same kept.number) ∙ itself kept.number))

-- a number that is listed is held
pub listed-held : (snapshot : Option SnapshotAreas) (n : ℕ) → IsListed n (live_numbers snapshot) → holds_number (kept_number snapshot) n ≡ true
listed-held None n listed = absurd (false≢true listed)
listed-held (Some kept) n listed = by (kept.number == n) listed
  where
    by : (b : Bool) → (b || false) ≡ true → b ≡ true
    by true e = refl
    by false e = e

-- where none may be told to live, none does
pub none-lives : (snapshot : Option SnapshotAreas) → nat_le 1 (cond (is_some snapshot) 1 0) ≡ false → snapshot ≡ None
none-lives None few = refl
none-lives (Some kept) few = absurd (false≢true (sym few))

one-lives : (snapshot : Option SnapshotAreas) → nat_le 1 (cond (is_some snapshot) 1 0) ≡ true → length (live_numbers snapshot) ≡ 1
one-lives None full = absurd (false≢true full)
one-lives (Some kept) full = refl

module _ (parts : KernelParts) (machine : Machine) (state : KernelState) (st : KernelStands parts machine state) where
  -- the parent's memory is what is read off the parts
  pub stands-parent : parent_of parts ≡ state.world.parent
  stands-parent =
      let present : pages_of parts.tables ≡ state.world.parent.present = seen-pages parts.tables (sides_of state st.pages) st.tables in
      λ i. record { areas = sym st.areas i; present = present i }

  -- as many live as may, where one does
  pub full-is : nat_le machine.limit (len state.world.snapshots) ≡ nat_le 1 (cond (is_some parts.snapshot) 1 0)
  full-is = λ i. nat_le (st.limit i) (lives-len parts.snapshot st.pages state.world.snapshots st.memories i)

  pub lives-is : (n : ℕ) → contains_key state.world.snapshots n ≡ holds_number (kept_number parts.snapshot) n
  lives-is n = live-is parts.snapshot st.pages state.world.snapshots st.memories n

-- the memory under the number of the snapshot that lives
pub memory-under : (kept : SnapshotAreas) (pages : FinMap nat_cmp PageMap) (memories : FinMap nat_cmp FlatMemory) → kept_memories (Some kept) pages memories
    → (present : PageMap) × (get memories kept.number ≡ Some (record { areas = kept.areas; present = present }))
memory-under kept pages memories its =
    (its.0, ap (λ m. get m kept.number) its.1.1 ∙ get_inserted_here empty kept.number (record { areas = kept.areas; present = its.0 }) kept.number refl)

some-memory : {one other : FlatMemory} → ◌≡◌ {A = Option FlatMemory} (Some one) (Some other) → one ≡ other
some-memory {one = one} same = ap (λ o. unwrap_or o one) same

module _ (parts : KernelParts) (notes : KernelNotes) (machine : Machine) (state : KernelState) (sound : IsSound parts notes machine state) where
  -- the state has the memory of the snapshot that lives under its number
  pub sound-kept : (kept : SnapshotAreas) → parts.snapshot ≡ Some kept → get state.world.snapshots kept.number ≡ Some (kept_memory kept notes.forked)
  sound-kept kept lives =
      let there : (present : PageMap) × (get state.world.snapshots kept.number ≡ Some (record { areas = kept.areas; present = present })) =
      memory-under kept sound.stands.pages state.world.snapshots (subst (λ snapshot. kept_memories snapshot sound.stands.pages state.world.snapshots) lives sound.stands.memories) in
      there.1 ∙ ap (λ present. Some (record { areas = kept.areas; present = present })) (sound.forked kept.number _ there.1).2

  -- its number is above 0, and was given out last
  pub sound-number : (kept : SnapshotAreas) → parts.snapshot ≡ Some kept → (0 < kept.number) × (kept.number ≡ parts.last)
  sound-number kept lives =
      let given = sound.forked kept.number (kept_memory kept notes.forked) (sound-kept kept lives) in
      (given.0, given.1 ∙ sound.stands.last)

  all-given : (snapshot : Option SnapshotAreas) → parts.snapshot ≡ snapshot → All (λ n. (0 < n) × (n ≤ parts.last)) (live_numbers snapshot)
  all-given None none = All-nil (λ n. (0 < n) × (n ≤ parts.last))
  all-given (Some kept) lives =
      let given : (0 < kept.number) × (kept.number ≡ parts.last) = sound-number kept lives in
      All-cons (λ n. (0 < n) × (n ≤ parts.last)) kept.number [] (given.0, omega (arith, given.1)) (All-nil (λ n. (0 < n) × (n ≤ parts.last)))

  few-live : (snapshot : Option SnapshotAreas) → length (live_numbers snapshot) ≤ 1
  few-live None = omega arith
  few-live (Some kept) = omega arith

  one-alone : (snapshot : Option SnapshotAreas) → distinct (live_numbers snapshot) ≡ live_numbers snapshot
  one-alone None = refl
  one-alone (Some kept) = refl

  -- the children of a sound kernel
  pub sound-children : parts.last ≤ 4294967295 → AreChildren (children_of parts.snapshot parts.last)
  sound-children last = record {
    count = refl;
    few = few-live parts.snapshot;
    last = last;
    given = all-given parts.snapshot refl;
    once = one-alone parts.snapshot;
  }

-- ---- a fork

abbrev is_done : Outcome → Bool
is_done Done = true
is_done other = false

abbrev is_no_frame : Outcome → Bool
is_no_frame (NoFrame at) = true
is_no_frame other = false

abbrev pub is_too_many : Outcome → Bool
is_too_many TooMany = true
is_too_many other = false

-- the snapshots and the last number are as they were
abbrev LeavesSnapshots : World → World → Type 0
LeavesSnapshots old new = (new.snapshots ≡ old.snapshots) × (new.last ≡ old.last)

module _ (state : KernelState) (n : ℕ) (deals : List Deal) (after : KernelState) where
  granted-shape : (full : Bool) (refused : Option FrameRefusal) (progress : Progress)
      → cond full (only_answers state TooMany) (fork_answered state n refused progress) ≡ record { outcome = Done; deals = deals; after = after }
      → (full ≡ false) × ((after.world.snapshots ≡ insert state.world.snapshots n state.world.parent) × (after.world.last ≡ n))
  granted-shape true refused progress e = absurd (false≢true (ap (λ end. is_done end.outcome) e))
  granted-shape false None progress e = (refl, (sym (ap (λ end. end.after.world.snapshots) e), sym (ap (λ end. end.after.world.last) e)))
  granted-shape false (Some refusal) progress e = absurd (false≢true (ap (λ end. is_done end.outcome) e))

  refused-shape : (at : ℕ) (full : Bool) (refused : Option FrameRefusal) (progress : Progress)
      → cond full (only_answers state TooMany) (fork_answered state n refused progress) ≡ record { outcome = NoFrame at; deals = deals; after = after }
      → (full ≡ false) × LeavesSnapshots state.world after.world
  refused-shape at true refused progress e = absurd (false≢true (ap (λ end. is_no_frame end.outcome) e))
  refused-shape at false None progress e = absurd (false≢true (ap (λ end. is_no_frame end.outcome) e))
  refused-shape at false (Some refusal) progress e = (refl, (sym (ap (λ end. end.after.world.snapshots) e), sym (ap (λ end. end.after.world.last) e)))

  full-shape : (full : Bool) (refused : Option FrameRefusal) (progress : Progress)
      → cond full (only_answers state TooMany) (fork_answered state n refused progress) ≡ record { outcome = TooMany; deals = deals; after = after }
      → (full ≡ true) × LeavesSnapshots state.world after.world
  full-shape true refused progress e = (refl, (sym (ap (λ end. end.after.world.snapshots) e), sym (ap (λ end. end.after.world.last) e)))
  full-shape false None progress e = absurd (false≢true (ap (λ end. is_too_many end.outcome) e))
  full-shape false (Some refusal) progress e = absurd (false≢true (ap (λ end. is_too_many end.outcome) e))

ok-memory : {E : Type 0} {one other : FlatMemory} → ◌≡◌ {A = Result FlatMemory E} (Ok one) (Ok other) → one ≡ other
ok-memory {one = one} same = ap (λ result. elim result [ Ok value ↦ value | Err refused ↦ one ]) same

-- children are told by their numbers and the last one
children-are : (parts : KernelParts) (numbers : List ℕ) (last : ℕ) → live_numbers parts.snapshot ≡ numbers → parts.last ≡ last
    → children_of parts.snapshot parts.last ≡ record { numbers = numbers; live = length numbers; last = last; limit = 1 }
children-are parts numbers last same given = λ i. record { numbers = same i; live = length (same i); last = given i; limit = 1 }

-- where the world's snapshots and last number are as they were, so are the children
same-children : (old new : KernelParts) (machine : Machine) (state after : KernelState) → KernelStands old machine state → KernelStands new machine after
    → LeavesSnapshots state.world after.world → children_of new.snapshot new.last ≡ children_of old.snapshot old.last
same-children old new machine state after st su same =
    children-are new (live_numbers old.snapshot) old.last
    (same-live new.snapshot old.snapshot (λ m. sym (lives-is new machine after su m) ∙ ap (λ snapshots. contains_key snapshots m) same.0 ∙ lives-is old machine state st m))
    (sym su.last ∙ same.1 ∙ st.last)

module _ (old new : KernelParts) (machine : Machine) (state : KernelState) (st : KernelStands old machine state) (n : ℕ) (mode : Mode) where
  -- where none lives, another may
  may-fork : nat_le machine.limit (len state.world.snapshots) ≡ false → old.last < 4294967295 → MayFork (children_of old.snapshot old.last)
  may-fork few below = record {
    place = subst (λ snapshot. length (live_numbers snapshot) < 1) (sym (none-lives old.snapshot (sym (full-is old machine state st) ∙ few))) (omega arith);
    number = below;
  }

  -- whatever a fork answers, the parent's memory is as it was
  pub fork-parent : (outcome : Outcome) → EventRan old new machine (λ answers. fork_end machine state answers n mode) outcome → parent_of new ≡ parent_of old
  fork-parent outcome ran =
      let same : ran.after.world.parent ≡ state.world.parent =
      subst (λ end. end.after.world.parent ≡ state.world.parent) ran.ends
      (event-parent (λ memory. memory ≡ state.world.parent) machine state (answers_of ran.deals) refl (Fork n mode) (λ memory is. sym (ok-memory is))) in
      stands-parent new machine ran.after ran.stands ∙ same ∙ sym (stands-parent old machine state st)

  module _ (ran : EventRan old new machine (λ answers. fork_end machine state answers n mode) Done) where
    abbrev progress : Progress
    progress = snapshot_forked n mode (begun state (answers_of ran.deals))

    shape : (nat_le machine.limit (len state.world.snapshots) ≡ false) × ((ran.after.world.snapshots ≡ insert state.world.snapshots n state.world.parent) × (ran.after.world.last ≡ n))
    shape = granted-shape state n ran.deals ran.after (nat_le machine.limit (len state.world.snapshots)) progress.refused progress ran.ends

    -- a fork was granted: another child might live, and a number was left
    pub forked-may : old.last < 4294967295 → MayFork (children_of old.snapshot old.last)
    forked-may below = may-fork shape.0 below

    -- the memory under its number is the parent's
    pub forked-there : get ran.after.world.snapshots n ≡ Some state.world.parent
    forked-there = ap (λ snapshots. get snapshots n) shape.1.0 ∙ get_inserted_here state.world.snapshots n state.world.parent n refl

    forked-numbers : live_numbers new.snapshot ≡ n ∷ []
    forked-numbers = number-held new.snapshot n (sym (lives-is new machine ran.after ran.stands n) ∙ ap is_some forked-there)

    -- the children behind it have one more, with the next number
    pub forked-children : n ≡ old.last + 1 → children_of new.snapshot new.last ≡ after_fork (children_of old.snapshot old.last)
    forked-children next =
        let before : None ≡ old.snapshot = sym (none-lives old.snapshot (sym (full-is old machine state st) ∙ shape.0)) in
        children-are new (n ∷ []) n forked-numbers (sym ran.stands.last ∙ shape.1.1)
        ∙ (λ i. record {
          numbers = live_numbers (before i) ++ next i ∷ [];
          live = length (live_numbers (before i)) + 1;
          last = next i;
          limit = 1;
        })

    -- the snapshot has the number that was asked for
    pub forked-number : (kept : SnapshotAreas) → new.snapshot ≡ Some kept → kept.number ≡ n
    forked-number kept lives = first-is kept.number n (ap live_numbers (sym lives) ∙ forked-numbers)
      where
        first-is : (one other : ℕ) → ◌≡◌ {A = List ℕ} (one ∷ []) (other ∷ []) → one ≡ other
        first-is one other same = ap (λ list. elim list [ [] ↦ one | m ∷ rest ↦ m ]) same

    -- and it lives
    pub forked-lives : (kept : SnapshotAreas) × (new.snapshot ≡ Some kept)
    forked-lives = by new.snapshot forked-numbers
      where
        by : (snapshot : Option SnapshotAreas) → live_numbers snapshot ≡ n ∷ [] → (kept : SnapshotAreas) × (snapshot ≡ Some kept)
        by None is = absurd (false≢true (ap (λ list. elim list [ [] ↦ false | m ∷ rest ↦ true ]) is))
        by (Some kept) is = (kept, refl)

    -- the snapshot's memory is the parent's
    pub forked-kept : (kept : SnapshotAreas) → new.snapshot ≡ Some kept → kept_memory kept new.tables ≡ parent_of old
    forked-kept kept lives =
        let there : (present : PageMap) × (get ran.after.world.snapshots kept.number ≡ Some (record { areas = kept.areas; present = present })) =
        memory-under kept ran.stands.pages ran.after.world.snapshots (subst (λ snapshot. kept_memories snapshot ran.stands.pages ran.after.world.snapshots) lives ran.stands.memories) in
        let copied : record { areas = kept.areas; present = there.0 } ≡ state.world.parent =
        some-memory (sym there.1 ∙ ap (get ran.after.world.snapshots) (forked-number kept lives) ∙ forked-there) in
        let areas : kept.areas ≡ old.areas = ap (λ memory. memory.areas) copied ∙ st.areas in
        let pages : pages_of new.tables ≡ pages_of old.tables = ap (λ memory. memory.present) (fork-parent Done ran) in
        λ i. record { areas = areas i; present = pages i }

  -- too many live
  pub full-live : EventRan old new machine (λ answers. fork_end machine state answers n mode) TooMany → (children_of old.snapshot old.last).live ≡ (children_of old.snapshot old.last).limit
  full-live ran =
      let progress : Progress = snapshot_forked n mode (begun state (answers_of ran.deals)) in
      let shape = full-shape state n ran.deals ran.after (nat_le machine.limit (len state.world.snapshots)) progress.refused progress ran.ends in
      one-lives old.snapshot (sym (full-is old machine state st) ∙ shape.0)

  pub full-children : EventRan old new machine (λ answers. fork_end machine state answers n mode) TooMany → children_of new.snapshot new.last ≡ children_of old.snapshot old.last
  full-children ran =
      let progress : Progress = snapshot_forked n mode (begun state (answers_of ran.deals)) in
      let shape = full-shape state n ran.deals ran.after (nat_le machine.limit (len state.world.snapshots)) progress.refused progress ran.ends in
      same-children old new machine state ran.after st ran.stands shape.1

  module _ (at : ℕ) (ran : EventRan old new machine (λ answers. fork_end machine state answers n mode) (NoFrame at)) where
    abbrev refused_progress : Progress
    refused_progress = snapshot_forked n mode (begun state (answers_of ran.deals))

    unforked : (nat_le machine.limit (len state.world.snapshots) ≡ false) × LeavesSnapshots state.world ran.after.world
    unforked = refused-shape state n ran.deals ran.after at (nat_le machine.limit (len state.world.snapshots)) refused_progress.refused refused_progress ran.ends

    -- a frame was refused: no child is there
    pub unforked-children : children_of new.snapshot new.last ≡ children_of old.snapshot old.last
    unforked-children = same-children old new machine state ran.after st ran.stands unforked.1

    -- though another might have lived
    pub unforked-may : old.last < 4294967295 → MayFork (children_of old.snapshot old.last)
    unforked-may below = may-fork unforked.0 below

-- ---- a drop

-- without the one number that lives, none is left
none-listed : (snapshot : Option SnapshotAreas) (n : ℕ) → holds_number (kept_number snapshot) n ≡ true → filter (λ m. not (m == n)) (live_numbers snapshot) ≡ []
none-listed snapshot n held = ap (filter (λ m. not (m == n))) (number-held snapshot n held) ∙ ap (λ b. cond (not b) (n ∷ []) []) (itself n)

module _ (old new : KernelParts) (machine : Machine) (state : KernelState) (st : KernelStands old machine state) (n : ℕ) (outcome : Outcome)
    (ran : EventRan old new machine (λ answers. drop_end state answers n) outcome) where
  -- whatever a drop answers, the parent's memory is as it was
  pub drop-parent : parent_of new ≡ parent_of old
  drop-parent =
      let same : ran.after.world.parent ≡ state.world.parent =
      subst (λ end. end.after.world.parent ≡ state.world.parent) ran.ends
      (event-parent (λ memory. memory ≡ state.world.parent) machine state (answers_of ran.deals) refl (Drop n) (λ memory is. sym (ok-memory is))) in
      stands-parent new machine ran.after ran.stands ∙ same ∙ sym (stands-parent old machine state st)

  module _ (lives : IsListed n (children_of old.snapshot old.last).numbers) where
    held : holds_number (kept_number old.snapshot) n ≡ true
    held = listed-held old.snapshot n lives

    drops : parent_end state (dropped state.world n) Done (snapshot_dropped n (begun state (answers_of ran.deals))) ≡ record { outcome = outcome; deals = ran.deals; after = ran.after }
    drops = sym (cond-true (is_live state.world n) _ _ (lives-is old machine state st n ∙ held)) ∙ ran.ends

    -- it is dropped
    pub dropped-done : outcome ≡ Done
    dropped-done = sym (ap (λ end. end.outcome) drops)

    none-new : ran.after.world.snapshots ≡ empty
    none-new = sym (ap (λ end. end.after.world.snapshots) drops) ∙ none-left old.snapshot st.pages state.world.snapshots st.memories n held

    new-numbers : live_numbers new.snapshot ≡ []
    new-numbers = same-live new.snapshot None (λ m. sym (lives-is new machine ran.after ran.stands m) ∙ ap (λ snapshots. contains_key snapshots m) none-new ∙ ap is_some (get-empty nat_cmp m))

    -- the child of this number lives no more
    pub dropped-children : Reaps (children_of old.snapshot old.last) (children_of new.snapshot new.last) n
    dropped-children = record {
      numbers = new-numbers ∙ sym (none-listed old.snapshot n held);
      live = ap (λ numbers. length numbers + 1) new-numbers ∙ sym (ap length (number-held old.snapshot n held));
      last = sym ran.stands.last ∙ sym (ap (λ end. end.after.world.last) drops) ∙ st.last;
      limit = refl;
    }
