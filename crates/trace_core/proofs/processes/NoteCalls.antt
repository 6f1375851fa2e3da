-- What is noted of a kernel holds of a new one, and behind each call of the parent.
use Rattle.std.proofs.Common.{◌≡◌, ℕ, ◌+◌, ◌/◌, ◌≤◌, ◌^◌, Bool, true, false, cond, List, [], ◌∷◌, Option, Some, None, Result, inl, inr, refl, sym, ◌∙◌, ap, subst, arith, le_refl, le_trans}
use Rattle.std.specs.Prelude.{◌-◌, ◌==◌, IsSome, is_some, unwrap_or, nat_lt}
use Rattle.std.specs.Ordering.{nat_cmp}
use Rattle.std.specs.Option.{ForSome, option_and_then}
use Rattle.std.specs.List.{list_any}
use Rattle.std.specs.FinMap.{FinMap, get, get-empty}
use Rattle.std.specs.Coded.{×_prop, le_prop}
use Rattle.std.proofs.lemmas.Bool.{cases_Bool, false≢true}
use Rattle.std.proofs.lemmas.Bool.Decides.{nat_tests}
use Rattle.std.proofs.Math.Logic.{∥∥₁_elim}
use Rattle.vm_base.specs.declared.permission.Perm.{Perm}
use Rattle.vm_base.specs.declared.faults.Fault.{Fault}
use Rattle.vm_base.specs.Counts.{next_count}
use Rattle.vm_base.specs.Deals.{Deal, Granted, Denied, Returned}
use Rattle.vm_base.specs.FlatMemory.{PageMap, FlatMemory, cells_of}
use Rattle.vm_base.specs.FlatStep.{map_of, unmap_of, protect_of, touch_of}
use Rattle.vm_base.specs.MemoryState.{IsListed, own_of}
use Rattle.kernel_meaning.specs.Requests.{Answer, answers_of}
use Rattle.kernel_meaning.specs.Leaves.{kept_by, loss_at}
use Rattle.kernel_meaning.specs.FrameLaw.{cell_at}
use Rattle.frame_pool.specs.Policies.{PolicyView}
use Rattle.kernel_meaning.specs.RefusedRequests.{count_after}
use Rattle.trace_events.specs.declared.outcome.Outcome.{Outcome}
use Rattle.page_tables.specs.declared.tables.PageTables.{PageTables}
use Rattle.page_tables.proofs.view.TablesShown.{number-lacks, has-number}
use Rattle.page_tables.proofs.enough.SnapshotFrames.{alone-kept}
use Rattle.trace_core.specs.declared.parts.SnapshotAreas.{SnapshotAreas}
use Rattle.trace_core.specs.Answering.{AreCounted, LeadOn, made_after, pending_of}
use Rattle.trace_core.specs.KernelState.{Machine, KernelState, opening_state}
use Rattle.trace_core.specs.EventMeaning.{EventEnd}
use Rattle.trace_core.specs.KernelStanding.{KernelParts, KernelStands, EventRan, kept_memories, kept_number, sides_of}
use Rattle.trace_core.specs.KernelSeen.{KernelNotes, IsSound, IsKernelNoted, NotesHold, kept_in, enough_of, most_behind_touch}
use Rattle.page_tables.specs.SlotViews.{lost_in}
use Rattle.trace_core.specs.TouchAnswers.{touch_outcome, with_stored}
use Rattle.trace_core.proofs.supplies.AnswerLemmas.{deals_lead_on, no_request_has_led}
use Rattle.trace_core.proofs.memories.AreaCalls.{HasMapped, HasUnmapped, HasProtected}
use Rattle.trace_core.proofs.memories.ClauseProps.{test-prop, option-prop}
use Rattle.trace_core.proofs.memories.TouchCalls.{TouchRan, answered-grows}
use Rattle.trace_core.proofs.processes.SnapshotEvents.{EndKeeps, map-keeps-leaves, unmap-keeps-leaves, protect-keeps-leaves, touch-keeps-leaves, slots-keep, lost-keep}
use Rattle.trace_core.proofs.processes.SnapshotLeaves.{KeepsLeaves, told-between, same-keeps}
use Rattle.trace_core.proofs.events.OneSnapshot.{nothing-there, live-is, number-is}
use Rattle.vm_base.proofs.OwnFrames.{own-empty}
use Rattle.trace_core.proofs.processes.Children.{memory-under}
use Rattle.page_tables.proofs.view.ViewSides.{seen-lost}
use Rattle.trace_core.proofs.supplies.Policies.{under}
use Rattle.trace_core.proofs.events.LastRefusals.{count-grows}
use Rattle.page_tables.specs.TablesView.{views_of, pages_of, snapshot_number}

-- where it is told how many frames are enough, no request is named to be refused, and they are at most one more than half of those that were made
abbrev pub EnoughHolds : Option ℕ → KernelParts → Type 0
EnoughHolds enough parts = ForSome enough (λ enough. (parts.supply.pending ≡ None) × (enough + enough ≤ parts.supply.made + 2))

-- what is noted holds with one proof at most
pub NotesHold-prop : (parts : KernelParts) (notes : KernelNotes) → IsProp (NotesHold parts notes)
NotesHold-prop parts notes a b = λ i. record {
  cells = λ c there. test-prop (list_any (λ other. other == c) (cells_of (kept_in parts.snapshot notes.forked))) true (a.cells c there) (b.cells c there) i;
  born = λ lives. le_prop (a.born lives) (b.born lives) i;
  since = λ n c at lost. ×_prop le_prop le_prop (a.since n c at lost) (b.since n c at lost) i;
  own = le_prop a.own b.own i;
  enough = λ enough told. ×_prop (option-prop parts.supply.pending None) le_prop (a.enough enough told) (b.enough enough told) i;
}

-- ---- where no snapshot lives

module _ (parts : KernelParts) (machine : Machine) (state : KernelState) (stands : KernelStands parts machine state) where
  module _ (none : parts.snapshot ≡ None) where
    none-numbered : snapshot_number parts.tables ≡ None
    none-numbered = stands.number ∙ ap kept_number none

    -- no cell has a snapshot
    pub none-kept : (c : ℕ) → (cell_at state.leaves c).kept ≡ []
    none-kept = alone-kept parts.tables (sides_of state stands.pages) stands.tables (number-lacks parts.tables none-numbered)

    none-lost : (n c : ℕ) → get (lost_in n (views_of parts.tables)) c ≡ None
    none-lost n c =
        seen-lost parts.tables (sides_of state stands.pages) stands.tables n c
        ∙ ap (λ kept. option_and_then (λ it. loss_at it.leaf) (kept_by kept n)) (none-kept c)

    -- what is noted holds, whatever is noted of a snapshot
    pub none-hold : (notes : KernelNotes) → EnoughHolds notes.enough parts → NotesHold parts notes
    none-hold notes enough = record {
      cells = λ c there. absurd (false≢true (sym (ap is_some none-numbered) ∙ has-number parts.tables c there));
      born = λ lives. absurd (false≢true (sym (ap is_some none) ∙ lives));
      since = λ n c at lost. absurd (false≢true (sym (ap is_some (none-lost n c)) ∙ ap is_some lost));
      own = subst (λ own. own ≤ notes.most) (sym (ap (λ snapshot. own_of (kept_in snapshot notes.forked)) none ∙ own-empty)) (omega arith);
      enough = enough;
    }

  -- where a cell is lost, a snapshot lives
  lost-lives : (n c at : ℕ) → get (lost_in n (views_of parts.tables)) c ≡ Some at → IsSome parts.snapshot
  lost-lives n c at lost = elim (cases_Bool (is_some parts.snapshot)) [
    | inl lives ↦ lives
    | inr none ↦ absurd (false≢true (sym (ap is_some (none-lost (nothing-there parts.snapshot none) n c)) ∙ ap is_some lost))
  ]

-- ---- a new kernel

-- what is noted of a new kernel holds
pub opening-holds : (parts : KernelParts) (notes : KernelNotes) (machine : Machine) (last : ℕ) → KernelStands parts machine (opening_state last) → parts.snapshot ≡ None
    → ForSome notes.enough (λ enough. enough + enough ≤ machine.frames + 2) → NotesHold parts notes
opening-holds parts notes machine last stands none enough =
    none-hold parts machine (opening_state last) stands none notes
    (λ frames told. (stands.supply.pending, subst (λ made. frames + frames ≤ made + 2) (sym stands.supply.frames) (enough frames told)))

-- what it tells to be enough is little more than half of its frames
pub enough-of : (frames policies : ℕ) → ForSome (enough_of frames policies) (λ enough. enough + enough ≤ frames + 2)
enough-of frames policies = by (policies == 0)
  where
    by : (none : Bool) → ForSome (cond none (Some (frames / 2 + 1)) None) (λ enough. enough + enough ≤ frames + 2)
    by true enough told = let same : frames / 2 + 1 ≡ enough = ap (λ o. unwrap_or o enough) told in omega (arith, same)
    by false enough told = absurd (false≢true (ap is_some told))

-- ---- where snapshots are among those that there were

pending-next : (named : Option ℕ) (made : ℕ) → pending_of named made ≡ None → pending_of named (made + 1) ≡ None
pending-next None made none = refl
pending-next (Some number) made none = by (nat_lt made number) refl (nat_lt (made + 1) number) refl none
  where
    by : (before : Bool) → nat_lt made number ≡ before → (behind : Bool) → nat_lt (made + 1) number ≡ behind
        → ◌≡◌ {A = Option ℕ} (cond before (Some (number - made)) None) None → ◌≡◌ {A = Option ℕ} (cond behind (Some (number - (made + 1))) None) None
    by before was false is none = refl
    by true was true is none = absurd (false≢true (sym (ap is_some none)))
    by false was true is none = absurd (grind (arith, nat_tests))

-- where no request is named, none is behind others
pub pending-stays : (named : Option ℕ) (made : ℕ) (deals : List Deal) → pending_of named made ≡ None → pending_of named (made_after made deals) ≡ None
pending-stays named made [] none = none
pending-stays named made (Granted want ∷ deals) none = pending-stays named (made + 1) deals (pending-next named made none)
pending-stays named made (Denied want at ∷ deals) none = pending-stays named (made + 1) deals (pending-next named made none)
pending-stays named made (Returned ∷ deals) none = pending-stays named made deals none

-- each of these memories is one of the others
abbrev pub AreAmong : FinMap nat_cmp FlatMemory → FinMap nat_cmp FlatMemory → Type 0
AreAmong new old = (m : ℕ) (memory : FlatMemory) → get new m ≡ Some memory → get old m ≡ Some memory

-- a snapshot that lives among others is the one that lived
was-kept : (kept : SnapshotAreas) (pages before : FinMap nat_cmp PageMap) (new old : FinMap nat_cmp FlatMemory) (one : Option SnapshotAreas)
    → kept_memories (Some kept) pages new → kept_memories one before old → AreAmong new old → (was : SnapshotAreas) × ((one ≡ Some was) × (was.areas ≡ kept.areas))
was-kept kept pages before new old None its none among =
    let there = memory-under kept pages new its in
    absurd (false≢true (sym (ap is_some (ap (λ m. get m kept.number) none ∙ get-empty nat_cmp kept.number)) ∙ ap is_some (among kept.number _ there.1)))
was-kept kept pages before new old (Some was) its then among =
    let there = memory-under kept pages new its in
    let here = among kept.number _ there.1 in
    let earlier = memory-under was before old then in
    let number : was.number ≡ kept.number =
    ap (λ o. unwrap_or o was.number) (number-is (Some was.number) kept.number (sym (live-is (Some was) before old then kept.number) ∙ ap is_some here)) in
    let areas : was.areas ≡ kept.areas =
    ap (λ (o : Option FlatMemory). (unwrap_or {T = FlatMemory} o (record { areas = was.areas; present = earlier.0 })).areas) (sym earlier.1 ∙ ap (get old) number ∙ here) in
    (was, (refl, areas))

next-earlier : (born count at : ℕ) → born ≤ count → next_count count ≤ at → next_count born ≤ at
next-earlier born count at earlier later = omega (arith, earlier, later)

module _ (old new : KernelParts) (notes later : KernelNotes) (machine : Machine) (state after : KernelState)
    (stands : KernelStands old machine state) (then : KernelStands new machine after) where
  -- what is told to be enough still is, where no request was named to be refused
  pub enough-then : later.enough ≡ notes.enough → (old.supply.pending ≡ None → new.supply.pending ≡ None) → EnoughHolds notes.enough old → EnoughHolds later.enough new
  enough-then same unnamed enough = λ frames told.
      let was = enough frames (sym same ∙ told) in
      (unnamed was.0, subst (λ made. frames + frames ≤ made + 2) (stands.supply.frames ∙ sym then.supply.frames) was.1)

  module _ (deals : List Deal) (keeps : KeepsLeaves state.leaves after.leaves deals) (counted : AreCounted old.supply.refused deals)
      (count : new.supply.refused ≡ count_after old.supply.refused deals) (fits : old.supply.refused ≤ 2 ^ 64 - 1)
      (born : later.born ≡ notes.born) (most : notes.most ≤ later.most) (enough : EnoughHolds later.enough new) (holds : NotesHold old notes) where
    -- where the snapshot that lives is as it was
    kept-hold : kept_in new.snapshot later.forked ≡ kept_in old.snapshot notes.forked → (IsSome new.snapshot → IsSome old.snapshot) → NotesHold new later
    kept-hold same lived =
        let grows : old.supply.refused ≤ new.supply.refused = subst (λ count. old.supply.refused ≤ count) (sym count) (count-grows old.supply.refused deals fits) in
        record {
          cells = λ c there. subst (λ memory. IsListed c (cells_of memory)) (sym same)
              (holds.cells c (sym (slots-keep old.tables new.tables (sides_of state stands.pages) (sides_of after then.pages) stands.tables then.tables deals keeps c) ∙ there));
          born = λ lives. subst (λ born. born ≤ new.supply.refused) (sym born) (le_trans (holds.born (lived lives)) grows);
          since = λ n c at lost. elim
              (lost-keep old.tables new.tables (sides_of state stands.pages) (sides_of after then.pages) stands.tables then.tables deals keeps n c at lost) [
                | inl before ↦
                    let was : (next_count notes.born ≤ at) × (at ≤ old.supply.refused) = holds.since n c at before in
                    (subst (λ born. next_count born ≤ at) (sym born) was.0, le_trans was.1 grows)
                | inr told ↦
                    let between : (next_count old.supply.refused ≤ at) × (at ≤ count_after old.supply.refused deals) =
                    told-between old.supply.refused deals at counted fits told in
                    let earlier : notes.born ≤ old.supply.refused = holds.born (lived (lost-lives new machine after then n c at lost)) in (
                      subst (λ born. next_count born ≤ at) (sym born) (next-earlier notes.born old.supply.refused at earlier between.0),
                      subst (λ count. at ≤ count) (sym count) between.1,
                    )
              ];
          own = le_trans (subst (λ memory. own_of memory ≤ notes.most) (sym same) holds.own) most;
          enough = enough;
        }

    -- where it is the one that lived, or none is left
    pub among-hold : later.forked ≡ notes.forked → AreAmong after.world.snapshots state.world.snapshots → NotesHold new later
    among-hold forked among = by new.snapshot refl
      where
        by : (snapshot : Option SnapshotAreas) → new.snapshot ≡ snapshot → NotesHold new later
        by None none = none-hold new machine after then none later enough
        by (Some kept) lives =
            let was = was-kept kept then.pages stands.pages after.world.snapshots state.world.snapshots old.snapshot
            (subst (λ snapshot. kept_memories snapshot then.pages after.world.snapshots) lives then.memories) stands.memories among in
            let memory : kept_in (Some kept) later.forked ≡ kept_in (Some was.0) notes.forked = λ i. record { areas = sym was.1.1 i; present = pages_of (forked i) } in
            kept-hold
            (ap (λ snapshot. kept_in snapshot later.forked) lives ∙ memory ∙ sym (ap (λ snapshot. kept_in snapshot notes.forked) was.1.0))
            (λ there. ap is_some was.1.0)

-- ---- behind the calls of the parent

module _ (old new : KernelParts) (notes later : KernelNotes) (snapshot : new.snapshot ≡ old.snapshot) (forked : later.forked ≡ notes.forked) (born : later.born ≡ notes.born)
    (most : notes.most ≤ later.most) (enough : later.enough ≡ notes.enough) (fits : old.supply.refused ≤ 2 ^ 64 - 1) (holds : NotesHold old notes) where
  -- what is noted holds behind an event of the parent that keeps the leaves of snapshots
  pub ran-holds : (machine : Machine) (state : KernelState) → IsSound old notes machine state → (outcome : Outcome) (end : List Answer → EventEnd)
      → EventRan old new machine end outcome → ((answers : List Answer) → EndKeeps state (end answers)) → NotesHold new later
  ran-holds machine state sound outcome end ran keeps =
      let on : LeadOn old.supply.policies state.named state.made [] old.supply ran.deals new.supply =
      deals_lead_on old.supply.policies state.named state.made [] old.supply new.supply ran.deals sound.stands.supply.pending
      (no_request_has_led old.supply.made old.supply.policies) ran.led in
      kept-hold old new notes later machine state ran.after sound.stands ran.stands ran.deals
      (subst (EndKeeps state) ran.ends (keeps (answers_of ran.deals))) on.counted on.refused fits born most
      (enough-then old new notes later machine state ran.after sound.stands ran.stands enough
      (λ none. on.pending ∙ pending-stays state.named state.made ran.deals (sym sound.stands.supply.pending ∙ none)) holds.enough)
      holds (λ i. kept_in (snapshot i) (forked i)) (λ lives. sym (ap is_some snapshot) ∙ lives)

module _ (old new : KernelParts) (notes : KernelNotes) (known : ∥ IsKernelNoted old notes ∥₁) (snapshot : new.snapshot ≡ old.snapshot)
    (fits : old.supply.refused ≤ 2 ^ 64 - 1) (holds : NotesHold old notes) where
  -- behind a map
  pub map-holds : (first n : ℕ) (perm : Perm) (outcome : Outcome) → HasMapped old new first n perm outcome → NotesHold new notes
  map-holds first n perm outcome ran = ∥∥₁_elim known (NotesHold-prop new notes) (λ it.
      ran-holds old new notes notes snapshot refl refl (le_refl notes.most) refl fits holds it.0 it.1.0 it.1.1 outcome _ (ran it.0 it.1.0 it.1.1.stands)
      (λ answers. map-keeps-leaves it.1.0 answers (map_of it.1.0.world.parent first n perm)))

  -- behind an unmap
  pub unmap-holds : (first n : ℕ) (outcome : Outcome) → HasUnmapped old new first n outcome → NotesHold new notes
  unmap-holds first n outcome ran = ∥∥₁_elim known (NotesHold-prop new notes) (λ it.
      ran-holds old new notes notes snapshot refl refl (le_refl notes.most) refl fits holds it.0 it.1.0 it.1.1 outcome _ (ran it.0 it.1.0 it.1.1.stands)
      (λ answers. unmap-keeps-leaves it.1.0 answers (unmap_of it.1.0.world.parent first n) first n))

  -- behind another permission
  pub protect-holds : (first n : ℕ) (perm : Perm) (outcome : Outcome) → HasProtected old new first n perm outcome → NotesHold new notes
  protect-holds first n perm outcome ran = ∥∥₁_elim known (NotesHold-prop new notes) (λ it.
      ran-holds old new notes notes snapshot refl refl (le_refl notes.most) refl fits holds it.0 it.1.0 it.1.1 outcome _ (ran it.0 it.1.0 it.1.1.stands)
      (λ answers. protect-keeps-leaves it.1.0 answers (protect_of it.1.0.world.parent first n perm) first n))

-- behind a touch
pub touch-holds : (old new : KernelParts) (notes later : KernelNotes) (addr len : ℕ) (known : ∥ IsKernelNoted old notes ∥₁) (before : PageTables)
    (result : Result (Unit {0}) Fault) → later.most ≡ most_behind_touch before addr len notes.most result
    → later.forked ≡ notes.forked → later.born ≡ notes.born → later.enough ≡ notes.enough
    → TouchRan old new notes later addr len known result → new.snapshot ≡ old.snapshot → old.supply.refused ≤ 2 ^ 64 - 1 → NotesHold old notes → NotesHold new later
touch-holds old new notes later addr len known before result most forked born enough ran snapshot fits holds = ∥∥₁_elim known (NotesHold-prop new later) (λ it.
    ran-holds old new notes later snapshot forked born
    (subst (λ most. notes.most ≤ most) (sym most) (answered-grows before addr len notes.most (touch_outcome result))) enough fits holds
    it.0 it.1.0 it.1.1 (touch_outcome result) _
    (ran it.0 it.1.0 it.1.1.stands) (λ answers. touch-keeps-leaves it.0 it.1.0 answers addr len (touch_of it.1.0.world.parent addr len)))

-- behind a store
pub store-holds : (old new : KernelParts) (notes : KernelNotes) (addr : ℕ) (bytes : List ℕ) → ∥ IsKernelNoted old notes ∥₁
    → ((machine : Machine) (state : KernelState) → KernelStands old machine state → KernelStands new machine (with_stored state addr bytes))
    → new ≡ record old { tables = new.tables } → old.supply.refused ≤ 2 ^ 64 - 1 → NotesHold old notes → NotesHold new notes
store-holds old new notes addr bytes known stored others fits holds = ∥∥₁_elim known (NotesHold-prop new notes) (λ it.
    let state : KernelState = it.1.0 in
    let supply : new.supply ≡ old.supply = ap (λ parts. parts.supply) others in
    let snapshot : new.snapshot ≡ old.snapshot = ap (λ parts. parts.snapshot) others in
    kept-hold old new notes notes it.0 state (with_stored state addr bytes) it.1.1.stands (stored it.0 state it.1.1.stands) []
    (same-keeps state.leaves []) tt (ap (λ supply. supply.refused) supply) fits refl (le_refl notes.most)
    (enough-then old new notes notes it.0 state (with_stored state addr bytes) it.1.1.stands (stored it.0 state it.1.1.stands) refl
    (λ none. ap (λ supply. supply.pending) supply ∙ none) holds.enough)
    holds (ap (λ snapshot. kept_in snapshot notes.forked) snapshot) (λ lives. sym (ap is_some snapshot) ∙ lives))

-- ---- under other policies

-- what is noted holds whatever the policies of the pool are
pub holds-under : (parts : KernelParts) (notes : KernelNotes) (listed : List PolicyView) → NotesHold parts notes → NotesHold (under parts listed) notes
holds-under parts notes listed holds = record { cells = holds.cells; born = holds.born; since = holds.since; own = holds.own; enough = holds.enough }

-- and under those that they were
pub under-holds : (parts : KernelParts) (notes : KernelNotes) (listed : List PolicyView) → NotesHold (under parts listed) notes → NotesHold parts notes
under-holds parts notes listed holds = record { cells = holds.cells; born = holds.born; since = holds.since; own = holds.own; enough = holds.enough }
