-- A touch of the kernel is a touch of the memory that it is seen as: it is judged by the slots and areas that are seen, and leaves what the memory's own touch does.
use Rattle.std.proofs.Common.{◌≡◌, ℕ, ◌-◌, Bool, true, false, cond, List, [], length, Option, Some, None, Result, Ok, Err, refl, sym, ◌∙◌, ap, subst, inl, inr, ◌⊎◌}
use Rattle.std.specs.Prelude.{not, nat_lt, filter, is_ok, is_some, IsSome}
use Rattle.std.specs.Ordering.{nat_cmp}
use Rattle.std.specs.Cmp.{nat_cmp_total}
use Rattle.std.specs.FinMap.{get, find, nat_cmp-IsAntisymmetric}
use Rattle.std.specs.FinSet as set
use Rattle.std.proofs.lemmas.Bool.{false≢true}
use Rattle.std.proofs.lemmas.List.{length-map}
use Rattle.vm_base.specs.declared.faults.Fault.{Fault}
use Rattle.vm_base.specs.declared.faults.Fault.TheVariants as fault
use Rattle.vm_base.specs.Counts.{Rose}
use Rattle.vm_base.specs.Deals.{Deal, LeadsAlong}
use Rattle.vm_base.specs.Places.{page_of, page_count, cells_of_range}
use Rattle.vm_base.specs.FlatMemory.{FlatMemory, area_of}
use Rattle.vm_base.specs.FlatStep.{Refusal, OutsideAreas, ReadOnly, Taken, TooManyAreas, is_read_only, or_refused, outside, unwritable, with_pages, with_bytes, touch_of}
use Rattle.vm_base.specs.MemoryState.{IsIn, IsListed, KeepsReady}
use Rattle.vm_base.specs.MemoryCalls.{faulted, is_out_of_slots, if_slots, touch_answer, Touches, Refuses, TouchFails, IsReady, after_store}
use Rattle.kernel_meaning.specs.Requests.{Answer, answers_of}
use Rattle.kernel_meaning.specs.FrameLaw.{lacks_slots}
use Rattle.kernel_meaning.specs.RefusedRequests.{count_after}
use Rattle.kernel_meaning.specs.EventRequests.{FrameRefusal, Progress, pages_touched}
use Rattle.trace_events.specs.declared.outcome.Outcome.{Outcome}
use Rattle.trace_events.specs.declared.outcome.Outcome.TheVariants.{Done, NoArea, NoWrite, Overlap, AreasFull, CellsFull, NoFrame}
use Rattle.page_tables.specs.declared.tables.PageTables.{PageTables}
use Rattle.page_tables.specs.Sides.{Sides}
use Rattle.page_tables.specs.Standing.{slot_count}
use Rattle.area_list.proofs.Found.{fails_below}
use Rattle.trace_core.specs.Answering.{LeadOn}
use Rattle.trace_core.specs.SupplyState.{SupplyGoes}
use Rattle.trace_core.specs.KernelState.{Machine, KernelState}
use Rattle.trace_core.specs.EventMeaning.{EventEnd, begun, only_answers, touch_answered, touch_judged}
use Rattle.trace_core.specs.KernelStanding.{KernelParts, KernelStands, EventRan, sides_of}
use Rattle.trace_core.specs.KernelSeen.{KernelNotes, IsSound, parent_of, memory_of, most_touched, most_answered}
use Rattle.page_tables.specs.SlotViews.{used_in, ready_in}
use Rattle.trace_core.specs.TouchAnswers.{fault_outcome, touch_outcome, LeavesReady, LacksPage, with_stored}
use Rattle.page_tables.proofs.view.ViewSides.{seen-pages, seen-used, seen-count, seen-ready, ready-seen}
use Rattle.vm_base.proofs.OwnFrames.{kept-with_pages}
use Rattle.vm_base.proofs.FlatLaws.{keys-with_bytes}
use Rattle.vm_base.proofs.FlatAreas.{listed-page}
use Rattle.area_list.proofs.FlatSteps.{present-touched}
use Rattle.trace_core.proofs.supplies.AnswerLemmas.{deals_lead_on, no_request_has_led}
use Rattle.page_tables.proofs.view.TouchCells.{HasSlot, had-pages}
use Rattle.trace_core.proofs.events.LastRefusals.{last_told, Told, told-count, touched-told}
use Rattle.page_tables.specs.TablesView.{views_of, pages_of}

-- ---- what is seen is what the definitions judge by

module _ (parts : KernelParts) (machine : Machine) (state : KernelState) (st : KernelStands parts machine state) where
  -- the parent's memory is the one that the parts are seen to have
  pub stands-parent : parent_of parts ≡ state.world.parent
  stands-parent =
      let present : pages_of parts.tables ≡ state.world.parent.present = seen-pages parts.tables (sides_of state st.pages) st.tables in
      λ i. record { areas = sym st.areas i; present = present i }

  module _ (most addr len : ℕ) where
    -- a range is out of slots where the leaves lack them
    pub lacks-seen : is_out_of_slots (memory_of parts most) addr len ≡ lacks_slots machine.slots state.leaves (cells_of_range addr len)
    lacks-seen =
        let counted : set.len (memory_of parts most).used ≡ length state.leaves = seen-count parts.tables (sides_of state st.pages) st.tables in
        let used : (c : ℕ) → set.contains (memory_of parts most).used c ≡ is_some (find nat_cmp c state.leaves) = seen-used parts.tables (sides_of state st.pages) st.tables in
        let listed : length state.leaves ≡ _ = sym (length-map state.leaves (λ entry. entry.0)) in
        λ i. nat_lt (st.slots i - (counted ∙ listed) i) (length (filter (λ cell. not (used cell i)) (cells_of_range addr len)))

    -- so a touch is answered as the definitions judge it
    pub answer-seen : touch_answer (memory_of parts most) addr len ≡ if_slots (lacks_slots machine.slots state.leaves (cells_of_range addr len)) (faulted (touch_of state.world.parent addr len))
    answer-seen = λ i. if_slots (lacks-seen i) (faulted (touch_of (stands-parent i) addr len))

-- ---- how the definitions judge a touch, by its answer

-- what an answer tells of what the areas gave, of the slots, and of the memory behind it
abbrev Judged : Machine → KernelState → ℕ → ℕ → Result FlatMemory Refusal → Outcome → FlatMemory → Type 0
Judged machine state addr len touch Done after =
    (touch ≡ Ok after) × (lacks_slots machine.slots state.leaves (cells_of_range addr len) ≡ false)
Judged machine state addr len touch (NoFrame at) after =
    (is_ok (if_slots (lacks_slots machine.slots state.leaves (cells_of_range addr len)) (faulted touch)) ≡ true) × (after ≡ state.world.parent)
Judged machine state addr len touch (NoArea page) after = touch ≡ Err (OutsideAreas page)
Judged machine state addr len touch (NoWrite page) after = touch ≡ Err (ReadOnly page)
Judged machine state addr len touch (Overlap page) after = touch ≡ Err (Taken page)
Judged machine state addr len touch AreasFull after = touch ≡ Err TooManyAreas
Judged machine state addr len touch CellsFull after =
    (memory : FlatMemory) × ((touch ≡ Ok memory) × (lacks_slots machine.slots state.leaves (cells_of_range addr len) ≡ true))
Judged machine state addr len touch other after = Unit {0}

module _ (machine : Machine) (state : KernelState) (answers : List Answer) (addr len : ℕ) where
  judged-answered : (memory : FlatMemory) (refused : Option FrameRefusal) (progress : Progress) → lacks_slots machine.slots state.leaves (cells_of_range addr len) ≡ false
      → let end : EventEnd = touch_answered state memory refused progress in Judged machine state addr len (Ok memory) end.outcome end.after.world.parent
  judged-answered memory None progress fits = (refl, fits)
  judged-answered memory (Some refusal) progress fits = (ap (λ out. is_ok (if_slots out (Ok memory))) fits, refl)

  judged-is : (touch : Result FlatMemory Refusal) → let end : EventEnd = touch_judged machine state answers addr len touch in
      Judged machine state addr len touch end.outcome end.after.world.parent
  judged-is (Err (OutsideAreas page)) = refl
  judged-is (Err (ReadOnly page)) = refl
  judged-is (Err (Taken page)) = refl
  judged-is (Err TooManyAreas) = refl
  judged-is (Ok memory) =
      let progress : Progress = pages_touched (page_of addr) (page_count addr len) (begun state answers) in
      elim (lacks_slots machine.slots state.leaves (cells_of_range addr len)) as (λ b. lacks_slots machine.slots state.leaves (cells_of_range addr len) ≡ b
      → let end : EventEnd = cond b (only_answers state CellsFull) (touch_answered state memory progress.refused progress) in
      Judged machine state addr len (Ok memory) end.outcome end.after.world.parent) [
        | true ↦ λ lacks. (memory, (refl, lacks))
        | false ↦ λ fits. judged-answered memory progress.refused progress fits
      ] refl

-- a touch that ran was judged so
ran-judged : (old new : KernelParts) (machine : Machine) (state : KernelState) (addr len : ℕ) (outcome : Outcome)
    → (ran : EventRan old new machine (λ answers. touch_judged machine state answers addr len (touch_of state.world.parent addr len)) outcome)
    → Judged machine state addr len (touch_of state.world.parent addr len) outcome ran.after.world.parent
ran-judged old new machine state addr len outcome ran =
    subst (λ (end : EventEnd). Judged machine state addr len (touch_of state.world.parent addr len) end.outcome end.after.world.parent) ran.ends
    (judged-is machine state (answers_of ran.deals) addr len (touch_of state.world.parent addr len))

-- a touch that lacked a frame tells the count of the last refusal among its deals
abbrev Denies : Outcome → List Deal → Type 0
Denies (NoFrame at) deals = last_told None deals ≡ Some at
Denies other deals = Unit {0}

module _ (machine : Machine) (state : KernelState) (answers : List Answer) (addr len : ℕ) where
  answered-denies : (memory : FlatMemory) (refused : Option FrameRefusal) (progress : Progress) → Told refused progress.requests.deals
      → let end : EventEnd = touch_answered state memory refused progress in Denies end.outcome end.deals
  answered-denies memory None progress told = tt
  answered-denies memory (Some refusal) progress told = told

  judged-denies : (touch : Result FlatMemory Refusal) → let end : EventEnd = touch_judged machine state answers addr len touch in Denies end.outcome end.deals
  judged-denies (Err (OutsideAreas page)) = tt
  judged-denies (Err (ReadOnly page)) = tt
  judged-denies (Err (Taken page)) = tt
  judged-denies (Err TooManyAreas) = tt
  judged-denies (Ok memory) =
      let progress : Progress = pages_touched (page_of addr) (page_count addr len) (begun state answers) in
      let told : Told progress.refused progress.requests.deals = touched-told (page_count addr len) (page_of addr) [] (begun state answers) refl in
      elim (lacks_slots machine.slots state.leaves (cells_of_range addr len)) as (λ b.
      let end : EventEnd = cond b (only_answers state CellsFull) (touch_answered state memory progress.refused progress) in Denies end.outcome end.deals) [
        | true ↦ tt
        | false ↦ answered-denies memory progress.refused progress told
      ]

-- a refusal's count is the one that stands behind the touch, and it rose
pub ran-told : (old new : KernelParts) (machine : Machine) (state : KernelState) (addr len at : ℕ) → KernelStands old machine state
    → EventRan old new machine (λ answers. touch_judged machine state answers addr len (touch_of state.world.parent addr len)) (NoFrame at)
    → (at ≡ new.supply.refused) × Rose old.supply.refused new.supply.refused
ran-told old new machine state addr len at st ran =
    let told : last_told None ran.deals ≡ Some at =
    subst (λ (end : EventEnd). Denies end.outcome end.deals) ran.ends (judged-denies machine state (answers_of ran.deals) addr len (touch_of state.world.parent addr len)) in
    let on : LeadOn old.supply.policies state.named state.made [] old.supply ran.deals new.supply =
    deals_lead_on old.supply.policies state.named state.made [] old.supply new.supply ran.deals st.supply.pending (no_request_has_led old.supply.made old.supply.policies) ran.led in
    let counted : (at ≡ count_after old.supply.refused ran.deals) × Rose old.supply.refused (count_after old.supply.refused ran.deals) =
    told-count old.supply.refused ran.deals at on.counted told in
    (counted.0 ∙ sym on.refused, subst (λ count. Rose old.supply.refused count) (sym on.refused) counted.1)

-- ---- what changes nothing

same-tests : (a b : Bool) → (a ≡ true → b ≡ true) → (b ≡ true → a ≡ true) → a ≡ b
same-tests true b there back = sym (there refl)
same-tests false true there back = back refl
same-tests false false there back = refl

-- parts that stand for one state over one supply are seen as one memory
module _ (old new : KernelParts) (machine : Machine) (state : KernelState) (st : KernelStands old machine state) (now : KernelStands new machine state) where
  areas-alike : new.areas ≡ old.areas
  areas-alike = sym now.areas ∙ st.areas

  ready-alike : (page : ℕ) → set.contains (ready_in new.areas (views_of new.tables)) page ≡ set.contains (ready_in old.areas (views_of old.tables)) page
  ready-alike page = same-tests (set.contains (ready_in new.areas (views_of new.tables)) page) (set.contains (ready_in old.areas (views_of old.tables)) page)
      (λ there. let its = seen-ready new.tables (sides_of state now.pages) now.tables new.areas page there in
      ready-seen old.tables (sides_of state st.pages) st.tables old.areas page its.0 its.1 (ap (λ areas. is_read_only (area_of areas page)) (sym areas-alike) ∙ its.2))
      (λ there. let its = seen-ready old.tables (sides_of state st.pages) st.tables old.areas page there in
      ready-seen new.tables (sides_of state now.pages) now.tables new.areas page its.0 its.1 (ap (λ areas. is_read_only (area_of areas page)) areas-alike ∙ its.2))

  pub same-seen : (most : ℕ) → new.supply ≡ old.supply → memory_of new most ≡ memory_of old most
  same-seen most supply =
      let mem : parent_of new ≡ parent_of old = stands-parent new machine state now ∙ sym (stands-parent old machine state st) in
      let slots : slot_count new.tables ≡ slot_count old.tables = now.slots ∙ sym st.slots in
      let used : used_in (views_of new.tables) ≡ used_in (views_of old.tables) =
      set.same_set nat_cmp_total nat_cmp-IsAntisymmetric _ _ (λ c. seen-used new.tables (sides_of state now.pages) now.tables c ∙ sym (seen-used old.tables (sides_of state st.pages) st.tables c)) in
      let ready : ready_in new.areas (views_of new.tables) ≡ ready_in old.areas (views_of old.tables) = set.same_set nat_cmp_total nat_cmp-IsAntisymmetric _ _ ready-alike in
      λ i. record {
        mem = mem i;
        refused = (supply i).refused;
        room = (supply i).made;
        slots = slots i;
        used = used i;
        ready = ready i;
        most = most;
        enough = None;
      }

-- a refusal makes no deals and changes nothing, unless it is of a frame
abbrev IsIdle : KernelState → Outcome → List Deal → KernelState → Type 0
IsIdle state Done deals after = Unit {0}
IsIdle state (NoFrame at) deals after = Unit {0}
IsIdle state other deals after = (deals ≡ []) × (after ≡ state)

module _ (machine : Machine) (state : KernelState) (answers : List Answer) (addr len : ℕ) where
  abbrev Idles : EventEnd → Type 0
  Idles end = IsIdle state end.outcome end.deals end.after

  answered-idle : (memory : FlatMemory) (refused : Option FrameRefusal) (progress : Progress) → Idles (touch_answered state memory refused progress)
  answered-idle memory None progress = tt
  answered-idle memory (Some refusal) progress = tt

  judged-idle : (touch : Result FlatMemory Refusal) → Idles (touch_judged machine state answers addr len touch)
  judged-idle (Err (OutsideAreas page)) = (refl, refl)
  judged-idle (Err (ReadOnly page)) = (refl, refl)
  judged-idle (Err (Taken page)) = (refl, refl)
  judged-idle (Err TooManyAreas) = (refl, refl)
  judged-idle (Ok memory) =
      let progress : Progress = pages_touched (page_of addr) (page_count addr len) (begun state answers) in
      elim (lacks_slots machine.slots state.leaves (cells_of_range addr len)) as (λ b. Idles (cond b (only_answers state CellsFull) (touch_answered state memory progress.refused progress))) [
        | true ↦ (refl, refl)
        | false ↦ answered-idle memory progress.refused progress
      ]

-- how a touch that ran has idled
ran-idle : (old new : KernelParts) (machine : Machine) (state : KernelState) (addr len : ℕ) (outcome : Outcome)
    → (ran : EventRan old new machine (λ answers. touch_judged machine state answers addr len (touch_of state.world.parent addr len)) outcome)
    → IsIdle state outcome ran.deals ran.after
ran-idle old new machine state addr len outcome ran =
    subst (λ (end : EventEnd). IsIdle state end.outcome end.deals end.after) ran.ends (judged-idle machine state (answers_of ran.deals) addr len (touch_of state.world.parent addr len))

-- what idled is seen as it was
pub idle-seen : (old new : KernelParts) (machine : Machine) (state after : KernelState) (deals : List Deal) (most : ℕ) → KernelStands old machine state → KernelStands new machine after
    → LeadsAlong SupplyGoes old.supply deals new.supply → (deals ≡ []) × (after ≡ state) → memory_of new most ≡ memory_of old most
idle-seen old new machine state after deals most st now led idle =
    same-seen old new machine state st (subst (KernelStands new machine) idle.1 now) most (subst (λ deals. LeadsAlong SupplyGoes old.supply deals new.supply) idle.0 led)

-- ---- the cells that have slots behind a touch

module _ (machine : Machine) (state : KernelState) (answers : List Answer) (addr len q : ℕ) where
  -- a cell that has a slot behind an end had one before, or is one of the range
  abbrev HadSlot : EventEnd → Type 0
  HadSlot end = HasSlot q end.after.leaves → HasSlot q state.leaves ⊎ IsListed q (cells_of_range addr len)

  answered-had : (memory : FlatMemory) (refused : Option FrameRefusal) (progress : Progress) → (HasSlot q progress.leaves → HasSlot q state.leaves ⊎ IsListed q (cells_of_range addr len))
      → HadSlot (touch_answered state memory refused progress)
  answered-had memory None progress had = had
  answered-had memory (Some refusal) progress had = had

  judged-had : (touch : Result FlatMemory Refusal) → HadSlot (touch_judged machine state answers addr len touch)
  judged-had (Err refusal) = inl
  judged-had (Ok memory) =
      let progress : Progress = pages_touched (page_of addr) (page_count addr len) (begun state answers) in
      elim (lacks_slots machine.slots state.leaves (cells_of_range addr len)) as (λ b. HadSlot (cond b (only_answers state CellsFull) (touch_answered state memory progress.refused progress))) [
        | true ↦ inl
        | false ↦ answered-had memory progress.refused progress
            (had-pages (λ cell. IsListed cell (cells_of_range addr len)) q (page_count addr len) (page_of addr) [] (begun state answers) (listed-page addr len) tt)
      ]

-- each cell that uses a slot behind a touch did before, or is a cell of the range
pub used-seen : (old new : KernelParts) (machine : Machine) (state : KernelState) (addr len most later : ℕ) (outcome : Outcome) → KernelStands old machine state
    → EventRan old new machine (λ answers. touch_judged machine state answers addr len (touch_of state.world.parent addr len)) outcome
    → (cell : ℕ) → IsIn cell (memory_of new later).used → IsIn cell (memory_of old most).used ⊎ IsListed cell (cells_of_range addr len)
used-seen old new machine state addr len most later outcome st ran cell there =
    let behind : HasSlot cell ran.after.leaves = sym (seen-used new.tables (sides_of ran.after ran.stands.pages) ran.stands.tables cell) ∙ there in
    elim (subst (λ (end : EventEnd). HadSlot machine state (answers_of ran.deals) addr len cell end) ran.ends
    (judged-had machine state (answers_of ran.deals) addr len cell (touch_of state.world.parent addr len)) behind) [
      | inl before ↦ inl (seen-used old.tables (sides_of state st.pages) st.tables cell ∙ before)
      | inr listed ↦ inr listed
    ]

-- ---- what the areas give

-- an answer that a touch can have of the areas
abbrev is_of_touch : Result FlatMemory Refusal → Bool
is_of_touch (Ok memory) = true
is_of_touch (Err (OutsideAreas page)) = true
is_of_touch (Err (ReadOnly page)) = true
is_of_touch (Err (Taken page)) = false
is_of_touch (Err TooManyAreas) = false

touch-only : (beyond closed : Option ℕ) (memory : FlatMemory) → is_of_touch (or_refused OutsideAreas beyond (or_refused ReadOnly closed (Ok memory))) ≡ true
touch-only None None memory = refl
touch-only None (Some page) memory = refl
touch-only (Some page) closed memory = refl

touch-other : (memory : FlatMemory) (addr len : ℕ) (touch : Result FlatMemory Refusal) → is_of_touch touch ≡ false → touch_of memory addr len ≡ touch → ⊥
touch-other memory addr len touch other is =
    false≢true (sym other ∙ ap is_of_touch (sym is)
    ∙ touch-only (outside memory.areas (page_of addr) (page_count addr len)) (unwritable memory.areas (page_of addr) (page_count addr len))
    (record memory { present = with_pages memory.present (page_of addr) (page_count addr len) }))

-- the memory of an answer
abbrev memory_or : FlatMemory → Result FlatMemory Refusal → FlatMemory
memory_or other (Ok memory) = memory
memory_or other (Err refusal) = other

-- a touch that the areas allow: no page is read only, and these are the pages behind it
record Allowed (memory after : FlatMemory) (addr len : ℕ) : Type 0 where
  open_to : unwritable memory.areas (page_of addr) (page_count addr len) ≡ None
  is : record memory { present = with_pages memory.present (page_of addr) (page_count addr len) } ≡ after

allowed : (memory after : FlatMemory) (addr len : ℕ) → touch_of memory addr len ≡ Ok after → Allowed memory after addr len
allowed memory after addr len is =
    by (outside memory.areas (page_of addr) (page_count addr len)) (unwritable memory.areas (page_of addr) (page_count addr len)) refl is
  where
    by : (beyond closed : Option ℕ) → unwritable memory.areas (page_of addr) (page_count addr len) ≡ closed
        → or_refused OutsideAreas beyond (or_refused ReadOnly closed (Ok (record memory { present = with_pages memory.present (page_of addr) (page_count addr len) }))) ≡ Ok after
        → Allowed memory after addr len
    by None None none given = record { open_to = none; is = ap (memory_or after) given }
    by None (Some page) none given = absurd (false≢true (ap is_ok given))
    by (Some page) closed none given = absurd (false≢true (ap is_ok given))

-- ---- what a touch leaves

module _ (old new : KernelParts) (notes : KernelNotes) (machine : Machine) (state : KernelState) (sound : IsSound old notes machine state) (addr len : ℕ) where
  abbrev touch : Result FlatMemory Refusal
  touch = touch_of state.world.parent addr len

  -- the pages that may be stored to still may, where no page has gone and the areas are kept
  keeps-seen : (most later : ℕ) (result : Result (Unit {0}) Fault) → LeavesReady new machine state.leaves addr len result
      → ((page : ℕ) → IsSome (get state.world.parent.present page) → IsSome (get (pages_of new.tables) page)) → new.areas ≡ state.world.parent.areas
      → KeepsReady (memory_of old most) (memory_of new later)
  keeps-seen most later result left present areas page ready =
      let was = seen-ready old.tables (sides_of state sound.stands.pages) sound.stands.tables old.areas page ready in
      let now : pages_of new.tables ≡ left.after.world.parent.present = seen-pages new.tables (sides_of left.after left.stands.pages) left.stands.tables in
      ready-seen new.tables (sides_of left.after left.stands.pages) left.stands.tables new.areas page (left.still page was.0)
      (ap (λ pages. is_some (get pages page)) (sym now) ∙ present page was.1)
      (ap (λ areas. is_read_only (area_of areas page)) (areas ∙ sound.stands.areas) ∙ was.2)

  -- a touch that was granted
  pub touches-seen : EventRan old new machine (λ answers. touch_judged machine state answers addr len (touch_of state.world.parent addr len)) (touch_outcome (Ok tt))
      → LeavesReady new machine state.leaves addr len (Ok tt)
      → Touches (memory_of old notes.most) (memory_of new (most_touched old.tables addr len notes.most)) addr len
  touches-seen ran left =
      let judged : (touch ≡ Ok ran.after.world.parent) × (lacks_slots machine.slots state.leaves (cells_of_range addr len) ≡ false) = ran-judged old new machine state addr len Done ran in
      let then : parent_of new ≡ ran.after.world.parent = stands-parent new machine ran.after ran.stands in
      let given : Allowed state.world.parent ran.after.world.parent addr len = allowed state.world.parent ran.after.world.parent addr len judged.0 in
      let same : record state.world.parent { present = with_pages state.world.parent.present (page_of addr) (page_count addr len) } ≡ parent_of new = given.is ∙ sym then in
      let now : pages_of new.tables ≡ left.after.world.parent.present = seen-pages new.tables (sides_of left.after left.stands.pages) left.stands.tables in
      let areas : new.areas ≡ state.world.parent.areas = sym (ap (λ memory. memory.areas) same) in
      record {
        mem = answer-seen old machine state sound.stands notes.most addr len ∙ ap (λ out. if_slots out (faulted touch)) judged.1 ∙ ap (λ it. if_slots false (faulted it)) (judged.0 ∙ ap Ok (sym then));
        most = refl;
        ready = λ page within. ready-seen new.tables (sides_of left.after left.stands.pages) left.stands.tables new.areas page (left.ready page within)
            (ap (λ pages. is_some (get pages page)) (sym now ∙ ap (λ memory. memory.present) then) ∙ present-touched state.world.parent addr len ran.after.world.parent judged.0 page within.0 within.1)
            (ap (λ areas. is_read_only (area_of areas page)) areas
            ∙ fails_below (page_count addr len) (λ page. is_read_only (area_of state.world.parent.areas page)) (page_of addr) given.open_to page within.0 within.1);
        keeps = keeps-seen notes.most (most_touched old.tables addr len notes.most) (Ok tt) left
            (λ page there. ap (λ memory. is_some (get memory.present page)) (sym same) ∙ kept-with_pages (page_count addr len) state.world.parent.present (page_of addr) page there)
            areas;
      }

  -- an answer of the definitions that is a fault
  refuses : (why : Fault) → if_slots (lacks_slots machine.slots state.leaves (cells_of_range addr len)) (faulted touch) ≡ Err why
      → (ran : EventRan old new machine (λ answers. touch_judged machine state answers addr len (touch_of state.world.parent addr len)) (touch_outcome (Err why)))
      → (ran.deals ≡ []) × (ran.after ≡ state)
      → Refuses (memory_of old notes.most) (memory_of new notes.most) (touch_answer (memory_of old notes.most) addr len) why
  refuses why is ran idle = (
    answer-seen old machine state sound.stands notes.most addr len ∙ is,
    idle-seen old new machine state ran.after ran.deals notes.most sound.stands ran.stands ran.led idle,
  )

  -- a touch that was refused
  pub fails-seen : (why : Fault) → EventRan old new machine (λ answers. touch_judged machine state answers addr len (touch_of state.world.parent addr len)) (touch_outcome (Err why))
      → LeavesReady new machine state.leaves addr len (Err why) → LacksPage state.world.parent addr len why
      → TouchFails (memory_of old notes.most) (memory_of new (most_answered old.tables addr len notes.most (fault_outcome why))) addr len why
  fails-seen (fault.NoArea page) ran left absent =
      refuses (fault.NoArea page) (ap (λ it. if_slots (lacks_slots machine.slots state.leaves (cells_of_range addr len)) (faulted it)) (ran-judged old new machine state addr len (NoArea page) ran))
      ran (ran-idle old new machine state addr len (NoArea page) ran)
  fails-seen (fault.NoWrite page) ran left absent =
      refuses (fault.NoWrite page) (ap (λ it. if_slots (lacks_slots machine.slots state.leaves (cells_of_range addr len)) (faulted it)) (ran-judged old new machine state addr len (NoWrite page) ran))
      ran (ran-idle old new machine state addr len (NoWrite page) ran)
  fails-seen (fault.Overlap page) ran left absent =
      touch-other state.world.parent addr len (Err (Taken page)) refl (ran-judged old new machine state addr len (Overlap page) ran)
  fails-seen fault.AreasFull ran left absent =
      touch-other state.world.parent addr len (Err TooManyAreas) refl (ran-judged old new machine state addr len AreasFull ran)
  fails-seen fault.CellsFull ran left absent =
      let full = ran-judged old new machine state addr len CellsFull ran in
      refuses fault.CellsFull
      (ap (λ it. if_slots (lacks_slots machine.slots state.leaves (cells_of_range addr len)) (faulted it)) full.1.0 ∙ ap (λ out. if_slots out (Ok full.0)) full.1.1)
      ran (ran-idle old new machine state addr len CellsFull ran)
  fails-seen (fault.NoFrame at page) ran left absent =
      let judged = ran-judged old new machine state addr len (NoFrame at) ran in
      let then : parent_of new ≡ state.world.parent = stands-parent new machine ran.after ran.stands ∙ judged.1 in
      let was : parent_of old ≡ state.world.parent = stands-parent old machine state sound.stands in
      let told = ran-told old new machine state addr len at sound.stands ran in
      record {
        due = ap is_ok (answer-seen old machine state sound.stands notes.most addr len) ∙ judged.0;
        rose = told.1;
        told = told.0;
        range = absent.0;
        absent = ap (λ memory. is_some (get memory.present page)) was ∙ ap is_some absent.1;
        mem = then ∙ sym was;
        most = refl;
        keeps = keeps-seen notes.most (most_touched old.tables addr len notes.most) (Err (fault.NoFrame at page)) left
            (λ page there. ap (λ memory. is_some (get memory.present page)) then ∙ there) (ap (λ memory. memory.areas) then);
      }

-- ---- what a store leaves

module _ (old : KernelParts) (machine : Machine) (state : KernelState) (st : KernelStands old machine state) (most addr : ℕ) (bytes : List ℕ)
    (ready : IsReady (memory_of old most) addr (length bytes)) where
  -- other tables stand for what was stored
  module _ (tables : PageTables) (now : KernelStands (record old { tables = tables }) machine (with_stored state addr bytes)) where
    abbrev before : Sides
    before = sides_of state st.pages

    abbrev behind : Sides
    behind = sides_of (with_stored state addr bytes) now.pages

    -- the same pages are present
    present-stored : (page : ℕ) → is_some (get behind.pages page) ≡ is_some (get before.pages page)
    present-stored = keys-with_bytes state.world.parent.present addr bytes (λ page low high. (seen-ready old.tables before st.tables old.areas page (ready page (low, high))).1)

    ready-stored : (page : ℕ) → set.contains (ready_in old.areas (views_of tables)) page ≡ set.contains (ready_in old.areas (views_of old.tables)) page
    ready-stored page = same-tests (set.contains (ready_in old.areas (views_of tables)) page) (set.contains (ready_in old.areas (views_of old.tables)) page)
        (λ there. let its = seen-ready tables behind now.tables old.areas page there in
        ready-seen old.tables before st.tables old.areas page its.0 (sym (present-stored page) ∙ its.1) its.2)
        (λ there. let its = seen-ready old.tables before st.tables old.areas page there in
        ready-seen tables behind now.tables old.areas page its.0 (present-stored page ∙ its.1) its.2)

    tables-stored : memory_of (record old { tables = tables }) most ≡ after_store (memory_of old most) addr bytes
    tables-stored =
        let present : pages_of tables ≡ with_bytes (pages_of old.tables) addr bytes =
        seen-pages tables behind now.tables ∙ ap (λ pages. with_bytes pages addr bytes) (sym (seen-pages old.tables before st.tables)) in
        let slots : slot_count tables ≡ slot_count old.tables = now.slots ∙ sym st.slots in
        let used : used_in (views_of tables) ≡ used_in (views_of old.tables) =
        set.same_set nat_cmp_total nat_cmp-IsAntisymmetric _ _ (λ c. seen-used tables behind now.tables c ∙ sym (seen-used old.tables before st.tables c)) in
        let ready : ready_in old.areas (views_of tables) ≡ ready_in old.areas (views_of old.tables) = set.same_set nat_cmp_total nat_cmp-IsAntisymmetric _ _ ready-stored in
        λ i. record {
          mem = record { areas = old.areas; present = present i };
          refused = old.supply.refused;
          room = old.supply.made;
          slots = slots i;
          used = used i;
          ready = ready i;
          most = most;
          enough = None;
        }

  -- a store is the memory's
  pub stored-seen : (new : KernelParts) → KernelStands new machine (with_stored state addr bytes) → new ≡ record old { tables = new.tables }
      → memory_of new most ≡ after_store (memory_of old most) addr bytes
  stored-seen new now others =
      ap (λ parts. memory_of parts most) others
      ∙ tables-stored new.tables (subst (λ parts. KernelStands parts machine (with_stored state addr bytes)) others now)
