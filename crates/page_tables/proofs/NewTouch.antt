-- The touch of a page in a cell that the directory lacks.
use Rattle.std.proofs.Common.{◌≡◌, ℕ, ◌+◌, ◌*◌, ◌%◌, ◌<◌, ◌≤◌, List, [], ◌∷◌, ◌++◌, length, Option, Some, None, eqb, refl, sym, ◌∙◌, ap, subst, arith, inl, inr}
use Rattle.std.specs.Prelude.{true, false, is_some, slice_set, map, ◌||◌, ◌==◌, not, unwrap_or}
use Rattle.std.specs.Option.{option_and_then}
use Rattle.std.specs.List.{slice_get}
use Rattle.std.specs.FinMap.{get, insert, remove, keys}
use Rattle.std.proofs.lemmas.Bool.{cases_Bool, cases_eq, cond-true, cond-false, eq-eqb, ne_eqb, false≢true}
use Rattle.std.proofs.lemmas.Option.{slice_get_within}
use Rattle.vm_base.specs.declared.frame_request.Want.{Want}
use Rattle.vm_base.specs.Deals.{Deal}
use Rattle.vm_base.specs.Places.{cell_of}
use Rattle.vm_base.proofs.NumberedMaps.{get_inserted_here, get_inserted_apart, same_numbered}
use Rattle.kernel_meaning.specs.Requests.{answers_of}
use Rattle.kernel_meaning.specs.Leaves.{has_pages, has_present}
use Rattle.kernel_meaning.specs.FrameLaw.{Leaves, cell_at, with_cell, is_used, parent_cells}
use Rattle.kernel_meaning.specs.CellActs.{Course, course_touched}
use Rattle.kernel_meaning.specs.CellAccount.{CellState, CellAccount, Touch, state_after, pages_after}
use Rattle.kernel_meaning.specs.EventRequests.{page_touched, missing_tables}
use Rattle.leaf_cell.specs.CellView.{CellView, AreUnjoined}
use Rattle.leaf_cell.specs.Standing.{StandsFor, TakesAccount}
use Rattle.leaf_cell.specs.Touching.{IsTouched, IsAlone}
use Rattle.leaf_cell.specs.Writable.{writable_at}
use Rattle.table_levels.specs.Cells.{CellMap}
use Rattle.table_levels.proofs.CellLemmas.{get_removed}
use Rattle.page_tables.specs.declared.slot.Slot.{Slot}
use Rattle.page_tables.specs.declared.tables.PageTables.{PageTables}
use Rattle.page_tables.specs.Sides.{Sides}
use Rattle.page_tables.specs.Courses.{course_between, RunsAt, Runs}
use Rattle.page_tables.specs.Standing.{owner_at, state_in, StandFor, TablesStandFor, IsSlotFor}
use Rattle.page_tables.specs.Accesses.{IsPageReady}
use Rattle.page_tables.specs.Making.{pages_with, Follows, FollowsTouch}
use Rattle.leaf_cell.proofs.TouchRuns.{touch-runs}
use Rattle.page_tables.proofs.TouchShapes.{IsTouchCourse, EndsTouch, touch-course, touch-size, touch-unjoined, touch-numbers, page-there}
use Rattle.page_tables.proofs.LeafMap.{found-with_cell, length-with_cell, cell_at-here, cell_at-apart}
use Rattle.page_tables.proofs.PageMaps.{with_page-inside, with_page-outside}
use Rattle.page_tables.proofs.SlotLemmas.{slice_get-set-here, stands-later}
use Rattle.page_tables.proofs.Acting.{tables-acted, owner-kept}
use Rattle.page_tables.proofs.Again.{tables-later, with_cell-same}
use Rattle.page_tables.proofs.Readiness.{touched-ready, touched-still, alone-meant}
use Rattle.page_tables.proofs.OwnedSlots.{slot-unjoined}
use Rattle.page_tables.proofs.ClearedCell.{present-pages}
use Rattle.page_tables.proofs.Room.{directory-cells}
use Rattle.page_tables.proofs.KnownTouch.{refusal_at}
use Rattle.page_tables.proofs.Rows.{deals_behind, deals_up_to, new-runs, lacking-runs}

module _ (old : PageTables) (sides : Sides) (st : TablesStandFor old sides) (page s : ℕ) (slot : Slot)
    (absent : get old.directory (cell_of page) ≡ None) (here : slice_get old.slots.items s ≡ Some slot) (fits : IsSlotFor sides.leaves (cell_of page) slot.owner) where
  abbrev pub c : ℕ
  c = cell_of page

  abbrev pub p : ℕ
  p = page % 512

  abbrev pub wants : List Want
  wants = missing_tables (keys old.directory) c

  lacks : missing_tables (parent_cells sides.leaves) c ≡ wants
  lacks = ap (λ cells. missing_tables cells c) (sym (directory-cells old.directory old.snapshot old.slots.items sides st))

  -- the slot holds the cell, or nobody's where there is none
  held_here : StandsFor slot.cell (record { state = st.cells c; made = sides.made })
  held_here = subst (λ state. StandsFor slot.cell (record { state = state; made = sides.made })) (state-here slot.owner fits) (st.slots_of.stands s slot here)
    where
      state-here : (owner : Option ℕ) → IsSlotFor sides.leaves c owner → state_in st.cells owner ≡ st.cells c
      state-here owner fits = elim fits [
        | inl mine ↦ ap (state_in st.cells) mine
        | inr free ↦ ap (state_in st.cells) free.0 ∙ sym (st.blank c free.1)
      ]

  abbrev pub asked_for : ℕ
  asked_for = sides.made + length wants

  abbrev pub account : CellAccount
  account = record { state = st.cells c; made = asked_for }

  pub stood : StandsFor slot.cell account
  stood = stands-later slot.cell (st.cells c) sides.made asked_for (omega arith) held_here

  empty-here : has_pages (st.cells c).leaves.parent ≡ false
  empty-here = ap (λ cell. has_pages cell.parent) (st.each.leaves c) ∙ sym (st.parent c) ∙ ap is_some absent

  -- the parent has no page there
  pub none-present : (first n : ℕ) → has_present (st.cells c).leaves.parent first n ≡ false
  none-present first n = elim (cases_Bool (has_present (st.cells c).leaves.parent first n)) [
    | inl some ↦ absurd (false≢true (sym empty-here ∙ present-pages (st.cells c).leaves.parent first n some))
    | inr none ↦ none
  ]

  -- so none may be written to, where one that may is the parent's alone
  pub none-writable : (AreUnjoined slot.cell.leaves.kept → (q : ℕ) → writable_at slot.cell.writable q ≡ true → IsAlone slot.cell.leaves q)
      → (q : ℕ) → writable_at slot.cell.writable q ≡ false
  none-writable alone q = elim (cases_Bool (writable_at slot.cell.writable q)) [
    | inl may ↦ absurd (false≢true (sym empty-here ∙ page-there (st.cells c).leaves q
        (alone-meant slot.cell account stood q (alone (slot-unjoined old.directory old.snapshot old.slots.items sides st s slot here) q may)).present))
    | inr never ↦ never
  ]

  size : length (st.cells c).leaves.parent ≡ 512
  size = ap (λ cell. length cell.parent) (st.each.leaves c) ∙ st.kept.sizes c

  unjoined : AreUnjoined (st.cells c).leaves.kept
  unjoined = subst (λ cell. AreUnjoined cell.kept) (sym (st.each.leaves c)) (st.kept.unjoined c)

  low : page % 512 < 512
  low = omega arith

  module _ (view : CellView) (deals : List Deal) where
    abbrev start : Course
    start = course_between (st.cells c).leaves asked_for (answers_of deals) []

    abbrev end : Course
    end = course_touched p start

    shape : IsTouchCourse p start end
    shape = touch-course p start refl (subst (λ n. p < n) (sym size) low) unjoined

    abbrev leaves : Leaves
    leaves = with_cell sides.leaves c end.cell

    later : sides.made ≤ end.requests.made
    later = let l : sides.made + length wants ≤ end.requests.made = shape.later in omega arith

    cell_runs : (refused : Option ℕ) → TakesAccount (Touch p) slot.cell view deals refused account → RunsAt (course_touched p) (cell_at sides.leaves c) asked_for deals end.cell end.requests.made refused
    cell_runs refused takes =
        subst (λ r. RunsAt (course_touched p) (cell_at sides.leaves c) asked_for deals end.cell end.requests.made r) takes.ended
        (subst (λ cell. RunsAt (course_touched p) cell asked_for deals end.cell end.requests.made end.refused) (st.each.leaves c) (touch-runs p (st.cells c).leaves asked_for deals unjoined takes.asked))

    runs_with : (refused : Option ℕ) → TakesAccount (Touch p) slot.cell view deals refused account
        → Runs (page_touched page) sides.leaves sides.made (deals_behind wants deals refused) leaves end.requests.made (refusal_at page refused)
    runs_with refused takes = new-runs page sides.leaves sides.made wants lacks deals end.cell end.requests.made refused (cell_runs refused takes)

    -- the page was granted
    module _ (takes : TakesAccount (Touch p) slot.cell view deals None account) where
      there : EndsTouch p start.cell end.cell None
      there = subst (EndsTouch p start.cell end.cell) takes.ended shape.ends

      has : has_pages end.cell.parent ≡ true
      has = page-there end.cell p there

      used : is_used end.cell ≡ true
      used = ap (λ b. b || not (length end.cell.kept == 0)) has

      abbrev state : CellState
      state = state_after (Touch p) end (st.cells c)

      inside : (q : ℕ) → q < 512 → get state.pages q ≡ get (pages_with page None sides.pages) (c * 512 + q)
      inside q small = ap (λ r. get (pages_after (Touch p) r (st.cells c).pages) q) takes.ended ∙ with_page-inside (st.cells c).pages sides.pages page (λ q small. st.each.pages c q small) q small

      numbers : map (λ it. it.number) end.cell.kept ≡ map (λ it. it.number) (cell_at sides.leaves c).kept
      numbers = touch-numbers p start.cell end.cell shape.touch ∙ ap (λ cell. map (λ it. it.number) cell.kept) (st.each.leaves c)

      abbrev new_slots : List Slot
      new_slots = slice_set old.slots.items s (record { owner = Some c; cell = view })

      parent : (q : ℕ) → is_some (get (insert old.directory c s) q) ≡ has_pages (cell_at leaves q).parent
      parent q = elim (cases_eq q c) [
        | inl same ↦ ap is_some (get_inserted_here old.directory c s q same) ∙ sym has ∙ ap (λ cell. has_pages cell.parent) (sym (cell_at-here sides.leaves c end.cell used q same))
        | inr apart ↦ ap is_some (get_inserted_apart old.directory c s q apart) ∙ st.parent q ∙ ap (λ cell. has_pages cell.parent) (sym (cell_at-apart sides.leaves c end.cell used q apart))
      ]

      same_slot : (a b : ℕ) → Some a ≡ Some b → a ≡ b
      same_slot a b e = ap (λ o. unwrap_or o a) e

      owner_here : owner_at new_slots s ≡ Some c
      owner_here = ap (option_and_then (λ it. it.owner)) (slice_get-set-here old.slots.items s (record { owner = Some c; cell = view }) (slice_get_within old.slots.items s slot here))

      named : (q t : ℕ) → get (insert old.directory c s) q ≡ Some t → owner_at new_slots t ≡ Some q
      named q t e = elim (cases_eq q c) [
        | inl same ↦
            let slot_is : t ≡ s = same_slot t s (sym e ∙ get_inserted_here old.directory c s q same) in
            ap (owner_at new_slots) slot_is ∙ owner_here ∙ ap Some (sym same)
        | inr apart ↦
            owner-kept old.directory old.snapshot old.slots.items sides st c s slot here fits view state end.requests.made later used
            (touch-size p start.cell end.cell shape.touch ∙ size) (touch-unjoined p start.cell end.cell shape.touch unjoined) takes.stands
            (pages_with page None sides.pages) inside (λ q apart. with_page-outside sides.pages page q apart) refl numbers
            q t (st.named q t (sym (get_inserted_apart old.directory c s q apart) ∙ e))
      ]

      abbrev then : Sides
      then = record { leaves = leaves; pages = pages_with page None sides.pages; snapshots = sides.snapshots; made = end.requests.made }

      stands_then : StandFor (insert old.directory c s) old.snapshot new_slots then
      stands_then = tables-acted old.directory old.snapshot old.slots.items sides st c s slot here fits view state end.requests.made later used
          (touch-size p start.cell end.cell shape.touch ∙ size) (touch-unjoined p start.cell end.cell shape.touch unjoined) takes.stands
          (pages_with page None sides.pages) inside (λ q apart. with_page-outside sides.pages page q apart) refl numbers (insert old.directory c s) parent named

      pub granted-follows : (new : PageTables) → new.directory ≡ insert old.directory c s → new.snapshot ≡ old.snapshot → new.slots.items ≡ new_slots
          → Follows (page_touched page) (pages_with page) new (deals_behind wants deals None) None sides
      granted-follows new directory alike set = record {
        leaves = leaves;
        made = end.requests.made;
        runs = runs_with None takes;
        stands = subst (λ d. StandFor d new.snapshot new.slots.items then) (sym directory) (subst (λ it. StandFor (insert old.directory c s) it new.slots.items then) (sym alike)
            (subst (λ items. StandFor (insert old.directory c s) old.snapshot items then) (sym set) stands_then));
      }

      pub granted-touches : (from to : ℕ) → IsTouched p from to slot.cell view → (new : PageTables) → new.directory ≡ insert old.directory c s
          → new.snapshot ≡ old.snapshot → new.slots.items ≡ new_slots
          → FollowsTouch page new (deals_behind wants deals None) None sides
      unfolding granted-follows
      granted-touches from to touched new directory alike set = record {
        follows = granted-follows new directory alike set;
        ready = λ granted. touched-ready sides.leaves page slot.cell view account (record { state = state; made = end.requests.made }) stood takes.stands (st.each.leaves c) used from to touched;
        still = touched-still sides.leaves page slot.cell view account (record { state = state; made = end.requests.made }) stood takes.stands (st.each.leaves c) used from to touched;
        found = λ granted q. found-with_cell sides.leaves c end.cell used q;
        size = λ granted. length-with_cell sides.leaves c end.cell used st.kept.sorted;
      }

    -- the page was refused
    module _ (at : ℕ) (takes : TakesAccount (Touch p) slot.cell view deals (Some at) account) where
      same_cell : end.cell ≡ cell_at sides.leaves c
      same_cell = subst (EndsTouch p start.cell end.cell) takes.ended shape.ends ∙ st.each.leaves c

      same_leaves : sides.leaves ≡ leaves
      same_leaves = sym (with_cell-same sides.leaves c st.kept) ∙ ap (with_cell sides.leaves c) (sym same_cell)

      abbrev unchanged : Leaves → Sides
      unchanged now = record { leaves = now; pages = sides.pages; snapshots = sides.snapshots; made = end.requests.made }

      pub refused-follows : (new : PageTables) → new.directory ≡ old.directory → new.snapshot ≡ old.snapshot → new.slots.items ≡ old.slots.items
          → Follows (page_touched page) (pages_with page) new (deals_behind wants deals (Some at)) (refusal_at page (Some at)) sides
      refused-follows new directory alike set = record {
        leaves = leaves;
        made = end.requests.made;
        runs = runs_with (Some at) takes;
        stands = subst (λ now. StandFor new.directory new.snapshot new.slots.items (unchanged now)) same_leaves
            (subst (λ d. StandFor d new.snapshot new.slots.items (unchanged sides.leaves)) (sym directory)
            (subst (λ it. StandFor old.directory it new.slots.items (unchanged sides.leaves)) (sym alike) (subst (λ items. StandFor old.directory old.snapshot items (unchanged sides.leaves)) (sym set)
            (tables-later old.directory old.snapshot old.slots.items sides end.requests.made later st))));
      }

      pub refused-touches : (new : PageTables) → new.directory ≡ old.directory → new.snapshot ≡ old.snapshot → new.slots.items ≡ old.slots.items
          → FollowsTouch page new (deals_behind wants deals (Some at)) (refusal_at page (Some at)) sides
      unfolding refused-follows
      refused-touches new directory alike set = record {
        follows = refused-follows new directory alike set;
        ready = λ granted. absurd (false≢true (ap is_some (sym granted)));
        still = λ q ready. subst (λ cells. IsPageReady cells q) same_leaves ready;
        found = λ granted. absurd (false≢true (ap is_some (sym granted)));
        size = λ granted. absurd (false≢true (ap is_some (sym granted)));
      }

  -- a table was refused
  pub lacking-follows : (front : List Want) (want : Want) (more : List Want) → wants ≡ front ++ want ∷ more → (at : ℕ)
      → Follows (page_touched page) (pages_with page) old (deals_up_to front want at) (refusal_at page (Some at)) sides
  lacking-follows front want more order at = record {
    leaves = sides.leaves;
    made = sides.made + length front + 1;
    runs = lacking-runs page sides.leaves sides.made wants lacks front want more order at;
    stands = tables-later old.directory old.snapshot old.slots.items sides (sides.made + length front + 1) (omega arith) st;
  }

  pub lacking-touches : (front : List Want) (want : Want) (more : List Want) → wants ≡ front ++ want ∷ more → (at : ℕ)
      → FollowsTouch page old (deals_up_to front want at) (refusal_at page (Some at)) sides
  unfolding lacking-follows
  lacking-touches front want more order at = record {
    follows = lacking-follows front want more order at;
    ready = λ granted. absurd (false≢true (ap is_some (sym granted)));
    still = λ q ready. ready;
    found = λ granted. absurd (false≢true (ap is_some (sym granted)));
    size = λ granted. absurd (false≢true (ap is_some (sym granted)));
  }

-- a cell that was added and is taken out again leaves the directory as it was
pub added-removed : (directory : CellMap) (c s : ℕ) → get directory c ≡ None → remove (insert directory c s) c ≡ directory
added-removed directory c s absent = same_numbered _ _ (λ q. get_removed (insert directory c s) c q ∙ elim (cases_eq q c) [
  | inl same ↦ cond-true (eqb q c) None _ (eq-eqb q c same) ∙ sym (ap (get directory) same ∙ absent)
  | inr apart ↦ cond-false (eqb q c) None _ (ne_eqb q c apart) ∙ get_inserted_apart directory c s q apart
])
