-- The touch of a page in a cell that the directory has.
use Rattle.std.proofs.Common.{◌≡◌, ◌≢◌, ℕ, ◌+◌, ◌*◌, ◌/◌, ◌%◌, ◌<◌, List, [], ◌++◌, length, Option, Some, None, Result, Ok, Err, refl, sym, ◌∙◌, ap, subst, arith, inl, inr}
use Rattle.std.specs.Prelude.{OnOk, true, is_some, slice_set, map, ◌||◌, ◌==◌, not}
use Rattle.std.specs.Option.{option_and_then}
use Rattle.std.specs.List.{slice_get}
use Rattle.std.specs.FinMap.{get}
use Rattle.std.proofs.lemmas.Bool.{cases_eq, false≢true}
use Rattle.std.proofs.lemmas.List.{append-nil}
use Rattle.vm_base.specs.declared.refusals.Refused.{Refused}
use Rattle.vm_base.specs.Deals.{Deal}
use Rattle.vm_base.specs.Places.{cell_of}
use Rattle.kernel_meaning.specs.Requests.{answers_of, Answer, asked_in_row}
use Rattle.kernel_meaning.specs.Leaves.{CellLeaves, has_pages}
use Rattle.kernel_meaning.specs.FrameLaw.{Leaves, cell_at, with_cell, is_used, parent_cells}
use Rattle.kernel_meaning.specs.CellActs.{Course, course_touched}
use Rattle.kernel_meaning.specs.CellAccount.{CellState, CellAccount, Touch, state_after, pages_after}
use Rattle.kernel_meaning.specs.EventRequests.{Progress, FrameRefusal, page_touched, missing_tables, tables_answered, cell_touch_ended, with_course}
use Rattle.leaf_cell.specs.CellView.{CellView, AreUnjoined}
use Rattle.leaf_cell.specs.Standing.{StandsFor, TakesAccount}
use Rattle.leaf_cell.specs.States.{refused_count}
use Rattle.leaf_cell.specs.Touching.{IsTouched}
use Rattle.page_tables.specs.declared.slot.Slot.{Slot}
use Rattle.page_tables.specs.declared.tables.PageTables.{PageTables}
use Rattle.page_tables.specs.Sides.{Sides}
use Rattle.page_tables.specs.Courses.{requests_between, course_between, progress_between, RunsAt, Runs}
use Rattle.page_tables.specs.Standing.{owner_at, state_in, StandFor, TablesStandFor}
use Rattle.page_tables.specs.Accesses.{IsPageReady}
use Rattle.page_tables.specs.Making.{page_refusal, pages_with, Follows, FollowsTouch}
use Rattle.leaf_cell.proofs.TouchRuns.{touch-runs}
use Rattle.page_tables.proofs.TouchShapes.{IsTouchCourse, EndsTouch, touch-course, touch-size, touch-unjoined, touch-numbers, page-there}
use Rattle.page_tables.proofs.LeafMap.{found-with_cell, length-with_cell, cell_at-here, cell_at-apart}
use Rattle.page_tables.proofs.Missing.{missing-known}
use Rattle.page_tables.proofs.PageMaps.{with_page-inside, with_page-outside}
use Rattle.page_tables.proofs.SlotLemmas.{owner-same}
use Rattle.page_tables.proofs.Again.{with_cell-same}
use Rattle.page_tables.proofs.Readiness.{touched-ready, touched-still}
use Rattle.page_tables.proofs.Acting.{tables-acted}

-- a cell's touch was refused, and so was the page's
abbrev pub refusal_at : ℕ → Option ℕ → Option FrameRefusal
refusal_at page None = None
refusal_at page (Some at) = Some (record { at = at; page = Some page })

pub refusal-of : (page : ℕ) (result : Result (Unit {0}) Refused) → refusal_at page (refused_count result) ≡ page_refusal page result
refusal-of page (Ok done) = refl
refusal-of page (Err refused) = refl

-- the touch of a page behind no directory table
pub touch-ended : (page : ℕ) (leaves : Leaves) (made : ℕ) (rest : List Answer) (dealt : List Deal) (refused : Option ℕ)
    → cell_touch_ended refused page 0 (progress_between leaves made rest dealt) ≡ record { leaves = leaves; requests = requests_between made rest dealt; refused = refusal_at page refused }
touch-ended page leaves made rest dealt None = refl
touch-ended page leaves made rest dealt (Some at) = λ i. record { leaves = leaves; requests = requests_between made rest (append-nil dealt i); refused = refusal_at page (Some at) }

module _ (page : ℕ) (leaves : Leaves) (made : ℕ) (deals : List Deal) (after : CellLeaves) (later : ℕ) (refused : Option ℕ)
    (runs : RunsAt (course_touched (page % 512)) (cell_at leaves (cell_of page)) made deals after later refused)
    (known : missing_tables (parent_cells leaves) (cell_of page) ≡ []) where
  pub known-runs : Runs (page_touched page) leaves made deals (with_cell leaves (cell_of page) after) later (refusal_at page refused)
  known-runs = record {
    runs = λ before rest.
        let start : Progress = progress_between leaves made (answers_of deals ++ rest) before in
        let end : Course = record { cell = after; requests = requests_between later rest (before ++ deals); refused = refused } in
        ap (λ wants. tables_answered (asked_in_row wants start.requests).refused page (asked_in_row wants start.requests).granted
        (record start { requests = (asked_in_row wants start.requests).requests })) known
        ∙ ap (λ course. cell_touch_ended course.refused page 0 (with_course (cell_of page) course start)) (runs.runs before rest)
        ∙ touch-ended page (with_cell leaves (cell_of page) end.cell) later rest (before ++ deals) refused;
  }

module _ (old : PageTables) (sides : Sides) (st : TablesStandFor old sides) (page s : ℕ) (slot : Slot)
    (known : get old.directory (cell_of page) ≡ Some s) (here : slice_get old.slots.items s ≡ Some slot)
    (view : CellView) (deals : List Deal) (result : Result (Unit {0}) Refused)
    (follows : (account : CellAccount) → StandsFor slot.cell account → TakesAccount (Touch (page % 512)) slot.cell view deals (refused_count result) account) where
  abbrev c : ℕ
  c = cell_of page

  abbrev p : ℕ
  p = page % 512

  mine : slot.owner ≡ Some c
  mine = sym (ap (option_and_then (λ it. it.owner)) here) ∙ st.named c s known

  abbrev account : CellAccount
  account = record { state = st.cells c; made = sides.made }

  stood : StandsFor slot.cell account
  stood = subst (λ owner. StandsFor slot.cell (record { state = state_in st.cells owner; made = sides.made })) mine (st.slots_of.stands s slot here)

  takes : TakesAccount (Touch p) slot.cell view deals (refused_count result) account
  takes = follows account stood

  abbrev start : Course
  start = course_between (st.cells c).leaves sides.made (answers_of deals) []

  abbrev end : Course
  end = course_touched p start

  low : page % 512 < 512
  low = omega arith

  size : length (st.cells c).leaves.parent ≡ 512
  size = ap (λ cell. length cell.parent) (st.each.leaves c) ∙ st.kept.sizes c

  unjoined : AreUnjoined (st.cells c).leaves.kept
  unjoined = subst (λ cell. AreUnjoined cell.kept) (sym (st.each.leaves c)) (st.kept.unjoined c)

  shape : IsTouchCourse p start end
  shape = touch-course p start refl (subst (λ n. p < n) (sym size) low) unjoined

  -- the parent has a page in the cell before and after
  had : has_pages (cell_at sides.leaves c).parent ≡ true
  had = sym (st.parent c) ∙ ap is_some known

  has : has_pages end.cell.parent ≡ true
  has = elim end.refused as (λ refused. EndsTouch p start.cell end.cell refused → has_pages end.cell.parent ≡ true) [
    | None ↦ λ there. page-there end.cell p there
    | Some at ↦ λ same. ap (λ cell. has_pages cell.parent) same ∙ ap (λ cell. has_pages cell.parent) (st.each.leaves c) ∙ had
  ] shape.ends

  used : is_used end.cell ≡ true
  used = ap (λ b. b || not (length end.cell.kept == 0)) has

  abbrev state : CellState
  state = state_after (Touch p) end (st.cells c)

  abbrev refused : Option FrameRefusal
  refused = page_refusal page result

  inside : (q : ℕ) → q < 512 → get state.pages q ≡ get (pages_with page refused sides.pages) (c * 512 + q)
  inside q small = ap (λ r. get (pages_after (Touch p) r (st.cells c).pages) q) takes.ended ∙ alike result
    where
      alike : (result : Result (Unit {0}) Refused) → get (pages_after (Touch p) (refused_count result) (st.cells c).pages) q
          ≡ get (pages_with page (page_refusal page result) sides.pages) (c * 512 + q)
      alike (Ok done) = with_page-inside (st.cells c).pages sides.pages page (λ q small. st.each.pages c q small) q small
      alike (Err why) = st.each.pages c q small

  outside : (q : ℕ) → q / 512 ≢ c → get (pages_with page refused sides.pages) q ≡ get sides.pages q
  outside q apart = elim result as (λ result. get (pages_with page (page_refusal page result) sides.pages) q
      ≡ get sides.pages q) [ Ok done ↦ with_page-outside sides.pages page q apart | Err why ↦ refl ]

  abbrev leaves : Leaves
  leaves = with_cell sides.leaves c end.cell

  parent : (q : ℕ) → is_some (get old.directory q) ≡ has_pages (cell_at leaves q).parent
  parent q = elim (cases_eq q c) [
    | inl same ↦ ap (λ n. is_some (get old.directory n)) same ∙ ap is_some known ∙ sym has ∙ ap (λ cell. has_pages cell.parent) (sym (cell_at-here sides.leaves c end.cell used q same))
    | inr apart ↦ st.parent q ∙ ap (λ cell. has_pages cell.parent) (sym (cell_at-apart sides.leaves c end.cell used q apart))
  ]

  abbrev new_slots : List Slot
  new_slots = slice_set old.slots.items s (record { owner = Some c; cell = view })

  named : (q t : ℕ) → get old.directory q ≡ Some t → owner_at new_slots t ≡ Some q
  named q t e = owner-same old.slots.items s c slot view here mine t ∙ st.named q t e

  stands_then : StandFor old.directory old.snapshot new_slots (record { leaves = leaves; pages = pages_with page refused sides.pages; snapshots = sides.snapshots; made = end.requests.made })
  stands_then = tables-acted old.directory old.snapshot old.slots.items sides st c s slot here (inl mine) view state end.requests.made shape.later used
      (touch-size p start.cell end.cell shape.touch ∙ size) (touch-unjoined p start.cell end.cell shape.touch unjoined) takes.stands
      (pages_with page refused sides.pages) inside outside refl
      (touch-numbers p start.cell end.cell shape.touch ∙ ap (λ cell. map (λ it. it.number) cell.kept) (st.each.leaves c)) old.directory parent named

  runs_then : Runs (page_touched page) sides.leaves sides.made deals leaves end.requests.made refused
  runs_then =
      let at_cell : RunsAt (course_touched p) (cell_at sides.leaves c) sides.made deals end.cell end.requests.made end.refused =
      subst (λ cell. RunsAt (course_touched p) cell sides.made deals end.cell end.requests.made end.refused) (st.each.leaves c) (touch-runs p (st.cells c).leaves sides.made deals unjoined takes.asked) in
      subst (λ refused. Runs (page_touched page) sides.leaves sides.made deals leaves end.requests.made refused) (ap (refusal_at page) takes.ended ∙ refusal-of page result)
      (known-runs page sides.leaves sides.made deals end.cell end.requests.made end.refused at_cell (missing-known sides.leaves c st.kept.sorted had))

  pub known-follows : (new : PageTables) → new.directory ≡ old.directory → new.snapshot ≡ old.snapshot → new.slots.items ≡ new_slots
      → Follows (page_touched page) (pages_with page) new deals refused sides
  known-follows new same alike set = record {
    leaves = leaves;
    made = end.requests.made;
    runs = runs_then;
    stands = subst (λ d. StandFor d new.snapshot new.slots.items then) (sym same)
        (subst (λ it. StandFor old.directory it new.slots.items then) (sym alike) (subst (λ items. StandFor old.directory old.snapshot items then) (sym set) stands_then));
  }
    where
      then : Sides
      then = record { leaves = leaves; pages = pages_with page refused sides.pages; snapshots = sides.snapshots; made = end.requests.made }

  -- each page that may be stored to, behind the touch
  pub known-touches : (from to : ℕ) → OnOk result (IsTouched (page % 512) from to slot.cell view) → (new : PageTables)
      → new.directory ≡ old.directory → new.snapshot ≡ old.snapshot → new.slots.items ≡ new_slots
      → FollowsTouch page new deals refused sides
  unfolding known-follows
  known-touches from to touched new same alike set = record {
    follows = known-follows new same alike set;
    ready = ready-as result refl;
    still = still-as result refl;
    found = λ granted q. found-with_cell sides.leaves c end.cell used q;
    size = λ granted. length-with_cell sides.leaves c end.cell used st.kept.sorted;
  }
    where
      ready-as : (r : Result (Unit {0}) Refused) → result ≡ r → page_refusal page result ≡ None → IsPageReady leaves page
      ready-as (Ok done) e granted = touched-ready sides.leaves page slot.cell view account (record { state = state; made = end.requests.made }) stood takes.stands (st.each.leaves c) used from to
          (subst (λ r. OnOk r (IsTouched (page % 512) from to slot.cell view)) e touched)
      ready-as (Err why) e granted = absurd (false≢true (ap is_some (sym granted ∙ ap (page_refusal page) e)))

      still-as : (r : Result (Unit {0}) Refused) → result ≡ r → (q : ℕ) → IsPageReady sides.leaves q → IsPageReady leaves q
      still-as (Ok done) e q ready = touched-still sides.leaves page slot.cell view account (record { state = state; made = end.requests.made }) stood takes.stands (st.each.leaves c) used from to
          (subst (λ r. OnOk r (IsTouched (page % 512) from to slot.cell view)) e touched) q ready
      still-as (Err why) e q ready =
          let at_end : EndsTouch p start.cell end.cell (Some why.at) = subst (EndsTouch p start.cell end.cell) (takes.ended ∙ ap refused_count e) shape.ends in
          subst (λ cells. IsPageReady cells q) (sym (with_cell-same sides.leaves c st.kept) ∙ ap (with_cell sides.leaves c) (sym (at_end ∙ st.each.leaves c))) ready
