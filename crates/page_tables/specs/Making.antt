-- What a call over an allot tells of the two sides.
use Rattle.std.specs.Prelude.{◌≡◌, ℕ, ◌+◌, ◌==◌, ◌||◌, cond, length, is_some, List, Option, Some, None, Result, Ok, Err}
use Rattle.vm_base.specs.declared.refusals.Refused.{Refused}
use Rattle.std.specs.Ordering.{nat_cmp}
use Rattle.std.specs.FinMap.{find}
use Rattle.vm_base.specs.Places.{cell_of}
use Rattle.vm_base.specs.Deals.{Deal, LeadsAlong}
use Rattle.vm_base.specs.FlatMemory.{PageMap}
use Rattle.vm_base.specs.FlatStep.{with_page}
use Rattle.kernel_meaning.specs.FrameLaw.{Leaves}
use Rattle.kernel_meaning.specs.EventRequests.{Progress, FrameRefusal, page_touched}
use Rattle.page_tables.specs.declared.tables.PageTables.{PageTables}
use Rattle.page_tables.specs.Sides.{Sides}
use Rattle.page_tables.specs.Courses.{Runs}
use Rattle.page_tables.specs.Standing.{TablesStandFor}
use Rattle.page_tables.specs.Accesses.{IsPageReady}

-- the refusal of a page, where it was refused
abbrev pub page_refusal : ℕ → Result (Unit {0}) Refused → Option FrameRefusal
page_refusal page (Ok done) = None
page_refusal page (Err refused) = Some (record { at = refused.at; page = Some page })

-- a page is there, unless it was refused
abbrev pub pages_with : ℕ → Option FrameRefusal → PageMap → PageMap
pages_with page None pages = with_page pages page
pages_with page (Some refusal) pages = pages

-- the pages are as they were
abbrev pub pages_as_they_were : Option FrameRefusal → PageMap → PageMap
pages_as_they_were refused pages = pages

-- the tables stood for some sides; the event made these deals there, and the tables stand for what it left
pub record Follows (event : Progress → Progress) (pages : Option FrameRefusal → PageMap → PageMap) (new : PageTables) (deals : List Deal) (refused : Option FrameRefusal) (sides : Sides) : Type 0 where
  pub leaves : Leaves
  pub made : ℕ
  pub runs : Runs event sides.leaves sides.made deals leaves made refused
  pub stands : TablesStandFor new (record { leaves = leaves; pages = pages refused sides.pages; snapshots = sides.snapshots; made = made })

-- a call ran an event: its deals led from one state of the allot to the other, and whatever sides the tables stood for, the event made just these deals
pub record MadeEvent {State : Type 0} (goes : State → Deal → State → Type 0) (from to : State) (event : Progress → Progress)
    (pages : Option FrameRefusal → PageMap → PageMap) (old new : PageTables) (refused : Option FrameRefusal) : Type 0 where
  pub deals : List Deal
  pub led : LeadsAlong goes from deals to
  pub follows : (sides : Sides) → TablesStandFor old sides → Follows event pages new deals refused sides

-- the touch of a page followed: where it was granted the page may be stored to, and its cell has a slot; each page that might be stored to before still may
pub record FollowsTouch (page : ℕ) (new : PageTables) (deals : List Deal) (refused : Option FrameRefusal) (sides : Sides) : Type 0 where
  pub follows : Follows (page_touched page) (pages_with page) new deals refused sides
  pub ready : refused ≡ None → IsPageReady follows.leaves page
  pub still : (q : ℕ) → IsPageReady sides.leaves q → IsPageReady follows.leaves q
  pub found : refused ≡ None → (c : ℕ) → is_some (find nat_cmp c follows.leaves) ≡ ((c == cell_of page) || is_some (find nat_cmp c sides.leaves))
  pub size : refused ≡ None → length follows.leaves ≡ cond (is_some (find nat_cmp (cell_of page) sides.leaves)) (length sides.leaves) (length sides.leaves + 1)

-- a call touched a page
pub record MadeTouch {State : Type 0} (goes : State → Deal → State → Type 0) (from to : State) (page : ℕ) (old new : PageTables) (refused : Option FrameRefusal) : Type 0 where
  pub deals : List Deal
  pub led : LeadsAlong goes from deals to
  pub follows : (sides : Sides) → TablesStandFor old sides → FollowsTouch page new deals refused sides
