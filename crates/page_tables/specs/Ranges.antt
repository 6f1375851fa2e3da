-- The touch of a range of pages, page after page, and what is taken back where one is refused.
use Rattle.std.specs.Prelude.{◌≡◌, ℕ, ◌+◌, ◌-◌, ◌%◌, ◌≤◌, ◌<◌, ◌==◌, if◌then◌else◌, not, false, List, [], ◌∷◌, ◌++◌, filter, length, Option, Some, None, IsSome, is_some, Result, Ok, Err}
use Rattle.std.specs.FinMap.{get}
use Rattle.std.specs.List.{range_with_len, list_any}
use Rattle.vm_base.specs.Deals.{Deal, LeadsAlong}
use Rattle.vm_base.specs.Places.{cell_of}
use Rattle.vm_base.specs.FlatMemory.{PageMap}
use Rattle.vm_base.specs.FlatStep.{with_pages}
use Rattle.kernel_meaning.specs.Requests.{Answer, answers_of}
use Rattle.kernel_meaning.specs.FrameLaw.{Leaves, cells_without_slot}
use Rattle.kernel_meaning.specs.EventRequests.{FrameRefusal, pages_touched, pages_touched_behind, page_version, without_page}
use Rattle.page_tables.specs.declared.tables.PageTables.{PageTables}
use Rattle.page_tables.specs.declared.range.FrameRefused.{FrameRefused}
use Rattle.page_tables.specs.Sides.{Sides}
use Rattle.page_tables.specs.Courses.{progress_between}
use Rattle.page_tables.specs.Standing.{TablesStandFor}
use Rattle.page_tables.specs.Accesses.{IsPageReady}
use Rattle.page_tables.specs.Clearing.{sides_without}
use Rattle.page_tables.specs.Making.{Follows}

-- n pages are there, unless one was refused
abbrev pub pages_with_range : ℕ → ℕ → Option FrameRefusal → PageMap → PageMap
pages_with_range first n None pages = with_pages pages first n
pages_with_range first n (Some refusal) pages = pages

-- the refusal of a range, where a page of it was refused
abbrev pub range_refusal : Result (Unit {0}) FrameRefused → Option FrameRefusal
range_refusal (Ok done) = None
range_refusal (Err refused) = Some (record { at = refused.at; page = Some refused.page })

-- the cells of n pages
abbrev pub cells_of_pages : ℕ → ℕ → List ℕ
cells_of_pages first n = if n == 0 then [] else range_with_len (cell_of first) (cell_of (first + n - 1) + 1 - cell_of first)

-- how many of n cells have no slot
abbrev pub missing_in : Leaves → ℕ → ℕ → ℕ
missing_in leaves first n = length (cells_without_slot leaves (range_with_len first n))

-- there are slots for the cells that have none
abbrev pub HasRoom : ℕ → Leaves → List ℕ → Type 0
HasRoom slots leaves cells = length leaves + length (cells_without_slot leaves cells) ≤ slots

-- the touch of n pages followed; where it was granted each of them may be stored to, and each page that might before still may
pub record FollowsRange (first n : ℕ) (new : PageTables) (deals : List Deal) (refused : Option FrameRefusal) (sides : Sides) : Type 0 where
  pub follows : Follows (pages_touched first n) (pages_with_range first n) new deals refused sides
  pub ready : refused ≡ None → (q : ℕ) → first ≤ q → q < first + n → IsPageReady follows.leaves q
  pub still : (q : ℕ) → IsPageReady sides.leaves q → IsPageReady follows.leaves q

-- a call touched n pages
pub record MadeRange {State : Type 0} (goes : State → Deal → State → Type 0) (from to : State) (first n : ℕ) (old new : PageTables) (refused : Option FrameRefusal) : Type 0 where
  pub deals : List Deal
  pub led : LeadsAlong goes from deals to
  pub follows : (sides : Sides) → TablesStandFor old sides → FollowsRange first n new deals refused sides

-- of n pages those that are absent
abbrev pub absent_pages : PageMap → ℕ → ℕ → List ℕ
absent_pages pages first n = filter (λ page. not (is_some (get pages page))) (range_with_len first n)

-- the first i of n pages were touched
pub record IsTouchedUpTo (first n i : ℕ) (added : List ℕ) (now : PageTables) (deals : List Deal) (sides : Sides) (slots : ℕ) : Type 0 where
  pub leaves : Leaves
  pub made : ℕ
  pub runs : (before : List Deal) (rest : List Answer) → pages_touched first n (progress_between sides.leaves sides.made (answers_of deals ++ rest) before)
      ≡ pages_touched_behind added (first + i) (n - i) (progress_between leaves made rest (before ++ deals))
  pub stands : TablesStandFor now (record { leaves = leaves; pages = with_pages sides.pages first i; snapshots = sides.snapshots; made = made })
  pub ready : (q : ℕ) → first ≤ q → q < first + i → IsPageReady leaves q
  pub still : (q : ℕ) → IsPageReady sides.leaves q → IsPageReady leaves q
  pub new : added ≡ absent_pages sides.pages first i
  pub apart : (q : ℕ) → IsPageReady sides.leaves q → list_any (λ page. q == page) added ≡ false
  pub room : HasRoom slots sides.leaves (cells_of_pages first n) → HasRoom slots leaves (cells_of_pages first n)

-- a call has touched the first i of n pages, and noted those that it added
pub record HasTouched {State : Type 0} (goes : State → Deal → State → Type 0) (from to : State) (first n i : ℕ) (added : List ℕ) (old now : PageTables) (slots : ℕ) : Type 0 where
  pub deals : List Deal
  pub led : LeadsAlong goes from deals to
  pub touched : (sides : Sides) → TablesStandFor old sides → IsTouchedUpTo first n i added now deals sides slots

-- the sides without these pages, one after another
abbrev pub sides_without_pages : List ℕ → Sides → Sides
sides_without_pages [] sides = sides
sides_without_pages (page ∷ pages) sides = sides_without_pages pages (sides_without (cell_of page) (page % 512) 1 sides)

-- each of these pages is there as it is taken out
abbrev pub AreThere : Leaves → List ℕ → Type 0
AreThere leaves [] = Unit {0}
AreThere leaves (page ∷ pages) = IsSome (page_version leaves page) × AreThere (without_page page leaves) pages
