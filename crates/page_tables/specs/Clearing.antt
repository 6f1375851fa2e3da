-- What the sides are without some pages of the parent in one cell, and the event that takes them out.
use Rattle.std.specs.Prelude.{◌≡◌, ℕ, ◌+◌, ◌*◌, Bool, true, false, Option, Some, None}
use Rattle.std.specs.FinMap.{retain_keys}
use Rattle.vm_base.specs.FlatStep.{is_beyond}
use Rattle.vm_base.specs.FlatMemory.{PageMap}
use Rattle.kernel_meaning.specs.Leaves.{CellLeaves, without_versions, has_present}
use Rattle.kernel_meaning.specs.CellActs.{cleared}
use Rattle.kernel_meaning.specs.FrameLaw.{cell_at, with_cell}
use Rattle.kernel_meaning.specs.EventRequests.{Progress, FrameRefusal, course_at, with_course, directory_shrunk, first_in_cell, count_in_cell}
use Rattle.table_levels.specs.Requests.{returned}
use Rattle.page_tables.specs.declared.tables.PageTables.{PageTables}
use Rattle.page_tables.specs.Sides.{Sides}
use Rattle.page_tables.specs.Courses.{Runs}
use Rattle.page_tables.specs.Standing.{TablesStandFor}

-- a cell without n pages of the parent
abbrev pub cell_without : ℕ → ℕ → CellLeaves → CellLeaves
cell_without first n cell = record cell { parent = without_versions cell.parent first n }

-- the sides without n pages of the parent in a cell, counted from the first of the cell
abbrev pub sides_without : ℕ → ℕ → ℕ → Sides → Sides
sides_without c first n sides = record {
  leaves = with_cell sides.leaves c (cell_without first n (cell_at sides.leaves c));
  pages = retain_keys sides.pages (is_beyond (c * 512 + first) n);
  snapshots = sides.snapshots;
  made = sides.made;
}

-- the unmap of n pages in a cell, counted from the first of the cell
abbrev pub cell_unmapped : ℕ → ℕ → ℕ → Progress → Progress
cell_unmapped c first n progress = directory_shrunk progress.leaves (with_course c (cleared first n (course_at c progress)) progress)

-- that unmap gives back so many frames, asks for none, and leaves the sides without those pages
abbrev pub GivesBack : ℕ → ℕ → ℕ → ℕ → Sides → Type 0
GivesBack c first n freed sides =
    Runs (cell_unmapped c first n) sides.leaves sides.made (returned freed) (sides_without c first n sides).leaves sides.made None

-- the owner of a slot whose cell the parent has left, where this snapshot has the cell or none has
abbrev pub owner_left : Option ℕ → Option ℕ → Option ℕ
owner_left owner None = None
owner_left owner (Some number) = owner

-- the parent's pages without n of them
abbrev pub pages_without : ℕ → ℕ → Option FrameRefusal → PageMap → PageMap
pages_without first n refused pages = retain_keys pages (is_beyond first n)

-- one of n pages is present in a cell
abbrev pub has_some : ℕ → ℕ → ℕ → CellLeaves → Bool
has_some first n c cell = has_present cell.parent (first_in_cell c first) (count_in_cell c first n)

-- those of n pages that lie in a cell are out, for so many frames; or none was present there, and nothing has changed
abbrev pub IsOutOf : Bool → ℕ → ℕ → ℕ → PageTables → ℕ → Sides → Type 0
IsOutOf true c first n new freed sides =
    TablesStandFor new (sides_without c (first_in_cell c first) (count_in_cell c first n) sides)
    × GivesBack c (first_in_cell c first) (count_in_cell c first n) freed sides
IsOutOf false c first n new freed sides = TablesStandFor new sides × (freed ≡ 0)
