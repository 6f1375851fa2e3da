-- The frame requests of an event, over the cells of the parent and of its snapshots, one after another, and what the event leaves of leaves and versions.
use Rattle.std.specs.Prelude.{ℕ, zero, suc, ◌+◌, ◌-◌, ◌*◌, ◌==◌, ◌/◌, ◌%◌, ◌^◌, min, Bool, not, if◌then◌else◌, List, [], ◌∷◌, ◌++◌, map, length, filter, replicate, Option, Some, None, is_some}
use Rattle.std.specs.List.{list_any}
use Rattle.vm_base.specs.declared.fork_mode.Mode.{Mode}
use Rattle.vm_base.specs.declared.fork_mode.Mode.TheVariants.{Eager, OnDemand, Async}
use Rattle.vm_base.specs.declared.frame_request.Want.{Want}
use Rattle.vm_base.specs.declared.frame_request.Want.TheVariants as want
use Rattle.vm_base.specs.Places.{cell_of, distinct, directory_frames}
use Rattle.kernel_meaning.specs.Requests.{Requests, asked_in_row, given_back}
use Rattle.kernel_meaning.specs.Leaves.{Leaf, Own, Joined, version_at, without_versions, has_present, without_kept}
use Rattle.kernel_meaning.specs.CellActs.{Course, opening_course, course_touched, cleared, protected, with_fork, copied, CopyEnd, copy_end}
use Rattle.kernel_meaning.specs.FrameLaw.{Leaves, cell_at, with_cell, parent_cells, snapshot_cells, held_frames}

-- a request was refused that the event can't do without: its count, and the page of a touch that it was for
pub record FrameRefusal : Type 0 where
  pub at : ℕ
  pub page : Option ℕ

-- the leaves in the course of an event
pub record Progress : Type 0 where
  pub leaves : Leaves
  pub requests : Requests
  pub refused : Option FrameRefusal

-- an event begins
abbrev pub opening_progress : Leaves → Requests → Progress
opening_progress leaves requests = record { leaves = leaves; requests = requests; refused = None }

-- the leaves become others that count fewer frames: those are given back at once
abbrev pub progress_shrunk : Leaves → Progress → Progress
progress_shrunk leaves progress = record progress {
  leaves = leaves;
  requests = given_back (held_frames progress.leaves - held_frames leaves) progress.requests;
}

-- an act at a cell begins
abbrev pub course_at : ℕ → Progress → Course
course_at cell progress = opening_course (cell_at progress.leaves cell) progress.requests

-- an act at a cell has ended
abbrev pub with_course : ℕ → Course → Progress → Progress
with_course cell course progress = record progress {
  leaves = with_cell progress.leaves cell course.cell;
  requests = course.requests;
}

-- ---- touch

-- the place of a page in its cell
abbrev pub page_in_cell : ℕ → ℕ
page_in_cell page = page % 512

-- one of the cells has a table that serves all numbers with this quotient
abbrev pub shares_table : ℕ → ℕ → List ℕ → Bool
shares_table width cell cells = list_any (λ other. other / width == cell / width) cells

-- a table is wanted where it is missing
abbrev pub wanted_unless : Bool → Want → List Want
wanted_unless is_there table = if is_there then [] else table ∷ []

-- the tables that the directory of these cells lacks for one more, top first
abbrev pub missing_tables : List ℕ → ℕ → List Want
missing_tables cells cell =
    wanted_unless (not (length cells == 0)) want.Top
    ++ wanted_unless (shares_table (2 ^ 18) cell cells) want.Upper
    ++ wanted_unless (shares_table (2 ^ 9) cell cells) want.Middle

-- the touch at the page's cell was granted or refused; refused, so many directory tables are given back too
abbrev pub cell_touch_ended : Option ℕ → ℕ → ℕ → Progress → Progress
cell_touch_ended None page tables progress = progress
cell_touch_ended (Some at) page tables progress = record progress {
  requests = given_back tables progress.requests;
  refused = Some (record { at = at; page = Some page });
}

-- the touch at the page's cell, behind so many directory tables
abbrev pub cell_touched : ℕ → ℕ → Progress → Progress
cell_touched page tables progress =
    let course = course_touched (page_in_cell page) (course_at (cell_of page) progress) in
    cell_touch_ended course.refused page tables (with_course (cell_of page) course progress)

-- the directory tables were asked for: the touch goes on, or is refused, and those granted are given back
abbrev pub tables_answered : Option ℕ → ℕ → ℕ → Progress → Progress
tables_answered None page tables progress = cell_touched page tables progress
tables_answered (Some at) page tables progress = record progress {
  requests = given_back tables progress.requests;
  refused = Some (record { at = at; page = Some page });
}

-- the touch of one page: the directory tables that are missing, top first, and then the touch at its cell
abbrev pub page_touched : ℕ → Progress → Progress
page_touched page progress =
    let row = asked_in_row (missing_tables (parent_cells progress.leaves) (cell_of page)) progress.requests in
    tables_answered row.refused page row.granted (record progress { requests = row.requests })

-- the version of a page of the parent
abbrev pub page_version : Leaves → ℕ → Option ℕ
page_version leaves page = version_at (cell_at leaves (cell_of page)).parent (page_in_cell page)

-- without a page of the parent
abbrev pub without_page : ℕ → Leaves → Leaves
without_page page leaves =
    let cell = cell_at leaves (cell_of page) in
    with_cell leaves (cell_of page) (record cell { parent = without_versions cell.parent (page_in_cell page) 1 })

-- without these pages of the parent
abbrev pub without_pages : List ℕ → Leaves → Leaves
without_pages [] leaves = leaves
without_pages (page ∷ pages) leaves = without_pages pages (without_page page leaves)

-- a page, where it was absent, and so is added by the touch
abbrev pub added_by : Leaves → ℕ → List ℕ
added_by leaves page = if is_some (page_version leaves page) then [] else page ∷ []

-- the touch goes on behind a page; or it is refused, and the pages that it added go, with the tables that then are of no use
abbrev pub touch_goes_on : Option FrameRefusal → List ℕ → Progress → Progress → Progress
touch_goes_on None added progress rest = rest
touch_goes_on (Some refusal) added progress rest = progress_shrunk (without_pages added progress.leaves) progress

-- the touch of n pages in rising order, behind the touch of others that added some
abbrev pub pages_touched_behind : List ℕ → ℕ → ℕ → Progress → Progress
pages_touched_behind added first zero progress = progress
pages_touched_behind added first (suc n) progress =
    let next = page_touched first progress in
    touch_goes_on next.refused added next
    (pages_touched_behind (added ++ added_by progress.leaves first) (first + 1) n next)

-- the touch of n pages
abbrev pub pages_touched : ℕ → ℕ → Progress → Progress
pages_touched first n progress = pages_touched_behind [] first n progress

-- ---- fork, copy and drop

-- the tables of the directory of these cells, each level in rising order
abbrev pub directory_wants : List ℕ → List Want
directory_wants [] = []
directory_wants (cell ∷ cells) =
    want.Top ∷ replicate (length (distinct (map (λ c. c / 2 ^ 18) (cell ∷ cells)))) want.Upper
    ++ replicate (length (distinct (map (λ c. c / 2 ^ 9) (cell ∷ cells)))) want.Middle

-- the leaves that a fork asks for: in eager mode one for each cell, and else none
abbrev pub fork_leaf_wants : Mode → List ℕ → List Want
fork_leaf_wants Eager cells = replicate (length cells) want.Leaf
fork_leaf_wants OnDemand cells = []
fork_leaf_wants Async cells = []

-- what a fork asks for: the directory, and then the leaves
abbrev pub fork_wants : Mode → List ℕ → List Want
fork_wants mode cells = directory_wants cells ++ fork_leaf_wants mode cells

-- the leaf that a fork leaves at each cell
abbrev pub fork_leaf : Mode → Leaf
fork_leaf Eager = Own
fork_leaf OnDemand = Joined
fork_leaf Async = Joined

-- snapshot n has these cells as the parent has them
abbrev pub with_fork_at : List ℕ → ℕ → Mode → Leaves → Leaves
with_fork_at [] n mode leaves = leaves
with_fork_at (cell ∷ cells) n mode leaves =
    with_fork_at cells n mode (with_cell leaves cell (with_fork n mode (fork_leaf mode) (cell_at leaves cell)))

-- a fork's requests were answered: the snapshot is there; or it is not, and all that was granted is given back
abbrev pub fork_answered : Option ℕ → ℕ → ℕ → Mode → Progress → Progress
fork_answered None taken n mode progress =
    record progress { leaves = with_fork_at (parent_cells progress.leaves) n mode progress.leaves }
fork_answered (Some at) taken n mode progress = record progress {
  requests = given_back taken progress.requests;
  refused = Some (record { at = at; page = None });
}

-- the fork of snapshot n
abbrev pub snapshot_forked : ℕ → Mode → Progress → Progress
snapshot_forked n mode progress =
    let row = asked_in_row (fork_wants mode (parent_cells progress.leaves)) progress.requests in
    fork_answered row.refused row.granted n mode (record progress { requests = row.requests })

-- the copy that snapshot n makes at a cell
abbrev pub snapshot_copied : ℕ → ℕ → Progress → Progress
snapshot_copied n cell progress = with_course cell (copied n (course_at cell progress)) progress

-- what it tells
abbrev pub copy_end_at : ℕ → ℕ → Progress → CopyEnd
copy_end_at n cell progress = copy_end n (course_at cell progress)

-- these cells without snapshot n
abbrev pub without_snapshot_at : List ℕ → ℕ → Leaves → Leaves
without_snapshot_at [] n leaves = leaves
without_snapshot_at (number ∷ numbers) n leaves =
    let cell = cell_at leaves number in
    without_snapshot_at numbers n (with_cell leaves number (record cell { kept = without_kept n cell.kept }))

-- snapshot n goes: its directory, its own leaves and the pages that only it names are given back
abbrev pub snapshot_dropped : ℕ → Progress → Progress
snapshot_dropped n progress = progress_shrunk (without_snapshot_at (snapshot_cells progress.leaves n) n progress.leaves) progress

-- ---- unmap and protect

-- the first of n pages that lies in the cell, counted from the first of the cell
abbrev pub first_in_cell : ℕ → ℕ → ℕ
first_in_cell cell first = first - cell * 512

-- how many of n pages lie in the cell
abbrev pub count_in_cell : ℕ → ℕ → ℕ → ℕ
count_in_cell cell first n = min (first + n - cell * 512) 512 - first_in_cell cell first

-- the cells in which one of n pages is present, in rising order
abbrev pub changed_cells : Leaves → ℕ → ℕ → List ℕ
changed_cells leaves first n = map (λ entry. entry.0)
    (filter (λ entry. has_present entry.1.parent (first_in_cell entry.0 first) (count_in_cell entry.0 first n)) leaves)

-- the directory tables that are of no use any more are given back
abbrev pub directory_shrunk : Leaves → Progress → Progress
directory_shrunk before progress = record progress {
  requests = given_back
      (directory_frames (parent_cells before) - directory_frames (parent_cells progress.leaves)) progress.requests;
}

-- the unmap of n pages at these cells, one after another: at each the copies, the change, and what that frees
abbrev pub unmapped_at : List ℕ → ℕ → ℕ → Progress → Progress
unmapped_at [] first n progress = progress
unmapped_at (cell ∷ cells) first n progress =
    let course = cleared (first_in_cell cell first) (count_in_cell cell first n) (course_at cell progress) in
    unmapped_at cells first n (directory_shrunk progress.leaves (with_course cell course progress))

-- the unmap of n pages
abbrev pub pages_unmapped : ℕ → ℕ → Progress → Progress
pages_unmapped first n progress = unmapped_at (changed_cells progress.leaves first n) first n progress

-- the protect of n pages at these cells, one after another: at each the copies
abbrev pub protected_at : List ℕ → ℕ → ℕ → Progress → Progress
protected_at [] first n progress = progress
protected_at (cell ∷ cells) first n progress =
    let course = protected (first_in_cell cell first) (count_in_cell cell first n) (course_at cell progress) in
    protected_at cells first n (with_course cell course progress)

-- the protect of n pages
abbrev pub pages_protected : ℕ → ℕ → Progress → Progress
pages_protected first n progress = protected_at (changed_cells progress.leaves first n) first n progress
