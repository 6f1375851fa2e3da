-- The acts at one cell: what each asks for, in which order, and what it leaves.
use Rattle.std.specs.Prelude.{ℕ, ◌-◌, ◌==◌, Bool, if◌then◌else◌, List, [], ◌∷◌, map, filter, Option, Some, None}
use Rattle.vm_base.specs.declared.fork_mode.Mode.{Mode}
use Rattle.vm_base.specs.declared.fork_mode.Mode.TheVariants.{Eager, OnDemand, Async}
use Rattle.vm_base.specs.declared.frame_request.Want.{Want}
use Rattle.vm_base.specs.declared.frame_request.Want.TheVariants as want
use Rattle.kernel_meaning.specs.Requests.{Answer, Yes, No, Requests, next_answer, asked, given_back}
use Rattle.kernel_meaning.specs.Leaves.{Leaf, Own, Joined, Lost, Kept, CellLeaves, version_at, with_version, without_versions, has_present, has_pages, is_shared, is_marked, names_version, is_named, share, kept_by, with_kept, without_kept, with_leaf}

-- a cell in the course of an act
pub record Course : Type 0 where
  pub cell : CellLeaves
  pub requests : Requests
  -- where the act was refused: the count of that request
  pub refused : Option ℕ

-- an act begins
abbrev pub opening_course : CellLeaves → Requests → Course
opening_course cell requests = record { cell = cell; requests = requests; refused = None }

-- a frame is asked for
abbrev pub asking : Want → Course → Course
asking want course = record course { requests = asked want course.requests }

-- the answer to the request that comes next
abbrev pub coming_answer : Course → Answer
coming_answer course = next_answer course.requests

-- the act ends refused; so many frames that it took are given back
abbrev pub refused_at : ℕ → ℕ → Course → Course
refused_at at taken course = record course { requests = given_back taken course.requests; refused = Some at }

-- the cell becomes another one that counts fewer frames: those are given back at once
abbrev pub shrunk_to : CellLeaves → Course → Course
shrunk_to cell course = record course {
  cell = cell;
  requests = given_back (share course.cell - share cell) course.requests;
}

-- the snapshots that pass a test have this leaf
abbrev pub with_leaf_where : (Kept → Bool) → Leaf → CellLeaves → CellLeaves
with_leaf_where test leaf cell = record cell { kept = with_leaf test leaf cell.kept }

-- the parent's page has a new version
abbrev pub with_parent_version : ℕ → ℕ → CellLeaves → CellLeaves
with_parent_version page version cell = record cell { parent = with_version cell.parent page version }

-- it is snapshot n
abbrev pub is_number : ℕ → Kept → Bool
is_number n kept = kept.number == n

-- the numbers of the snapshots that pass a test, in rising order
abbrev pub numbers_where : (Kept → Bool) → CellLeaves → List ℕ
numbers_where test cell = map (λ kept. kept.number) (filter test cell.kept)

-- ---- the copies that come before a change

-- the leaf copy of snapshot n was answered: the leaf is its own, or the snapshot has lost the cell
abbrev pub leaf_copy_answered : ℕ → Answer → Course → Course
leaf_copy_answered n Yes course = record course { cell = with_leaf_where (is_number n) Own course.cell }
leaf_copy_answered n (No at) course = shrunk_to (with_leaf_where (is_number n) (Lost at) course.cell) course

-- the leaf copy of snapshot n takes one frame; it names the same pages
abbrev pub leaf_copied : ℕ → Course → Course
leaf_copied n course = leaf_copy_answered n (coming_answer course) (asking want.Leaf course)

-- the leaf copies of these snapshots, one after another
abbrev pub leaves_copied : List ℕ → Course → Course
leaves_copied [] course = course
leaves_copied (n ∷ ns) course = leaves_copied ns (leaf_copied n course)

-- before a change no leaf stays joined: first those of on-demand forks are copied, then those of async forks, each in rising order of their numbers
abbrev pub before_change : Course → Course
before_change course =
    let unshared = leaves_copied (numbers_where is_shared course.cell) course in
    leaves_copied (numbers_where is_marked unshared.cell) unshared

-- ---- touch

-- the copy of a present page was answered: it is a new version, made by this request; or every snapshot whose own leaf names the old version has lost the cell
abbrev pub page_copy_answered : ℕ → ℕ → Answer → Course → Course
page_copy_answered page version Yes course =
    record course { cell = with_parent_version page course.requests.made course.cell }
page_copy_answered page version (No at) course =
    shrunk_to (with_leaf_where (names_version page version) (Lost at) course.cell) course

-- a present page takes a frame exactly where a snapshot's own leaf names the version that it has
abbrev pub present_touched : ℕ → ℕ → Course → Course
present_touched page version course =
    if is_named course.cell page version
    then page_copy_answered page version (coming_answer course) (asking want.Page course)
    else course

-- the frame of an absent page was answered: a page of zeros, or the touch is refused, and the leaf that it took is given back
abbrev pub new_page_answered : ℕ → ℕ → Answer → Course → Course
new_page_answered page leaves Yes course =
    record course { cell = with_parent_version page course.requests.made course.cell }
new_page_answered page leaves (No at) course = refused_at at leaves course

-- an absent page takes a frame; so many leaves were taken for it before
abbrev pub new_page_asked : ℕ → ℕ → Course → Course
new_page_asked page leaves course =
    new_page_answered page leaves (coming_answer course) (asking want.Page course)

-- the parent's missing leaf was answered
abbrev pub parent_leaf_answered : ℕ → Answer → Course → Course
parent_leaf_answered page Yes course = new_page_asked page 1 (before_change course)
parent_leaf_answered page (No at) course = refused_at at 0 course

-- an absent page: first the parent's leaf where it is missing, then the copies, then the page
abbrev pub absent_touched : ℕ → Course → Course
absent_touched page course =
    if has_pages course.cell.parent
    then new_page_asked page 0 (before_change course)
    else parent_leaf_answered page (coming_answer course) (asking want.Leaf course)

-- the touch of a page that has this version, or none
abbrev pub touched_as : Option ℕ → ℕ → Course → Course
touched_as None page course = absent_touched page course
touched_as (Some version) page course = present_touched page version (before_change course)

-- the touch of a page: only where it was absent can it end refused
abbrev pub course_touched : ℕ → Course → Course
course_touched page course = touched_as (version_at course.cell.parent page) page course

-- ---- clear and protect

-- the parent's n pages go, and the leaf with the last page of the cell
abbrev pub pages_cleared : ℕ → ℕ → Course → Course
pages_cleared first n course =
    shrunk_to (record course.cell { parent = without_versions course.cell.parent first n }) course

-- n pages are unmapped: a change where one of them is present, and else nothing
abbrev pub cleared : ℕ → ℕ → Course → Course
cleared first n course =
    if has_present course.cell.parent first n then pages_cleared first n (before_change course) else course

-- n pages get a permission: a change where one of them is present, whatever permission they had, and else nothing
abbrev pub protected : ℕ → ℕ → Course → Course
protected first n course = if has_present course.cell.parent first n then before_change course else course

-- ---- snapshots

-- snapshot n has the cell as the parent has it now; no leaf of another snapshot changes
abbrev pub with_fork : ℕ → Mode → Leaf → CellLeaves → CellLeaves
with_fork n mode leaf cell = record cell {
  kept = with_kept (record { number = n; mode = mode; versions = cell.parent; leaf = leaf }) cell.kept;
}

-- the leaf of an eager fork was answered
abbrev pub eager_fork_answered : ℕ → Answer → Course → Course
eager_fork_answered n Yes course = record course { cell = with_fork n Eager Own course.cell }
eager_fork_answered n (No at) course = refused_at at 0 course

-- the fork of snapshot n: an eager one takes one frame for a leaf of its own, any other takes none
abbrev pub course_forked : ℕ → Mode → Course → Course
course_forked n Eager course =
    eager_fork_answered n (coming_answer course) (asking want.Leaf course)
course_forked n OnDemand course = record course { cell = with_fork n OnDemand Joined course.cell }
course_forked n Async course = record course { cell = with_fork n Async Joined course.cell }

-- the copy of snapshot n was answered: the leaf is its own, or stays as it was
abbrev pub copy_answered : ℕ → Answer → Course → Course
copy_answered n Yes course = record course { cell = with_leaf_where (is_number n) Own course.cell }
copy_answered n (No at) course = refused_at at 0 course

-- the copy of what snapshot n has at the cell: one frame where it is marked
abbrev pub copied_as : Option Kept → ℕ → Course → Course
copied_as None n course = course
copied_as (Some kept) n course =
    if is_marked kept then copy_answered n (coming_answer course) (asking want.Leaf course) else course

-- the copy that snapshot n makes at the cell
abbrev pub copied : ℕ → Course → Course
copied n course = copied_as (kept_by course.cell.kept n) n course

-- what a copy tells: that it was made, that there was nothing to copy, that the cell was lost, or that the request was refused, with the snapshot's own count
pub data CopyEnd : Type 0 where
  Copied : CopyEnd
  NothingToCopy : CopyEnd
  FoundLost : ℕ → CopyEnd
  CopyRefused : ℕ → CopyEnd

-- a request for a copy tells its answer
abbrev pub answer_end : Answer → CopyEnd
answer_end Yes = Copied
answer_end (No at) = CopyRefused at

-- a leaf that is not marked tells whether it is lost
abbrev pub leaf_end : Leaf → CopyEnd
leaf_end Own = NothingToCopy
leaf_end Joined = NothingToCopy
leaf_end (Lost at) = FoundLost at

-- what the copy of what a snapshot has at the cell tells
abbrev pub copy_end_as : Option Kept → Answer → CopyEnd
copy_end_as None answer = NothingToCopy
copy_end_as (Some kept) answer = if is_marked kept then answer_end answer else leaf_end kept.leaf

-- what the copy that snapshot n makes at the cell tells
abbrev pub copy_end : ℕ → Course → CopyEnd
copy_end n course = copy_end_as (kept_by course.cell.kept n) (coming_answer course)

-- the mark of snapshot n goes, where its fork is taken back: it does not have the cell then, and no frame was taken for it
abbrev pub unmarked : ℕ → Course → Course
unmarked n course = record course { cell = record course.cell { kept = without_kept n course.cell.kept } }

-- snapshot n goes, with its own leaf and the pages that only it names
abbrev pub dropped : ℕ → Course → Course
dropped n course = shrunk_to (record course.cell { kept = without_kept n course.cell.kept }) course
