-- The account of a cell: what the entries that were told under its lock leave. It is two sides, leaves and versions, and the frame law, for one cell alone.
use Rattle.std.specs.Prelude.{◌≡◌, ◌≢◌, ℕ, ◌+◌, ◌*◌, ◌<◌, ◌≤◌, ◌==◌, if◌then◌else◌, true, List, [], ◌∷◌, ◌++◌, length, Option, Some, None, IsSome, IsNone}
use Rattle.std.specs.List.{AllByRecursion}
use Rattle.std.specs.Ordering.{nat_cmp}
use Rattle.std.specs.FinMap.{FinMap, empty, insert, remove, retain_keys}
use Rattle.vm_base.specs.declared.fork_mode.Mode.{Mode}
use Rattle.vm_base.specs.declared.permission.Perm.{Perm}
use Rattle.vm_base.specs.FlatMemory.{PageMap}
use Rattle.vm_base.specs.FlatStep.{with_page, with_bytes, is_beyond}
use Rattle.kernel_meaning.specs.Requests.{Answer, opening_requests, answers_of}
use Rattle.kernel_meaning.specs.Leaves.{CellLeaves, unused_cell, share, kept_by, has_pages, has_joined, IsAlone}
use Rattle.kernel_meaning.specs.CellActs.{Course, opening_course, course_touched, cleared, protected, course_forked, copied, unmarked, dropped}

-- one act at a cell. Pages are counted from the first of the cell
pub data CellAct : Type 0 where
  -- the page
  Touch : ℕ → CellAct
  -- the page, the place in it, the bytes
  Store : ℕ → ℕ → List ℕ → CellAct
  -- the first page, how many
  Clear : ℕ → ℕ → CellAct
  Protect : ℕ → ℕ → Perm → CellAct
  -- the snapshot, the mode, the seat that makes the other acts of this snapshot
  Fork : ℕ → Mode → ℕ → CellAct
  -- the snapshot
  Copy : ℕ → CellAct
  Unmark : ℕ → CellAct
  Drop : ℕ → CellAct

-- an entry: the act, the number of the seat that made it, and the answer of each request that it made
pub record CellEntry : Type 0 where
  pub act : CellAct
  pub seat : ℕ
  pub answers : List Answer

-- a cell with its bytes
pub record CellState : Type 0 where
  -- leaves and versions of both sides
  pub leaves : CellLeaves
  -- the parent's pages
  pub pages : PageMap
  -- each snapshot's pages, by its number: those of the parent at its last fork
  pub snapshots : FinMap nat_cmp PageMap

-- the account: the cell, and how many requests were made so far
pub record CellAccount : Type 0 where
  pub state : CellState
  pub made : ℕ

-- nobody has the cell; a slot is given to another cell only in this state
abbrev pub empty_state : CellState
empty_state = record { leaves = unused_cell; pages = empty; snapshots = empty }

-- the account of no entries
abbrev pub empty_account : CellAccount
empty_account = record { state = empty_state; made = 0 }

-- leaves and requests in the course of an act
abbrev pub act_course : CellAct → Course → Course
act_course (Touch page) course = course_touched page course
act_course (Store page at bytes) course = course
act_course (Clear first n) course = cleared first n course
act_course (Protect first n perm) course = protected first n course
act_course (Fork n mode seat) course = course_forked n mode course
act_course (Copy n) course = copied n course
act_course (Unmark n) course = unmarked n course
act_course (Drop n) course = dropped n course

-- the parent's pages after an act, which may have been refused
abbrev pub pages_after : CellAct → Option ℕ → PageMap → PageMap
pages_after (Touch page) None pages = with_page pages page
pages_after (Touch page) (Some at) pages = pages
pages_after (Store page at bytes) refused pages = with_bytes pages (page * 4096 + at) bytes
pages_after (Clear first n) refused pages = retain_keys pages (is_beyond first n)
pages_after (Protect first n perm) refused pages = pages
pages_after (Fork n mode seat) refused pages = pages
pages_after (Copy n) refused pages = pages
pages_after (Unmark n) refused pages = pages
pages_after (Drop n) refused pages = pages

-- the snapshots' pages after an act, where the parent has these
abbrev pub snapshots_after : CellAct → Option ℕ → PageMap → FinMap nat_cmp PageMap → FinMap nat_cmp PageMap
snapshots_after (Touch page) refused pages snapshots = snapshots
snapshots_after (Store page at bytes) refused pages snapshots = snapshots
snapshots_after (Clear first n) refused pages snapshots = snapshots
snapshots_after (Protect first n perm) refused pages snapshots = snapshots
snapshots_after (Fork n mode seat) None pages snapshots = insert snapshots n pages
snapshots_after (Fork n mode seat) (Some at) pages snapshots = snapshots
snapshots_after (Copy n) refused pages snapshots = snapshots
snapshots_after (Unmark n) refused pages snapshots = remove snapshots n
snapshots_after (Drop n) refused pages snapshots = remove snapshots n

-- an act on a cell, behind so many requests and with these answers to come
abbrev pub course_of : CellAct → CellState → ℕ → List Answer → Course
course_of act state made answers = act_course act (opening_course state.leaves (opening_requests made answers))

-- the cell after an act that ran this course
abbrev pub state_after : CellAct → Course → CellState → CellState
state_after act course state = record {
  leaves = course.cell;
  pages = pages_after act course.refused state.pages;
  snapshots = snapshots_after act course.refused state.pages state.snapshots;
}

-- the course of an entry
abbrev pub entry_course : CellAccount → CellEntry → Course
entry_course account entry = course_of entry.act account.state account.made entry.answers

-- the account with one entry more
abbrev pub account_after : CellAccount → CellEntry → CellAccount
account_after account entry =
    let course = entry_course account entry in
    record { state = state_after entry.act course account.state; made = course.requests.made }

-- the account behind another one, of these entries
abbrev pub account_behind : CellAccount → List CellEntry → CellAccount
account_behind account [] = account
account_behind account (entry ∷ entries) = account_behind (account_after account entry) entries

-- the account of a list of entries
abbrev pub account_of : List CellEntry → CellAccount
account_of entries = account_behind empty_account entries

-- the share of an account, in frames
abbrev pub account_share : CellAccount → ℕ
account_share account = share account.state.leaves

-- the seat that an act names for a snapshot, or the one named before
abbrev pub seat_named : CellAct → ℕ → Option ℕ → Option ℕ
seat_named (Touch page) n before = before
seat_named (Store page at bytes) n before = before
seat_named (Clear first count) n before = before
seat_named (Protect first count perm) n before = before
seat_named (Fork other mode seat) n before = if other == n then Some seat else before
seat_named (Copy other) n before = before
seat_named (Unmark other) n before = before
seat_named (Drop other) n before = before

-- the seat that the last fork of snapshot n names, behind a seat named before
abbrev pub fork_seat_behind : Option ℕ → List CellEntry → ℕ → Option ℕ
fork_seat_behind before [] n = before
fork_seat_behind before (entry ∷ entries) n = fork_seat_behind (seat_named entry.act n before) entries n

-- the seat that makes an act behind these entries: for the copy, the unmark and the drop of a snapshot the one that its last fork names, and else the parent's, which is number 0
abbrev pub seat_of : List CellEntry → CellAct → Option ℕ
seat_of before (Touch page) = Some 0
seat_of before (Store page at bytes) = Some 0
seat_of before (Clear first n) = Some 0
seat_of before (Protect first n perm) = Some 0
seat_of before (Fork n mode seat) = Some 0
seat_of before (Copy n) = fork_seat_behind None before n
seat_of before (Unmark n) = fork_seat_behind None before n
seat_of before (Drop n) = fork_seat_behind None before n

-- the leaves of a cell allow an act on its 512 pages: a store within a page that is the parent's
-- alone, a fork where the parent has a page, of a number that the cell does not keep and for a seat
-- that is not the parent's, copy and drop of a number that it keeps, and that a mark goes where the
-- leaf is joined
abbrev pub AllowsAct : CellLeaves → CellAct → Type 0
AllowsAct cell (Touch page) = page < 512
AllowsAct cell (Store page at bytes) =
    IsAlone cell page × (page < 512) × (at + length bytes ≤ 4096)
AllowsAct cell (Clear first n) = first + n ≤ 512
AllowsAct cell (Protect first n perm) = first + n ≤ 512
AllowsAct cell (Fork n mode seat) =
    (has_pages cell.parent ≡ true) × (0 < seat) × IsNone (kept_by cell.kept n)
AllowsAct cell (Copy n) = IsSome (kept_by cell.kept n)
AllowsAct cell (Unmark n) = has_joined (kept_by cell.kept n) ≡ true
AllowsAct cell (Drop n) = IsSome (kept_by cell.kept n)

-- a fork names a seat that no other snapshot which the cell keeps has
abbrev pub HasOwnSeat : List CellEntry → CellAct → Type 0
HasOwnSeat before (Touch page) = Unit {0}
HasOwnSeat before (Store page at bytes) = Unit {0}
HasOwnSeat before (Clear first n) = Unit {0}
HasOwnSeat before (Protect first n perm) = Unit {0}
HasOwnSeat before (Fork n mode seat) =
    AllByRecursion (λ kept. fork_seat_behind None before kept.number ≢ Some seat)
    (account_of before).state.leaves.kept
HasOwnSeat before (Copy n) = Unit {0}
HasOwnSeat before (Unmark n) = Unit {0}
HasOwnSeat before (Drop n) = Unit {0}

-- an entry may stand behind these: its seat may make it, the leaves that they left allow it, a fork
-- names a seat of its own, and it has an answer for each request that it made, and no other
pub record MayStandBehind (before : List CellEntry) (entry : CellEntry) : Type 0 where
  pub seat : seat_of before entry.act ≡ Some entry.seat
  pub allowed : AllowsAct (account_of before).state.leaves entry.act
  pub own : HasOwnSeat before entry.act
  pub answers : answers_of (entry_course (account_of before) entry).requests.deals ≡ entry.answers

-- each of the entries may stand behind those before it
abbrev pub AreEntriesBehind : List CellEntry → List CellEntry → Type 0
AreEntriesBehind before [] = Unit {0}
AreEntriesBehind before (entry ∷ entries) = MayStandBehind before entry × AreEntriesBehind (before ++ entry ∷ []) entries

-- a list of entries of a cell's lock
abbrev pub AreEntries : List CellEntry → Type 0
AreEntries entries = AreEntriesBehind [] entries
