-- Which pages of the parent may be written to.
use Rattle.std.specs.Prelude.{◌≡◌, ◌⊎◌, ℕ, ◌+◌, ◌-◌, ◌%◌, ◌≤◌, ◌<◌, ◌==◌, if◌then◌else◌, Bool, true, false, not, ◌&&◌, List, Option, Some, None, is_some, unwrap_or, Result, Ok, Err}
use Rattle.std.specs.Option.{option_map, option_and_then}
use Rattle.std.specs.List.{slice_get, list_any}
use Rattle.std.specs.FinMap.{get}
use Rattle.vm_base.specs.declared.permission.Perm.{Perm}
use Rattle.vm_base.specs.declared.refusals.Refused.{Refused}
use Rattle.vm_base.specs.Places.{cell_of}
use Rattle.vm_base.specs.FlatStep.{is_beyond, is_writable}
use Rattle.leaf_cell.specs.CellView.{CellView, parent_page}
use Rattle.leaf_cell.specs.Writable.{writable_at}
use Rattle.leaf_cell.specs.Permissions.{is_unshared}
use Rattle.page_tables.specs.declared.slot.Slot.{Slot}
use Rattle.page_tables.specs.declared.tables.PageTables.{PageTables}
use Rattle.page_tables.specs.declared.range.FrameRefused.{FrameRefused}
use Rattle.page_tables.specs.Sides.{Sides}
use Rattle.page_tables.specs.Standing.{TablesStandFor, slot_count}
use Rattle.page_tables.specs.Held.{frames_of, frames_in, shares_in, HoldAlike}
use Rattle.page_tables.specs.Forking.{is_forked}

-- a cell of the parent as it lies in its slot, if the parent's directory has it
abbrev pub parent_cell : PageTables → ℕ → Option CellView
parent_cell tables cell = option_map (λ slot. slot.cell) (option_and_then (slice_get tables.slots.items) (get tables.directory cell))

-- the page may be written to, as its entry in the parent's leaf table tells
abbrev pub may_write : PageTables → ℕ → Bool
may_write tables page = unwrap_or (option_map (λ cell. writable_at cell.writable (page % 512)) (parent_cell tables (cell_of page))) false

-- the page is present, and no snapshot's own leaf names its version
abbrev pub is_alone : PageTables → ℕ → Bool
is_alone tables page = unwrap_or (option_map (λ cell. is_unshared cell.leaves (page % 512)) (parent_cell tables (cell_of page))) false

-- the page is present
abbrev pub is_there : PageTables → ℕ → Bool
is_there tables page = unwrap_or (option_map (λ cell. is_some (parent_page cell (page % 512))) (parent_cell tables (cell_of page))) false

-- the page may be written to once n pages have this permission: of these none but the parent's alone, where the permission is for writing
abbrev pub may_write_after : Perm → ℕ → ℕ → PageTables → ℕ → Bool
may_write_after perm first n tables page = if is_beyond first n page then may_write tables page else (is_writable perm && is_alone tables page)

-- each of n pages may be written to, and of the others just those that might before
pub record LetsWrite (first n : ℕ) (old new : PageTables) : Type 0 where
  pub within : (page : ℕ) → first ≤ page → page < first + n → may_write new page ≡ true
  pub still : (page : ℕ) → may_write old page ≡ true → may_write new page ≡ true
  -- and no other page may that might not before
  pub apart : (page : ℕ) → is_beyond first n page ≡ true → may_write new page ≡ may_write old page

-- just those pages may be written to that might before
abbrev pub KeepsWriting : PageTables → PageTables → Type 0
KeepsWriting old new = (page : ℕ) → may_write new page ≡ may_write old page

-- nothing but bytes of pages has changed: the frames, the slots and the snapshot's cells are as
-- before, and each page may be written to where it might
pub record KeepsAllButBytes (old new : PageTables) : Type 0 where
  pub held : frames_of new ≡ frames_of old
  pub cells : HoldAlike old.slots.items new.slots.items
  pub writable : KeepsWriting old new
  pub snapshot : new.snapshot ≡ old.snapshot
  pub slots : slot_count new ≡ slot_count old

-- no page may be written to
abbrev pub LetsNoneWrite : PageTables → Type 0
LetsNoneWrite tables = (page : ℕ) → may_write tables page ≡ false

-- none of n pages may be written to, and of the others just those that might before
abbrev pub StopsWriting : ℕ → ℕ → PageTables → PageTables → Type 0
StopsWriting first n old new = (page : ℕ) → may_write new page ≡ (is_beyond first n page && may_write old page)

-- none of these pages may be written to, and of the others just those that might before
abbrev pub StopsWritingAt : List ℕ → PageTables → PageTables → Type 0
StopsWritingAt pages old new = (page : ℕ) → may_write new page ≡ (not (list_any (λ other. page == other) pages) && may_write old page)

-- of n pages just those may be written to that were present, and of the others just those that might before
abbrev pub LetsPresentWrite : ℕ → ℕ → PageTables → PageTables → Type 0
LetsPresentWrite first n old new = (page : ℕ) → may_write new page ≡ if is_beyond first n page then may_write old page else is_there old page

-- which pages may be written to behind the touch of a page: this one too, unless it was refused
abbrev pub WritesAfterPage : ℕ → Result (Unit {0}) Refused → PageTables → PageTables → Type 0
WritesAfterPage page (Ok done) old new = LetsWrite page 1 old new
WritesAfterPage page (Err refused) old new = KeepsWriting old new

-- which pages may be written to behind the touch of n pages: these too; or where a page of them was refused, of those before it the ones that were present
abbrev pub WritesAfterRange : ℕ → ℕ → Result (Unit {0}) FrameRefused → PageTables → PageTables → Type 0
WritesAfterRange first n (Ok done) old new = LetsWrite first n old new
WritesAfterRange first n (Err refused) old new = LetsPresentWrite first (refused.page - first) old new

-- of the cells in the slots before one no page may be written to, and of the others just those that might before: that slot has a page of the parent, or it is the first
pub record StopsWritingBefore (old new : PageTables) : Type 0 where
  pub slot : ℕ
  pub at : (slot ≡ 0) ⊎ ((it : Slot) × ((slice_get old.slots.items slot ≡ Some it) × (is_forked it ≡ true)))
  pub below : (page s : ℕ) → get old.directory (cell_of page) ≡ Some s → s < slot → may_write new page ≡ false
  pub above : (page s : ℕ) → get old.directory (cell_of page) ≡ Some s → slot ≤ s → may_write new page ≡ may_write old page
  -- and none of a cell where the parent has no page
  pub absent : (page : ℕ) → get old.directory (cell_of page) ≡ None → may_write new page ≡ false

-- which pages may be written to behind a fork: none; or where it was refused at a slot, none in the slots before it that it had forked
abbrev pub WritesAfterFork : Result (Unit {0}) Refused → PageTables → PageTables → Type 0
WritesAfterFork (Ok done) old new = LetsNoneWrite new
WritesAfterFork (Err refused) old new = StopsWritingBefore old new

-- nothing but which pages may be written to has changed
pub record LeavesAllButPermissions (old new : PageTables) : Type 0 where
  pub stands : (sides : Sides) → TablesStandFor old sides → TablesStandFor new sides
  pub held : frames_of new ≡ frames_of old
  pub frames : frames_in new.slots.items ≡ frames_in old.slots.items
  pub shares : shares_in new.slots.items ≡ shares_in old.slots.items
  pub directory : new.directory ≡ old.directory
  pub snapshot : new.snapshot ≡ old.snapshot
  pub slots : slot_count new ≡ slot_count old
  pub alone : (page : ℕ) → is_alone new page ≡ is_alone old page
