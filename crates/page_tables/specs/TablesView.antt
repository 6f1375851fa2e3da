-- What page tables show to those above: their slots as a list of views, the pages and the number of
-- their snapshot, and which cells each side has.
use Rattle.std.specs.Prelude.{◌≡◌, ℕ, Bool, List, [], ◌∷◌, map, Option, None, is_some}
use Rattle.std.specs.Ordering.{nat_cmp}
use Rattle.std.specs.FinMap.{FinMap, get, insert, empty}
use Rattle.vm_base.specs.FlatMemory.{PageMap}
use Rattle.kernel_meaning.specs.Leaves.{Kept}
use Rattle.kernel_meaning.specs.CellAccount.{CellState}
use Rattle.leaf_cell.specs.CellView.{CellView, parent_page, kept_page}
use Rattle.page_tables.specs.declared.slot.Slot.{Slot}
use Rattle.page_tables.specs.declared.tables.PageTables.{PageTables}
use Rattle.page_tables.specs.Standing.{living_number, slot_in}
use Rattle.page_tables.specs.SlotViews.{SlotView, with_read_pages, pages_in}

-- each of these snapshots with its pages in a cell
abbrev pub snapshots_shown : CellView → List Kept → FinMap nat_cmp PageMap
snapshots_shown view [] = empty
snapshots_shown view (it ∷ others) =
    insert (snapshots_shown view others) it.number (with_read_pages 0 (kept_page view it) 512 empty)

-- the state that a cell shows: its leaves, and the bytes of both sides
abbrev pub state_shown : CellView → CellState
state_shown view = record {
  leaves = view.leaves;
  pages = with_read_pages 0 (parent_page view) 512 empty;
  snapshots = snapshots_shown view view.leaves.kept;
}

-- what a slot shows
abbrev pub slot_shown : Slot → SlotView
slot_shown slot = record { owner = slot.owner; state = state_shown slot.cell }

-- what the slots of page tables show
abbrev pub views_of : PageTables → List SlotView
views_of tables = map slot_shown tables.slots.items

-- the parent's pages
abbrev pub pages_of : PageTables → PageMap
pages_of tables = pages_in (views_of tables)

-- the parent has a page in the cell
abbrev pub has_cell : PageTables → ℕ → Bool
has_cell tables c = is_some (get tables.directory c)

-- the number of the snapshot that lives, if one does
abbrev pub snapshot_number : PageTables → Option ℕ
snapshot_number tables = living_number tables.snapshot

-- the snapshot that lives has the cell
abbrev pub snapshot_has : PageTables → ℕ → Bool
snapshot_has tables c = is_some (slot_in tables.snapshot c)

-- no snapshot lives
abbrev pub LacksSnapshot : PageTables → Type 0
LacksSnapshot tables = tables.snapshot ≡ None

-- the snapshot is as it was, with its directory
abbrev pub HasSameSnapshot : PageTables → PageTables → Type 0
HasSameSnapshot old new = new.snapshot ≡ old.snapshot
