-- The directory that waits for a snapshot.
use Rattle.std.specs.Prelude.{◌≡◌, Option, Some, None}
use Rattle.std.specs.FinMap.{empty}
use Rattle.table_levels.specs.Cells.{CellMap}
use Rattle.page_tables.specs.declared.tables.SnapshotTables.{SnapshotTables}

-- while no snapshot lives, an empty directory waits
abbrev pub HasSpare : Option SnapshotTables → Option CellMap → Type 0
HasSpare snapshot spare = snapshot ≡ None → spare ≡ Some empty
