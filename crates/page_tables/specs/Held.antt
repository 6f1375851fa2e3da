-- The frames that page tables hold.
use Rattle.std.specs.Prelude.{ℕ, ◌+◌, Option, Some, None}
use Rattle.table_levels.specs.Cells.{tables_of}
use Rattle.page_tables.specs.declared.tables.SnapshotTables.{SnapshotTables}
use Rattle.page_tables.specs.declared.tables.PageTables.{PageTables}
pub use Rattle.page_tables.specs.SlotFrames.{frames_in, shares_in, HoldAlike}

-- the tables of the directory of the snapshot that lives, if one does
abbrev pub snapshot_frames : Option SnapshotTables → ℕ
snapshot_frames None = 0
snapshot_frames (Some tables) = tables_of tables.directory

-- the tables of both directories, and what the cells hold
abbrev pub frames_of : PageTables → ℕ
frames_of tables = tables_of tables.directory + snapshot_frames tables.snapshot + frames_in tables.slots.items
