-- The walk through the levels of a directory.
use Rattle.std.specs.Prelude.{◌≡◌, ℕ, ◌+◌, ◌/◌, ◌%◌, ◌^◌, ◌<◌, suc, List, [], ◌∷◌, length, Option, Some, None, IsSome, slice_get}
use Rattle.std.specs.Option.{option_and_then}
use Rattle.vm_base.specs.Frames.{FrameView}
use Rattle.table_levels.specs.Tables.{entry_at}
use Rattle.table_levels.specs.Cells.{CellMap, cells_below, tables_of, middle_tables_of}

-- a place for a table, with the table or without
abbrev pub Place : Type 0
Place = Option FrameView

-- the entry of a table, if the table is there
abbrev pub entry_in : Place → ℕ → Option ℕ
entry_in None i = None
entry_in (Some table) i = entry_at table.bytes i

-- the table at a place of a list
abbrev pub table_at : List Place → ℕ → Place
table_at places place = option_and_then (λ table. table) (slice_get places place)

-- the tables of a directory: the top table, the upper tables by their index in it, and the middle tables by their places
pub record Levels : Type 0 where
  pub top : Place
  pub uppers : List Place
  pub middles : List Place

-- the levels of these tables
abbrev pub levels_of : Place → List Place → List Place → Levels
levels_of top uppers middles = record { top = top; uppers = uppers; middles = middles }

-- the place of the middle table of 512 cells, by its index in all
abbrev pub middle_at : Place → List Place → ℕ → Option ℕ
middle_at top uppers index = option_and_then (λ upper. entry_in (table_at uppers upper) (index % 512)) (entry_in top (index / 512))

-- the same in a directory
abbrev pub middle_of : Levels → ℕ → Option ℕ
middle_of levels index = middle_at levels.top levels.uppers index

-- an entry of the top table names the upper table at its own place
abbrev pub NamesUppers : Place → List Place → Type 0
NamesUppers top uppers = (i upper : ℕ) → i < 512 → entry_in top i ≡ Some upper → (upper ≡ i) × IsSome (table_at uppers i)

-- each upper table that is there is named in the top table, at its own place
abbrev pub AreNamed : Place → List Place → Type 0
AreNamed top uppers = (i : ℕ) → IsSome (table_at uppers i) → entry_in top i ≡ Some i

-- the slot of a cell
abbrev pub slot_of : Levels → ℕ → Option ℕ
slot_of levels cell = option_and_then (λ middle. entry_in (table_at levels.middles middle) (cell % 512)) (middle_of levels (cell / 512))

-- the cells of a directory, with their slots
abbrev pub directory_cells : Levels → CellMap
directory_cells levels = cells_below (2 ^ 27) (slot_of levels)

-- how many of some places have a table
abbrev pub tables_at : List Place → ℕ
tables_at [] = 0
tables_at (None ∷ places) = tables_at places
tables_at (Some table ∷ places) = suc (tables_at places)

-- how many tables are there
abbrev pub tables_in : Levels → ℕ
tables_in levels = tables_at (levels.top ∷ levels.uppers) + tables_at levels.middles

-- the tables are those of a directory that counts so many
pub record IsDirectory (levels : Levels) (tables : ℕ) : Type 0 where
  -- there is a place for each upper and for each middle table
  pub uppers : length levels.uppers ≡ 512
  pub middles : length levels.middles ≡ 512
  -- each entry of the top table names an upper table that is there
  pub upper_there : NamesUppers levels.top levels.uppers
  -- an upper table is named
  pub upper_named : AreNamed levels.top levels.uppers
  -- an entry of an upper table names a middle table that is there, and no other entry names it
  pub middle_there : (index middle : ℕ) → index < 2 ^ 18 → middle_of levels index ≡ Some middle → (middle < 512) × IsSome (table_at levels.middles middle)
  pub middle_once : (index other middle : ℕ) → index < 2 ^ 18 → other < 2 ^ 18 → middle_of levels index ≡ Some middle → middle_of levels other ≡ Some middle → index ≡ other
  -- a table that is there has a cell under it
  pub top_used : IsSome levels.top → (i : ℕ) × (i < 512) × IsSome (entry_in levels.top i)
  pub upper_used : (i : ℕ) → IsSome (table_at levels.uppers i) → (index : ℕ) × (index < 2 ^ 18) × (index / 512 ≡ i) × IsSome (middle_of levels index)
  pub middle_used : (index : ℕ) → index < 2 ^ 18 → IsSome (middle_of levels index) → (cell : ℕ) × (cell < 2 ^ 27) × (cell / 512 ≡ index) × IsSome (slot_of levels cell)
  -- the count is that of the tables, and what the cells take
  pub counted : tables ≡ tables_in levels
  pub taken : tables ≡ tables_of (directory_cells levels)
  pub middles_taken : tables_at levels.middles ≡ middle_tables_of (directory_cells levels)

-- the same, with so many upper tables among them
pub record IsCounted (levels : Levels) (tables upper_tables : ℕ) : Type 0 where
  pub directory : IsDirectory levels tables
  pub upper_counted : upper_tables ≡ tables_at levels.uppers

-- the tables are those of a directory
abbrev pub AreDirectory : Levels → Type 0
AreDirectory levels = IsDirectory levels (tables_in levels)
