-- What a table that is put on the way to a cell changes.
use Rattle.std.specs.Prelude.{◌≡◌, ◌≢◌, ℕ, ◌+◌, ◌/◌, ◌<◌, ◌^◌, true, not, List, [], ◌∷◌, length, Option, Some, IsSome, is_some, None}
use Rattle.std.specs.FinMap.{insert, remove, keys}
use Rattle.table_levels.specs.declared.frames.Wanted.{Wanted}
use Rattle.table_levels.specs.Requests.{missing_tables}
use Rattle.std.specs.Option.{option_or}
use Rattle.table_levels.specs.Walks.{Place, Levels, entry_in, table_at, tables_at, middle_at, middle_of, directory_cells, tables_in, NamesUppers, AreNamed, AreDirectory}

-- one entry of a table was set, and the others stay
pub record SetsIn (old new : Place) (i : ℕ) (number : Option ℕ) : Type 0 where
  pub here : entry_in new i ≡ number
  pub others : (j : ℕ) → j < 512 → j ≢ i → entry_in new j ≡ entry_in old j

-- a middle table has its place named, and each other keeps its own
pub record AddsMiddle (top : Place) (uppers : List Place) (new_top : Place) (new_uppers : List Place) (index middle : ℕ) : Type 0 where
  pub here : middle_at new_top new_uppers index ≡ Some middle
  pub others : (other : ℕ) → other < 2 ^ 18 → other ≢ index → middle_at new_top new_uppers other ≡ middle_at top uppers other
  pub names : NamesUppers new_top new_uppers
  pub named : AreNamed new_top new_uppers
  pub kept : (i : ℕ) → i ≢ index / 512 → table_at new_uppers i ≡ table_at uppers i

-- one table more, where there is a fresh one
abbrev pub AddsTable : List Place → List Place → Place → Type 0
AddsTable old new fresh = tables_at new ≡ tables_at old + tables_at (fresh ∷ [])

-- the same of the upper tables, and of these with the top table
pub record CountsMore (top new fresh upper : Place) (olds news : List Place) : Type 0 where
  pub all : tables_at (new ∷ news) ≡ tables_at (top ∷ olds) + tables_at (fresh ∷ upper ∷ [])
  pub uppers : AddsTable olds news upper

-- a slot is named in a middle table, which may be fresh, and the others stay
pub record PutsMiddle (old new : List Place) (place : ℕ) (fresh : Place) (i slot : ℕ) : Type 0 where
  pub there : IsSome (table_at new place)
  pub here : entry_in (table_at new place) i ≡ Some slot
  pub rest : (j : ℕ) → j < 512 → j ≢ i → entry_in (table_at new place) j ≡ entry_in (option_or fresh (table_at old place)) j
  pub others : (other : ℕ) → other ≢ place → table_at new other ≡ table_at old other

-- which tables are missing above a middle table that is missing
abbrev pub wanted_at : Place → ℕ → Wanted
wanted_at top upper = record { top = not (is_some top); upper = not (is_some (entry_in top upper)); middle = true }

-- which tables are missing on the way to a cell
abbrev pub wanted_for : Levels → ℕ → Wanted
wanted_for levels cell = record {
  top = not (is_some levels.top);
  upper = not (is_some (entry_in levels.top (cell / 512 / 512)));
  middle = not (is_some (middle_of levels (cell / 512)));
}

-- a cell more, with the tables that were missing
pub record LinksCell (old new : Levels) (cell slot : ℕ) : Type 0 where
  pub cells : directory_cells new ≡ insert (directory_cells old) cell slot
  pub directory : AreDirectory new
  pub counted :
      tables_in new ≡ tables_in old + length (missing_tables (keys (directory_cells old)) cell)

-- an entry of the table is left, if the table is there
abbrev pub IsInUse : Place → Type 0
IsInUse place = IsSome place → (i : ℕ) × (i < 512) × IsSome (entry_in place i)

-- each table that is there has an entry
abbrev pub AreInUse : List Place → Type 0
AreInUse places = (i : ℕ) → IsInUse (table_at places i)

-- a middle table is named no more, and each other keeps its place; of the tables above it those stay that have an entry
pub record DropsMiddle (top : Place) (uppers : List Place) (new_top : Place) (new_uppers : List Place) (index : ℕ) : Type 0 where
  pub here : middle_at new_top new_uppers index ≡ None
  pub others : (other : ℕ) → other < 2 ^ 18 → other ≢ index → middle_at new_top new_uppers other ≡ middle_at top uppers other
  pub names : NamesUppers new_top new_uppers
  pub named : AreNamed new_top new_uppers
  pub kept : (i : ℕ) → i ≢ index / 512 → table_at new_uppers i ≡ table_at uppers i
  pub upper_used : IsInUse (table_at new_uppers (index / 512))
  pub top_used : IsInUse new_top

-- a cell less, without the tables that it alone needed
pub record UnlinksCell (old new : Levels) (cell unused : ℕ) : Type 0 where
  pub cells : directory_cells new ≡ remove (directory_cells old) cell
  pub directory : AreDirectory new
  pub counted : tables_in new + unused ≡ tables_in old
