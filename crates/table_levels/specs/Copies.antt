-- Tables copied into other frames.
use Rattle.std.specs.Prelude.{◌≡◌, ℕ, List, length, replicate, Option, Some, None}
use Rattle.table_levels.specs.Walks.{Place, table_at, tables_at}

-- the bytes of a table, if the table is there
abbrev pub table_bytes_in : Place → Option (List ℕ)
table_bytes_in None = None
table_bytes_in (Some table) = Some table.bytes

-- places for so many tables of a level, all of them free
pub record HasRoom (places tables : List Place) (count : ℕ) : Type 0 where
  pub free : places ≡ replicate (length tables) None
  pub counted : count ≡ tables_at tables

-- at each place the same table, in frames of their own
pub record Copies (new old : List Place) : Type 0 where
  pub bytes : (i : ℕ) → table_bytes_in (table_at new i) ≡ table_bytes_in (table_at old i)
  pub places : length new ≡ length old
  pub counted : tables_at new ≡ tables_at old
