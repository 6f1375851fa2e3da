-- A finite map from cells to slots.
use Rattle.std.specs.Prelude.{ℕ, zero, suc, ◌/◌, ◌^◌, nat_le, map, length, Option, Some, None}
use Rattle.std.specs.Ordering.{nat_cmp}
use Rattle.std.specs.FinMap.{FinMap, empty, insert, entries, keys}
use Rattle.std.specs.List.{find}
use Rattle.vm_base.specs.Places.{directory_frames, distinct}

-- each cell that is there, with its slot
abbrev pub CellMap : Type 0
CellMap = FinMap nat_cmp ℕ

-- the cell is there with this slot, or nothing changes
abbrev pub with_cell : Option ℕ → ℕ → CellMap → CellMap
with_cell None cell map = map
with_cell (Some slot) cell map = insert map cell slot

-- the cells below a number that a look-up finds, with their slots
unfoldable pub cells_below : ℕ → (ℕ → Option ℕ) → CellMap
cells_below zero look = empty
cells_below (suc n) look = with_cell (look n) n (cells_below n look)

-- the least cell that is there and not below a cell, with its slot
abbrev pub first_from : CellMap → ℕ → Option (ℕ × ℕ)
first_from map cell = find (λ e. nat_le cell e.0) (entries map)

-- the tables of the directory of a map's cells
abbrev pub tables_of : CellMap → ℕ
tables_of map = directory_frames (keys map)

-- the middle tables among them
abbrev pub middle_tables_of : CellMap → ℕ
middle_tables_of cells = length (distinct (map (λ c. c / 2 ^ 9) (keys cells)))
