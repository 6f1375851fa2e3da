-- When page tables stand for the two sides.
use Rattle.std.specs.Prelude.{◌≡◌, ◌≢◌, ◌⊎◌, ℕ, ◌+◌, ◌*◌, ◌<◌, ◌≤◌, ◌==◌, true, false, cond, List, [], ◌∷◌, length, map, count_by, Option, Some, None, IsSome, is_some, T}
use Rattle.std.specs.Ordering.{nat_cmp}
use Rattle.std.specs.Option.{option_and_then}
use Rattle.std.specs.List.{slice_get, list_any, AllByRecursion}
use Rattle.std.specs.FinMap.{get, find, is_sorted}
use Rattle.leaf_cell.specs.CellView.{AreUnjoined, new_view}
use Rattle.leaf_cell.specs.Standing.{StandsFor}
use Rattle.kernel_meaning.specs.Leaves.{has_pages, holds_number}
use Rattle.kernel_meaning.specs.FrameLaw.{Leaves, cell_at, is_used}
use Rattle.kernel_meaning.specs.CellAccount.{CellState, empty_state}
use Rattle.table_levels.specs.Cells.{CellMap}
use Rattle.page_tables.specs.declared.slot.Slot.{Slot}
use Rattle.page_tables.specs.declared.tables.SnapshotTables.{SnapshotTables}
use Rattle.page_tables.specs.declared.tables.PageTables.{PageTables}
use Rattle.page_tables.specs.Sides.{Sides}

-- the owner of a slot, if it has one
abbrev pub owner_at : List Slot → ℕ → Option ℕ
owner_at slots s = option_and_then (λ slot. slot.owner) (slice_get slots s)

-- what lies in a slot of this owner, where each cell is so
abbrev pub state_in : (ℕ → CellState) → Option ℕ → CellState
state_in cells None = empty_state
state_in cells (Some cell) = cells cell

-- a slot that nobody has
abbrev pub free_slot : Slot
free_slot = record { owner = None; cell = new_view }

-- leaves as the kernel keeps them: each cell once and used, of 512 pages, and no leaf joined
pub record AreKept (leaves : Leaves) : Type 0 where
  pub sorted : T (is_sorted nat_cmp leaves)
  pub in_use : AllByRecursion (λ entry. is_used entry.1 ≡ true) leaves
  pub sizes : (c : ℕ) → length (cell_at leaves c).parent ≡ 512
  pub unjoined : (c : ℕ) → AreUnjoined (cell_at leaves c).kept

-- each cell by itself is what the two sides have there
pub record AreCellsOf (sides : Sides) (cells : ℕ → CellState) : Type 0 where
  pub leaves : (c : ℕ) → (cells c).leaves ≡ cell_at sides.leaves c
  pub pages : (c p : ℕ) → p < 512 → get (cells c).pages p ≡ get sides.pages (c * 512 + p)
  pub snapshots : (n c p : ℕ) → p < 512 → option_and_then (λ pages. get pages p) (get (cells c).snapshots n)
      ≡ option_and_then (λ pages. get pages (c * 512 + p)) (get sides.snapshots n)

-- the slots hold the cells, each one cell
pub record AreSlotsOf (leaves : Leaves) (cells : ℕ → CellState) (made : ℕ) (slots : List Slot) : Type 0 where
  pub stands : (s : ℕ) (slot : Slot) → slice_get slots s ≡ Some slot → StandsFor slot.cell (record { state = state_in cells slot.owner; made = made })
  pub once : (s t c : ℕ) → owner_at slots s ≡ Some c → owner_at slots t ≡ Some c → s ≡ t
  pub used : (s c : ℕ) → owner_at slots s ≡ Some c → IsSome (find nat_cmp c leaves)
  pub owned : (c : ℕ) → IsSome (find nat_cmp c leaves) → (s : ℕ) × (owner_at slots s ≡ Some c)
  pub counted : count_by (λ slot. is_some slot.owner) slots ≡ length leaves

-- the slot of a cell in the directory of the snapshot that lives, if one does
abbrev pub slot_in : Option SnapshotTables → ℕ → Option ℕ
slot_in None c = None
slot_in (Some tables) c = get tables.directory c

-- the numbers of the snapshots that have a cell: at most the one that lives
abbrev pub numbers_at : Option SnapshotTables → ℕ → List ℕ
numbers_at None c = []
numbers_at (Some tables) c = cond (is_some (get tables.directory c)) (tables.number ∷ []) []

-- the number of the snapshot that lives, if one does
abbrev pub living_number : Option SnapshotTables → Option ℕ
living_number None = None
living_number (Some tables) = Some tables.number

-- the snapshot's directory has its cells, each with its slot
pub record IsSnapshotOf (snapshot : Option SnapshotTables) (slots : List Slot) (sides : Sides) : Type 0 where
  pub numbers : (c : ℕ) → map (λ it. it.number) (cell_at sides.leaves c).kept ≡ numbers_at snapshot c
  pub named : (c s : ℕ) → slot_in snapshot c ≡ Some s → owner_at slots s ≡ Some c
  pub live : (n : ℕ) → is_some (get sides.snapshots n) ≡ holds_number (living_number snapshot) n
  -- it has no page in other cells
  pub absent : (n c p : ℕ) → p < 512 → list_any (λ m. m == n) (numbers_at snapshot c) ≡ false → option_and_then (λ pages. get pages (c * 512 + p)) (get sides.snapshots n) ≡ None

-- a directory, a snapshot's and slots stand for the two sides
pub record StandFor (directory : CellMap) (snapshot : Option SnapshotTables) (slots : List Slot) (sides : Sides) : Type 0 where
  pub cells : ℕ → CellState
  pub kept : AreKept sides.leaves
  pub each : AreCellsOf sides cells
  pub slots_of : AreSlotsOf sides.leaves cells sides.made slots
  pub blank : (c : ℕ) → is_some (find nat_cmp c sides.leaves) ≡ false → cells c ≡ empty_state
  pub few : length slots ≤ 512
  -- the directory has the cells where the parent has a page, each with its slot
  pub parent : (c : ℕ) → is_some (get directory c) ≡ has_pages (cell_at sides.leaves c).parent
  pub named : (c s : ℕ) → get directory c ≡ Some s → owner_at slots s ≡ Some c
  pub snapshot_of : IsSnapshotOf snapshot slots sides

-- the tables stand for the two sides
abbrev pub TablesStandFor : PageTables → Sides → Type 0
TablesStandFor tables sides = StandFor tables.directory tables.snapshot tables.slots.items sides

-- how many slots there are
abbrev pub slot_count : PageTables → ℕ
slot_count tables = length tables.slots.items

-- some slot has this owner, the one that was found; or none has
abbrev pub IsSlotOf : List Slot → Option ℕ → Option ℕ → Type 0
IsSlotOf slots owner None = (s : ℕ) (slot : Slot) → slice_get slots s ≡ Some slot → slot.owner ≢ owner
IsSlotOf slots owner (Some s) = (slot : Slot) × ((slice_get slots s ≡ Some slot) × (slot.owner ≡ owner))

-- the slot that a cell has, or else a free one; or there is neither
abbrev pub IsSlotChosen : List Slot → ℕ → Option ℕ → Type 0
IsSlotChosen slots c None = IsSlotOf slots (Some c) None × IsSlotOf slots None None
IsSlotChosen slots c (Some s) = IsSlotOf slots (Some c) (Some s) ⊎ (IsSlotOf slots (Some c) None × IsSlotOf slots None (Some s))

-- a slot that the cell has, or a free one while the cell has none
abbrev pub IsSlotFor : Leaves → ℕ → Option ℕ → Type 0
IsSlotFor leaves c owner = (owner ≡ Some c) ⊎ ((owner ≡ None) × (is_some (find nat_cmp c leaves) ≡ false))

-- the tables have such a slot
pub record HasSlotFor (tables : PageTables) (leaves : Leaves) (c s : ℕ) : Type 0 where
  pub slot : Slot
  pub here : slice_get tables.slots.items s ≡ Some slot
  pub fits : IsSlotFor leaves c slot.owner
