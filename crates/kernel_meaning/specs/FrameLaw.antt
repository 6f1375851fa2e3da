-- The frame law: how many frames are out of the pool.
use Rattle.std.specs.Prelude.{ℕ, ◌+◌, ◌-◌, ◌==◌, Bool, not, ◌||◌, if◌then◌else◌, nat_lt, List, [], ◌∷◌, map, length, filter, flat_map, sum_by, unwrap_or, is_some, Option, Some, None}
use Rattle.std.specs.Ordering.{nat_cmp}
use Rattle.std.specs.FinMap.{find, put}
use Rattle.vm_base.specs.Places.{distinct, directory_frames}
use Rattle.vm_base.specs.TwoSides.{Loss}
use Rattle.kernel_meaning.specs.Leaves.{CellLeaves, unused_cell, has_pages, kept_by, own_leaves, named_pairs, loss_at}

-- a finite map of the cells that the parent or a snapshot has: each number of a cell with what there is, in rising order of the numbers
abbrev pub Leaves : Type 0
Leaves = List (ℕ × CellLeaves)

-- what there is at a cell
abbrev pub cell_at : Leaves → ℕ → CellLeaves
cell_at leaves number = unwrap_or (find nat_cmp number leaves) unused_cell

-- somebody has the cell: the parent a page there, or a snapshot the cell
abbrev pub is_used : CellLeaves → Bool
is_used cell = has_pages cell.parent || not (length cell.kept == 0)

-- a cell becomes what it is after an act there, and is in the map no longer where nobody has it any more
abbrev pub with_cell : Leaves → ℕ → CellLeaves → Leaves
with_cell leaves number cell =
    if is_used cell then put nat_cmp number cell leaves else filter (λ entry. not (entry.0 == number)) leaves

-- the cells that pass a test, in rising order
abbrev pub cells_where : (CellLeaves → Bool) → Leaves → List ℕ
cells_where test leaves = map (λ entry. entry.0) (filter (λ entry. test entry.1) leaves)

-- the parent's cells: those where it has a page
abbrev pub parent_cells : Leaves → List ℕ
parent_cells leaves = cells_where (λ cell. has_pages cell.parent) leaves

-- the cells of snapshot n: those that the parent had at its fork
abbrev pub snapshot_cells : Leaves → ℕ → List ℕ
snapshot_cells leaves n = cells_where (λ cell. is_some (kept_by cell.kept n)) leaves

-- the numbers of the snapshots that have a cell
abbrev pub numbers_of : Leaves → List ℕ
numbers_of leaves = distinct (flat_map (λ entry. map (λ kept. kept.number) entry.1.kept) leaves)

-- the directory of the parent's cells, and one leaf for each of them
abbrev pub parent_tables : Leaves → ℕ
parent_tables leaves = directory_frames (parent_cells leaves) + length (parent_cells leaves)

-- for each snapshot the directory of its cells
abbrev pub snapshot_tables : Leaves → ℕ
snapshot_tables leaves = sum_by (λ n. directory_frames (snapshot_cells leaves n)) (numbers_of leaves)

-- for each snapshot one leaf for each cell where it is its own
abbrev pub snapshot_leaves : Leaves → ℕ
snapshot_leaves leaves = sum_by (λ entry. own_leaves entry.1) leaves

-- the distinct pairs of page and version that the parent or a leaf that is not lost names, cell by cell, since a page lies in one cell
abbrev pub page_frames : Leaves → ℕ
page_frames leaves = sum_by (λ entry. length (named_pairs entry.1)) leaves

-- the frame law: the frames out of the pool
abbrev pub held_frames : Leaves → ℕ
held_frames leaves = parent_tables leaves + snapshot_tables leaves + snapshot_leaves leaves + page_frames leaves

-- a loss, where there is one
abbrev pub loss_list : ℕ → ℕ → Option ℕ → List Loss
loss_list cell n None = []
loss_list cell n (Some at) = record { snapshot = n; cell = cell; at = at } ∷ []

-- the cells that snapshots have lost, in rising order of the cells and of the numbers
abbrev pub losses_of : Leaves → List Loss
losses_of leaves =
    flat_map (λ entry. flat_map (λ kept. loss_list entry.0 kept.number (loss_at kept.leaf)) entry.1.kept) leaves

-- the cells that use a slot: those that the parent or a snapshot has
abbrev pub used_cells : Leaves → List ℕ
used_cells leaves = map (λ entry. entry.0) leaves

-- of these cells, those without a slot
abbrev pub cells_without_slot : Leaves → List ℕ → List ℕ
cells_without_slot leaves cells = filter (λ cell. not (is_some (find nat_cmp cell leaves))) cells

-- these cells hold more without a slot than there are free slots
abbrev pub lacks_slots : ℕ → Leaves → List ℕ → Bool
lacks_slots slots leaves cells =
    nat_lt (slots - length (used_cells leaves)) (length (cells_without_slot leaves cells))
