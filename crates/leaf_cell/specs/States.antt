-- What is read of a cell's snapshots.
use Rattle.std.specs.Prelude.{ℕ, if◌then◌else◌, List, Option, Some, None, Result, Ok, Err}
use Rattle.std.specs.Option.{option_map}
use Rattle.std.specs.List.{slice_get}
use Rattle.vm_base.specs.declared.fork_mode.Mode.{Mode}
use Rattle.vm_base.specs.declared.refusals.Refused.{Refused as RefusedRequest}
use Rattle.kernel_meaning.specs.Leaves.{Leaf, Own, Joined, Lost, Kept, kept_by, is_async}
pub use Rattle.kernel_meaning.specs.Leaves.{has_leaf_where, has_leaf, has_joined}
use Rattle.leaf_cell.specs.declared.snapshot.LeafState.{LeafState}
use Rattle.leaf_cell.specs.declared.snapshot.LeafState.TheVariants as state
use Rattle.leaf_cell.specs.declared.snapshot.Snapshot.{Snapshot}
use Rattle.leaf_cell.specs.declared.snapshot.SnapshotLeaf.TheVariants as code
use Rattle.leaf_cell.specs.Places.{TableView}
use Rattle.leaf_cell.specs.CellView.{CellView, kept_page, part_of}

-- the state of a leaf, joined by an async fork or by another
abbrev pub leaf_state : Mode → Leaf → LeafState
leaf_state mode Own = state.Own
leaf_state mode Joined = if is_async mode then state.Marked else state.Shared
leaf_state mode (Lost at) = state.Lost at

-- the state of what a snapshot has at a cell, where it has the cell
abbrev pub state_of : Option Kept → LeafState
state_of None = state.Absent
state_of (Some kept) = leaf_state kept.mode kept.leaf

-- the number of the nth snapshot, counted from 0
abbrev pub nth_number : List Kept → ℕ → Option ℕ
nth_number kept nth = option_map (λ it. it.number) (slice_get kept nth)

-- what a leaf gives of these bytes: nothing where it is lost
abbrev pub unless_lost : Leaf → List ℕ → Result (List ℕ) ℕ
unless_lost Own bytes = Ok bytes
unless_lost Joined bytes = Ok bytes
unless_lost (Lost at) bytes = Err at

-- n bytes of a page of what a snapshot has at a cell, where it has the cell
abbrev pub kept_part : CellView → Option Kept → ℕ → ℕ → ℕ → Result (List ℕ) ℕ
kept_part view None page at n = Ok (part_of None at n)
kept_part view (Some kept) page at n = unless_lost kept.leaf (part_of (kept_page view kept page) at n)

-- n bytes of a page of a snapshot, or the count at which it lost the cell
abbrev pub snapshot_part : CellView → ℕ → ℕ → ℕ → ℕ → Result (List ℕ) ℕ
snapshot_part view number page at n = kept_part view (kept_by view.leaves.kept number) page at n

-- the count of a refused request, where one was
abbrev pub refused_count : Result (Unit {0}) RefusedRequest → Option ℕ
refused_count (Ok done) = None
refused_count (Err refused) = Some refused.at

-- a snapshot whose leaf table is this one, its own
abbrev pub with_own : TableView → Snapshot → Snapshot
with_own table snapshot = record { number = snapshot.number; mode = snapshot.mode; leaf = code.Own table }
