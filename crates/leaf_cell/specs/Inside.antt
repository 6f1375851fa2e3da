-- What lies in a cell: its tables and its frames, and where they are.
use Rattle.std.specs.Prelude.{◌≡◌, ℕ, ◌+◌, ◌<◌, ◌⊎◌, Bool, true, false, not, ◌&&◌, nat_eq, List, [], ◌∷◌, length, Option, Some, None, is_some, IsSome, slice_index_or}
use Rattle.std.specs.Option.{option_eq}
use Rattle.vm_base.specs.Frames.{FrameView}
use Rattle.kernel_meaning.specs.Leaves.{Versions, no_versions, version_at, has_pages, Leaf, Own, Joined, Lost, is_joined, Kept}
use Rattle.leaf_cell.specs.declared.snapshot.Snapshot.{Snapshot}
use Rattle.leaf_cell.specs.declared.snapshot.SnapshotLeaf.{SnapshotLeaf}
use Rattle.leaf_cell.specs.declared.snapshot.SnapshotLeaf.TheVariants as code
use Rattle.leaf_cell.specs.Places.{TableView, no_table}
use Rattle.leaf_cell.specs.Writable.{writable_at}
use Rattle.leaf_cell.specs.CellView.{CellView}

-- a table, or one without a page where there is none
abbrev pub table_of : Option TableView → TableView
table_of None = no_table
table_of (Some table) = table

-- the places of a table, where there is one
abbrev pub table_places : Option TableView → Versions
table_places table = (table_of table).places

-- which pages may be written to, as a table tells where there is one
abbrev pub table_writable : Option TableView → List Bool
table_writable table = (table_of table).writable

-- the leaf that a snapshot has
abbrev pub leaf_value : SnapshotLeaf → Leaf
leaf_value (code.Own table) = Own
leaf_value code.Joined = Joined
leaf_value (code.Lost at) = Lost at

-- the places that a snapshot names, where the parent has these
abbrev pub snapshot_places : Versions → SnapshotLeaf → Versions
snapshot_places parent (code.Own table) = table.places
snapshot_places parent code.Joined = parent
snapshot_places parent (code.Lost at) = no_versions

-- a snapshot as contracts see it
abbrev pub kept_value : Versions → Snapshot → Kept
kept_value parent snapshot = record {
  number = snapshot.number;
  mode = snapshot.mode;
  versions = snapshot_places parent snapshot.leaf;
  leaf = leaf_value snapshot.leaf;
}

-- the snapshots of a cell with at most one
abbrev pub kept_values : Versions → Option Snapshot → List Kept
kept_values parent None = []
kept_values parent (Some snapshot) = kept_value parent snapshot ∷ []

-- a cell as contracts see it
abbrev pub cell_value : Option TableView → Option Snapshot → List (Option FrameView) → CellView
cell_value parent snapshot frames = record {
  leaves = record { parent = table_places parent; kept = kept_values (table_places parent) snapshot };
  frames = frames;
  writable = table_writable parent;
}

-- the places of the snapshot's own table
abbrev pub own_places : Option Snapshot → Versions
own_places None = no_versions
own_places (Some snapshot) = snapshot_places no_versions snapshot.leaf

-- the snapshot's table is the parent's
abbrev pub is_joined_here : Option Snapshot → Bool
is_joined_here None = false
is_joined_here (Some snapshot) = is_joined (leaf_value snapshot.leaf)

-- a page has one of two places of its own
abbrev pub IsPlaceOf : ℕ → ℕ → Type 0
IsPlaceOf page place = (place ≡ page) ⊎ (place ≡ page + 512)

-- each place that a table names is one of its page's own, and has a frame
abbrev pub AreAtHome : List (Option FrameView) → Versions → Type 0
AreAtHome frames places = (page place : ℕ) → page < 512 → version_at places page ≡ Some place
    → IsPlaceOf page place × IsSome (slice_index_or frames place None)

-- a page is present, and another table does not name its frame
abbrev pub is_apart : Versions → Versions → ℕ → Bool
is_apart other places page = is_some (version_at places page) && not (option_eq nat_eq (version_at other page) (version_at places page))

-- each page that may be written to is present, and the other table does not name its frame
pub record AreWritable (table : Option TableView) (other : Versions) : Type 0 where
  pub size : length (table_writable table) ≡ 512
  pub apart : (page : ℕ) → writable_at (table_writable table) page ≡ true → is_apart other (table_places table) page ≡ true

-- tables and frames of a cell: each frame is named by a table, at the page whose place it has, the parent has a table where it has a page, and a page that may be written to has its frame alone
pub record AreInside (parent : Option TableView) (snapshot : Option Snapshot) (frames : List (Option FrameView)) : Type 0 where
  pub room : length frames ≡ 1024
  pub parent_home : AreAtHome frames (table_places parent)
  pub own_home : AreAtHome frames (own_places snapshot)
  pub named : (page place : ℕ) → page < 512 → IsPlaceOf page place → IsSome (slice_index_or frames place None)
      → (version_at (table_places parent) page ≡ Some place) ⊎ (version_at (own_places snapshot) page ≡ Some place)
  pub used : (table : TableView) → parent ≡ Some table → has_pages table.places ≡ true
  pub parent_size : length (table_places parent) ≡ 512
  pub own_size : length (own_places snapshot) ≡ 512
  pub writable : AreWritable parent (own_places snapshot)
  pub joined : is_joined_here snapshot ≡ true → is_some parent ≡ true
