-- Cells in which each version that lives has its frame.
use Rattle.std.proofs.Common.{◌≡◌, ℕ, ◌<◌, List, Option, Some, None, refl, sym, ◌∙◌, ap, inl, inr}
use Rattle.std.specs.Prelude.{Bool, false}
use Rattle.std.proofs.lemmas.Bool.{false≢true}
use Rattle.vm_base.specs.Frames.{FrameView}
use Rattle.kernel_meaning.specs.Leaves.{no_versions, version_at, is_lost, CellLeaves}
use Rattle.leaf_cell.specs.declared.snapshot.Snapshot.{Snapshot}
use Rattle.leaf_cell.specs.declared.snapshot.SnapshotLeaf.{SnapshotLeaf}
use Rattle.leaf_cell.specs.declared.snapshot.SnapshotLeaf.TheVariants as code
use Rattle.leaf_cell.specs.Places.{TableView}
use Rattle.leaf_cell.specs.CellView.{CellView}
use Rattle.leaf_cell.specs.Inside.{AreInside, table_places, snapshot_places, leaf_value, cell_value}
use Rattle.leaf_cell.specs.Renaming.{IsLive}
use Rattle.leaf_cell.specs.Standing.{IsWhole}
use Rattle.leaf_cell.proofs.InsideFacts.{are_filled, parent_at_home, own_at_home}

-- the order of tables and frames that a cell keeps makes it whole
pub whole-inside : (parent : Option TableView) (snapshot : Option Snapshot) (frames : List (Option FrameView)) → AreInside parent snapshot frames
    → IsWhole (cell_value parent snapshot frames)
whole-inside parent snapshot frames inside = record { below = below snapshot inside; filled = are_filled parent snapshot frames inside }
  where
    leaf-below : (it : Snapshot) → AreInside parent (Some it) frames → (leaf : SnapshotLeaf) → it.leaf ≡ leaf → (page place : ℕ)
        → is_lost (leaf_value leaf) ≡ false → version_at (snapshot_places (table_places parent) leaf) page ≡ Some place → page < 512
    leaf-below it inside (code.Own table) is page place unlost there =
        (own_at_home parent (Some it) frames inside page place (ap (λ leaf. version_at (snapshot_places no_versions leaf) page) is ∙ there)).0
    leaf-below it inside code.Joined is page place unlost there = (parent_at_home parent (Some it) frames inside page place there).0
    leaf-below it inside (code.Lost at) is page place unlost there = absurd (false≢true (sym unlost))

    below : (snapshot : Option Snapshot) → AreInside parent snapshot frames → (page place : ℕ)
        → IsLive (cell_value parent snapshot frames).leaves page place → page < 512
    below snapshot inside page place (inl there) = (parent_at_home parent snapshot frames inside page place there).0
    below None inside page place (inr named) = absurd named
    below (Some it) inside page place (inr (inl named)) = leaf-below it inside it.leaf refl page place named.0 named.1
    below (Some it) inside page place (inr (inr named)) = absurd named

-- a cell with the same frames is whole, where nothing lives that did not
pub whole-among : (view : CellView) (leaves : CellLeaves) (writable : List Bool) → IsWhole view
    → ((page place : ℕ) → IsLive leaves page place → IsLive view.leaves page place) → IsWhole (record view { leaves = leaves; writable = writable })
whole-among view leaves writable whole lived = record {
  below = λ page place live. whole.below page place (lived page place live);
  filled = λ page place live. whole.filled page place (lived page place live);
}
