-- What the loss of a cell leaves.
use Rattle.std.specs.Prelude.{◌≡◌, ℕ, ◌<◌, false, if◌then◌else◌, List, map, Option, Some}
use Rattle.vm_base.specs.Deals.{Deal}
use Rattle.vm_base.specs.Frames.{FrameView}
use Rattle.kernel_meaning.specs.Leaves.{Versions, no_versions, Lost, Kept, CellLeaves, is_lost, kept_by}
use Rattle.kernel_meaning.specs.CellActs.{is_number}
use Rattle.leaf_cell.specs.declared.snapshot.Snapshot.{Snapshot}
use Rattle.leaf_cell.specs.declared.snapshot.SnapshotLeaf.TheVariants as code
use Rattle.leaf_cell.specs.CellView.{CellView, parent_page, kept_page}
use Rattle.leaf_cell.specs.Touching.{IsAlone}
use Rattle.leaf_cell.specs.Inside.{snapshot_places, leaf_value}
use Rattle.leaf_cell.specs.Releasing.{IsLeafReleased, own_if}

-- the snapshot as it is once it has lost the cell
abbrev pub lost_at : ℕ → Snapshot → Snapshot
lost_at at snapshot = record { number = snapshot.number; mode = snapshot.mode; leaf = code.Lost at }

-- the snapshot that was there has lost the cell at this count, and its leaf was given back
pub record IsLoss {State : Type 0} (goes : State → Deal → State → Type 0) (from to : State) (at : ℕ) (places : Versions)
    (old : Option Snapshot) (frames : List (Option FrameView)) (new : Option Snapshot) (left : List (Option FrameView)) : Type 0 where
  pub it : Snapshot
  pub was : old ≡ Some it
  pub becomes : new ≡ Some (lost_at at it)
  pub released : IsLeafReleased goes from to (snapshot_places no_versions it.leaf) places (own_if (leaf_value it.leaf)) frames left

-- a snapshot as contracts see it once it has lost the cell: it names no page any more
abbrev pub without_leaf : ℕ → Kept → Kept
without_leaf at kept = record { number = kept.number; mode = kept.mode; versions = no_versions; leaf = Lost at }

-- snapshot n has lost the cell at this count
abbrev pub with_loss : ℕ → ℕ → CellLeaves → CellLeaves
with_loss n at cell = record cell { kept = map (λ it. if is_number n it then without_leaf at it else it) cell.kept }

-- snapshot n has lost the cell at this count, and no page of another side has changed
pub record IsLost (n at : ℕ) (old new : CellView) : Type 0 where
  pub leaves : new.leaves ≡ with_loss n at old.leaves
  pub reads : (p : ℕ) → p < 512 → parent_page new p ≡ parent_page old p
  pub still : (p : ℕ) → IsAlone old.leaves p → IsAlone new.leaves p
  pub others : (m p : ℕ) (kept : Kept) → kept_by new.leaves.kept m ≡ Some kept → is_lost kept.leaf ≡ false → p < 512 → kept_page new kept p ≡ kept_page old kept p
