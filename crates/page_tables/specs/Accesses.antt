-- What a store needs, and what a read of a snapshot gives.
use Rattle.std.specs.Prelude.{◌≡◌, ℕ, ◌%◌, ◌<◌, List, Option, Some, None, Result, OnOk, IfErr}
use Rattle.std.specs.Option.{option_and_then}
use Rattle.std.specs.FinMap.{get}
use Rattle.vm_base.specs.declared.refusals.Lost.{Lost}
use Rattle.vm_base.specs.Places.{cell_of, cells_of_range}
use Rattle.vm_base.specs.FlatMemory.{PageMap, bytes_at}
use Rattle.vm_base.specs.TwoSides.{first_loss}
use Rattle.kernel_meaning.specs.Leaves.{kept_by, loss_at}
use Rattle.kernel_meaning.specs.FrameLaw.{Leaves, cell_at, losses_of}
use Rattle.leaf_cell.specs.Touching.{IsAlone}
use Rattle.page_tables.specs.declared.loss.LostCell.{LostCell}
use Rattle.page_tables.specs.Sides.{Sides}

-- the page may be stored to: the parent has it, and no leaf of a snapshot names its version
abbrev pub IsPageReady : Leaves → ℕ → Type 0
IsPageReady leaves page = IsAlone (cell_at leaves (cell_of page)) (page % 512)

-- the count at which snapshot n lost the lowest cell of a range of bytes that it has lost, where it has lost one
abbrev pub lost_in_range : Leaves → ℕ → ℕ → ℕ → Option ℕ
lost_in_range leaves n address size = first_loss (losses_of leaves) n (cells_of_range address size)

-- bytes of snapshot n were read: it has lost no cell of the range, and these are its bytes; or it has lost one, the lowest of them at this count
pub record IsSnapshotRead (sides : Sides) (n address size : ℕ) (result : Result (Unit {0}) Lost) (bytes : List ℕ) : Type 0 where
  pub unlost : OnOk result (lost_in_range sides.leaves n address size ≡ None)
  pub read : OnOk result ((pages : PageMap) → get sides.snapshots n ≡ Some pages → bytes ≡ bytes_at pages address size)
  pub lost : IfErr result (λ lost. lost_in_range sides.leaves n address size ≡ Some lost.at)

-- the count at which snapshot n lost a cell, where it has lost it
abbrev pub loss_of : Leaves → ℕ → ℕ → Option ℕ
loss_of leaves n c = option_and_then (λ kept. loss_at kept.leaf) (kept_by (cell_at leaves c).kept n)

-- the lowest cell that snapshot n has lost, with its count; or it has lost none
abbrev pub IsLowestLoss : Leaves → ℕ → Option LostCell → Type 0
IsLowestLoss leaves n None = (c : ℕ) → loss_of leaves n c ≡ None
IsLowestLoss leaves n (Some lost) = (loss_of leaves n lost.cell ≡ Some lost.at) × ((d : ℕ) → d < lost.cell → loss_of leaves n d ≡ None)
