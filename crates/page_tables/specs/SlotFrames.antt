-- The frames that cells in slots hold, and their shares.
use Rattle.std.specs.Prelude.{◌≡◌, ℕ, List, sum_by}
use Rattle.kernel_meaning.specs.Leaves.{share}
use Rattle.leaf_cell.specs.CellView.{held_of}
use Rattle.page_tables.specs.declared.slot.Slot.{Slot}

-- those that the cells in slots hold
abbrev pub frames_in : List Slot → ℕ
frames_in slots = sum_by (λ slot. held_of slot.cell) slots

-- the shares of the cells in slots
abbrev pub shares_in : List Slot → ℕ
shares_in slots = sum_by (λ slot. share slot.cell.leaves) slots

-- the cells in slots hold as many frames, with the same shares
pub record HoldAlike (old new : List Slot) : Type 0 where
  pub frames : frames_in new ≡ frames_in old
  pub shares : shares_in new ≡ shares_in old
