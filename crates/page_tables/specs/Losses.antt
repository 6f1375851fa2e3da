-- The cells that a snapshot has lost, as the slots tell them.
use Rattle.std.specs.Prelude.{◌≡◌, ℕ, ◌<◌, ◌≤◌, nat_lt, if◌then◌else◌, List, Option, Some, None}
use Rattle.std.specs.Option.{option_map, option_and_then}
use Rattle.std.specs.List.{slice_get}
use Rattle.kernel_meaning.specs.Leaves.{kept_by, loss_at}
use Rattle.page_tables.specs.declared.loss.LostCell.{LostCell}
use Rattle.page_tables.specs.declared.slot.Slot.{Slot}

-- what snapshot n has lost in a slot: nothing where nobody has the slot
abbrev pub lost_here : Slot → ℕ → Option LostCell
lost_here slot n =
    option_and_then (λ cell. option_map (λ at. record { cell = cell; at = at }) (option_and_then (λ it. loss_at it.leaf) (kept_by slot.cell.leaves.kept n))) slot.owner

-- the lower of two cells, where there are two: the first of two that are one
abbrev pub lower_of : Option LostCell → Option LostCell → Option LostCell
lower_of None other = other
lower_of (Some lost) None = Some lost
lower_of (Some lost) (Some found) = Some (if nat_lt found.cell lost.cell then found else lost)

-- it is a cell that snapshot n has lost, and none in the first k slots that it has lost is lower; it is none where none of them is lost
pub record IsLowestLost (slots : List Slot) (n k : ℕ) (lowest : Option LostCell) : Type 0 where
  pub lost : (lost : LostCell) → lowest ≡ Some lost → (s : ℕ) × ((slot : Slot) × ((slice_get slots s ≡ Some slot) × (lost_here slot n ≡ Some lost)))
  pub least : (s : ℕ) (slot : Slot) (found : LostCell) → s < k → slice_get slots s ≡ Some slot → lost_here slot n ≡ Some found
      → (lost : LostCell) × ((lowest ≡ Some lost) × (lost.cell ≤ found.cell))
