-- A part of an act at a cell that a call made, as it goes among the other parts.
use Rattle.std.specs.Prelude.{◌≡◌, ℕ, List, None}
use Rattle.vm_base.specs.Deals.{Deal, LeadsAlong}
use Rattle.kernel_meaning.specs.Leaves.{CellLeaves}
use Rattle.kernel_meaning.specs.CellActs.{Course}
use Rattle.kernel_meaning.specs.CellAccount.{CellAccount}
use Rattle.leaf_cell.specs.CellView.{CellView}
use Rattle.leaf_cell.specs.Standing.{StandsFor}
use Rattle.leaf_cell.specs.Courses.{RunsAt}

-- a part of an act took an account that the cell stood for to one that it stands for: it runs so,
-- whatever was dealt before it and whatever answers come behind its own, and no refusal ended it
pub record TakesWithin (part : Course → Course) (old new : CellView) (deals : List Deal)
    (account : CellAccount) : Type 0 where
  pub leaves : CellLeaves
  pub made : ℕ
  pub stands : StandsFor new
      (record { state = record account.state { leaves = leaves }; made = made })
  pub runs : RunsAt part account.state.leaves account.made deals leaves made None

-- a call made a part of an act: its deals led from one state of the allot to the other, and it took
-- each account that the cell stood for through this part
pub record MadeWithin {State : Type 0} (goes : State → Deal → State → Type 0) (from to : State)
    (part : Course → Course) (old new : CellView) : Type 0 where
  pub deals : List Deal
  pub led : LeadsAlong goes from deals to
  pub follows : (account : CellAccount) → StandsFor old account
      → TakesWithin part old new deals account
