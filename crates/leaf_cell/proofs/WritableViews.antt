-- A cell of which other pages may be written to stands for the same accounts.
use Rattle.std.proofs.Common.{ℕ, List, Option}
use Rattle.std.specs.Prelude.{Bool}
use Rattle.vm_base.specs.Deals.{Deal}
use Rattle.kernel_meaning.specs.CellActs.{Course}
use Rattle.kernel_meaning.specs.CellAccount.{CellAct, CellAccount, AllowsAct}
use Rattle.leaf_cell.specs.CellView.{CellView}
use Rattle.leaf_cell.specs.Standing.{StandsFor, TakesAccount, MadeAct, TakesPart}
use Rattle.leaf_cell.specs.Touching.{IsTouched}
use Rattle.leaf_cell.proofs.WholeCells.{whole-among}

pub stands-writable : (view : CellView) (writable : List Bool) (account : CellAccount) → StandsFor view account → StandsFor (record view { writable = writable }) account
stands-writable view writable account stands = record {
  name = stands.name;
  leaves = stands.leaves;
  made = stands.made;
  pages = stands.pages;
  snapshots = stands.snapshots;
  whole = whole-among view view.leaves writable stands.whole (λ page place live. live);
}

-- so an act takes them to such a cell too
pub made-writable : {State : Type 0} (goes : State → Deal → State → Type 0) (from to : State) (act : CellAct) (old new : CellView) (refused : Option ℕ) (writable : List Bool)
    → MadeAct goes from to act old new refused → MadeAct goes from to act old (record new { writable = writable }) refused
made-writable goes from to act old new refused writable made = record {
  deals = made.deals;
  led = made.led;
  follows = λ account stands.
      let takes : TakesAccount act old new made.deals refused account = made.follows account stands in
      record { allowed = takes.allowed; stands = stands-writable new writable _ takes.stands; asked = takes.asked; ended = takes.ended };
}

-- and from such a cell
pub takes-from : (act : CellAct) (old other new : CellView) (deals : List Deal) (refused : Option ℕ) (account : CellAccount) → (AllowsAct old.leaves act → AllowsAct other.leaves act) → TakesAccount act other new deals refused account → TakesAccount act old new deals refused account
takes-from act old other new deals refused account same takes = record { allowed = λ it. takes.allowed (same it); stands = takes.stands; asked = takes.asked; ended = takes.ended }

pub takes_part-from : (part : Course → Course) (old other new : CellView) (deals : List Deal) (account : CellAccount) → TakesPart part other new deals account → TakesPart part old new deals account
takes_part-from part old other new deals account takes = record { stands = takes.stands; asked = takes.asked; ended = takes.ended }

-- and a touch leaves the same of its pages
pub touched-writable : (page before after : ℕ) (old new : CellView) (writable : List Bool) → IsTouched page before after old new → IsTouched page before after old (record new { writable = writable })
touched-writable page before after old new writable touched = record {
  alone = touched.alone;
  still = touched.still;
  present = touched.present;
  reads = touched.reads;
  counted = touched.counted;
  snapshots = touched.snapshots;
  unjoined = touched.unjoined;
}
