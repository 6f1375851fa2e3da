-- When a cell stands for an account, and what a call over an allot tells.
use Rattle.std.specs.Prelude.{◌≡◌, ℕ, ◌<◌, false, List, Option, Some, None, IsSome, slice_index_or, Result, OnOk, IfErr}
use Rattle.std.specs.FinMap.{get}
use Rattle.std.specs.Option.{option_and_then}
use Rattle.vm_base.specs.declared.refusals.Lost.{Lost as Loss}
use Rattle.vm_base.specs.Deals.{Deal, LeadsAlong}
use Rattle.kernel_meaning.specs.Requests.{answers_of, opening_requests}
use Rattle.kernel_meaning.specs.Leaves.{Kept, is_lost, kept_by}
use Rattle.kernel_meaning.specs.CellActs.{Course, opening_course}
use Rattle.kernel_meaning.specs.CellAccount.{CellAct, CellAccount, AllowsAct, course_of, state_after}
use Rattle.leaf_cell.specs.declared.snapshot.LeafState.TheVariants as state
use Rattle.leaf_cell.specs.CellView.{CellView, parent_page, kept_page, part_of}
use Rattle.leaf_cell.specs.Renaming.{IsLive, IsRenaming, AreMade}
use Rattle.leaf_cell.specs.States.{state_of}

-- each version that lives in a cell is that of one of its pages, and has a frame
pub record IsWhole (view : CellView) : Type 0 where
  pub below : (page place : ℕ) → IsLive view.leaves page place → page < 512
  pub filled : (page place : ℕ) → IsLive view.leaves page place → IsSome (slice_index_or view.frames place None)

-- the cell has the leaves of the account under other names, and the bytes of both sides, but for snapshots that have lost it
pub record StandsFor (view : CellView) (account : CellAccount) : Type 0 where
  pub name : ℕ → ℕ → ℕ
  pub leaves : IsRenaming name view.leaves account.state.leaves
  pub made : AreMade account.made account.state.leaves
  pub pages : (page : ℕ) → page < 512 → parent_page view page ≡ get account.state.pages page
  pub snapshots : (n page : ℕ) (kept : Kept) → kept_by view.leaves.kept n ≡ Some kept → is_lost kept.leaf ≡ false → page < 512
      → kept_page view kept page ≡ option_and_then (λ pages. get pages page) (get account.state.snapshots n)
  -- each version that lives there has its frame
  pub whole : IsWhole view

-- a page of a snapshot as an account has it
abbrev pub snapshot_page : CellAccount → ℕ → ℕ → Option (List ℕ)
snapshot_page account n page = option_and_then (λ pages. get pages page) (get account.state.snapshots n)

-- bytes of a snapshot were read, which has the cell: those of the account, or it has lost the cell there too
pub record IsSnapRead (account : CellAccount) (n page at size : ℕ) (result : Result (Unit {0}) Loss) (bytes : List ℕ) : Type 0 where
  pub ok : IsSome (kept_by account.state.leaves.kept n) → OnOk result (bytes ≡ part_of (snapshot_page account n page) at size)
  pub lost : IfErr result (λ lost. state_of (kept_by account.state.leaves.kept n) ≡ state.Lost lost.at)

-- what an act on an account ran, behind its requests and with these deals' answers
abbrev pub course_behind : CellAct → CellAccount → List Deal → Course
course_behind act account deals = course_of act account.state account.made (answers_of deals)

-- the account after that
abbrev pub account_behind_act : CellAct → CellAccount → List Deal → CellAccount
account_behind_act act account deals = record {
  state = state_after act (course_behind act account deals) account.state;
  made = (course_behind act account deals).requests.made;
}

-- an act took an account that the cell stood for to the one that it stands for: the account's leaves allow it where the cell's do, it made these deals, and was refused at this count, or not
pub record TakesAccount (act : CellAct) (old new : CellView) (deals : List Deal) (refused : Option ℕ) (account : CellAccount) : Type 0 where
  pub allowed : AllowsAct old.leaves act → AllowsAct account.state.leaves act
  pub stands : StandsFor new (account_behind_act act account deals)
  pub asked : (course_behind act account deals).requests.deals ≡ deals
  pub ended : (course_behind act account deals).refused ≡ refused

-- a call made an act: its deals led from one state of the allot to the other, and it took each account that the cell stood for to the account with this act
pub record MadeAct {State : Type 0} (goes : State → Deal → State → Type 0) (from to : State) (act : CellAct) (old new : CellView) (refused : Option ℕ) : Type 0 where
  pub deals : List Deal
  pub led : LeadsAlong goes from deals to
  pub follows : (account : CellAccount) → StandsFor old account → TakesAccount act old new deals refused account

-- what a part of an act ran, behind the requests of an account and with these deals' answers
abbrev pub part_behind : (Course → Course) → CellAccount → List Deal → Course
part_behind part account deals = part (opening_course account.state.leaves (opening_requests account.made (answers_of deals)))

-- the account in the midst of an act: leaves and requests as the course has them, and the pages of both sides as before
abbrev pub account_amid : CellAccount → Course → CellAccount
account_amid account course = record { state = record account.state { leaves = course.cell }; made = course.requests.made }

-- a part of an act took an account that the cell stood for to the one that it stands for: it made these deals, and no refusal ended it
pub record TakesPart (part : Course → Course) (old new : CellView) (deals : List Deal) (account : CellAccount) : Type 0 where
  pub stands : StandsFor new (account_amid account (part_behind part account deals))
  pub asked : (part_behind part account deals).requests.deals ≡ deals
  pub ended : (part_behind part account deals).refused ≡ None

-- a call made a part of an act: its deals led from one state of the allot to the other, and it took each account that the cell stood for through this part
pub record MadePart {State : Type 0} (goes : State → Deal → State → Type 0) (from to : State) (part : Course → Course) (old new : CellView) : Type 0 where
  pub deals : List Deal
  pub led : LeadsAlong goes from deals to
  pub follows : (account : CellAccount) → StandsFor old account → TakesPart part old new deals account
