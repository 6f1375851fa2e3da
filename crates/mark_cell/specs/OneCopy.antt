-- What a copy that a snapshot makes at a cell tells and leaves.
use Rattle.std.specs.Prelude.{◌≡◌, ℕ, List, Option, Some, None, Result, Ok, Err}
use Rattle.vm_base.specs.Counts.{next_count}
use Rattle.vm_base.specs.Deals.{Deal, LeadsAlong, SpendsOne}
use Rattle.vm_base.specs.declared.refusals.Refused.{Refused}
use Rattle.kernel_meaning.specs.Leaves.{Own}
use Rattle.kernel_meaning.specs.Requests.{opening_requests, answers_of}
use Rattle.kernel_meaning.specs.CellActs.{Course, CopyEnd, opening_course, copy_end, with_leaf_where, is_number}
use Rattle.kernel_meaning.specs.CellAccount.{CellAccount, Copy}
use Rattle.kernel_meaning.specs.CellActs.{Copied as CopyMade, NothingToCopy, FoundLost, CopyRefused}
use Rattle.leaf_cell.specs.CellView.{CellView}
use Rattle.leaf_cell.specs.Standing.{StandsFor, TakesAccount}
use Rattle.leaf_cell.specs.Writable.{none_writable}
use Rattle.mark_cell.specs.declared.marks.Copied.{Copied}
use Rattle.mark_cell.specs.declared.marks.Copied.TheVariants as copied

-- the answer of a copy, as the definitions tell it
abbrev pub end_told : Result Copied Refused → CopyEnd
end_told (Ok copied.Copied) = CopyMade
end_told (Ok copied.Nothing) = NothingToCopy
end_told (Ok (copied.Lost at)) = FoundLost at
end_told (Err refused) = CopyRefused refused.at

-- the count at which the copy was refused, where it was
abbrev pub copy_refusal : Result Copied Refused → Option ℕ
copy_refusal (Ok done) = None
copy_refusal (Err refused) = Some refused.at

-- the cell and the count of refused requests behind it: where the copy was made the leaf is the
-- snapshot's own and no page may be stored to as it is; else the cell is as it was, and the count
-- rose exactly where the frame was refused
abbrev pub CopyLeaves : ℕ → Result Copied Refused → ℕ → ℕ → CellView → CellView → Type 0
CopyLeaves number (Ok copied.Copied) before after old new = (after ≡ before)
    × (new ≡ record old {
      leaves = with_leaf_where (is_number number) Own old.leaves;
      writable = none_writable;
    })
CopyLeaves number (Ok copied.Nothing) before after old new = (after ≡ before) × (new ≡ old)
CopyLeaves number (Ok (copied.Lost at)) before after old new = (after ≡ before) × (new ≡ old)
CopyLeaves number (Err refused) before after old new =
    (after ≡ next_count before) × (refused.at ≡ after) × (new ≡ old)

-- one of the frames that may still be granted was, where the copy was made and their number is
-- told; else as many may be as before
abbrev pub Spends : Result Copied Refused → Option ℕ → Option ℕ → Type 0
Spends (Ok copied.Copied) before after = SpendsOne before after
Spends (Ok copied.Nothing) before after = after ≡ before
Spends (Ok (copied.Lost at)) before after = after ≡ before
Spends (Err refused) before after = after ≡ before

-- a cell of an account as an act begins, with the answers of these deals to come
abbrev pub begun_with : CellAccount → List Deal → Course
begun_with account deals =
    opening_course account.state.leaves (opening_requests account.made (answers_of deals))

-- a call made a copy: its deals led from one state of the allot to the other; each account that the
-- cell stood for allows the copy where the snapshot has the cell, and is taken to the one behind
-- it; and what is told is what the definitions tell
pub record MadeCopy {State : Type 0} (goes : State → Deal → State → Type 0) (from to : State)
    (number : ℕ) (old new : CellView) (result : Result Copied Refused) : Type 0 where
  pub deals : List Deal
  pub led : LeadsAlong goes from deals to
  pub follows : (account : CellAccount) → StandsFor old account
      → TakesAccount (Copy number) old new deals (copy_refusal result) account
  pub told : (account : CellAccount) → StandsFor old account
      → copy_end number (begun_with account deals) ≡ end_told result
