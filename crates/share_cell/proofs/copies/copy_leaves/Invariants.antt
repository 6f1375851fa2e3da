-- Some of the leaves were copied, those with the least numbers first.
use Rattle.std.proofs.Common.{◌≡◌, ◌+◌, ◌≤◌, ◌++◌, List, [], ℕ, length, None}
use Rattle.vm_base.specs.Deals.{Deal}
use Rattle.kernel_meaning.specs.CellActs.{leaves_copied}
use Rattle.leaf_cell.specs.CellView.{CellView, held_of}
use Rattle.share_cell.specs.declared.joining.Joining.{Joining}
use Rattle.share_cell.specs.Parts.{MadeWithin}
use Rattle.share_cell.specs.Copies.{is_joined_by}
use Rattle.share_cell.proofs.JoinedNumbers.{numbers}
use Rattle.share_cell.proofs.SomeLeaves.{AreSome, IsCounted, KeepsPages}
use Rattle.share_cell.proofs.copies.copy_leaves.Given as goal

-- so many of the leaves were copied, and what that left
pub record CopiedSome {State : Type 0} (goes : State → Deal → State → Type 0) (from to : State) (before after : ℕ) (joining : Joining)
    (old new : CellView) : Type 0 where
  pub done : List ℕ
  pub left : numbers (is_joined_by joining) old.leaves.kept ≡ done ++ numbers (is_joined_by joining) new.leaves.kept
  pub made : MadeWithin goes from to (leaves_copied done) old new
  pub snapshots : AreSome (is_joined_by joining) before after old.leaves.kept new.leaves.kept
  pub pages : KeepsPages old new
  pub counted : IsCounted before after
  pub started : done ≡ [] → (new ≡ old) × (to ≡ from)

pub record Standing {State : Type 0} (goes : State → Deal → State → Type 0) (out refused : State → ℕ) (from to : State) (joining : Joining)
    (old new : CellView) : Type 0 where
  pub held : held_of new ≤ out to
  pub balance : out to + held_of old ≡ out from + held_of new
  pub some : CopiedSome goes from to (refused from) (refused to) joining old new

abbrev pub invariant-loop-number : goal.invariant-loop-number
invariant-loop-number g l = (g.A.Allot.grants l.allot ≡ None)
    × Standing g.A.Allot.goes g.A.Allot.out g.A.Allot.refused (g.A.Allot.state l.initial.allot) (g.A.Allot.state l.allot) l.joining
    l.initial.cell l.cell

abbrev pub decreases-loop-number : goal.decreases-loop-number
decreases-loop-number g l = length (numbers (is_joined_by l.joining) l.cell.leaves.kept)
