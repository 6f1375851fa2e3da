use Rattle.std.proofs.Common.{◌∙◌, ℕ, ap, subst, [], Some, None}
use Rattle.kernel_meaning.specs.Leaves.{has_pages}
use Rattle.kernel_meaning.specs.CellAccount.{CellAccount, Fork}
use Rattle.leaf_cell.specs.CellView.{CellView}
use Rattle.leaf_cell.specs.declared.snapshot.SnapshotLeaf.TheVariants as code
use Rattle.leaf_cell.specs.Inside.{cell_value}
use Rattle.leaf_cell.specs.Standing.{StandsFor, TakesAccount}
use Rattle.leaf_cell.proofs.ForkMade.{inside-lazy, fork-lazy}
use Rattle.leaf_cell.proofs.cell.Cell.set_lazy.Goals as goal

pub invariant_of-self : goal.invariant_of-self
invariant_of-self c = inside-lazy c.self.inside.parent c.self.inside.snapshot c.self.inside.frames c.args.number c.args.mode c.self.invariant
    (ap (λ view. view.leaves.kept) c.self.view_is ∙ c.requires.alone)
    (ap (λ view. has_pages view.leaves.parent) c.self.view_is ∙ c.requires.present)

pub returns-clause-forked : goal.returns-clause-forked
returns-clause-forked c =
    let new : CellView = cell_value c.self.inside.parent (Some (record { number = c.args.number; mode = c.args.mode; leaf = code.Joined })) c.self.inside.frames in
    subst (λ old. (seat : ℕ) (account : CellAccount) → StandsFor old account → TakesAccount (Fork c.args.number c.args.mode seat) old new [] None account) c.self.view_is
    (λ seat account stands. fork-lazy (cell_value c.self.inside.parent c.self.inside.snapshot c.self.inside.frames) account stands c.args.number
    (ap (λ view. view.leaves.kept) c.self.view_is ∙ c.requires.alone) c.args.mode c.requires.lazy seat)
