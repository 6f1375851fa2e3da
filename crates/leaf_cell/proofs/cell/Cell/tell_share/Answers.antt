use Rattle.std.proofs.Common.{◌≡◌, ◌∙◌, subst}
use Rattle.kernel_meaning.specs.Leaves.{share}
use Rattle.leaf_cell.specs.CellView.{held_of}
use Rattle.leaf_cell.proofs.HeldShare.{held_of-share, share-stands}
use Rattle.leaf_cell.proofs.cell.Cell.tell_share.Goals as goal

pub returns : goal.returns
returns c = λ account stands.
    subst (λ view. held_of view ≡ share view.leaves) c.self.view_is (held_of-share c.self.inside.parent c.self.inside.snapshot c.self.inside.frames c.self.invariant)
    ∙ share-stands c.args.self.now account stands
