use Rattle.std.proofs.Common.{◌≡◌, ◌∙◌, ◌+◌, ap}
use Rattle.std.specs.Prelude.{count_by, is_some}
use Rattle.kernel_meaning.specs.Leaves.{share}
use Rattle.leaf_cell.proofs.HeldShare.{held-share, share-stands}
use Rattle.leaf_cell.proofs.cell.Cell.held.Goals as goal

pub returns-clause-share : goal.returns-clause-share
returns-clause-share c = λ account stands.
    let frames : c.count.result ≡ count_by is_some c.self.inside.frames = c.count.ensures in
    (λ i. c.count_table.ensures i + c.count_own.ensures i + frames i)
    ∙ held-share c.self.inside.parent c.self.inside.snapshot c.self.inside.frames c.self.invariant
    ∙ ap (λ view. share view.leaves) c.self.view_is ∙ share-stands c.args.self.now account stands
