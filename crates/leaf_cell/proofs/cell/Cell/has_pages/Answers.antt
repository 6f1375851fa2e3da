use Rattle.std.proofs.Common.{◌∙◌, ap, subst, sym}
use Rattle.kernel_meaning.specs.Leaves.{has_pages}
use Rattle.leaf_cell.specs.CellView.{AreUnjoined}
use Rattle.leaf_cell.proofs.InsideFacts.{none-joined}
use Rattle.leaf_cell.proofs.TouchMade.{old-leaf}
use Rattle.leaf_cell.proofs.TouchActs.{meant-pages}
use Rattle.leaf_cell.proofs.cell.Cell.has_pages.Goals as goal

pub returns-clause-pages : goal.returns-clause-pages
returns-clause-pages c = c.is_some.ensures ∙ sym (old-leaf c.self.inside.parent c.self.inside.snapshot c.self.inside.frames c.self.invariant)
    ∙ ap (λ view. has_pages view.leaves.parent) c.self.view_is

pub returns-clause-account : goal.returns-clause-account
returns-clause-account c = λ account stands. returns-clause-pages c ∙ sym (meant-pages c.args.self.now account stands)

pub returns-clause-unjoined : goal.returns-clause-unjoined
returns-clause-unjoined c = λ none. subst (λ view. AreUnjoined view.leaves.kept) c.self.view_is
    (none-joined c.self.inside.parent c.self.inside.snapshot c.self.invariant.joined
    (sym (old-leaf c.self.inside.parent c.self.inside.snapshot c.self.inside.frames c.self.invariant)
    ∙ ap (λ view. has_pages view.leaves.parent) c.self.view_is ∙ none))
