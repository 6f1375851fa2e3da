use Rattle.std.proofs.Common.{◌≡◌, ℕ, ap, subst, ◌∙◌}
use Rattle.std.specs.Prelude.{is_some, true}
use Rattle.leaf_cell.specs.CellView.{parent_page}
use Rattle.leaf_cell.specs.Permissions.{is_unshared}
use Rattle.leaf_cell.specs.Writable.{writable_at}
use Rattle.leaf_cell.proofs.AllowedPages.{unshared-apart, alone-unshared}
use Rattle.leaf_cell.proofs.InsideFacts.{page-filled}
use Rattle.kernel_meaning.specs.Leaves.{has_present, version_at}
use Rattle.leaf_cell.proofs.SameReads.{present-stands}
use Rattle.leaf_cell.proofs.cell.Cell.covers.Goals as goal

pub returns-clause-account : goal.returns-clause-account
returns-clause-account c = λ account stands. c.covers_in.ensures
    ∙ ap (λ view. has_present view.leaves.parent c.args.first c.args.pages) c.self.view_is
    ∙ present-stands c.args.self.now account stands c.args.first c.args.pages

pub returns-clause-filled : goal.returns-clause-filled
returns-clause-filled c = subst (λ view. (p : ℕ) → is_some (parent_page view p) ≡ is_some (version_at view.leaves.parent p)) c.self.view_is
    (λ p. page-filled c.self.inside.parent c.self.inside.snapshot c.self.inside.frames c.self.invariant p)

pub returns-clause-unshared : goal.returns-clause-unshared
returns-clause-unshared c = subst (λ view. (p : ℕ) → writable_at view.writable p ≡ true → is_unshared view.leaves p ≡ true) c.self.view_is
    (λ p may. unshared-apart c.self.inside.parent c.self.inside.snapshot c.self.inside.frames p ∙ c.self.invariant.writable.apart p may)

pub returns-clause-alone : goal.returns-clause-alone
returns-clause-alone c = λ unjoined p may. alone-unshared c.args.self.now.leaves p unjoined (returns-clause-unshared c p may)
