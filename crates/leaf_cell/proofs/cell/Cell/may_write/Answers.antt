use Rattle.std.proofs.Common.{◌≡◌, ap, subst, sym, ◌∙◌}
use Rattle.std.specs.Prelude.{true}
use Rattle.leaf_cell.specs.Permissions.{is_unshared}
use Rattle.leaf_cell.specs.Writable.{writable_at}
use Rattle.leaf_cell.proofs.AllowedPages.{unshared-apart, alone-unshared}
use Rattle.leaf_cell.proofs.cell.Cell.may_write.Goals as goal

pub returns-clause-writable : goal.returns-clause-writable
returns-clause-writable c = c.may_write_in.ensures ∙ ap (λ view. writable_at view.writable c.args.page) c.self.view_is

pub returns-clause-alone : goal.returns-clause-alone
returns-clause-alone c = λ unjoined may. alone-unshared c.args.self.now.leaves c.args.page unjoined
    (subst (λ view. is_unshared view.leaves c.args.page ≡ true) c.self.view_is
    (unshared-apart c.self.inside.parent c.self.inside.snapshot c.self.inside.frames c.args.page
    ∙ c.self.invariant.writable.apart c.args.page (sym c.may_write_in.ensures ∙ may)))
