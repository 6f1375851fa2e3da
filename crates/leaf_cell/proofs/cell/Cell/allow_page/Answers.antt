use Rattle.std.proofs.Common.{◌∙◌, sym, ap, subst}
use Rattle.std.specs.Prelude.{true, slice_set}
use Rattle.leaf_cell.specs.CellView.{CellView}
use Rattle.leaf_cell.specs.Inside.{AreInside, table_writable, own_places, cell_value}
use Rattle.leaf_cell.specs.Permissions.{is_unshared}
use Rattle.leaf_cell.proofs.AllowedPages.{inside-allowed, one-writable, view-allowed}
use Rattle.leaf_cell.proofs.cell.Cell.allow_page.Goals as goal

pub invariant_of-self : goal.invariant_of-self
invariant_of-self c = subst (λ parent. AreInside parent c.self.inside.snapshot c.self.inside.frames) (sym c.allow_range.ensures)
    (inside-allowed true c.args.page 1 c.self.inside.parent c.self.inside.snapshot c.self.inside.frames c.self.invariant)

pub returns : goal.returns
returns c =
    ap (λ parent. cell_value parent c.self.inside.snapshot c.self.inside.frames) c.allow_range.ensures
    ∙ view-allowed true (own_places c.self.inside.snapshot) c.args.page 1 c.self.inside.parent c.self.inside.snapshot c.self.inside.frames
    (slice_set (table_writable c.self.inside.parent) c.args.page true)
    (one-writable c.self.inside.parent c.self.inside.snapshot c.self.inside.frames c.self.invariant c.args.page c.requires.page
    (ap (λ view. is_unshared view.leaves c.args.page) c.self.view_is ∙ c.requires.unshared))
    ∙ ap {A = CellView} (λ view. record view { writable = slice_set view.writable c.args.page true }) c.self.view_is
