use Rattle.std.proofs.Common.{◌∙◌, sym, ap, subst, None, rules}
use Rattle.kernel_meaning.specs.CellAccount.{Protect}
use Rattle.leaf_cell.specs.CellView.{CellView}
use Rattle.leaf_cell.specs.Standing.{MadeAct}
use Rattle.leaf_cell.specs.Inside.{AreInside, own_places, cell_value}
use Rattle.leaf_cell.specs.Permissions.{allowed}
use Rattle.leaf_cell.proofs.AllowedPages.{inside-allowed, permission-writable, view-allowed}
use Rattle.leaf_cell.proofs.ProtectMade.{made-protected}
use Rattle.leaf_cell.proofs.WritableViews.{made-writable}
use Rattle.leaf_cell.proofs.cell.Cell.protect.Goals as goal

pub invariant_of-self : goal.invariant_of-self
invariant_of-self g c = subst (λ parent. AreInside parent c.self.inside.snapshot c.self.inside.frames) (sym c.allow_range.ensures)
    (inside-allowed c.eq-is_writable.result c.args.first c.args.pages c.self.inside.parent c.self.inside.snapshot c.self.inside.frames c.self.invariant)

pub returns-clause-cell : goal.returns-clause-cell
returns-clause-cell g c =
    let old : CellView = cell_value c.self.inside.parent c.self.inside.snapshot c.self.inside.frames in
    ap (λ parent. cell_value parent c.self.inside.snapshot c.self.inside.frames) c.allow_range.ensures
    ∙ view-allowed c.eq-is_writable.result (own_places c.self.inside.snapshot) c.args.first c.args.pages c.self.inside.parent c.self.inside.snapshot c.self.inside.frames
    (allowed c.args.perm c.args.first c.args.pages old)
    (permission-writable c.eq-is_writable.result c.args.perm (search rules) c.args.first c.args.pages c.self.inside.parent c.self.inside.snapshot c.self.inside.frames)
    ∙ ap {A = CellView} (λ view. record view { writable = allowed c.args.perm c.args.first c.args.pages view }) c.self.view_is

pub returns-clause-made : goal.returns-clause-made
returns-clause-made g c =
    subst (λ view. MadeAct g.A.Allot.goes (g.A.Allot.state c.args.allot.now) (g.A.Allot.state c.args.allot.now) (Protect c.args.first c.args.pages c.args.perm) c.args.self.now view None)
    (sym (returns-clause-cell g c))
    (made-writable g.A.Allot.goes (g.A.Allot.state c.args.allot.now) (g.A.Allot.state c.args.allot.now) (Protect c.args.first c.args.pages c.args.perm) c.args.self.now c.args.self.now None
    (allowed c.args.perm c.args.first c.args.pages c.args.self.now)
    (made-protected c.args.self.now c.args.first c.args.pages c.args.perm c.requires.unjoined g.A.Allot.goes (g.A.Allot.state c.args.allot.now)))
