use Rattle.std.proofs.Common.{◌≡◌, ◌≤◌, ◌+◌, ◌∙◌, sym, ap, subst, length, arith}
use Rattle.std.specs.Prelude.{false}
use Rattle.kernel_meaning.specs.Leaves.{has_present}
use Rattle.leaf_cell.specs.Writable.{without_writable}
use Rattle.leaf_cell.proofs.ClearMade.{made-nothing, nothing-cleared, nothing-writable}
use Rattle.leaf_cell.proofs.cell.Cell.clear.Goals as goal

pub returns-else-covers_in-clause-made : goal.returns-else-covers_in-clause-made
returns-else-covers_in-clause-made g c =
    let none : has_present c.args.self.now.leaves.parent c.args.first c.args.pages ≡ false =
    ap (λ view. has_present view.leaves.parent c.args.first c.args.pages) (sym c.self.view_is) ∙ sym c.covers_in.ensures ∙ c.if-covers_in.false in
    made-nothing g.A.Allot.goes (g.A.Allot.state c.args.allot.now) c.args.self.now c.args.first c.args.pages none

pub returns-else-covers_in-clause-cleared : goal.returns-else-covers_in-clause-cleared
returns-else-covers_in-clause-cleared g c =
    let none : has_present c.args.self.now.leaves.parent c.args.first c.args.pages ≡ false =
    ap (λ view. has_present view.leaves.parent c.args.first c.args.pages) (sym c.self.view_is) ∙ sym c.covers_in.ensures ∙ c.if-covers_in.false in
    let size : length c.args.self.now.leaves.parent ≡ 512 = ap (λ view. length view.leaves.parent) (sym c.self.view_is) ∙ c.self.invariant.parent_size in
    let fits : c.args.first + c.args.pages ≤ length c.args.self.now.leaves.parent = omega (arith, size, c.requires.range) in
    nothing-cleared c.args.self.now c.args.first c.args.pages none fits

pub returns-else-covers_in-clause-writable : goal.returns-else-covers_in-clause-writable
returns-else-covers_in-clause-writable g c =
    subst (λ view. view.writable ≡ without_writable c.args.first c.args.pages view.writable) c.self.view_is
    (nothing-writable c.self.inside.parent c.self.inside.snapshot c.self.inside.frames c.self.invariant c.args.first c.args.pages (sym c.covers_in.ensures ∙ c.if-covers_in.false))
