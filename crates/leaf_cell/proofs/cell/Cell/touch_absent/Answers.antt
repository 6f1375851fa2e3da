use Rattle.std.proofs.Common.{◌∙◌, ◌+◌, sym, subst, ap}
use Rattle.std.specs.Prelude.{OnOk}
use Rattle.kernel_meaning.specs.Leaves.{version_at}
use Rattle.kernel_meaning.specs.CellAccount.{Touch}
use Rattle.leaf_cell.specs.CellView.{AreUnjoined, held_of}
use Rattle.leaf_cell.specs.Inside.{cell_value}
use Rattle.leaf_cell.specs.Standing.{MadeAct}
use Rattle.leaf_cell.specs.Touching.{IsTouched}
use Rattle.leaf_cell.specs.States.{refused_count}
use Rattle.leaf_cell.proofs.TouchMade.{made-added, inside-added, held-added}
use Rattle.leaf_cell.proofs.Touched.{touched-added}
use Rattle.leaf_cell.proofs.cell.Cell.touch_absent.Goals as goal

pub invariant_of-self : goal.invariant_of-self
invariant_of-self g c = inside-added c.self.inside.parent c.self.inside.snapshot c.self.inside.frames c.self.invariant c.args.page c.requires.page
    c.add_page.new.parent c.add_page.new.frames c.add_page.result (ap (λ view. version_at view.leaves.parent c.args.page) c.self.view_is ∙ c.requires.absent) c.add_page.ensures.put c.add_page.ensures.kept c.add_page.ensures.writable

pub returns-clause-made : goal.returns-clause-made
returns-clause-made g c =
    subst (λ old. MadeAct g.A.Allot.goes (g.A.Allot.state c.args.allot.now) (g.A.Allot.state c.add_page.new.allot) (Touch c.args.page) old
    (cell_value c.add_page.new.parent c.self.inside.snapshot c.add_page.new.frames) (refused_count c.add_page.result)) c.self.view_is
    (made-added g.A.Allot.goes (g.A.Allot.state c.args.allot.now) (g.A.Allot.state c.add_page.new.allot) c.self.inside.snapshot c.self.inside.frames c.args.page c.requires.page
    c.self.inside.parent c.self.invariant c.add_page.new.parent c.add_page.new.frames c.add_page.result (ap (λ view. version_at view.leaves.parent c.args.page) c.self.view_is ∙ c.requires.absent)
    (subst (λ view. AreUnjoined view.leaves.kept) (sym c.self.view_is) c.requires.unjoined) c.add_page.ensures.led c.add_page.ensures.put c.add_page.ensures.kept)

pub returns-clause-held : goal.returns-clause-held
returns-clause-held g c =
    ap (λ view. g.A.Allot.out (g.A.Allot.state c.add_page.new.allot) + held_of view) (sym c.self.view_is)
    ∙ held-added c.self.inside.parent c.self.inside.snapshot c.self.inside.frames c.self.invariant c.args.page c.requires.page
    c.add_page.new.parent c.add_page.new.frames c.add_page.result (g.A.Allot.out (g.A.Allot.state c.args.allot.now)) (g.A.Allot.out (g.A.Allot.state c.add_page.new.allot))
    (ap (λ view. version_at view.leaves.parent c.args.page) c.self.view_is ∙ c.requires.absent) (subst (λ view. AreUnjoined view.leaves.kept) (sym c.self.view_is) c.requires.unjoined)
    c.add_page.ensures.put c.add_page.ensures.kept c.add_page.ensures.taken c.add_page.ensures.returned

pub returns-clause-touched : goal.returns-clause-touched
returns-clause-touched g c =
    subst (λ old. OnOk c.add_page.result (IsTouched c.args.page (g.A.Allot.refused (g.A.Allot.state c.args.allot.now)) (g.A.Allot.refused (g.A.Allot.state c.add_page.new.allot)) old
    (cell_value c.add_page.new.parent c.self.inside.snapshot c.add_page.new.frames))) c.self.view_is
    (touched-added c.self.inside.parent c.self.inside.snapshot c.self.inside.frames c.self.invariant c.args.page c.requires.page
    c.add_page.new.parent c.add_page.new.frames c.add_page.result (g.A.Allot.refused (g.A.Allot.state c.args.allot.now)) (g.A.Allot.refused (g.A.Allot.state c.add_page.new.allot))
    (ap (λ view. version_at view.leaves.parent c.args.page) c.self.view_is ∙ c.requires.absent) (subst (λ view. AreUnjoined view.leaves.kept) (sym c.self.view_is) c.requires.unjoined)
    c.add_page.ensures.put c.add_page.ensures.unrefused)
