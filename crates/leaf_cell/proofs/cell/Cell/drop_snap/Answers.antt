use Rattle.std.proofs.Common.{◌≡◌, ◌∙◌, sym, subst, ap, Some, None}
use Rattle.std.specs.Prelude.{is_some}
use Rattle.kernel_meaning.specs.Leaves.{no_versions, kept_by}
use Rattle.kernel_meaning.specs.CellAccount.{Drop as DropAct}
use Rattle.leaf_cell.specs.Inside.{AreInside, leaf_value, kept_values, cell_value}
use Rattle.leaf_cell.specs.Releasing.{own_if}
use Rattle.leaf_cell.specs.Standing.{MadeAct}
use Rattle.leaf_cell.proofs.InsideFacts.{parent_at_home, own_at_home}
use Rattle.leaf_cell.proofs.DropMade.{inside-dropped, made-dropped, made-unmet, without-other, number-of}
use Rattle.leaf_cell.proofs.cell.Cell.drop_snap.Goals as goal

pub release_leaf-requires-clause-home : goal.release_leaf-requires-clause-home
release_leaf-requires-clause-home g c = own_at_home c.self.inside.parent (Some c.in-Some.snapshot) c.self.inside.frames
    (subst (λ it. AreInside c.self.inside.parent it c.self.inside.frames) (sym c.take.ensures.value ∙ c.in-Some.is) c.self.invariant)

pub release_leaf-requires-clause-others : goal.release_leaf-requires-clause-others
release_leaf-requires-clause-others g c = parent_at_home c.self.inside.parent c.self.inside.snapshot c.self.inside.frames c.self.invariant

pub invariant_of-self : goal.invariant_of-self
invariant_of-self g c =
    let inside : AreInside c.self.inside.parent (Some c.in-Some.snapshot) c.self.inside.frames = subst (λ it. AreInside c.self.inside.parent it c.self.inside.frames) (sym c.take.ensures.value ∙ c.in-Some.is) c.self.invariant in
    subst (λ it. AreInside c.self.inside.parent it c.release_leaf.new.frames) (sym c.take.ensures.after)
    (inside-dropped g.A.Allot.goes (g.A.Allot.state c.args.allot.now) (g.A.Allot.state c.release_leaf.new.allot) c.self.inside.parent c.in-Some.snapshot c.self.inside.frames c.release_leaf.new.frames
    (own_if (leaf_value c.in-Some.snapshot.leaf)) inside c.release_leaf.ensures.released)

pub returns-in-Some-clause-made : goal.returns-in-Some-clause-made
returns-in-Some-clause-made g c =
    let there : c.self.inside.snapshot ≡ Some c.in-Some.snapshot = sym c.take.ensures.value ∙ c.in-Some.is in
    let inside : AreInside c.self.inside.parent (Some c.in-Some.snapshot) c.self.inside.frames = subst (λ it. AreInside c.self.inside.parent it c.self.inside.frames) there c.self.invariant in
    let number : c.in-Some.snapshot.number ≡ c.args.number = number-of c.in-Some.snapshot c.args.number
    (ap (λ it. is_some (kept_by (kept_values no_versions it) c.args.number)) (sym there) ∙ sym c.is_snapshot.ensures ∙ c.if-is_snapshot.true) in
    subst (λ view. MadeAct g.A.Allot.goes (g.A.Allot.state c.args.allot.now) (g.A.Allot.state c.release_leaf.new.allot) (DropAct c.args.number) view
    (cell_value c.self.inside.parent c.take.new.self c.release_leaf.new.frames) None)
    (ap (λ it. cell_value c.self.inside.parent it c.self.inside.frames) (sym there) ∙ c.self.view_is)
    (subst (λ it. MadeAct g.A.Allot.goes (g.A.Allot.state c.args.allot.now) (g.A.Allot.state c.release_leaf.new.allot) (DropAct c.args.number)
    (cell_value c.self.inside.parent (Some c.in-Some.snapshot) c.self.inside.frames) (cell_value c.self.inside.parent it c.release_leaf.new.frames) None) (sym c.take.ensures.after)
    (made-dropped g.A.Allot.goes (g.A.Allot.state c.args.allot.now) (g.A.Allot.state c.release_leaf.new.allot) c.self.inside.parent c.in-Some.snapshot c.self.inside.frames c.release_leaf.new.frames c.args.number
    inside number c.release_leaf.ensures.released))

pub returns-else-is_snapshot-clause-made : goal.returns-else-is_snapshot-clause-made
returns-else-is_snapshot-clause-made g c =
    subst (λ view. MadeAct g.A.Allot.goes (g.A.Allot.state c.args.allot.now) (g.A.Allot.state c.args.allot.now) (DropAct c.args.number) view view None) c.self.view_is
    (made-unmet g.A.Allot.goes (g.A.Allot.state c.args.allot.now) (cell_value c.self.inside.parent c.self.inside.snapshot c.self.inside.frames) c.args.number
    (without-other c.self.inside.parent c.self.inside.snapshot c.self.inside.frames c.args.number (sym c.is_snapshot.ensures ∙ c.if-is_snapshot.false)))
