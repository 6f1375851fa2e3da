use Rattle.std.proofs.Common.{◌≡◌, ◌∙◌, sym, ap, subst, Some}
use Rattle.std.specs.Prelude.{is_some}
use Rattle.kernel_meaning.specs.Requests.{No}
use Rattle.kernel_meaning.specs.Leaves.{no_versions, kept_by}
use Rattle.kernel_meaning.specs.CellActs.{leaf_copy_answered}
use Rattle.leaf_cell.specs.declared.snapshot.Snapshot.{Snapshot}
use Rattle.leaf_cell.specs.Inside.{AreInside, kept_values, cell_value}
use Rattle.leaf_cell.specs.Losing.{IsLost}
use Rattle.leaf_cell.specs.Standing.{MadePart}
use Rattle.leaf_cell.proofs.DropMade.{number-of}
use Rattle.leaf_cell.proofs.LossMade.{inside-lost}
use Rattle.leaf_cell.proofs.LeafLost.{is-lost, made-leaf_lost}
use Rattle.leaf_cell.proofs.cell.Cell.lose.Goals as goal

pub invariant_of-self : goal.invariant_of-self
invariant_of-self g c =
    subst (λ it. AreInside c.self.inside.parent it c.lose_leaf.new.frames) (sym c.lose_leaf.ensures.lost.becomes)
    (inside-lost g.A.Allot.goes (g.A.Allot.state c.args.allot.now) (g.A.Allot.state c.lose_leaf.new.allot) c.self.inside.parent c.lose_leaf.ensures.lost.it c.self.inside.frames c.lose_leaf.new.frames c.args.at
    (subst (λ it. AreInside c.self.inside.parent it c.self.inside.frames) c.lose_leaf.ensures.lost.was c.self.invariant) c.lose_leaf.ensures.lost.released)

pub returns-then-is_snapshot-clause-made : goal.returns-then-is_snapshot-clause-made
returns-then-is_snapshot-clause-made g c =
    let it : Snapshot = c.lose_leaf.ensures.lost.it in
    let was : cell_value c.self.inside.parent (Some it) c.self.inside.frames ≡ c.args.self.now =
    ap (λ s. cell_value c.self.inside.parent s c.self.inside.frames) (sym c.lose_leaf.ensures.lost.was) ∙ c.self.view_is in
    subst (λ old. MadePart g.A.Allot.goes (g.A.Allot.state c.args.allot.now) (g.A.Allot.state c.lose_leaf.new.allot) (leaf_copy_answered c.args.number (No c.args.at)) old
    (cell_value c.self.inside.parent c.lose_leaf.new.snapshot c.lose_leaf.new.frames)) was
    (subst (λ s. MadePart g.A.Allot.goes (g.A.Allot.state c.args.allot.now) (g.A.Allot.state c.lose_leaf.new.allot) (leaf_copy_answered c.args.number (No c.args.at))
    (cell_value c.self.inside.parent (Some it) c.self.inside.frames) (cell_value c.self.inside.parent s c.lose_leaf.new.frames)) (sym c.lose_leaf.ensures.lost.becomes)
    (made-leaf_lost g.A.Allot.goes (g.A.Allot.state c.args.allot.now) (g.A.Allot.state c.lose_leaf.new.allot) c.self.inside.parent it c.self.inside.frames c.lose_leaf.new.frames c.args.at
    (subst (λ s. AreInside c.self.inside.parent s c.self.inside.frames) c.lose_leaf.ensures.lost.was c.self.invariant) c.lose_leaf.ensures.lost.released c.args.number
    (number-of it c.args.number (ap (λ s. is_some (kept_by (kept_values no_versions s) c.args.number)) (sym c.lose_leaf.ensures.lost.was) ∙ sym c.is_snapshot.ensures ∙ c.if-is_snapshot.true))))

pub returns-then-is_snapshot-clause-lost : goal.returns-then-is_snapshot-clause-lost
returns-then-is_snapshot-clause-lost g c =
    let it : Snapshot = c.lose_leaf.ensures.lost.it in
    let was : cell_value c.self.inside.parent (Some it) c.self.inside.frames ≡ c.args.self.now =
    ap (λ s. cell_value c.self.inside.parent s c.self.inside.frames) (sym c.lose_leaf.ensures.lost.was) ∙ c.self.view_is in
    subst (λ old. IsLost c.args.number c.args.at old (cell_value c.self.inside.parent c.lose_leaf.new.snapshot c.lose_leaf.new.frames)) was
    (subst (λ s. IsLost c.args.number c.args.at (cell_value c.self.inside.parent (Some it) c.self.inside.frames) (cell_value c.self.inside.parent s c.lose_leaf.new.frames)) (sym c.lose_leaf.ensures.lost.becomes)
    (is-lost g.A.Allot.goes (g.A.Allot.state c.args.allot.now) (g.A.Allot.state c.lose_leaf.new.allot) c.self.inside.parent it c.self.inside.frames c.lose_leaf.new.frames c.args.at
    (subst (λ s. AreInside c.self.inside.parent s c.self.inside.frames) c.lose_leaf.ensures.lost.was c.self.invariant) c.lose_leaf.ensures.lost.released c.args.number
    (number-of it c.args.number (ap (λ s. is_some (kept_by (kept_values no_versions s) c.args.number)) (sym c.lose_leaf.ensures.lost.was) ∙ sym c.is_snapshot.ensures ∙ c.if-is_snapshot.true))))
