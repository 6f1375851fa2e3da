use Rattle.std.proofs.Common.{◌∙◌, sym, ap, subst, [], Some, None}
use Rattle.kernel_meaning.specs.Leaves.{kept_by}
use Rattle.kernel_meaning.specs.CellAccount.{CellAccount, Unmark}
use Rattle.leaf_cell.specs.CellView.{CellView}
use Rattle.leaf_cell.specs.Inside.{AreInside, table_places, cell_value}
use Rattle.leaf_cell.specs.Standing.{StandsFor, TakesAccount}
use Rattle.leaf_cell.specs.States.{has_joined}
use Rattle.leaf_cell.proofs.LeafOwned.{IsJoinedHere, joined-here}
use Rattle.leaf_cell.proofs.LeafForgotten.{inside-forgotten, takes-forgotten}
use Rattle.leaf_cell.proofs.cell.Cell.forget.Goals as goal

pub invariant_of-self : goal.invariant_of-self
invariant_of-self c =
    let here : IsJoinedHere c.self.inside.snapshot c.args.number =
    joined-here (table_places c.self.inside.parent) c.self.inside.snapshot c.args.number
    (ap (λ view. has_joined (kept_by view.leaves.kept c.args.number)) c.self.view_is ∙ c.requires.joined) in
    subst (λ it. AreInside c.self.inside.parent it c.self.inside.frames) (sym c.take_out.ensures)
    (inside-forgotten c.self.inside.parent here.it c.self.inside.frames c.args.number here.number here.leaf
    (subst (λ it. AreInside c.self.inside.parent it c.self.inside.frames) here.is c.self.invariant))

pub returns-then-is_snapshot-clause-unmarked : goal.returns-then-is_snapshot-clause-unmarked
returns-then-is_snapshot-clause-unmarked c =
    let here : IsJoinedHere c.self.inside.snapshot c.args.number =
    joined-here (table_places c.self.inside.parent) c.self.inside.snapshot c.args.number
    (ap (λ view. has_joined (kept_by view.leaves.kept c.args.number)) c.self.view_is ∙ c.requires.joined) in
    subst (λ view. (account : CellAccount) → StandsFor view account
    → TakesAccount (Unmark c.args.number) view (cell_value c.self.inside.parent c.take_out.new.snapshot c.self.inside.frames)
    [] None account)
    (ap (λ it. cell_value c.self.inside.parent it c.self.inside.frames) (sym here.is) ∙ c.self.view_is)
    (subst (λ it. (account : CellAccount) → StandsFor (cell_value c.self.inside.parent (Some here.it) c.self.inside.frames) account
    → TakesAccount (Unmark c.args.number) (cell_value c.self.inside.parent (Some here.it) c.self.inside.frames)
    (cell_value c.self.inside.parent it c.self.inside.frames) [] None account) (sym c.take_out.ensures)
    (takes-forgotten c.self.inside.parent here.it c.self.inside.frames c.args.number here.number here.leaf
    (subst (λ it. AreInside c.self.inside.parent it c.self.inside.frames) here.is c.self.invariant)))
