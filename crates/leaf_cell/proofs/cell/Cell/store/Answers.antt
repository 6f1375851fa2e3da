use Rattle.std.proofs.Common.{◌+◌, ◌∙◌, sym, subst, None, ap, []}
use Rattle.kernel_meaning.specs.Leaves.{version_at, parent_leaves, own_leaves}
use Rattle.kernel_meaning.specs.CellAccount.{Store, CellAccount}
use Rattle.leaf_cell.specs.CellView.{CellView, held_of}
use Rattle.leaf_cell.specs.Inside.{cell_value}
use Rattle.leaf_cell.specs.Renaming.{IsNamedBy}
use Rattle.leaf_cell.specs.Standing.{StandsFor, TakesAccount}
use Rattle.leaf_cell.proofs.StoreMade.{place-below, inside-stored, takes-stored, count-stored}
use Rattle.leaf_cell.proofs.cell.Cell.store.Goals as goal

pub store-requires-clause-place : goal.store-requires-clause-place
store-requires-clause-place c = place-below c.self.inside.parent c.self.inside.snapshot c.self.inside.frames c.self.invariant c.args.page c.in-Some.place c.requires.page (sym c.place_in.ensures ∙ c.in-Some.is)

pub invariant_of-self : goal.invariant_of-self
invariant_of-self c = inside-stored c.self.inside.parent c.self.inside.snapshot c.self.inside.frames c.self.invariant c.args.page c.in-Some.place c.args.at c.args.bytes.now
    c.requires.page (sym c.place_in.ensures ∙ c.in-Some.is) c.requires.room c.store.ensures.whole c.store.new.self c.store.ensures.stored

pub returns-in-Some-clause-stored : goal.returns-in-Some-clause-stored
returns-in-Some-clause-stored c =
    let old : CellView = cell_value c.self.inside.parent c.self.inside.snapshot c.self.inside.frames in
    let new : CellView = cell_value c.self.inside.parent c.self.inside.snapshot c.store.new.self in
    subst (λ view. (account : CellAccount) → StandsFor view account → TakesAccount (Store c.args.page c.args.at c.args.bytes.now) view new [] None account) c.self.view_is (λ account stands.
    takes-stored c.self.inside.parent c.self.inside.snapshot c.self.inside.frames c.self.invariant c.args.page c.in-Some.place c.args.at c.args.bytes.now
    c.requires.page (sym c.place_in.ensures ∙ c.in-Some.is) c.requires.room c.store.ensures.whole c.store.new.self c.store.ensures.stored
    (λ named. c.requires.unnamed c.in-Some.place (ap (λ view. version_at view.leaves.parent c.args.page) (sym c.self.view_is) ∙ sym c.place_in.ensures ∙ c.in-Some.is)
    (subst (λ view. IsNamedBy c.args.page c.in-Some.place view.leaves.kept) c.self.view_is named))
    account stands)

pub returns-in-Some-clause-held : goal.returns-in-Some-clause-held
returns-in-Some-clause-held c =
    let old : CellView = cell_value c.self.inside.parent c.self.inside.snapshot c.self.inside.frames in
    ap (λ n. parent_leaves old.leaves + own_leaves old.leaves + n) (count-stored c.self.inside.parent c.self.inside.snapshot c.self.inside.frames c.self.invariant c.args.page c.in-Some.place c.args.at c.args.bytes.now
    c.requires.page (sym c.place_in.ensures ∙ c.in-Some.is) c.requires.room c.store.ensures.whole c.store.new.self c.store.ensures.stored)
    ∙ ap held_of c.self.view_is
