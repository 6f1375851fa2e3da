use Rattle.std.proofs.Common.{◌≡◌, ◌∙◌, sym, ap, subst, [], Some}
use Rattle.std.specs.Prelude.{false}
use Rattle.std.specs.Option.{option_map}
use Rattle.kernel_meaning.specs.Requests.{Yes}
use Rattle.kernel_meaning.specs.Leaves.{Own, kept_by}
use Rattle.kernel_meaning.specs.CellActs.{leaf_copy_answered, with_leaf_where, is_number}
use Rattle.leaf_cell.specs.CellView.{CellView}
use Rattle.leaf_cell.specs.Inside.{AreInside, table_of, table_places, table_writable, own_places, cell_value}
use Rattle.leaf_cell.specs.Permissions.{with_allowed}
use Rattle.leaf_cell.specs.Standing.{StandsFor, TakesPart}
use Rattle.leaf_cell.specs.States.{has_joined, with_own}
use Rattle.leaf_cell.specs.Writable.{none_writable}
use Rattle.leaf_cell.proofs.AllowedPages.{inside-allowed, none-writable, stands-allowed, view-allowed}
use Rattle.leaf_cell.proofs.LeafOwned.{IsJoinedHere, joined-here, inside-owned, owned-view, takes-leaf_owned}
use Rattle.leaf_cell.proofs.WritableViews.{takes_part-from}
use Rattle.leaf_cell.proofs.cell.Cell.own_leaf.Goals as goal

pub invariant_of-self : goal.invariant_of-self
invariant_of-self c =
    let here : IsJoinedHere c.self.inside.snapshot c.args.number = joined-here (table_places c.self.inside.parent) c.self.inside.snapshot c.args.number
    (ap (λ view. has_joined (kept_by view.leaves.kept c.args.number)) c.self.view_is ∙ c.requires.joined) in
    subst (λ it. AreInside c.allow_range.new.parent it c.self.inside.frames) (sym (c.own_joined.ensures ∙ ap (option_map (with_own (table_of c.allow_range.new.parent))) here.is))
    (inside-owned c.allow_range.new.parent here.it c.self.inside.frames c.args.number here.number here.leaf
    (subst (λ parent. AreInside parent (Some here.it) c.self.inside.frames) (sym c.allow_range.ensures)
    (subst (λ it. AreInside (with_allowed false (own_places c.self.inside.snapshot) 0 512 c.self.inside.parent) it c.self.inside.frames) here.is
    (inside-allowed false 0 512 c.self.inside.parent c.self.inside.snapshot c.self.inside.frames c.self.invariant)))
    (ap table_writable c.allow_range.ensures ∙ none-writable (own_places c.self.inside.snapshot) c.self.inside.parent))

pub returns-then-is_snapshot-clause-owned : goal.returns-then-is_snapshot-clause-owned
returns-then-is_snapshot-clause-owned c =
    let here : IsJoinedHere c.self.inside.snapshot c.args.number = joined-here (table_places c.self.inside.parent) c.self.inside.snapshot c.args.number
    (ap (λ view. has_joined (kept_by view.leaves.kept c.args.number)) c.self.view_is ∙ c.requires.joined) in
    λ account stands.
    let still : StandsFor (cell_value c.allow_range.new.parent (Some here.it) c.self.inside.frames) account =
    subst (λ parent. StandsFor (cell_value parent (Some here.it) c.self.inside.frames) account) (sym c.allow_range.ensures)
    (subst (λ it. StandsFor (cell_value (with_allowed false (own_places c.self.inside.snapshot) 0 512 c.self.inside.parent) it c.self.inside.frames) account) here.is
    (stands-allowed false (own_places c.self.inside.snapshot) 0 512 c.self.inside.parent c.self.inside.snapshot c.self.inside.frames account
    (subst (λ view. StandsFor view account) (sym c.self.view_is) stands))) in
    takes_part-from (leaf_copy_answered c.args.number Yes) c.args.self.now (cell_value c.allow_range.new.parent (Some here.it) c.self.inside.frames)
    (cell_value c.allow_range.new.parent c.own_joined.new.snapshot c.self.inside.frames) [] account
    (subst (λ it. TakesPart (leaf_copy_answered c.args.number Yes) (cell_value c.allow_range.new.parent (Some here.it) c.self.inside.frames)
    (cell_value c.allow_range.new.parent it c.self.inside.frames) [] account)
    (sym (c.own_joined.ensures ∙ ap (option_map (with_own (table_of c.allow_range.new.parent))) here.is))
    (takes-leaf_owned c.allow_range.new.parent here.it c.self.inside.frames c.args.number here.number here.leaf account still))

pub returns-then-is_snapshot-clause-cell : goal.returns-then-is_snapshot-clause-cell
returns-then-is_snapshot-clause-cell c =
    let here : IsJoinedHere c.self.inside.snapshot c.args.number = joined-here (table_places c.self.inside.parent) c.self.inside.snapshot c.args.number
    (ap (λ view. has_joined (kept_by view.leaves.kept c.args.number)) c.self.view_is ∙ c.requires.joined) in
    let none : table_writable c.allow_range.new.parent ≡ none_writable = ap table_writable c.allow_range.ensures ∙ none-writable (own_places c.self.inside.snapshot) c.self.inside.parent in
    ap (λ it. cell_value c.allow_range.new.parent it c.self.inside.frames) (c.own_joined.ensures ∙ ap (option_map (with_own (table_of c.allow_range.new.parent))) here.is)
    ∙ owned-view c.allow_range.new.parent here.it c.self.inside.frames c.args.number here.number here.leaf none
    ∙ ap {A = CellView} (λ view. record view { leaves = with_leaf_where (is_number c.args.number) Own view.leaves; writable = none_writable })
    (ap (λ it. cell_value c.allow_range.new.parent it c.self.inside.frames) (sym here.is)
    ∙ ap (λ parent. cell_value parent c.self.inside.snapshot c.self.inside.frames) c.allow_range.ensures
    ∙ view-allowed false (own_places c.self.inside.snapshot) 0 512 c.self.inside.parent c.self.inside.snapshot c.self.inside.frames none_writable
    (none-writable (own_places c.self.inside.snapshot) c.self.inside.parent))
    ∙ ap {A = CellView} (λ view. record view { leaves = with_leaf_where (is_number c.args.number) Own view.leaves; writable = none_writable }) c.self.view_is
