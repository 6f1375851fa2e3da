use Rattle.std.proofs.Common.{◌≡◌, ◌∙◌, sym, ap, subst, Some, None}
use Rattle.std.specs.Prelude.{false, slice_index_or}
use Rattle.kernel_meaning.specs.Leaves.{version_at, is_named}
use Rattle.kernel_meaning.specs.CellAccount.{Touch}
use Rattle.leaf_cell.specs.CellView.{AreUnjoined}
use Rattle.leaf_cell.specs.Inside.{table_places, cell_value}
use Rattle.leaf_cell.specs.Standing.{MadeAct}
use Rattle.leaf_cell.proofs.InsideFacts.{parent_filled}
use Rattle.leaf_cell.proofs.OwnNames.{named-own}
use Rattle.leaf_cell.proofs.LossMade.{some_bytes}
use Rattle.leaf_cell.proofs.Touched.{made-in_place, touched-in_place}
use Rattle.leaf_cell.proofs.cell.Cell.touch_present.Goals as goal

pub unshare_page-requires-clause-named : goal.unshare_page-requires-clause-named
unshare_page-requires-clause-named g c =
    ap (λ view. is_named view.leaves c.args.page c.args.place) (sym c.self.view_is)
    ∙ named-own c.self.inside.parent c.self.inside.snapshot c.self.inside.frames c.args.page c.args.place ∙ sym c.names_place.ensures ∙ c.if-names_place.true

pub returns-else-names_place-clause-made : goal.returns-else-names_place-clause-made
returns-else-names_place-clause-made g c =
    let there : version_at (table_places c.self.inside.parent) c.args.page ≡ Some c.args.place = ap (λ view. version_at view.leaves.parent c.args.page) c.self.view_is ∙ c.requires.there in
    let unnamed : is_named (cell_value c.self.inside.parent c.self.inside.snapshot c.self.inside.frames).leaves c.args.page c.args.place ≡ false =
    named-own c.self.inside.parent c.self.inside.snapshot c.self.inside.frames c.args.page c.args.place ∙ sym c.names_place.ensures ∙ c.if-names_place.false in
    subst (λ view. MadeAct g.A.Allot.goes (g.A.Allot.state c.args.allot.now) (g.A.Allot.state c.args.allot.now) (Touch c.args.page) view view None) c.self.view_is
    (made-in_place g.A.Allot.goes (g.A.Allot.state c.args.allot.now) (cell_value c.self.inside.parent c.self.inside.snapshot c.self.inside.frames) c.args.page c.args.place c.requires.page there
    (subst (λ view. AreUnjoined view.leaves.kept) (sym c.self.view_is) c.requires.unjoined) unnamed
    (some_bytes (slice_index_or c.self.inside.frames c.args.place None) ∙ parent_filled c.self.inside.parent c.self.inside.snapshot c.self.inside.frames c.self.invariant c.args.page c.args.place there))

pub returns-else-names_place-clause-touched : goal.returns-else-names_place-clause-touched
returns-else-names_place-clause-touched g c =
    touched-in_place c.args.self.now c.args.page c.args.place (g.A.Allot.refused (g.A.Allot.state c.args.allot.now)) c.requires.unjoined c.requires.there
    (ap (λ view. is_named view.leaves c.args.page c.args.place) (sym c.self.view_is)
    ∙ named-own c.self.inside.parent c.self.inside.snapshot c.self.inside.frames c.args.page c.args.place ∙ sym c.names_place.ensures ∙ c.if-names_place.false)
