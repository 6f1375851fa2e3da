use Rattle.std.proofs.Common.{◌≡◌, ◌∙◌, sym, ap, subst, Some, None}
use Rattle.std.specs.Prelude.{true, slice_set, slice_index_or}
use Rattle.kernel_meaning.specs.Leaves.{version_at, is_named}
use Rattle.kernel_meaning.specs.CellAccount.{Touch}
use Rattle.leaf_cell.specs.CellView.{AreUnjoined}
use Rattle.leaf_cell.specs.Inside.{table_places, cell_value}
use Rattle.leaf_cell.specs.Standing.{MadeAct}
use Rattle.leaf_cell.specs.Writable.{writable_at}
use Rattle.leaf_cell.proofs.AllowedPages.{writable-unnamed, unshared-alone}
use Rattle.leaf_cell.proofs.InsideFacts.{parent_filled}
use Rattle.leaf_cell.proofs.LossMade.{some_bytes}
use Rattle.leaf_cell.proofs.Touched.{made-in_place, touched-in_place}
use Rattle.leaf_cell.proofs.WritablePages.{set-same}
use Rattle.leaf_cell.proofs.WritableViews.{made-writable}
use Rattle.leaf_cell.proofs.cell.Cell.touch.Goals as goal

-- the page may be written to already
pub returns-in-Some-clause-made : goal.returns-in-Some-clause-made
returns-in-Some-clause-made g c =
    let there : version_at (table_places c.self.inside.parent) c.args.page ≡ Some c.in-Some.field-0 = sym c.place_in.ensures ∙ c.in-Some.is in
    subst (λ view. MadeAct g.A.Allot.goes (g.A.Allot.state c.args.allot.now) (g.A.Allot.state c.args.allot.now) (Touch c.args.page) view view None) c.self.view_is
    (made-in_place g.A.Allot.goes (g.A.Allot.state c.args.allot.now) (cell_value c.self.inside.parent c.self.inside.snapshot c.self.inside.frames) c.args.page c.in-Some.field-0 c.requires.page there
    (subst (λ view. AreUnjoined view.leaves.kept) (sym c.self.view_is) c.requires.unjoined)
    (writable-unnamed c.self.inside.parent c.self.inside.snapshot c.self.inside.frames c.self.invariant c.args.page c.in-Some.field-0 there (sym c.may_write_in.ensures ∙ c.if-may_write_in.true))
    (some_bytes (slice_index_or c.self.inside.frames c.in-Some.field-0 None)
    ∙ parent_filled c.self.inside.parent c.self.inside.snapshot c.self.inside.frames c.self.invariant c.args.page c.in-Some.field-0 there))

pub returns-in-Some-clause-touched : goal.returns-in-Some-clause-touched
returns-in-Some-clause-touched g c =
    let there : version_at (table_places c.self.inside.parent) c.args.page ≡ Some c.in-Some.field-0 = sym c.place_in.ensures ∙ c.in-Some.is in
    touched-in_place c.args.self.now c.args.page c.in-Some.field-0 (g.A.Allot.refused (g.A.Allot.state c.args.allot.now)) c.requires.unjoined
    (ap (λ view. version_at view.leaves.parent c.args.page) (sym c.self.view_is) ∙ there)
    (ap (λ view. is_named view.leaves c.args.page c.in-Some.field-0) (sym c.self.view_is)
    ∙ writable-unnamed c.self.inside.parent c.self.inside.snapshot c.self.inside.frames c.self.invariant c.args.page c.in-Some.field-0 there (sym c.may_write_in.ensures ∙ c.if-may_write_in.true))

pub returns-in-Some-clause-writable : goal.returns-in-Some-clause-writable
returns-in-Some-clause-writable g c = set-same c.args.self.now.writable c.args.page
    (ap (λ view. writable_at view.writable c.args.page) (sym c.self.view_is) ∙ sym c.may_write_in.ensures ∙ c.if-may_write_in.true)

pub allow_page-requires-clause-unshared : goal.allow_page-requires-clause-unshared
allow_page-requires-clause-unshared g c = unshared-alone c.touch_present.new.self.leaves c.args.page c.touch_present.ensures.touched.alone

pub returns-in-Some-2-clause-made : goal.returns-in-Some-2-clause-made
returns-in-Some-2-clause-made g c =
    subst (λ view. MadeAct g.A.Allot.goes (g.A.Allot.state c.args.allot.now) (g.A.Allot.state c.touch_present.new.allot) (Touch c.args.page) c.args.self.now view None) (sym c.allow_page.ensures)
    (made-writable g.A.Allot.goes (g.A.Allot.state c.args.allot.now) (g.A.Allot.state c.touch_present.new.allot) (Touch c.args.page) c.args.self.now c.touch_present.new.self None
    (slice_set c.touch_present.new.self.writable c.args.page true) c.touch_present.ensures.made)
