use Rattle.std.proofs.Common.{◌≡◌, ◌∙◌, ◌+◌, ℕ, sym, ap, subst, refl, [], ◌∷◌, Some, None}
use Rattle.vm_base.specs.declared.frame_request.Want.TheVariants as want
use Rattle.vm_base.specs.Deals.{Granted}
use Rattle.kernel_meaning.specs.Leaves.{version_at, is_named}
use Rattle.kernel_meaning.specs.CellAccount.{Touch}
use Rattle.leaf_cell.specs.declared.snapshot.Snapshot.{Snapshot}
use Rattle.leaf_cell.specs.CellView.{AreUnjoined, held_of, bytes_in, page_or_zeros}
use Rattle.leaf_cell.specs.Inside.{AreInside, table_places, table_writable, cell_value}
use Rattle.leaf_cell.specs.Standing.{MadeAct}
use Rattle.leaf_cell.specs.Touching.{IsTouched}
use Rattle.leaf_cell.proofs.LossMade.{made-lost, inside-lost}
use Rattle.leaf_cell.proofs.CopyMade.{made-copied, inside-copied, held-copied, left}
use Rattle.std.specs.Prelude.{true, slice_set}
use Rattle.leaf_cell.proofs.WritablePages.{set-again}
use Rattle.leaf_cell.proofs.Touched.{touched-put, touched-lost}
use Rattle.leaf_cell.proofs.cell.Cell.unshare_page.Goals as goal

pub invariant_of-self : goal.invariant_of-self
invariant_of-self g c = inside-copied c.self.inside.parent c.self.inside.snapshot c.self.inside.frames c.self.invariant c.args.page c.args.place c.requires.page
    (ap (λ view. version_at view.leaves.parent c.args.page) c.self.view_is ∙ c.requires.there)
    (ap (λ view. is_named view.leaves c.args.page c.args.place) c.self.view_is ∙ c.requires.named)
    (subst (λ view. AreUnjoined view.leaves.kept) (sym c.self.view_is) c.requires.unjoined)
    c.put_copy.new.parent c.put_copy.new.frames c.put_copy.ensures.put c.put_copy.ensures.table c.put_copy.ensures.writable

pub returns-in-Ok-clause-writable : goal.returns-in-Ok-clause-writable
returns-in-Ok-clause-writable g c =
    ap (λ writable. slice_set writable c.args.page true) c.put_copy.ensures.writable ∙ set-again (table_writable c.self.inside.parent) c.args.page
    ∙ ap (λ view. slice_set view.writable c.args.page true) c.self.view_is

pub returns-in-Ok-clause-made : goal.returns-in-Ok-clause-made
returns-in-Ok-clause-made g c =
    subst (λ old. MadeAct g.A.Allot.goes (g.A.Allot.state c.args.allot.now) (g.A.Allot.state c.take.new.self) (Touch c.args.page) old
    (cell_value c.put_copy.new.parent c.self.inside.snapshot c.put_copy.new.frames) None) c.self.view_is
    (made-copied c.self.inside.parent c.self.inside.snapshot c.self.inside.frames c.self.invariant c.args.page c.args.place c.requires.page
    (ap (λ view. version_at view.leaves.parent c.args.page) c.self.view_is ∙ c.requires.there)
    (ap (λ view. is_named view.leaves c.args.page c.args.place) c.self.view_is ∙ c.requires.named)
    (subst (λ view. AreUnjoined view.leaves.kept) (sym c.self.view_is) c.requires.unjoined)
    c.put_copy.new.parent c.put_copy.new.frames c.put_copy.ensures.put c.put_copy.ensures.table
    g.A.Allot.goes (g.A.Allot.state c.args.allot.now) (g.A.Allot.state c.take.new.self) (Granted want.Page ∷ []) (g.A.Allot.state c.take.new.self, (c.in-Ok.ensures.granted, refl)) refl)

pub returns-in-Ok-clause-held : goal.returns-in-Ok-clause-held
returns-in-Ok-clause-held g c =
    ap (λ view. g.A.Allot.out (g.A.Allot.state c.take.new.self) + held_of view) (sym c.self.view_is)
    ∙ held-copied c.self.inside.parent c.self.inside.snapshot c.self.inside.frames c.self.invariant c.args.page c.args.place c.requires.page
    (ap (λ view. version_at view.leaves.parent c.args.page) c.self.view_is ∙ c.requires.there)
    (ap (λ view. is_named view.leaves c.args.page c.args.place) c.self.view_is ∙ c.requires.named)
    (subst (λ view. AreUnjoined view.leaves.kept) (sym c.self.view_is) c.requires.unjoined)
    c.put_copy.new.parent c.put_copy.new.frames c.put_copy.ensures.put c.put_copy.ensures.table
    (g.A.Allot.out (g.A.Allot.state c.args.allot.now)) (g.A.Allot.out (g.A.Allot.state c.take.new.self)) c.in-Ok.ensures.taken

pub returns-in-Ok-clause-touched : goal.returns-in-Ok-clause-touched
returns-in-Ok-clause-touched g c =
    let there : version_at (table_places c.self.inside.parent) c.args.page ≡ Some c.args.place = ap (λ view. version_at view.leaves.parent c.args.page) c.self.view_is ∙ c.requires.there in
    let unjoined : AreUnjoined (cell_value c.self.inside.parent c.self.inside.snapshot c.self.inside.frames).leaves.kept = subst (λ view. AreUnjoined view.leaves.kept) (sym c.self.view_is) c.requires.unjoined in
    subst (λ old. IsTouched c.args.page (g.A.Allot.refused (g.A.Allot.state c.args.allot.now)) (g.A.Allot.refused (g.A.Allot.state c.take.new.self)) old
    (cell_value c.put_copy.new.parent c.self.inside.snapshot c.put_copy.new.frames)) c.self.view_is
    (touched-put c.self.inside.parent c.self.inside.snapshot c.self.inside.frames c.self.invariant
    c.put_copy.new.parent c.put_copy.new.frames _ c.args.page c.requires.page c.put_copy.ensures.put c.put_copy.ensures.table
    (left c.self.inside.parent c.self.inside.snapshot c.self.inside.frames c.self.invariant c.args.page c.args.place c.requires.page there
    (ap (λ view. is_named view.leaves c.args.page c.args.place) c.self.view_is ∙ c.requires.named) unjoined
    c.put_copy.new.parent c.put_copy.new.frames c.put_copy.ensures.put c.put_copy.ensures.table)
    unjoined (ap (λ o. page_or_zeros (bytes_in c.self.inside.frames o)) there)
    (g.A.Allot.refused (g.A.Allot.state c.args.allot.now)) (g.A.Allot.refused (g.A.Allot.state c.take.new.self)) c.in-Ok.ensures.unrefused)

pub invariant_of-self-in-Err : goal.invariant_of-self-in-Err
invariant_of-self-in-Err g c =
    subst (λ it. AreInside c.self.inside.parent it c.lose_leaf.new.frames) (sym c.lose_leaf.ensures.lost.becomes)
    (inside-lost g.A.Allot.goes (g.A.Allot.state c.take.new.self) (g.A.Allot.state c.lose_leaf.new.allot) c.self.inside.parent c.lose_leaf.ensures.lost.it c.self.inside.frames c.lose_leaf.new.frames c.in-Err.refused.at
    (subst (λ it. AreInside c.self.inside.parent it c.self.inside.frames) c.lose_leaf.ensures.lost.was c.self.invariant) c.lose_leaf.ensures.lost.released)

pub returns-in-Err-clause-made : goal.returns-in-Err-clause-made
returns-in-Err-clause-made g c =
    let it : Snapshot = c.lose_leaf.ensures.lost.it in
    let was : cell_value c.self.inside.parent (Some it) c.self.inside.frames ≡ c.args.self.now =
    ap (λ s. cell_value c.self.inside.parent s c.self.inside.frames) (sym c.lose_leaf.ensures.lost.was) ∙ c.self.view_is in
    subst (λ old. MadeAct g.A.Allot.goes (g.A.Allot.state c.args.allot.now) (g.A.Allot.state c.lose_leaf.new.allot) (Touch c.args.page) old
    (cell_value c.self.inside.parent c.lose_leaf.new.snapshot c.lose_leaf.new.frames) None) was
    (subst (λ s. MadeAct g.A.Allot.goes (g.A.Allot.state c.args.allot.now) (g.A.Allot.state c.lose_leaf.new.allot) (Touch c.args.page)
    (cell_value c.self.inside.parent (Some it) c.self.inside.frames) (cell_value c.self.inside.parent s c.lose_leaf.new.frames) None) (sym c.lose_leaf.ensures.lost.becomes)
    (made-lost g.A.Allot.goes (g.A.Allot.state c.take.new.self) (g.A.Allot.state c.lose_leaf.new.allot) c.self.inside.parent it c.self.inside.frames c.lose_leaf.new.frames c.in-Err.refused.at
    (subst (λ s. AreInside c.self.inside.parent s c.self.inside.frames) c.lose_leaf.ensures.lost.was c.self.invariant) c.lose_leaf.ensures.lost.released
    c.args.page c.args.place c.requires.page (ap (λ view. version_at view.leaves.parent c.args.page) was ∙ c.requires.there)
    (ap (λ view. is_named view.leaves c.args.page c.args.place) was ∙ c.requires.named)
    (subst (λ view. AreUnjoined view.leaves.kept) (sym was) c.requires.unjoined)
    (g.A.Allot.state c.args.allot.now) c.in-Err.ensures.denied))

pub returns-in-Err-clause-touched : goal.returns-in-Err-clause-touched
returns-in-Err-clause-touched g c =
    let it : Snapshot = c.lose_leaf.ensures.lost.it in
    let was : cell_value c.self.inside.parent (Some it) c.self.inside.frames ≡ c.args.self.now =
    ap (λ s. cell_value c.self.inside.parent s c.self.inside.frames) (sym c.lose_leaf.ensures.lost.was) ∙ c.self.view_is in
    let count : ℕ = g.A.Allot.refused (g.A.Allot.state c.args.allot.now) in
    let then : ℕ = g.A.Allot.refused (g.A.Allot.state c.lose_leaf.new.allot) in
    subst (λ old. IsTouched c.args.page count then old (cell_value c.self.inside.parent c.lose_leaf.new.snapshot c.lose_leaf.new.frames)) was
    (subst (λ s. IsTouched c.args.page count then (cell_value c.self.inside.parent (Some it) c.self.inside.frames) (cell_value c.self.inside.parent s c.lose_leaf.new.frames)) (sym c.lose_leaf.ensures.lost.becomes)
    (touched-lost g.A.Allot.goes (g.A.Allot.state c.take.new.self) (g.A.Allot.state c.lose_leaf.new.allot) c.self.inside.parent it c.self.inside.frames c.lose_leaf.new.frames
    _ c.args.page c.args.place c.in-Err.refused.at count then c.lose_leaf.ensures.lost.released
    (ap (λ view. version_at view.leaves.parent c.args.page) was ∙ c.requires.there)
    (ap (λ view. is_named view.leaves c.args.page c.args.place) was ∙ c.requires.named)
    (c.lose_leaf.ensures.unrefused ∙ c.in-Err.ensures.counted) (c.in-Err.ensures.at ∙ sym c.lose_leaf.ensures.unrefused)))
