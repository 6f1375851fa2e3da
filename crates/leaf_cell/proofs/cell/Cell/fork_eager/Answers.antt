use Rattle.std.proofs.Common.{◌≡◌, ◌∙◌, sym, subst, None, Some, ap, refl, [], ◌∷◌}
use Rattle.vm_base.specs.declared.fork_mode.Mode.TheVariants as mode
use Rattle.vm_base.specs.declared.frame_request.Want.TheVariants as want
use Rattle.vm_base.specs.Deals.{Granted, Denied}
use Rattle.kernel_meaning.specs.CellAccount.{Fork}
use Rattle.kernel_meaning.specs.Leaves.{Own, kept_by, has_pages}
use Rattle.kernel_meaning.specs.CellActs.{with_fork}
use Rattle.leaf_cell.specs.CellView.{CellView}
use Rattle.leaf_cell.specs.Inside.{AreInside, table_places, table_writable, own_places, kept_values, cell_value}
use Rattle.leaf_cell.specs.Standing.{StandsFor, TakesAccount}
use Rattle.std.specs.Prelude.{false, is_some}
use Rattle.leaf_cell.proofs.AllowedPages.{inside-allowed, allowed-places, none-writable, stands-allowed}
use Rattle.leaf_cell.proofs.WritableViews.{takes-from}
use Rattle.leaf_cell.proofs.ForkMade.{inside-forked, forked-view, fork-granted, fork-denied}
use Rattle.leaf_cell.proofs.cell.Cell.fork_eager.Goals as goal

pub invariant_of-self : goal.invariant_of-self
invariant_of-self g c = inside-forked c.allow_range.new.parent c.self.inside.snapshot c.self.inside.frames c.new_snapshot.result
    (subst (λ parent. AreInside parent c.self.inside.snapshot c.self.inside.frames) (sym c.allow_range.ensures)
    (inside-allowed false 0 512 c.self.inside.parent c.self.inside.snapshot c.self.inside.frames c.self.invariant))
    (ap (λ parent. kept_values (table_places parent) c.self.inside.snapshot) c.allow_range.ensures
    ∙ ap (λ places. kept_values places c.self.inside.snapshot) (allowed-places false (own_places c.self.inside.snapshot) 0 512 c.self.inside.parent)
    ∙ ap (λ view. view.leaves.kept) c.self.view_is ∙ c.requires.alone) c.new_snapshot.ensures.leaf
    (ap table_writable c.allow_range.ensures ∙ none-writable (own_places c.self.inside.snapshot) c.self.inside.parent)

pub returns-in-Ok-clause-writable : goal.returns-in-Ok-clause-writable
returns-in-Ok-clause-writable g c = ap table_writable c.allow_range.ensures ∙ none-writable (own_places c.self.inside.snapshot) c.self.inside.parent

pub returns-in-Ok-clause-leaves : goal.returns-in-Ok-clause-leaves
returns-in-Ok-clause-leaves g c =
    let old : CellView = cell_value c.allow_range.new.parent c.self.inside.snapshot c.self.inside.frames in
    let same : table_places c.allow_range.new.parent ≡ c.args.self.now.leaves.parent =
    ap table_places c.allow_range.ensures ∙ allowed-places false (own_places c.self.inside.snapshot) 0 512 c.self.inside.parent ∙ ap (λ view. view.leaves.parent) c.self.view_is in
    ap (λ view. view.leaves) (sym (forked-view c.allow_range.new.parent c.self.inside.snapshot c.self.inside.frames c.new_snapshot.result c.args.number
    c.new_snapshot.ensures.number c.new_snapshot.ensures.mode c.new_snapshot.ensures.leaf))
    ∙ (λ i. with_fork c.args.number mode.Eager Own (record { parent = same i; kept = [] }))
    ∙ ap (λ kept. with_fork c.args.number mode.Eager Own (record { parent = c.args.self.now.leaves.parent; kept = kept })) (sym c.requires.alone)

pub returns-in-Ok-clause-made : goal.returns-in-Ok-clause-made
returns-in-Ok-clause-made g c = λ seat.
    let old : CellView = cell_value c.allow_range.new.parent c.self.inside.snapshot c.self.inside.frames in
    let new : CellView = cell_value c.allow_range.new.parent (Some c.new_snapshot.result) c.self.inside.frames in
    let alone : old.leaves.kept ≡ [] =
    ap (λ parent. kept_values (table_places parent) c.self.inside.snapshot) c.allow_range.ensures
    ∙ ap (λ places. kept_values places c.self.inside.snapshot) (allowed-places false (own_places c.self.inside.snapshot) 0 512 c.self.inside.parent)
    ∙ ap (λ view. view.leaves.kept) c.self.view_is ∙ c.requires.alone in
    let same : table_places c.allow_range.new.parent ≡ c.args.self.now.leaves.parent =
    ap table_places c.allow_range.ensures
    ∙ allowed-places false (own_places c.self.inside.snapshot) 0 512 c.self.inside.parent
    ∙ ap (λ view. view.leaves.parent) c.self.view_is in
    record {
      deals = Granted want.Leaf ∷ [];
      led = (g.A.Allot.state c.take.new.self, (c.in-Ok.ensures.granted, refl));
      follows = λ account stands.
          let still : StandsFor old account = subst (λ parent. StandsFor (cell_value parent c.self.inside.snapshot c.self.inside.frames) account) (sym c.allow_range.ensures)
          (stands-allowed false (own_places c.self.inside.snapshot) 0 512 c.self.inside.parent c.self.inside.snapshot c.self.inside.frames account
          (subst (λ view. StandsFor view account) (sym c.self.view_is) stands)) in
          takes-from (Fork c.args.number mode.Eager seat) c.args.self.now old new (Granted want.Leaf ∷ []) None account
          (λ it. (ap has_pages same ∙ it.0, it.1, ap (λ kept. is_some (kept_by kept c.args.number)) alone))
          (subst (λ after. TakesAccount (Fork c.args.number mode.Eager seat) old after (Granted want.Leaf ∷ []) None account)
          (forked-view c.allow_range.new.parent c.self.inside.snapshot c.self.inside.frames c.new_snapshot.result c.args.number c.new_snapshot.ensures.number c.new_snapshot.ensures.mode c.new_snapshot.ensures.leaf)
          (fork-granted old account still c.args.number alone seat));
    }

pub returns-in-Err-clause-made : goal.returns-in-Err-clause-made
returns-in-Err-clause-made g c = λ seat. record {
  deals = Denied want.Leaf c.in-Err.refused.at ∷ [];
  led = (g.A.Allot.state c.take.new.self, (c.in-Err.ensures.denied, refl));
  follows = λ account stands. fork-denied c.args.self.now account stands c.args.number seat c.in-Err.refused.at;
}
