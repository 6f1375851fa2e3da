-- Pages that may be stored to, behind a touch.
use Rattle.std.proofs.Common.{◌≡◌, ℕ, ◌%◌, List, [], ◌∷◌, Option, Some, None, refl, sym, ◌∙◌, ap, subst, inl, inr}
use Rattle.std.specs.Prelude.{true, IsSome}
use Rattle.std.specs.Option.{option_map}
use Rattle.std.proofs.lemmas.Bool.{cases_eq}
use Rattle.vm_base.specs.Places.{cell_of}
use Rattle.kernel_meaning.specs.Leaves.{Kept, is_lost, version_at}
use Rattle.kernel_meaning.specs.CellAccount.{CellAccount}
use Rattle.kernel_meaning.specs.FrameLaw.{Leaves, cell_at, with_cell, is_used}
use Rattle.leaf_cell.specs.CellView.{CellView}
use Rattle.leaf_cell.specs.Renaming.{AreKeptAlike, IsNamedBy}
use Rattle.leaf_cell.specs.Standing.{StandsFor}
use Rattle.leaf_cell.specs.Touching.{IsAlone, IsTouched}
use Rattle.leaf_cell.proofs.Renamed.{version_at-renamed}
use Rattle.page_tables.specs.Accesses.{IsPageReady}
use Rattle.page_tables.proofs.ParentStore.{alone-view}
use Rattle.page_tables.proofs.LeafMap.{cell_at-here, cell_at-apart}

-- what a snapshot names in the account, it names in the cell under the other name
named-view : (name : ℕ → ℕ → ℕ) (page version : ℕ) (view meant : List Kept) → AreKeptAlike name view meant → IsNamedBy page version meant → IsNamedBy page (name page version) view
named-view name page version view [] alike named = absurd named
named-view name page version [] (meant ∷ rest) alike named = absurd alike
named-view name page version (it ∷ others) (meant ∷ rest) alike (inl here) =
    inl (ap is_lost alike.0.leaf ∙ here.0, ap (λ versions. version_at versions page) (alike.0.versions here.0) ∙ version_at-renamed name meant.versions page ∙ ap (option_map (name page)) here.1)
named-view name page version (it ∷ others) (meant ∷ rest) alike (inr there) = inr (named-view name page version others rest alike.1 there)

-- a page that is the parent's alone in the cell is so in each account that it stands for
pub alone-meant : (view : CellView) (account : CellAccount) → StandsFor view account → (page : ℕ) → IsAlone view.leaves page → IsAlone account.state.leaves page
alone-meant view account stands page alone = record {
  present = some-meant (version_at account.state.leaves.parent page) (subst IsSome names alone.present);
  unnamed = λ version there named. alone.unnamed (stands.name page version) (names ∙ ap (option_map (stands.name page)) there)
      (named-view stands.name page version view.leaves.kept account.state.leaves.kept stands.leaves.kept named);
}
  where
    names : version_at view.leaves.parent page ≡ option_map (stands.name page) (version_at account.state.leaves.parent page)
    names = ap (λ versions. version_at versions page) stands.leaves.parent ∙ version_at-renamed stands.name account.state.leaves.parent page

    some-meant : (o : Option ℕ) → IsSome (option_map (stands.name page) o) → IsSome o
    some-meant None h = h
    some-meant (Some version) h = refl

module _ (leaves : Leaves) (page : ℕ) (old new : CellView) (before after : CellAccount) (stood : StandsFor old before) (stands : StandsFor new after)
    (same : before.state.leaves ≡ cell_at leaves (cell_of page)) (used : is_used after.state.leaves ≡ true) (from to : ℕ) (touched : IsTouched (page % 512) from to old new) where
  abbrev then : Leaves
  then = with_cell leaves (cell_of page) after.state.leaves

  in-cell : (q : ℕ) → cell_of q ≡ cell_of page → IsAlone after.state.leaves (q % 512) → IsPageReady then q
  in-cell q here alone = subst (λ cell. IsAlone cell (q % 512)) (sym (cell_at-here leaves (cell_of page) after.state.leaves used (cell_of q) here)) alone

  pub touched-ready : IsPageReady then page
  touched-ready = in-cell page refl (alone-meant new after stands (page % 512) touched.alone)

  pub touched-still : (q : ℕ) → IsPageReady leaves q → IsPageReady then q
  touched-still q ready = elim (cases_eq (cell_of q) (cell_of page)) [
    | inl here ↦
        let was : IsAlone before.state.leaves (q % 512) = subst (λ cell. IsAlone cell (q % 512)) (ap (cell_at leaves) here ∙ sym same) ready in
        in-cell q here (alone-meant new after stands (q % 512) (touched.still (q % 512) (alone-view old before stood (q % 512) was)))
    | inr apart ↦ subst (λ cell. IsAlone cell (q % 512)) (sym (cell_at-apart leaves (cell_of page) after.state.leaves used (cell_of q) apart)) ready
  ]
