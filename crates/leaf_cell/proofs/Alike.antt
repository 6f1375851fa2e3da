-- Cells that are alike but for names stay so.
use Rattle.std.proofs.Common.{◌≡◌, ◌≢◌, ℕ, ◌<◌, List, [], ◌∷◌, length, Option, Some, None, refl, sym, ◌∙◌, ap, subst, inl, inr, ◌⊎◌}
use Rattle.std.specs.Prelude.{unwrap_or}
use Rattle.std.specs.Option.{option_map}
use Rattle.std.proofs.lemmas.Bool.{cases_eq}
use Rattle.std.proofs.lemmas.List.{get_or-set_same, get_or-set_other}
use Rattle.kernel_meaning.specs.Leaves.{version_at, with_version, is_lost, Kept, CellLeaves}
use Rattle.kernel_meaning.specs.CellActs.{with_parent_version}
use Rattle.leaf_cell.specs.Renaming.{IsKeptAlike, AreKeptAlike, IsNamedBy, IsLive, IsRenaming}
use Rattle.leaf_cell.proofs.Renamed.{with_name, with_name-here, with_name-other_page, with_name-other_version, renamed-with_version, renamed-with_name, version_at-renamed}

-- snapshots that do not name the version that is named anew stay alike
kept-with_name : (name : ℕ → ℕ → ℕ) (page version place : ℕ) (view meant : List Kept) → (IsNamedBy page version meant → ⊥)
    → AreKeptAlike name view meant → AreKeptAlike (with_name name page version place) view meant
kept-with_name name page version place [] [] fresh alike = tt
kept-with_name name page version place [] (it ∷ others) fresh alike = absurd alike
kept-with_name name page version place (it ∷ others) [] fresh alike = absurd alike
kept-with_name name page version place (it ∷ others) (meant ∷ rest) fresh alike = (
  record {
    number = alike.0.number;
    mode = alike.0.mode;
    leaf = alike.0.leaf;
    versions = λ unlost. alike.0.versions unlost ∙ renamed-with_name name meant.versions page version place (λ there. fresh (inl (unlost, there)));
  },
  kept-with_name name page version place others rest (λ named. fresh (inr named)) alike.1,
)

-- what lives among snapshots lives under its name
pub named-alike : (name : ℕ → ℕ → ℕ) (page version : ℕ) (view meant : List Kept) → AreKeptAlike name view meant → IsNamedBy page version meant → IsNamedBy page (name page version) view
named-alike name page version [] [] alike named = absurd named
named-alike name page version [] (it ∷ others) alike named = absurd alike
named-alike name page version (it ∷ others) [] alike named = absurd alike
named-alike name page version (it ∷ others) (meant ∷ rest) alike (inl there) =
    inl (ap is_lost alike.0.leaf ∙ there.0, ap (λ vs. version_at vs page) (alike.0.versions there.0) ∙ version_at-renamed name meant.versions page ∙ ap (option_map (name page)) there.1)
named-alike name page version (it ∷ others) (meant ∷ rest) alike (inr named) = inr (named-alike name page version others rest alike.1 named)

pub live-alike : (name : ℕ → ℕ → ℕ) (view meant : CellLeaves) (page version : ℕ) → IsRenaming name view meant → IsLive meant page version → IsLive view page (name page version)
live-alike name view meant page version alike (inl there) =
    inl (ap (λ vs. version_at vs page) alike.parent ∙ version_at-renamed name meant.parent page ∙ ap (option_map (name page)) there)
live-alike name view meant page version alike (inr named) = inr (named-alike name page version view.kept meant.kept alike.kept named)

same_some : (x y : ℕ) → ◌≡◌ {A = Option ℕ} (Some x) (Some y) → x ≡ y
same_some x y e = ap (λ o. unwrap_or o x) e

-- what lives in the cell with the new version: that one, or what lived before
pub lived : (cell : CellLeaves) (page version : ℕ) → page < length cell.parent → (p v : ℕ) → IsLive (with_parent_version page version cell) p v
    → ((p ≡ page) × (v ≡ version)) ⊎ IsLive cell p v
lived cell page version inside p v (inr named) = inr (inr named)
lived cell page version inside p v (inl there) = elim (cases_eq p page) [
  | inl here ↦ inl (here, same_some v version (sym there ∙ ap (version_at (with_version cell.parent page version)) here ∙ get_or-set_same cell.parent page (Some version) None inside))
  | inr apart ↦ inr (inl (sym (get_or-set_other cell.parent page p (Some version) None apart) ∙ there))
]

module _ (name : ℕ → ℕ → ℕ) (view meant : CellLeaves) (page version place : ℕ)
    (alike : IsRenaming name view meant) (inside : page < length meant.parent)
    (fresh : (v : ℕ) → IsLive meant page v → v ≢ version) (free : IsLive view page place → ⊥) where
  new : ℕ → ℕ → ℕ
  new = with_name name page version place

  -- what lived before has the name that it had
  old_name : (p v : ℕ) → IsLive meant p v → new p v ≡ name p v
  unfolding new
  old_name p v live = elim (cases_eq p page) [
    | inl here ↦ with_name-other_version name page version place p v (fresh v (subst (λ q. IsLive meant q v) here live))
    | inr apart ↦ with_name-other_page name page version place p v apart
  ]

  new_name : (p v : ℕ) → (p ≡ page) × (v ≡ version) → new p v ≡ place
  unfolding new
  new_name p v is = ap (λ q. with_name name page version place q v) is.0 ∙ ap (with_name name page version place page) is.1 ∙ with_name-here name page version place

  -- the new name is no name of what lived
  not_old : (p v : ℕ) → p ≡ page → IsLive meant p v → place ≡ new p v → ⊥
  not_old p v here live same = free (subst (λ q. IsLive view q place) here (subst (IsLive view p) (sym (same ∙ old_name p v live)) (live-alike name view meant p v alike live)))

  new_apart : (p a b : ℕ) → IsLive (with_parent_version page version meant) p a → IsLive (with_parent_version page version meant) p b → new p a ≡ new p b → a ≡ b
  new_apart p a b la lb same = elim (lived meant page version inside p a la) [
    | inl a_new ↦ elim (lived meant page version inside p b lb) [
      | inl b_new ↦ a_new.1 ∙ sym b_new.1
      | inr b_old ↦ absurd (not_old p b a_new.0 b_old (sym (new_name p a a_new) ∙ same))
    ]
    | inr a_old ↦ elim (lived meant page version inside p b lb) [
      | inl b_new ↦ absurd (not_old p a b_new.0 a_old (sym (new_name p b b_new) ∙ sym same))
      | inr b_old ↦ alike.apart p a b a_old b_old (sym (old_name p a a_old) ∙ same ∙ old_name p b b_old)
    ]
  ]

  -- a version that was not there, at a place that was free
  pub renaming-new_version : IsRenaming (with_name name page version place) (with_parent_version page place view) (with_parent_version page version meant)
  unfolding new
  renaming-new_version = record {
    parent = ap (λ vs. with_version vs page place) alike.parent ∙ renamed-with_version name meant.parent page version place inside;
    kept = kept-with_name name page version place view.kept meant.kept (λ named. fresh version (inr named) refl) alike.kept;
    apart = new_apart;
  }

-- one snapshot is there where one is here
pub record OneAlike (name : ℕ → ℕ → ℕ) (here : Kept) (meant : List Kept) : Type 0 where
  pub it : Kept
  pub only : meant ≡ it ∷ []
  pub alike : IsKeptAlike name here it

pub one-alike : (name : ℕ → ℕ → ℕ) (here : Kept) (meant : List Kept) → AreKeptAlike name (here ∷ []) meant → OneAlike name here meant
one-alike name here [] alike = absurd alike
one-alike name here (it ∷ []) alike = record { it = it; only = refl; alike = alike.0 }
one-alike name here (it ∷ (other ∷ others)) alike = absurd alike.1
