-- Versions under other names, page by page.
use Rattle.std.proofs.Common.{◌≡◌, ◌≢◌, ℕ, zero, suc, ◌+◌, ◌<◌, [], ◌∷◌, length, get_or, Option, Some, None, refl, sym, ◌∙◌, ap, arith, inl, inr}
use Rattle.std.specs.Prelude.{is_some, Bool, true, false, cond, ◌==◌, ◌&&◌}
use Rattle.std.proofs.Math.Dec.{T, eqb_refl}
use Rattle.std.specs.Option.{option_map}
use Rattle.std.specs.List.{list_any}
use Rattle.std.proofs.lemmas.Bool.{cases_eq, ne_eqb}
use Rattle.std.proofs.lemmas.List.{same_lists, length-set, get_or-set_same, get_or-set_other, get_or_default}
use Rattle.kernel_meaning.specs.Leaves.{Versions, version_at, with_version, has_pages}
use Rattle.leaf_cell.specs.Renaming.{renamed_from, renamed}

length-renamed_from : (name : ℕ → ℕ → ℕ) (page : ℕ) (versions : Versions) → length (renamed_from name page versions) ≡ length versions
length-renamed_from name page [] = refl
length-renamed_from name page (None ∷ versions) = ap suc (length-renamed_from name (page + 1) versions)
length-renamed_from name page (Some v ∷ versions) = ap suc (length-renamed_from name (page + 1) versions)

pub length-renamed : (name : ℕ → ℕ → ℕ) (versions : Versions) → length (renamed name versions) ≡ length versions
length-renamed name versions = length-renamed_from name 0 versions

-- the name of what stands at a page
at-renamed_from : (name : ℕ → ℕ → ℕ) (page : ℕ) (versions : Versions) (i : ℕ) → get_or (renamed_from name page versions) i None ≡ option_map (name (page + i)) (get_or versions i None)
at-renamed_from name page [] i = refl
at-renamed_from name page (None ∷ versions) zero = refl
at-renamed_from name page (Some v ∷ versions) zero = ap (λ p. Some (name p v)) (omega arith)
at-renamed_from name page (None ∷ versions) (suc i) = at-renamed_from name (page + 1) versions i ∙ ap (λ p. option_map (name p) (get_or versions i None)) (omega arith)
at-renamed_from name page (Some v ∷ versions) (suc i) = at-renamed_from name (page + 1) versions i ∙ ap (λ p. option_map (name p) (get_or versions i None)) (omega arith)

pub version_at-renamed : (name : ℕ → ℕ → ℕ) (versions : Versions) (page : ℕ) → version_at (renamed name versions) page ≡ option_map (name page) (version_at versions page)
version_at-renamed name versions page = at-renamed_from name 0 versions page ∙ ap (λ p. option_map (name p) (version_at versions page)) (omega arith)

-- what is read of a list does not depend on the default where it is there
pub same_versions : (a b : Versions) → length a ≡ length b → ((page : ℕ) → page < length a → version_at a page ≡ version_at b page) → a ≡ b
same_versions a b size each = same_lists a b size (λ k d small.
    get_or_default a k d None small ∙ each k small ∙ sym (get_or_default b k d None (omega (arith, size, small))))

true_of : (b : Bool) → T b → b ≡ true
true_of true h = refl
true_of false h = absurd h

pub eqb-refl : (n : ℕ) → (n == n) ≡ true
eqb-refl n = true_of (n == n) (eqb_refl n)

and-false : (a : Bool) → (a && false) ≡ false
and-false true = refl
and-false false = refl

-- one version of one page has this name, and the others those that they had
abbrev pub with_name : (ℕ → ℕ → ℕ) → ℕ → ℕ → ℕ → ℕ → ℕ → ℕ
with_name name page version place p v = cond ((p == page) && (v == version)) place (name p v)

pub with_name-here : (name : ℕ → ℕ → ℕ) (page version place : ℕ) → with_name name page version place page version ≡ place
with_name-here name page version place = ap (λ b. cond (b && (version == version)) place (name page version)) (eqb-refl page) ∙ ap (λ b. cond b place (name page version)) (eqb-refl version)

pub with_name-other_page : (name : ℕ → ℕ → ℕ) (page version place p v : ℕ) → p ≢ page → with_name name page version place p v ≡ name p v
with_name-other_page name page version place p v apart = ap (λ b. cond (b && (v == version)) place (name p v)) (ne_eqb p page apart)

pub with_name-other_version : (name : ℕ → ℕ → ℕ) (page version place p v : ℕ) → v ≢ version → with_name name page version place p v ≡ name p v
with_name-other_version name page version place p v apart = ap (λ b. cond ((p == page) && b) place (name p v)) (ne_eqb v version apart) ∙ ap (λ b. cond b place (name p v)) (and-false (p == page))

-- the parent's new version under its new name
pub renamed-with_version : (name : ℕ → ℕ → ℕ) (versions : Versions) (page version place : ℕ) → page < length versions
    → with_version (renamed name versions) page place ≡ renamed (with_name name page version place) (with_version versions page version)
renamed-with_version name versions page version place inside =
    let new : ℕ → ℕ → ℕ = with_name name page version place in
    let size : length (with_version (renamed name versions) page place) ≡ length (renamed new (with_version versions page version)) =
    length-set (renamed name versions) page (Some place) ∙ length-renamed name versions ∙ sym (length-set versions page (Some version)) ∙ sym (length-renamed new (with_version versions page version)) in
    same_versions (with_version (renamed name versions) page place) (renamed new (with_version versions page version)) size (λ p small. elim (cases_eq p page) [
      | inl here ↦ ap (version_at (with_version (renamed name versions) page place)) here
          ∙ get_or-set_same (renamed name versions) page (Some place) None (rw (length-renamed name versions) inside)
          ∙ ap Some (sym (with_name-here name page version place))
          ∙ ap (option_map (new page)) (sym (get_or-set_same versions page (Some version) None inside))
          ∙ sym (version_at-renamed new (with_version versions page version) page)
          ∙ ap (version_at (renamed new (with_version versions page version))) (sym here)
      | inr apart ↦ get_or-set_other (renamed name versions) page p (Some place) None apart
          ∙ version_at-renamed name versions p
          ∙ same_names p (version_at versions p) apart
          ∙ ap (option_map (new p)) (sym (get_or-set_other versions page p (Some version) None apart))
          ∙ sym (version_at-renamed new (with_version versions page version) p)
    ])
  where
    same_names : (p : ℕ) (o : Option ℕ) → p ≢ page → option_map (name p) o ≡ option_map (with_name name page version place p) o
    same_names p None apart = refl
    same_names p (Some v) apart = ap Some (sym (with_name-other_page name page version place p v apart))

-- versions that do not have the one that was named anew keep their names
pub renamed-with_name : (name : ℕ → ℕ → ℕ) (versions : Versions) (page version place : ℕ) → (version_at versions page ≡ Some version → ⊥)
    → renamed name versions ≡ renamed (with_name name page version place) versions
renamed-with_name name versions page version place fresh =
    let new : ℕ → ℕ → ℕ = with_name name page version place in
    same_versions (renamed name versions) (renamed new versions) (length-renamed name versions ∙ sym (length-renamed new versions)) (λ p small.
    version_at-renamed name versions p ∙ same_names p (version_at versions p) refl ∙ sym (version_at-renamed new versions p))
  where
    same_names : (p : ℕ) (o : Option ℕ) → version_at versions p ≡ o → option_map (name p) o ≡ option_map (with_name name page version place p) o
    same_names p None is = refl
    same_names p (Some v) is = elim (cases_eq p page) [
      | inl here ↦ elim (cases_eq v version) [
        | inl same ↦ absurd (fresh (ap (version_at versions) (sym here) ∙ is ∙ ap Some same))
        | inr apart ↦ ap Some (sym (with_name-other_version name page version place p v apart))
      ]
      | inr apart ↦ ap Some (sym (with_name-other_page name page version place p v apart))
    ]

-- whether some page is there does not depend on names
pub has_pages-renamed : (name : ℕ → ℕ → ℕ) (versions : Versions) → has_pages (renamed name versions) ≡ has_pages versions
has_pages-renamed name versions = from 0 versions
  where
    from : (page : ℕ) (vs : Versions) → list_any is_some (renamed_from name page vs) ≡ list_any is_some vs
    from page [] = refl
    from page (None ∷ vs) = from (page + 1) vs
    from page (Some v ∷ vs) = refl
