-- A table without the pages of a range.
use Rattle.std.proofs.Common.{◌≡◌, ℕ, zero, suc, ◌+◌, ◌-◌, ◌<◌, ◌≤◌, [], ◌∷◌, ◌++◌, length, take, drop, replicate, get_or, Option, Some, None, refl, sym, ◌∙◌, ap, arith, inl, inr, ◌⊎◌, append_assoc}
use Rattle.std.specs.Prelude.{false}
use Rattle.std.specs.Option.{option_map}
use Rattle.std.proofs.Math.ListN.{get_or-append}
use Rattle.std.proofs.Math.Seq.{get_or-append_right}
use Rattle.std.proofs.lemmas.Bool.{cases_lt, false≢true}
use Rattle.std.proofs.lemmas.List.{length-append, length-drop, length-take-le, length-replicate, get_or-replicate, get_or-take, get_or-drop}
use Rattle.kernel_meaning.specs.Leaves.{Versions, no_versions, version_at, without_versions, has_pages}
use Rattle.leaf_cell.specs.Renaming.{renamed}
use Rattle.leaf_cell.proofs.AbsentPages.{version_at-none}
use Rattle.leaf_cell.proofs.Renamed.{same_versions, length-renamed, version_at-renamed}

-- a page lies in a range, or outside it
pub in-or-out : (first n p : ℕ) → ((first ≤ p) × (p < first + n)) ⊎ ((p < first) ⊎ (first + n ≤ p))
in-or-out first n p = elim (cases_lt p first) [
  | inl below ↦ inr (inl below)
  | inr from ↦ elim (cases_lt p (first + n)) [
    | inl within ↦ inl (from, within)
    | inr above ↦ inr (inr above)
  ]
]

module _ (versions : Versions) (first n : ℕ) (fits : first + n ≤ length versions) where
  front : length (take first versions) ≡ first
  front = length-take-le first versions (omega arith)

  gap : length (replicate {A = Option ℕ} n None) ≡ n
  gap = length-replicate {A = Option ℕ} n None

  parts : without_versions versions first n ≡ take first versions ++ (replicate n None ++ drop (first + n) versions)
  parts = append_assoc (take first versions) (replicate n None) (drop (first + n) versions)

  pub length-without : length (without_versions versions first n) ≡ length versions
  length-without = omega (
    arith,
    length-append (take first versions ++ replicate n None) (drop (first + n) versions),
    length-append (take first versions) (replicate n None),
    length-drop (first + n) versions,
    front,
    gap,
    fits,
  )

  without-below : (k : ℕ) → k < first → version_at (without_versions versions first n) k ≡ version_at versions k
  without-below k below =
      let small : k < length (take first versions) = omega (arith, front) in
      ap (λ vs. version_at vs k) parts ∙ get_or-append (take first versions) (replicate n None ++ drop (first + n) versions) None k small ∙ get_or-take first versions k None below

  without-above : (k : ℕ) → first + n ≤ k → version_at (without_versions versions first n) k ≡ version_at versions k
  without-above k above =
      let far : length (take first versions) ≤ k = omega (arith, front) in
      let far_too : length (replicate {A = Option ℕ} n None) ≤ k - length (take first versions) = omega (arith, front, gap) in
      let place : first + n + (k - length (take first versions) - length (replicate {A = Option ℕ} n None)) ≡ k = omega (arith, front, gap) in
      ap (λ vs. version_at vs k) parts ∙ get_or-append_right (take first versions) (replicate n None ++ drop (first + n) versions) k None far
      ∙ get_or-append_right (replicate n None) (drop (first + n) versions) (k - length (take first versions)) None far_too
      ∙ get_or-drop (first + n) versions (k - length (take first versions) - length (replicate {A = Option ℕ} n None)) None
      ∙ ap (λ i. get_or versions i None) place

  -- no page of the range is there
  pub without-within : (k : ℕ) → first ≤ k → k < first + n → version_at (without_versions versions first n) k ≡ None
  without-within k above below =
      let far : length (take first versions) ≤ k = omega (arith, front) in
      let small : k - length (take first versions) < length (replicate {A = Option ℕ} n None) = omega (arith, front, gap) in
      let small_too : k - length (take first versions) < n = omega (arith, front) in
      ap (λ vs. version_at vs k) parts ∙ get_or-append_right (take first versions) (replicate n None ++ drop (first + n) versions) k None far
      ∙ get_or-append (replicate n None) (drop (first + n) versions) None (k - length (take first versions)) small
      ∙ get_or-replicate n (k - length (take first versions)) None None small_too

  -- and each other is as it was
  pub without-outside : (k : ℕ) → (k < first) ⊎ (first + n ≤ k) → version_at (without_versions versions first n) k ≡ version_at versions k
  without-outside k (inl below) = without-below k below
  without-outside k (inr above) = without-above k above

-- pages are gone under any names
pub renamed-without : (name : ℕ → ℕ → ℕ) (versions : Versions) (first n : ℕ) → first + n ≤ length versions → without_versions (renamed name versions) first n ≡ renamed name (without_versions versions first n)
renamed-without name versions first n fits =
    let size : length (renamed name versions) ≡ length versions = length-renamed name versions in
    let fits_too : first + n ≤ length (renamed name versions) = omega (arith, size, fits) in
    same_versions (without_versions (renamed name versions) first n) (renamed name (without_versions versions first n))
    (length-without (renamed name versions) first n fits_too ∙ size ∙ sym (length-renamed name (without_versions versions first n) ∙ length-without versions first n fits))
    (λ k small. elim (in-or-out first n k) [
      | inl within ↦ without-within (renamed name versions) first n fits_too k within.0 within.1
          ∙ sym (version_at-renamed name (without_versions versions first n) k ∙ ap (option_map (name k)) (without-within versions first n fits k within.0 within.1))
      | inr outside ↦ without-outside (renamed name versions) first n fits_too k outside ∙ version_at-renamed name versions k
          ∙ sym (version_at-renamed name (without_versions versions first n) k ∙ ap (option_map (name k)) (without-outside versions first n fits k outside))
    ])

-- where no page is left there is none at any place
pub none-left : (versions : Versions) → has_pages versions ≡ false → (page : ℕ) → version_at versions page ≡ None
none-left [] none page = refl
none-left (None ∷ versions) none zero = refl
none-left (None ∷ versions) none (suc page) = none-left versions none page
none-left (Some v ∷ versions) none page = absurd (false≢true (sym none))

pub table-none : (versions : Versions) → length versions ≡ 512 → has_pages versions ≡ false → no_versions ≡ versions
table-none versions size none = sym (same_versions versions no_versions (size ∙ sym (length-replicate {A = Option ℕ} 512 None)) (λ page small. none-left versions none page ∙ sym (version_at-none page)))
