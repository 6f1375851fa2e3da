-- A cell without some pages of the parent counts no more frames.
use Rattle.std.proofs.Common.{◌≡◌, ℕ, suc, ◌+◌, ◌≤◌, List, [], ◌∷◌, length, cond, refl, sym, ◌∙◌, ap, subst, arith, inl, inr, ◌⊎◌}
use Rattle.std.specs.Prelude.{true, false, is_some}
use Rattle.std.proofs.lemmas.Bool.{false≢true}
use Rattle.kernel_meaning.specs.Leaves.{CellLeaves, without_versions, has_pages, share, parent_leaves, own_leaves, named_pairs}
use Rattle.leaf_cell.specs.Renaming.{IsLive}
use Rattle.leaf_cell.proofs.PairCounts.{IsIn, AreOnce, from-distinct, to-distinct, distinct-once}
use Rattle.leaf_cell.proofs.LivePairs.{all_pairs, in-live, live-in}
use Rattle.leaf_cell.proofs.Without.{in-or-out, without-within, without-outside}
use Rattle.page_tables.specs.Clearing.{cell_without}

-- a pair of a list, and the list that is left without it
abbrev Rest : ℕ × ℕ → List (ℕ × ℕ) → Type 0
Rest x ys = (zs : List (ℕ × ℕ)) × ((suc (length zs) ≡ length ys) × ((y : ℕ × ℕ) → IsIn y ys → (y ≡ x) ⊎ IsIn y zs))

taken-out : (x : ℕ × ℕ) (ys : List (ℕ × ℕ)) → IsIn x ys → Rest x ys
taken-out x [] h = absurd h
taken-out x (z ∷ zs) (inl e) = (zs, (refl, λ y h. elim h [ inl f ↦ inl (f ∙ sym e) | inr later ↦ inr later ]))
taken-out x (z ∷ zs) (inr h) =
    let rest : Rest x zs = taken-out x zs h in
    (z ∷ rest.0, (ap suc rest.1.0, λ y h. elim h [ inl f ↦ inr (inl f) | inr later ↦ elim (rest.1.1 y later) [ inl same ↦ inl same | inr there ↦ inr (inr there) ] ]))

-- pairs that come once, all of another list, are no more than it has
pub once-within : (xs ys : List (ℕ × ℕ)) → AreOnce xs → ((x : ℕ × ℕ) → IsIn x xs → IsIn x ys) → length xs ≤ length ys
once-within [] ys once each = omega arith
once-within (x ∷ xs) ys once each =
    let rest : Rest x ys = taken-out x ys (each x (inl refl)) in
    let fewer : length xs ≤ length rest.0 = once-within xs rest.0 once.1 (λ y h. elim (rest.1.1 y (each y (inr h))) [
      | inl same ↦ absurd (once.0 (subst (λ z. IsIn z xs) same h))
      | inr there ↦ there
    ]) in
    omega (arith, fewer, rest.1.0)

module _ (cell : CellLeaves) (first n : ℕ) (fits : first + n ≤ length cell.parent) where
  -- what lives afterwards lived before
  pub lived-before : (p v : ℕ) → IsLive (cell_without first n cell) p v → IsLive cell p v
  lived-before p v (inr named) = inr named
  lived-before p v (inl there) = elim (in-or-out first n p) [
    | inl within ↦ absurd (false≢true (ap is_some (sym (without-within cell.parent first n fits p within.0 within.1) ∙ there)))
    | inr outside ↦ inl (sym (without-outside cell.parent first n fits p outside) ∙ there)
  ]

  pairs-left : length (named_pairs (cell_without first n cell)) ≤ length (named_pairs cell)
  pairs-left = once-within (named_pairs (cell_without first n cell)) (named_pairs cell) (distinct-once (all_pairs (cell_without first n cell)))
      (λ x h. to-distinct x (all_pairs cell) (live-in cell x.0 x.1 (lived-before x.0 x.1 (in-live (cell_without first n cell) x (from-distinct x (all_pairs (cell_without first n cell)) h)))))

  pub less-share : has_pages cell.parent ≡ true → share (cell_without first n cell) ≤ share cell
  less-share had =
      let one : parent_leaves cell ≡ 1 = ap (λ b. cond b 1 0) had in
      let few : parent_leaves (cell_without first n cell) ≤ 1 = elim (has_pages (without_versions cell.parent first n)) as (λ b. cond b 1 0 ≤ 1) [ true ↦ omega arith | false ↦ omega arith ] in
      let own : own_leaves (cell_without first n cell) ≡ own_leaves cell = refl in
      omega (arith, one, few, own, pairs-left)
