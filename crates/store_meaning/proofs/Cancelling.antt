-- One element in front of two lists of the same elements, taken from both.
use Rattle.std.proofs.Common.{◌≡◌, ℕ, ◌≤◌, Bool, cond, List, [], ◌∷◌, refl, sym, subst, arith, inl, inr, IsPermutation, sum_by, Decides}
use Rattle.std.proofs.lemmas.Bool.{cases_Bool, cond-true, cond-false}
use Rattle.std.proofs.lemmas.List.Sums.{sum_by-cons}
use Rattle.std.proofs.lemmas.List.Sorted.{IsPermutation-refl, IsPermutation-sym, IsPermutation-trans, IsPermutation-cons, IsPermutation-middle, sum_by-IsPermutation}

module _ {X : Type 0} (same : X → X → Bool) (decides : (x y : X) → Decides (same x y) (x ≡ y)) where
  -- 1 for the element
  abbrev one_of : X → X → ℕ
  one_of x y = cond (same x y) 1 0

  -- a list that counts an element has it in front, in another order
  pulled : (x : X) (ys : List X) → 1 ≤ sum_by (one_of x) ys → (rest : List X) × IsPermutation ys (x ∷ rest)
  pulled x [] some = absurd (omega (arith, some))
  pulled x (y ∷ ys) some = elim (cases_Bool (same x y)) [
    | inl here ↦ (ys, subst (λ z. IsPermutation (y ∷ ys) (z ∷ ys)) (sym ((decides x y).0 here)) (IsPermutation-refl (y ∷ ys)))
    | inr past ↦
        let count = sum_by-cons (one_of x) y ys in
        let none : one_of x y ≡ 0 = cond-false (same x y) 1 0 past in
        let later = pulled x ys (omega (arith, some, count, none)) in (
          y ∷ later.0,
          IsPermutation-trans _ _ _ (IsPermutation-cons y ys (x ∷ later.0) later.1) (IsPermutation-middle (y ∷ []) x later.0),
        )
  ]

  -- lists that count each element alike have the same elements
  counted : (xs ys : List X) → ((x : X) → sum_by (one_of x) ys ≡ sum_by (one_of x) xs) → IsPermutation xs ys
  counted [] [] alike = IsPermutation-refl []
  counted [] (y ∷ ys) alike =
      let one : one_of y y ≡ 1 = cond-true (same y y) 1 0 ((decides y y).1 refl) in
      absurd (omega (arith, one, sum_by-cons (one_of y) y ys, alike y))
  counted (x ∷ xs) ys alike =
      let one : one_of x x ≡ 1 = cond-true (same x x) 1 0 ((decides x x).1 refl) in
      let front = pulled x ys (omega (arith, one, sum_by-cons (one_of x) x xs, alike x)) in
      IsPermutation-trans _ _ _
      (IsPermutation-cons x xs front.0 (counted xs front.0 (λ z.
      omega (
        arith,
        alike z,
        sum_by-cons (one_of z) x xs,
        sum_by-cons (one_of z) x front.0,
        sum_by-IsPermutation (one_of z) ys (x ∷ front.0) front.1,
      ))))
      (IsPermutation-sym _ _ front.1)

  -- what stands in front of both is taken from both
  pub cancelled : (x : X) (xs ys : List X) → IsPermutation (x ∷ xs) (x ∷ ys) → IsPermutation xs ys
  cancelled x xs ys both = counted xs ys (λ z.
      omega (
        arith,
        sum_by-cons (one_of z) x xs,
        sum_by-cons (one_of z) x ys,
        sum_by-IsPermutation (one_of z) (x ∷ xs) (x ∷ ys) both,
      ))
