-- Distinct pairs, counted.
use Rattle.std.proofs.Common.{◌≡◌, ◌≢◌, ℕ, suc, ◌+◌, ◌<◌, List, [], ◌∷◌, length, Option, Some, None, refl, sym, ◌∙◌, ap, subst, arith, inl, inr, ◌⊎◌}
use Rattle.std.specs.Prelude.{is_some, IsSome, Bool, true, false, cond, ◌==◌, ◌&&◌, ◌||◌, slice_set, slice_index_or, count_by}
use Rattle.std.specs.List.{list_any}
use Rattle.std.proofs.lemmas.Bool.{cases_eq, cases_lt, ne_eqb, false≢true, and_parts}
use Rattle.std.proofs.lemmas.List.{get_or-set_same, get_or-set_other, get_or_past}
use Rattle.std.proofs.lemmas.List.Sums.{sum_by-set, sum_by-cons}
use Rattle.kernel_meaning.specs.Leaves.{is_same_pair, distinct_pairs}
use Rattle.leaf_cell.proofs.Renamed.{eqb-refl}

-- a pair is in a list
abbrev pub IsIn : ℕ × ℕ → List (ℕ × ℕ) → Type 0
IsIn x [] = ⊥
IsIn x (y ∷ ys) = (x ≡ y) ⊎ IsIn x ys

-- no pair comes twice
abbrev pub AreOnce : List (ℕ × ℕ) → Type 0
AreOnce [] = Unit {0}
AreOnce (x ∷ xs) = (IsIn x xs → ⊥) × AreOnce xs

pub eqb-true : (a b : ℕ) → (a == b) ≡ true → a ≡ b
eqb-true a b h = elim (cases_eq a b) [ inl same ↦ same | inr apart ↦ absurd (false≢true (sym (ne_eqb a b apart) ∙ h)) ]

pub same-pair : (x y : ℕ × ℕ) → is_same_pair x y ≡ true → x ≡ y
same-pair x y h = let parts : ((x.0 == y.0) ≡ true) × ((x.1 == y.1) ≡ true) = and_parts (x.0 == y.0) (x.1 == y.1) h in λ i. (eqb-true x.0 y.0 parts.0 i, eqb-true x.1 y.1 parts.1 i)

pub pair-same : (x y : ℕ × ℕ) → x ≡ y → is_same_pair x y ≡ true
pair-same x y e = ap (is_same_pair x) (sym e) ∙ ap (λ b. b && (x.1 == x.1)) (eqb-refl x.0) ∙ eqb-refl x.1

or-cases : (a b : Bool) → (a || b) ≡ true → (a ≡ true) ⊎ (b ≡ true)
or-cases true b h = inl refl
or-cases false b h = inr h

or-right : (a b : Bool) → b ≡ true → (a || b) ≡ true
or-right true b h = refl
or-right false b h = h

or-left : (a b : Bool) → a ≡ true → (a || b) ≡ true
or-left true b h = refl
or-left false b h = absurd (false≢true h)

is-in : (x : ℕ × ℕ) (ys : List (ℕ × ℕ)) → list_any (is_same_pair x) ys ≡ true → IsIn x ys
is-in x [] h = absurd (false≢true h)
is-in x (y ∷ ys) h = elim (or-cases (is_same_pair x y) (list_any (is_same_pair x) ys) h) [ inl here ↦ inl (same-pair x y here) | inr later ↦ inr (is-in x ys later) ]

in-is : (x : ℕ × ℕ) (ys : List (ℕ × ℕ)) → IsIn x ys → list_any (is_same_pair x) ys ≡ true
in-is x [] h = absurd h
in-is x (y ∷ ys) (inl here) = or-left (is_same_pair x y) (list_any (is_same_pair x) ys) (pair-same x y here)
in-is x (y ∷ ys) (inr later) = or-right (is_same_pair x y) (list_any (is_same_pair x) ys) (in-is x ys later)

-- what is among the distinct pairs is in the list
pub from-distinct : (x : ℕ × ℕ) (ys : List (ℕ × ℕ)) → IsIn x (distinct_pairs ys) → IsIn x ys
from-distinct x [] h = h
from-distinct x (y ∷ ys) h = by (list_any (is_same_pair y) ys) (from-distinct x ys) h
  where
    by : (b : Bool) → (IsIn x (distinct_pairs ys) → IsIn x ys) → IsIn x (cond b (distinct_pairs ys) (y ∷ distinct_pairs ys)) → IsIn x (y ∷ ys)
    by true rest h = inr (rest h)
    by false rest (inl here) = inl here
    by false rest (inr later) = inr (rest later)

-- and the other way
pub to-distinct : (x : ℕ × ℕ) (ys : List (ℕ × ℕ)) → IsIn x ys → IsIn x (distinct_pairs ys)
to-distinct x [] h = h
to-distinct x (y ∷ ys) h = by (list_any (is_same_pair y) ys) refl (to-distinct x ys) h
  where
    by : (b : Bool) → list_any (is_same_pair y) ys ≡ b → (IsIn x ys → IsIn x (distinct_pairs ys)) → IsIn x (y ∷ ys) → IsIn x (cond b (distinct_pairs ys) (y ∷ distinct_pairs ys))
    by true is rest (inl here) = rest (subst (λ z. IsIn z ys) (sym here) (is-in y ys is))
    by true is rest (inr later) = rest later
    by false is rest (inl here) = inl here
    by false is rest (inr later) = inr (rest later)

pub distinct-once : (ys : List (ℕ × ℕ)) → AreOnce (distinct_pairs ys)
distinct-once [] = tt
distinct-once (y ∷ ys) = by (list_any (is_same_pair y) ys) refl (distinct-once ys)
  where
    by : (b : Bool) → list_any (is_same_pair y) ys ≡ b → AreOnce (distinct_pairs ys) → AreOnce (cond b (distinct_pairs ys) (y ∷ distinct_pairs ys))
    by true is rest = rest
    by false is rest = ((λ h. false≢true (sym is ∙ in-is y ys (from-distinct y ys h))), rest)

-- no place is filled
none-filled : {X : Type 0} (frames : List (Option X)) → ((q : ℕ) → IsSome (slice_index_or frames q None) → ⊥) → count_by is_some frames ≡ 0
none-filled [] none = refl
none-filled (None ∷ frames) none = omega (arith, sum_by-cons (λ o. cond (is_some o) 1 0) None frames, none-filled frames (λ q. none (suc q)))
none-filled (Some x ∷ frames) none = absurd (none 0 refl)

pub filled-below : {X : Type 0} (frames : List (Option X)) (q : ℕ) → IsSome (slice_index_or frames q None) → q < length frames
filled-below frames q there = elim (cases_lt q (length frames)) [
  | inl small ↦ small
  | inr large ↦ absurd (false≢true (sym (ap is_some (get_or_past frames q None large)) ∙ there))
]

-- as many pairs as places that are filled, where each pair has one and each has a pair
pub count-pairs : {X : Type 0} (pairs : List (ℕ × ℕ)) (frames : List (Option X)) → AreOnce pairs → ((x y : ℕ × ℕ) → IsIn x pairs → IsIn y pairs → x.1 ≡ y.1 → x ≡ y)
    → ((x : ℕ × ℕ) → IsIn x pairs → IsSome (slice_index_or frames x.1 None)) → ((q : ℕ) → IsSome (slice_index_or frames q None) → (x : ℕ × ℕ) × (IsIn x pairs × (x.1 ≡ q)))
    → length pairs ≡ count_by is_some frames
count-pairs [] frames once apart filled all = sym (none-filled frames (λ q there. (all q there).1.0))
count-pairs {X} (x ∷ xs) frames once apart filled all =
    let here : IsSome (slice_index_or frames x.1 None) = filled x (inl refl) in
    let inside : x.1 < length frames = filled-below frames x.1 here in
    let left : List (Option X) = slice_set frames x.1 None in
    let other : (y : ℕ × ℕ) → IsIn y xs → y.1 ≢ x.1 = λ y h same. once.0 (subst (λ z. IsIn z xs) (apart y x (inr h) (inl refl) same) h) in
    let less : count_by is_some left + cond (is_some (slice_index_or frames x.1 None)) 1 0 ≡ count_by is_some frames + 0 = sum_by-set (λ o. cond (is_some o) 1 0) frames x.1 None None inside in
    let one : ◌≡◌ {A = ℕ} (cond (is_some (slice_index_or frames x.1 None)) 1 0) 1 = ap (λ b. cond b 1 0) here in
    let rest : length xs ≡ count_by is_some left = count-pairs xs left once.1 (λ a b ha hb. apart a b (inr ha) (inr hb))
    (λ y h. ap is_some (get_or-set_other frames x.1 y.1 None None (other y h)) ∙ filled y (inr h))
    (λ q there. still q there) in
    omega (arith, less, one, rest)
  where
    still : (q : ℕ) → IsSome (slice_index_or (slice_set frames x.1 None) q None) → (y : ℕ × ℕ) × (IsIn y xs × (y.1 ≡ q))
    still q there = elim (cases_eq q x.1) [
      | inl same ↦ absurd (false≢true (sym (ap is_some (ap (λ i. slice_index_or (slice_set frames x.1 None) i None) same ∙ get_or-set_same frames x.1 None None (filled-below frames x.1 (filled x (inl refl))))) ∙ there))
      | inr apart_q ↦
          let found : (y : ℕ × ℕ) × (IsIn y (x ∷ xs) × (y.1 ≡ q)) = all q (ap is_some (sym (get_or-set_other frames x.1 q None None apart_q)) ∙ there) in
          elim found.1.0 [
            | inl e ↦ absurd (apart_q (sym (ap (λ z. z.1) (sym e) ∙ found.1.1)))
            | inr h ↦ (found.0, (h, found.1.1))
          ]
    ]
