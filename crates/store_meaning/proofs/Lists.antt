-- Facts on each element of lists that are put together.
use Rattle.std.proofs.Common.{◌≡◌, ℕ, zero, suc, ◌+◌, ◌<◌, ◌≤◌, List, [], ◌∷◌, ◌++◌, map, refl, sym, ◌∙◌, ap, subst, arith, inl, inr, Contains, IsPermutation}
use Rattle.std.specs.List.{AllByRecursion, flat_map, range_with_len}
use Rattle.std.proofs.lemmas.Bool.{cases_eq}
use Rattle.std.proofs.lemmas.List.Elements.{recursion_from_All, All-from_recursion}
use Rattle.std.proofs.lemmas.List.Sorted.{IsPermutation-refl, IsPermutation-trans, IsPermutation-sym, IsPermutation-middle, IsPermutation-append_right, All-permutation}
use Rattle.store_meaning.specs.Layout.{classes}

pub all_mono : {X : Type 0} (P Q : X → Type 0) (xs : List X) → ((x : X) → P x → Q x) → AllByRecursion P xs → AllByRecursion Q xs
all_mono P Q [] more all = tt
all_mono P Q (x ∷ xs) more all = (more x all.0, all_mono P Q xs more all.1)

pub all_left : {X : Type 0} (P : X → Type 0) (xs ys : List X) → AllByRecursion P (xs ++ ys) → AllByRecursion P xs
all_left P [] ys all = tt
all_left P (x ∷ xs) ys all = (all.0, all_left P xs ys all.1)

pub all_right : {X : Type 0} (P : X → Type 0) (xs ys : List X) → AllByRecursion P (xs ++ ys) → AllByRecursion P ys
all_right P [] ys all = all
all_right P (x ∷ xs) ys all = all_right P xs ys all.1

pub all_both : {X : Type 0} (P : X → Type 0) (xs ys : List X) → AllByRecursion P xs → AllByRecursion P ys → AllByRecursion P (xs ++ ys)
all_both P [] ys left right = right
all_both P (x ∷ xs) ys left right = (left.0, all_both P xs ys left.1 right)

pub all_map : {X Y : Type 0} (P : Y → Type 0) (f : X → Y) (xs : List X) → AllByRecursion P (map f xs) → AllByRecursion (λ x. P (f x)) xs
all_map P f [] all = tt
all_map P f (x ∷ xs) all = (all.0, all_map P f xs all.1)

pub map_all : {X Y : Type 0} (P : Y → Type 0) (f : X → Y) (xs : List X) → AllByRecursion (λ x. P (f x)) xs → AllByRecursion P (map f xs)
map_all P f [] all = tt
map_all P f (x ∷ xs) all = (all.0, map_all P f xs all.1)

-- of the lists of a range, one
pub all_among : {X : Type 0} (P : X → Type 0) (f : ℕ → List X) (n first k : ℕ) → first ≤ k → k < first + n
    → AllByRecursion P (flat_map f (range_with_len first n)) → AllByRecursion P (f k)
all_among P f zero first k low high all = absurd (omega (arith, low, high))
all_among P f (suc n) first k low high all = elim (cases_eq first k) [
  | inl here ↦ subst (λ q. AllByRecursion P (f q)) here (all_left P (f first) (flat_map f (range_with_len (first + 1) n)) all)
  | inr apart ↦
      all_among P f n (first + 1) k (omega (arith, low, apart)) (omega (arith, high))
      (all_right P (f first) (flat_map f (range_with_len (first + 1) n)) all)
]

-- what holds of each element of a list holds of those of another order
pub all_permuted : {X : Type 0} (P : X → Type 0) (xs ys : List X) → IsPermutation xs ys → AllByRecursion P xs → AllByRecursion P ys
all_permuted P xs ys same all = recursion_from_All P ys (All-permutation P xs ys same (All-from_recursion P xs all))

-- and of one that the list contains
pub all_contained : {X : Type 0} (P : X → Type 0) (xs : List X) (x : X) → Contains xs x → AllByRecursion P xs → P x
all_contained P xs x there all = subst P there.2 (All-from_recursion P xs all there.0 x there.1)

-- the lists of a range where those of one place have an element more in front
pub flat_map-more : {X : Type 0} (f g : ℕ → List X) (x : X) (n first k : ℕ) → first ≤ k → k < first + n → f k ≡ x ∷ g k
    → ((q : ℕ) → (q ≡ k → ⊥) → f q ≡ g q) → IsPermutation (x ∷ flat_map g (range_with_len first n)) (flat_map f (range_with_len first n))
flat_map-more f g x zero first k low high here apart = absurd (omega (arith, low, high))
flat_map-more f g x (suc n) first k low high here apart = elim (cases_eq first k) [
  | inl same ↦
      let front : f first ≡ x ∷ g first = ap f same ∙ here ∙ ap (λ q. x ∷ g q) (sym same) in
      let rest : flat_map f (range_with_len (first + 1) n) ≡ flat_map g (range_with_len (first + 1) n) =
      alike n (first + 1) (omega (arith, same)) in
      subst (IsPermutation (x ∷ (g first ++ flat_map g (range_with_len (first + 1) n))))
      (sym (ap (λ l. l ++ flat_map f (range_with_len (first + 1) n)) front ∙ ap (λ l. x ∷ (g first ++ l)) rest)) (IsPermutation-refl _)
  | inr other ↦
      let later = flat_map-more f g x n (first + 1) k (omega (arith, low, other)) (omega (arith, high)) here apart in
      let through = IsPermutation-sym _ _ (IsPermutation-middle (g first) x (flat_map g (range_with_len (first + 1) n))) in
      let all =
      IsPermutation-trans _ _ _ through
      (IsPermutation-append_right (g first) (x ∷ flat_map g (range_with_len (first + 1) n))
      (flat_map f (range_with_len (first + 1) n)) later) in
      subst (λ l. IsPermutation (x ∷ (g first ++ flat_map g (range_with_len (first + 1) n)))
      (l ++ flat_map f (range_with_len (first + 1) n))) (sym (apart first other)) all
]
  where
    alike : (m from : ℕ) → k < from → flat_map f (range_with_len from m) ≡ flat_map g (range_with_len from m)
    alike zero from above = refl
    alike (suc m) from above =
        ap (λ l. l ++ flat_map f (range_with_len (from + 1) m)) (apart from (λ same. omega (arith, same, above)))
        ∙ ap (λ l. g from ++ l) (alike m (from + 1) (omega (arith, above)))

-- the numbers of a range
pub range_within : (n first : ℕ) → AllByRecursion (λ q. (first ≤ q) × (q < first + n)) (range_with_len first n)
range_within zero first = tt
range_within (suc n) first = (
  (omega arith, omega arith),
  all_mono (λ q. (first + 1 ≤ q) × (q < first + 1 + n)) (λ q. (first ≤ q) × (q < first + suc n)) (range_with_len (first + 1) n)
      (λ q is. (omega (arith, is.0), omega (arith, is.1))) (range_within n (first + 1)),
)

-- a class is a number from 5 to 21
pub class_within : (class : ℕ) → Contains classes class → (5 ≤ class) × (class < 22)
class_within class there = all_contained (λ q. (5 ≤ q) × (q < 22)) classes class there (range_within 17 5)
