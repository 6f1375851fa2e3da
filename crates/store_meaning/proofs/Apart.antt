-- Ranges of bytes that lie apart from each other.
use Rattle.std.proofs.Common.{◌≡◌, ℕ, zero, suc, ◌+◌, ◌<◌, ◌≤◌, List, [], ◌∷◌, ◌++◌, map, arith, inl, inr}
use Rattle.std.specs.List.{AllByRecursion, AllZip, range_with_len}
use Rattle.vm_base.specs.FlatLaws.{AreApart}
use Rattle.store_meaning.specs.Owned.{Range, word_range, ArePairwiseApart}
use Rattle.store_meaning.proofs.Lists.{all_mono, all_both}

-- the range lies apart from another one
abbrev pub IsApartFrom : Range → Range → Type 0
IsApartFrom one other = AreApart one.at one.size other.at other.size

-- the range lies between these ends
abbrev pub IsBetween : ℕ → ℕ → Range → Type 0
IsBetween from to range = (from ≤ range.at) × (range.at + range.size ≤ to)

-- ranges that are apart among themselves, on two sides of an address, are apart together
pub apart_append : (xs ys : List Range) (middle : ℕ) → ArePairwiseApart xs → ArePairwiseApart ys
    → AllByRecursion (λ (x : Range). x.at + x.size ≤ middle) xs
    → AllByRecursion (λ (y : Range). middle ≤ y.at) ys → ArePairwiseApart (xs ++ ys)
apart_append [] ys middle one two below above = two
apart_append (x ∷ xs) ys middle one two below above = (
  all_both (IsApartFrom x) xs ys one.0
      (all_mono (λ (y : Range). middle ≤ y.at) (IsApartFrom x) ys (λ y up. inl (omega (arith, below.0, up))) above),
  apart_append xs ys middle one.1 two below.1 above,
)

-- words at rising places are apart
pub words_apart : (place : ℕ → ℕ) (n first : ℕ) → ((k : ℕ) → first ≤ k → place k + 8 ≤ place (k + 1))
    → ArePairwiseApart (map (λ k. word_range (place k)) (range_with_len first n))
words_apart place zero first rises = tt
words_apart place (suc n) first rises = (
  above n (first + 1) (rises first (omega arith)) (omega arith),
  words_apart place n (first + 1) (λ k low. rises k (omega (arith, low))),
)
  where
    above : (m from : ℕ) → place first + 8 ≤ place from → first ≤ from
        → AllByRecursion (IsApartFrom (word_range (place first))) (map (λ k. word_range (place k)) (range_with_len from m))
    above zero from low after = tt
    above (suc m) from low after =
        (inl (omega (arith, low)), above m (from + 1) (omega (arith, low, rises from after)) (omega (arith, after)))

-- and lie where each of them does
pub words_between : (place : ℕ → ℕ) (n first from to : ℕ)
    → ((k : ℕ) → first ≤ k → k < first + n → (from ≤ place k) × (place k + 8 ≤ to))
    → AllByRecursion (IsBetween from to) (map (λ k. word_range (place k)) (range_with_len first n))
words_between place zero first from to between = tt
words_between place (suc n) first from to between = (
  between first (omega arith) (omega arith),
  words_between place n (first + 1) from to (λ k low high. between k (omega (arith, low)) (omega (arith, high))),
)

-- the range is the front of another one
abbrev pub IsFrontOf : Range → Range → Type 0
IsFrontOf front whole = (front.at ≡ whole.at) × (front.size ≤ whole.size)

front_apart : (x y : Range) (xs ys : List Range) → IsFrontOf x y → AllZip IsFrontOf xs ys → AllByRecursion (IsApartFrom y) ys
    → AllByRecursion (IsApartFrom x) xs
front_apart x y [] [] front fronts apart = tt
front_apart x y [] (other ∷ ys) front fronts apart = absurd fronts
front_apart x y (one ∷ xs) [] front fronts apart = absurd fronts
front_apart x y (one ∷ xs) (other ∷ ys) front fronts apart = (
  elim apart.0 [
    | inl low ↦ inl (omega (arith, low, front.0, front.1, fronts.0.0))
    | inr high ↦ inr (omega (arith, high, front.0, fronts.0.0, fronts.0.1))
  ],
  front_apart x y xs ys front fronts.1 apart.1,
)

-- of ranges that are apart the fronts are
pub fronts_apart : (xs ys : List Range) → AllZip IsFrontOf xs ys → ArePairwiseApart ys → ArePairwiseApart xs
fronts_apart [] [] fronts apart = tt
fronts_apart [] (y ∷ ys) fronts apart = absurd fronts
fronts_apart (x ∷ xs) [] fronts apart = absurd fronts
fronts_apart (x ∷ xs) (y ∷ ys) fronts apart =
    (front_apart x y xs ys fronts.0 fronts.1 apart.0, fronts_apart xs ys fronts.1 apart.1)

-- one of the ranges lies apart from each before it and behind it
pub apart_from_others : (xs : List Range) (x : Range) (ys : List Range) → ArePairwiseApart (xs ++ x ∷ ys)
    → AllByRecursion (IsApartFrom x) (xs ++ ys)
apart_from_others [] x ys apart = apart.0
apart_from_others (first ∷ xs) x ys apart = (turned (among xs apart.0), apart_from_others xs x ys apart.1)
  where
    among : (rest : List Range) → AllByRecursion (IsApartFrom first) (rest ++ x ∷ ys) → IsApartFrom first x
    among [] all = all.0
    among (other ∷ rest) all = among rest all.1

    turned : IsApartFrom first x → IsApartFrom x first
    turned (inl low) = inr low
    turned (inr high) = inl high
