-- How many pages are present, cell by cell.
use Rattle.std.proofs.Common.{◌≡◌, ℕ, zero, suc, ◌+◌, ◌*◌, Bool, true, false, cond, eqb, leb, ltb, List, [], ◌∷◌, length, refl, sym, ◌∙◌, ap, arith, inl, inr}
use Rattle.std.specs.Prelude.{IsSome, is_some, ◌||◌, ◌&&◌, sum_by, count_by}
use Rattle.std.specs.List.{AllByRecursion, IsDistinct, range_with_len}
use Rattle.std.specs.FinMap.{get, keys, len}
use Rattle.std.proofs.lemmas.Bool.{cases_Bool, cases_eq, cases_lt, cond-true, cond-false, eq-eqb, ne_eqb, eqb-true, false≢true, le-leb, lt-leb, lt-ltb, le-ltb, and_from, and_left, and_right, or_from, or_left, or_right}
use Rattle.std.proofs.lemmas.Bool.Decides.{nat_tests}
use Rattle.std.proofs.lemmas.List.Sums.{sum_by-cons}
use Rattle.std.proofs.lemmas.Map.Keys.{IsDistinct-head, IsDistinct-tail}
use Rattle.vm_base.specs.Places.{cell_of, distinct}
use Rattle.vm_base.specs.FlatMemory.{PageMap, FlatMemory, cells_of}
use Rattle.vm_base.proofs.OwnFrames.{member, member-distinct, IsDistinct-distinct, member-map, member-keys, IsDistinct-keys, length-keys}

-- ---- sums
-- functions that agree have one sum
same_sum : (f g : ℕ → ℕ) (xs : List ℕ) → ((x : ℕ) → f x ≡ g x) → sum_by f xs ≡ sum_by g xs
same_sum f g [] same = refl
same_sum f g (x ∷ xs) same = omega (arith, sum_by-cons f x xs, sum_by-cons g x xs, same x, same_sum f g xs same)

sum_of_both : (f g h : ℕ → ℕ) (xs : List ℕ) → ((x : ℕ) → h x ≡ f x + g x) → sum_by h xs ≡ sum_by f xs + sum_by g xs
sum_of_both f g h [] both = omega arith
sum_of_both f g h (x ∷ xs) both = omega (arith, sum_by-cons f x xs, sum_by-cons g x xs, sum_by-cons h x xs, both x, sum_of_both f g h xs both)

sum_of_none : (f : ℕ → ℕ) (xs : List ℕ) → ((x : ℕ) → f x ≡ 0) → sum_by f xs ≡ 0
sum_of_none f [] none = refl
sum_of_none f (x ∷ xs) none = omega (arith, sum_by-cons f x xs, none x, sum_of_none f xs none)

-- ---- members that are counted
abbrev one_if : Bool → ℕ
one_if b = cond b 1 0

equal_to_none : (x : ℕ) (xs : List ℕ) → AllByRecursion (λ y. eqb x y ≡ false) xs → count_by (eqb x) xs ≡ 0
equal_to_none x [] none = refl
equal_to_none x (y ∷ xs) none =
    let here : one_if (eqb x y) ≡ 0 = cond-false (eqb x y) 1 0 none.0 in
    omega (arith, sum_by-cons (λ k. one_if (eqb x k)) y xs, here, equal_to_none x xs none.1)

-- a member of a list without repeats stands in it once
once : (x : ℕ) (xs : List ℕ) → IsDistinct eqb xs → member x xs ≡ true → count_by (eqb x) xs ≡ 1
once x [] apart there = absurd (false≢true there)
once x (y ∷ xs) apart there = elim (cases_Bool (eqb x y)) [
  | inl here ↦
      let one : one_if (eqb x y) ≡ 1 = cond-true (eqb x y) 1 0 here in
      let none : count_by (eqb x) xs ≡ 0 = ap (λ k. count_by (eqb k) xs) (eqb-true x y here) ∙ equal_to_none y xs (IsDistinct-head eqb y xs apart) in
      omega (arith, sum_by-cons (λ k. one_if (eqb x k)) y xs)
  | inr other ↦
      let zero_here : one_if (eqb x y) ≡ 0 = cond-false (eqb x y) 1 0 other in
      let later : member x xs ≡ true = sym (ap (λ b. b || member x xs) other) ∙ there in
      omega (arith, sum_by-cons (λ k. one_if (eqb x k)) y xs, once x xs (IsDistinct-tail eqb y xs apart) later)
]

-- how many pages of a list lie in a cell
abbrev listed_in : List ℕ → ℕ → ℕ
listed_in pages cell = count_by (λ page. eqb (cell_of page) cell) pages

-- over cells without repeats in which all pages lie, that gives the length
listed_in_cells : (pages cells : List ℕ) → IsDistinct eqb cells → ((page : ℕ) → member page pages ≡ true → member (cell_of page) cells ≡ true) → sum_by (listed_in pages) cells ≡ length pages
listed_in_cells [] cells apart inside = sum_of_none (listed_in []) cells (λ cell. refl)
listed_in_cells (page ∷ pages) cells apart inside =
    let here : member (cell_of page) cells ≡ true = inside page (or_left (eqb page page) (member page pages) (eq-eqb page page refl)) in
    let one : sum_by (λ cell. one_if (eqb (cell_of page) cell)) cells ≡ 1 = once (cell_of page) cells apart here in
    let rest : sum_by (listed_in pages) cells ≡ length pages = listed_in_cells pages cells apart (λ q there. inside q (or_right (eqb q page) (member q pages) there)) in
    let both : sum_by (listed_in (page ∷ pages)) cells ≡ sum_by (λ cell. one_if (eqb (cell_of page) cell)) cells + sum_by (listed_in pages) cells =
    sum_of_both (λ cell. one_if (eqb (cell_of page) cell)) (listed_in pages) (listed_in (page ∷ pages)) cells (λ cell. sum_by-cons (λ q. one_if (eqb (cell_of q) cell)) page pages) in
    omega arith

-- ---- the pages of a cell, one by one
-- a number is among n from a place on
one_in_range : (n low first k : ℕ) → count_by (λ p. eqb (first + p) k) (range_with_len low n) ≡ one_if (leb (first + low) k && ltb k (first + low + n))
one_in_range zero low first k = sym (cond-false (leb (first + low) k && ltb k (first + low + zero)) 1 0 (elim (cases_lt k (first + low)) [
  | inl below ↦ and_left (leb (first + low) k) (ltb k (first + low + zero)) (lt-leb (first + low) k below)
  | inr from ↦ and_right (leb (first + low) k) (ltb k (first + low + zero)) (le-ltb k (first + low + zero) (omega arith))
]))
one_in_range (suc n) low first k =
    let rest : count_by (λ p. eqb (first + p) k) (range_with_len (low + 1) n) ≡ one_if (leb (first + (low + 1)) k && ltb k (first + (low + 1) + n)) = one_in_range n (low + 1) first k in
    sum_by-cons (λ p. one_if (eqb (first + p) k)) low (range_with_len (low + 1) n)
    ∙ ap (λ m. one_if (eqb (first + low) k) + m) rest ∙ by_place
  where
    by_place : one_if (eqb (first + low) k) + one_if (leb (first + (low + 1)) k && ltb k (first + (low + 1) + n)) ≡ one_if (leb (first + low) k && ltb k (first + low + suc n))
    by_place = grind (arith, nat_tests)

-- how many of n pages from a page on are present
abbrev pub present_among : PageMap → ℕ → ℕ → ℕ
present_among present first n = count_by (λ p. is_some (get present (first + p))) (range_with_len 0 n)

not_later : (k : ℕ) (ks : List ℕ) → AllByRecursion (λ y. eqb k y ≡ false) ks → member k ks ≡ false
not_later k [] none = refl
not_later k (x ∷ ks) none = or_from (eqb k x) (member k ks) none.0 (not_later k ks none.1)

-- a number is the first of a list without repeats, or one of the others
first_or_later : (q k : ℕ) (ks : List ℕ) → IsDistinct eqb (k ∷ ks) → one_if (eqb q k || member q ks) ≡ one_if (eqb q k) + one_if (member q ks)
first_or_later q k ks apart = elim (cases_Bool (eqb q k)) [
  | inl here ↦
      let later : member q ks ≡ false = ap (λ x. member x ks) (eqb-true q k here) ∙ not_later k ks (IsDistinct-head eqb k ks apart) in
      let whole : one_if (eqb q k || member q ks) ≡ 1 = cond-true (eqb q k || member q ks) 1 0 (or_left (eqb q k) (member q ks) here) in
      let first : one_if (eqb q k) ≡ 1 = cond-true (eqb q k) 1 0 here in
      let none : one_if (member q ks) ≡ 0 = cond-false (member q ks) 1 0 later in
      omega arith
  | inr other ↦
      let whole : one_if (eqb q k || member q ks) ≡ one_if (member q ks) = ap (λ b. one_if (b || member q ks)) other in
      let none : one_if (eqb q k) ≡ 0 = cond-false (eqb q k) 1 0 other in
      omega arith
]

in_cell_test : (cell k n : ℕ) → n ≡ 512 → (leb (cell * 512 + 0) k && ltb k (cell * 512 + 0 + n)) ≡ eqb (cell_of k) cell
in_cell_test cell k n whole = elim (cases_eq (cell_of k) cell) [
  | inl here ↦ and_from (leb (cell * 512 + 0) k) (ltb k (cell * 512 + 0 + n)) (le-leb (cell * 512 + 0) k (omega arith)) (lt-ltb k (cell * 512 + 0 + n) (omega arith)) ∙ sym (eq-eqb (cell_of k) cell here)
  | inr apart ↦ elim (cases_lt k (cell * 512)) [
    | inl below ↦ and_left (leb (cell * 512 + 0) k) (ltb k (cell * 512 + 0 + n)) (lt-leb (cell * 512 + 0) k (omega arith))
    | inr from ↦ and_right (leb (cell * 512 + 0) k) (ltb k (cell * 512 + 0 + n)) (le-ltb k (cell * 512 + 0 + n) (omega arith))
  ] ∙ sym (ne_eqb (cell_of k) cell apart)
]

listed_by_place : (n : ℕ) (ks : List ℕ) (cell : ℕ) → n ≡ 512 → IsDistinct eqb ks → count_by (λ p. member (cell * 512 + p) ks) (range_with_len 0 n) ≡ listed_in ks cell
listed_by_place n [] cell whole apart = sum_of_none (λ p. 0) (range_with_len 0 n) (λ p. refl)
listed_by_place n (k ∷ ks) cell whole apart =
    let both : count_by (λ p. member (cell * 512 + p) (k ∷ ks)) (range_with_len 0 n) ≡ count_by (λ p. eqb (cell * 512 + p) k) (range_with_len 0 n) + count_by (λ p. member (cell * 512 + p) ks) (range_with_len 0 n) =
    sum_of_both (λ p. one_if (eqb (cell * 512 + p) k)) (λ p. one_if (member (cell * 512 + p) ks)) (λ p. one_if (member (cell * 512 + p) (k ∷ ks))) (range_with_len 0 n) (λ p. first_or_later (cell * 512 + p) k ks apart) in
    let first : count_by (λ p. eqb (cell * 512 + p) k) (range_with_len 0 n) ≡ one_if (eqb (cell_of k) cell) = one_in_range n 0 (cell * 512) k ∙ ap one_if (in_cell_test cell k n whole) in
    let rest : count_by (λ p. member (cell * 512 + p) ks) (range_with_len 0 n) ≡ listed_in ks cell = listed_by_place n ks cell whole (IsDistinct-tail eqb k ks apart) in
    omega (arith, sum_by-cons (λ q. one_if (eqb (cell_of q) cell)) k ks)

present_by_place : (n : ℕ) (present : PageMap) (cell : ℕ) → n ≡ 512 → present_among present (cell * 512) n ≡ listed_in (keys present) cell
present_by_place n present cell whole =
    same_sum (λ p. one_if (is_some (get present (cell * 512 + p)))) (λ p. one_if (member (cell * 512 + p) (keys present))) (range_with_len 0 n) (λ p. ap one_if (sym (member-keys present (cell * 512 + p))))
    ∙ listed_by_place n (keys present) cell whole (IsDistinct-keys present)

-- how many pages of a cell are present
abbrev pub in_cell : PageMap → ℕ → ℕ
in_cell present cell = present_among present (cell * 512) 512

-- the present pages are those of cells without repeats in which they all lie
pub len-cells : (present : PageMap) (cells : List ℕ) → IsDistinct eqb cells → ((page : ℕ) → IsSome (get present page) → member (cell_of page) cells ≡ true)
    → len present ≡ sum_by (in_cell present) cells
len-cells present cells apart inside =
    sym (length-keys present) ∙ sym (listed_in_cells (keys present) cells apart (λ page there. inside page (sym (member-keys present page) ∙ there)))
    ∙ sym (same_sum (in_cell present) (listed_in (keys present)) cells (λ cell. present_by_place 512 present cell refl))

-- and those of their own cells
pub len-in_cell : (memory : FlatMemory) → len memory.present ≡ sum_by (in_cell memory.present) (distinct (cells_of memory))
len-in_cell memory =
    len-cells memory.present (distinct (cells_of memory)) (IsDistinct-distinct (cells_of memory))
    (λ page there. member-distinct (cells_of memory) (cell_of page) ∙ member-map cell_of page (keys memory.present) (member-keys memory.present page ∙ there))
