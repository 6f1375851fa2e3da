-- The cells of a range that is read in two parts.
use Rattle.std.proofs.Common.{◌≡◌, ℕ, zero, suc, ◌+◌, ◌-◌, ◌<◌, ◌≤◌, ◌⊎◌, List, [], ◌∷◌, ◌++◌, None, append-nil, sym, ◌∙◌, ap, subst, arith, inl, inr}
use Rattle.std.specs.List.{AllByRecursion, range_with_len}
use Rattle.std.specs.FinMap.{get}
use Rattle.std.proofs.lemmas.Bool.{cases_eq, cases_lt, cond-false, ne_eqb}
use Rattle.std.proofs.lemmas.List.Elements.{All-from_recursion, recursion_from_All}
use Rattle.vm_base.specs.Places.{page_of, cell_of, cells_of_range}
use Rattle.vm_base.specs.SnapshotState.{SnapshotState}
use Rattle.page_hash.specs.Listing.{AreNotLost, IsFirstLost}
use Rattle.page_hash.proofs.FrozenReads.{lost_among}

-- the cell of an address
abbrev pub cell_at : ℕ → ℕ
cell_at address = cell_of (page_of address)

pub cells_of_some : (address n : ℕ) → 0 < n
    → cells_of_range address n ≡ range_with_len (cell_at address) (cell_at (address + n - 1) + 1 - cell_at address)
cells_of_some address zero some = absurd (omega (arith, some))
cells_of_some address (suc n) some = cond-false _ [] _ (ne_eqb (suc n) 0 (λ none. omega (arith, none)))

pub range_append : (first n m : ℕ) → range_with_len first (n + m) ≡ range_with_len first n ++ range_with_len (first + n) m
range_append first zero m =
    ap (range_with_len first) (omega arith) ∙ ap (λ a. range_with_len a m) (omega arith)
range_append first (suc n) m =
    let count : suc n + m ≡ suc (n + m) = omega arith in
    let place : first + 1 + n ≡ first + suc n = omega arith in
    ap (range_with_len first) count
    ∙ ap (λ l. first ∷ l) (range_append (first + 1) n m ∙ ap (λ a. range_with_len (first + 1) n ++ range_with_len a m) place)

pub range_all : (P : ℕ → Type 0) (n first : ℕ) → ((q : ℕ) → first ≤ q → q < first + n → P q) → AllByRecursion P (range_with_len first n)
range_all P zero first each = tt
range_all P (suc n) first each = (
  each first (omega arith) (omega arith),
  range_all P n (first + 1) (λ q low high. each q (omega (arith, low)) (omega (arith, high))),
)

pub one_of_range : (P : ℕ → Type 0) (n first q : ℕ) → first ≤ q → q < first + n → AllByRecursion P (range_with_len first n) → P q
one_of_range P zero first q low high all = absurd (omega (arith, low, high))
one_of_range P (suc n) first q low high all = elim (cases_eq first q) [
  | inl here ↦ subst P here all.0
  | inr apart ↦ one_of_range P n (first + 1) q (omega (arith, low, apart)) (omega (arith, high)) all.1
]

-- what holds of the cells of a range, one by one
pub each_cell : (P : ℕ → Type 0) (address n : ℕ) → 0 < n
    → ((q : ℕ) → cell_at address ≤ q → q ≤ cell_at (address + n - 1) → P q) → AllByRecursion P (cells_of_range address n)
each_cell P address n some each =
    subst (AllByRecursion P) (sym (cells_of_some address n some))
    (range_all P (cell_at (address + n - 1) + 1 - cell_at address) (cell_at address)
    (λ q low high. each q low (omega (arith, low, high))))

pub one_cell : (P : ℕ → Type 0) (address n q : ℕ) → 0 < n → cell_at address ≤ q → q ≤ cell_at (address + n - 1)
    → AllByRecursion P (cells_of_range address n) → P q
one_cell P address n q some low high all =
    one_of_range P (cell_at (address + n - 1) + 1 - cell_at address) (cell_at address) q low (omega (arith, low, high))
    (subst (AllByRecursion P) (cells_of_some address n some) all)

-- what holds of the cells of both parts holds of those of the whole
pub both_parts : (P : ℕ → Type 0) (address n m : ℕ) → 0 < n → AllByRecursion P (cells_of_range address n)
    → AllByRecursion P (cells_of_range (address + n) m) → AllByRecursion P (cells_of_range address (n + m))
both_parts P address n zero some first second =
    subst (λ k. AllByRecursion P (cells_of_range address k)) (omega arith) first
both_parts P address n (suc m) some first second =
    each_cell P address (n + suc m) (omega arith) (λ q low high. by q low high (cases_lt (cell_at (address + n - 1)) q))
  where
    by : (q : ℕ) → cell_at address ≤ q → q ≤ cell_at (address + (n + suc m) - 1)
        → (cell_at (address + n - 1) < q) ⊎ (q ≤ cell_at (address + n - 1)) → P q
    by q low high (inr before) = one_cell P address n q some low before first
    by q low high (inl behind) =
        one_cell P (address + n) (suc m) q (omega arith) (omega (arith, behind)) (omega (arith, high)) second

-- the first part's cells begin those of the whole
pub first_part : (address n m : ℕ) → 0 < n
    → (rest : List ℕ) × (cells_of_range address (n + m) ≡ cells_of_range address n ++ rest)
first_part address n m some =
    let front = cell_at (address + n - 1) + 1 - cell_at address in
    let all = cell_at (address + (n + m) - 1) + 1 - cell_at address in
    let low : cell_at address ≤ cell_at (address + n - 1) = omega (arith, some) in
    let high : cell_at (address + n - 1) ≤ cell_at (address + (n + m) - 1) = omega (arith, some) in
    let count : all ≡ front + (all - front) = omega (arith, low, high) in (
      range_with_len (cell_at address + front) (all - front),
      cells_of_some address (n + m) (omega (arith, some)) ∙ ap (range_with_len (cell_at address)) count
          ∙ range_append (cell_at address) front (all - front)
          ∙ ap (λ l. l ++ range_with_len (cell_at address + front) (all - front)) (sym (cells_of_some address n some)),
    )

-- the second part's cells end those of the whole, and what stands in front of them is of the first part
pub second_part : (P : ℕ → Type 0) (address n m : ℕ) → 0 < n → 0 < m → AllByRecursion P (cells_of_range address n)
    → (front : List ℕ) × (AllByRecursion P front × (cells_of_range address (n + m) ≡ front ++ cells_of_range (address + n) m))
second_part P address n m some more all =
    let before = cell_at (address + n) - cell_at address in
    let rest = cell_at (address + n + m - 1) + 1 - cell_at (address + n) in
    let low : cell_at address ≤ cell_at (address + n) = omega (arith, some) in
    let next : cell_at (address + n) ≤ cell_at (address + n - 1) + 1 = omega (arith, some) in
    let high : cell_at (address + n) ≤ cell_at (address + n + m - 1) = omega (arith, more) in
    let end : address + (n + m) - 1 ≡ address + n + m - 1 = omega arith in
    let count : cell_at (address + n + m - 1) + 1 - cell_at address ≡ before + rest = omega (arith, low, high) in
    let place : cell_at address + before ≡ cell_at (address + n) = omega (arith, low) in (
      range_with_len (cell_at address) before,
      (
        range_all P before (cell_at address) (λ q from to.
            one_cell P address n q some from (omega (arith, to, place, next)) all),
        cells_of_some address (n + m) (omega (arith, some))
            ∙ ap (λ e. range_with_len (cell_at address) (cell_at e + 1 - cell_at address)) end
            ∙ ap (range_with_len (cell_at address)) count
            ∙ range_append (cell_at address) before rest
            ∙ ap (λ a. range_with_len (cell_at address) before ++ range_with_len a rest) place
            ∙ ap (λ l. range_with_len (cell_at address) before ++ l) (sym (cells_of_some (address + n) m more)),
      ),
    )

-- neither part has a lost cell: nor has the whole
pub parts_kept : (old : SnapshotState) (address n m : ℕ) → 0 < n → AreNotLost old (cells_of_range address n)
    → AreNotLost old (cells_of_range (address + n) m) → AreNotLost old (cells_of_range address (n + m))
parts_kept old address n m some first second =
    All-from_recursion (λ cell. get old.found cell ≡ None) (cells_of_range address (n + m))
    (both_parts (λ cell. get old.found cell ≡ None) address n m some
    (recursion_from_All (λ cell. get old.found cell ≡ None) (cells_of_range address n) first)
    (recursion_from_All (λ cell. get old.found cell ≡ None) (cells_of_range (address + n) m) second))

-- the first lost cell of the first part is that of the whole
pub lost_first : (old new : SnapshotState) (address n m at : ℕ) → 0 < n → IsFirstLost old new (cells_of_range address n) at
    → IsFirstLost old new (cells_of_range address (n + m)) at
lost_first old new address n m at some is =
    let whole = first_part address n m some in
    subst (λ cells. IsFirstLost old new cells at) (sym whole.1)
    (lost_among old new [] (cells_of_range address n) whole.0 at (All-from_recursion (λ cell. get old.found cell ≡ None) [] tt) is)

-- where the first part has none, the first lost cell of the second part is that of the whole
pub lost_second : (old new : SnapshotState) (address n m at : ℕ) → 0 < n → AreNotLost old (cells_of_range address n)
    → IsFirstLost old new (cells_of_range (address + n) m) at → IsFirstLost old new (cells_of_range address (n + m)) at
lost_second old new address n zero at some kept is = absurd (by is.front is.among)
  where
    by : (front : List ℕ) → [] ≡ front ++ is.cell ∷ is.back → ⊥
    by [] none = cc
    by (other ∷ front) none = cc
lost_second old new address n (suc m) at some kept is =
    let whole = second_part (λ cell. get old.found cell ≡ None) address n (suc m) some (omega arith)
    (recursion_from_All (λ cell. get old.found cell ≡ None) (cells_of_range address n) kept) in
    subst (λ cells. IsFirstLost old new cells at) (sym (whole.1.1 ∙ sym (append-nil (whole.0 ++ cells_of_range (address + n) (suc m)))))
    (lost_among old new whole.0 (cells_of_range (address + n) (suc m)) [] at
    (All-from_recursion (λ cell. get old.found cell ≡ None) whole.0 whole.1.0) is)
