-- A table without a page, and counts of pages.
use Rattle.std.proofs.Common.{◌≡◌, ℕ, zero, suc, ◌+◌, ◌-◌, ◌<◌, ◌≤◌, List, [], ◌∷◌, take, drop, replicate, get_or, Option, None, refl, sym, ◌∙◌, ap, arith, inl, inr}
use Rattle.std.specs.Prelude.{is_some, Bool, true, false, ◌||◌}
use Rattle.std.specs.List.{list_any}
use Rattle.std.proofs.lemmas.List.{get_or-replicate, get_or_past, length-replicate, drop-replicate, take-replicate, get_or-drop}
use Rattle.std.proofs.lemmas.Bool.{cases_lt, cases_eq}
use Rattle.vm_base.specs.FlatMemory.{zero_page}
use Rattle.leaf_cell.specs.CellView.{part_of}
use Rattle.kernel_meaning.specs.Leaves.{no_versions, version_at, has_present}

-- no page of it has a place
pub version_at-none : (page : ℕ) → version_at no_versions page ≡ None
version_at-none page = elim (cases_lt page 512) [
  | inl small ↦ get_or-replicate 512 page None None small
  | inr large ↦ get_or_past no_versions page None (rw (length-replicate {A = Option ℕ} 512 None) large)
]

-- a part of zeros is zeros
zeros-part : (at n : ℕ) → at + n ≤ 4096 → take n (drop at zero_page) ≡ replicate n 0
zeros-part at n room = ap (take n) (drop-replicate at 4096 0) ∙ take-replicate n (4096 - at) 0 (omega arith)

-- an absent page reads as zeros
pub part_of-none : (at n : ℕ) → at + n ≤ 4096 → part_of None at n ≡ replicate n 0
part_of-none at n room = zeros-part at n room

or-false-comm : (a : Bool) → (a || false) ≡ (false || a)
or-false-comm true = refl
or-false-comm false = refl

or-assoc-back : (a b c : Bool) → (a || (b || c)) ≡ ((a || b) || c)
or-assoc-back true b c = refl
or-assoc-back false b c = refl

or-true-right : (a : Bool) → (a || true) ≡ true
or-true-right true = refl
or-true-right false = refl

-- a list and one element more: whether one of them is there
any_more : (xs : List (Option ℕ)) (k : ℕ) → list_any is_some (take (suc k) xs) ≡ (list_any is_some (take k xs) || is_some (get_or xs k None))
any_more [] zero = refl
any_more [] (suc k) = refl
any_more (x ∷ xs) zero = or-false-comm (is_some x)
any_more (x ∷ xs) (suc k) = ap (λ b. is_some x || b) (any_more xs k) ∙ or-assoc-back (is_some x) (list_any is_some (take k xs)) (is_some (get_or xs k None))

-- a range of pages and the next page
pub has_present-more : (places : List (Option ℕ)) (first k : ℕ) → has_present places first (suc k) ≡ (has_present places first k || is_some (version_at places (first + k)))
has_present-more places first k = any_more (drop first places) k ∙ ap (λ o. has_present places first k || is_some o) (get_or-drop first places k None)

-- a range without a page, and the next page, which is absent
pub has_present-none : (places : List (Option ℕ)) (first k page : ℕ) → first + k ≡ page → has_present places first k ≡ false → is_some (version_at places page) ≡ false → has_present places first (k + 1) ≡ false
has_present-none places first k page at none absent =
    ap (has_present places first) one_more ∙ has_present-more places first k
    ∙ ap (λ b. b || is_some (version_at places (first + k))) none ∙ ap (λ p. is_some (version_at places p)) at ∙ absent
  where
    one_more : k + 1 ≡ suc k
    one_more = omega arith

-- a page of a range that is there
pub has_present-there : (places : List (Option ℕ)) (first k n : ℕ) → k < n → is_some (version_at places (first + k)) ≡ true → has_present places first n ≡ true
has_present-there places first k zero small there = absurd (omega (arith, small))
has_present-there places first k (suc n) small there = elim (cases_eq k n) [
  | inl last ↦ has_present-more places first n ∙ ap (λ b. has_present places first n || b) (ap (λ i. is_some (version_at places (first + i))) (sym last) ∙ there) ∙ or-true-right (has_present places first n)
  | inr before ↦ has_present-more places first n ∙ ap (λ b. b || is_some (version_at places (first + n))) (has_present-there places first k n (omega (arith, before)) there)
]

-- a table without a page has none in any range
pub has_present-never : (first n : ℕ) → has_present no_versions first n ≡ false
has_present-never first zero = refl
has_present-never first (suc n) = has_present-more no_versions first n
    ∙ ap (λ b. b || is_some (version_at no_versions (first + n))) (has_present-never first n) ∙ ap is_some (version_at-none (first + n))
