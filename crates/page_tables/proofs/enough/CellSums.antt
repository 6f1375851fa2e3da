-- The cells of leaves and their pages, counted.
use Rattle.std.proofs.Common.{◌≡◌, ℕ, zero, suc, ◌+◌, ◌<◌, ◌≤◌, Bool, true, false, cond, eqb, List, [], ◌∷◌, ◌++◌, map, length, Option, Some, None, refl, sym, ◌∙◌, ap, subst, append-nil, arith, inl, inr}
use Rattle.std.specs.Prelude.{IsSome, is_some, ◌||◌, T, sum_by, count_by, filter, unwrap_or}
use Rattle.std.specs.Ordering.{nat_cmp, eq_by_cmp}
use Rattle.std.specs.List.{list_any, AllByRecursion, range_with_len}
use Rattle.std.specs.FinMap.{get, find, is_sorted}
use Rattle.std.proofs.lemmas.Bool.{cases_Bool, false≢true, or_cases, eq-eqb, eqb-true}
use Rattle.std.proofs.lemmas.List.Sums.{sum_by-cons}
use Rattle.vm_base.specs.FlatMemory.{PageMap}
use Rattle.kernel_meaning.specs.Leaves.{Versions, version_at, has_pages, pairs_from, is_same_pair, distinct_pairs, unused_cell}
use Rattle.kernel_meaning.specs.FrameLaw.{Leaves, cell_at, parent_cells}
use Rattle.leaf_cell.proofs.PairCounts.{IsIn, AreOnce, same-pair}
use Rattle.leaf_cell.proofs.LivePairs.{at-pair}
use Rattle.page_tables.proofs.LeafMap.{same_number, passes, is_some-filter}
use Rattle.vm_base.proofs.OwnFrames.{member, AreMembers}

-- ---- members

-- a number is found among entries where it is one of their numbers
pub member-entries : {X : Type 0} (es : List (ℕ × X)) (q : ℕ) → member q (map (λ e. e.0) es) ≡ is_some (find nat_cmp q es)
member-entries [] q = refl
member-entries (e ∷ es) q =
    ap (λ b. eqb q e.0 || b) (member-entries es q) ∙ ap (λ b. b || is_some (find nat_cmp q es)) (sym (same_number q e.0))
    ∙ elim (eq_by_cmp nat_cmp q e.0) as (λ b. (b || is_some (find nat_cmp q es)) ≡ is_some (cond b (Some e.1) (find nat_cmp q es))) [ true ↦ refl | false ↦ refl ]

-- what is made of the members of a list is in another one, where it is so of each
pub members-mapped : (f : ℕ → ℕ) (xs ys : List ℕ) → ((x : ℕ) → member x xs ≡ true → member (f x) ys ≡ true) → AreMembers (map f xs) ys
members-mapped f [] ys each q there = absurd (false≢true there)
members-mapped f (x ∷ xs) ys each q there = elim (or_cases (eqb q (f x)) (member q (map f xs)) there) [
  | inl here ↦ ap (λ k. member k ys) (eqb-true q (f x) here) ∙ each x (ap (λ b. b || member x xs) (eq-eqb x x refl))
  | inr later ↦ members-mapped f xs ys (λ y inside. each y (ap (λ b. eqb y x || b) inside ∙ either (eqb y x))) q later
]
  where
    either : (b : Bool) → (b || true) ≡ true
    either true = refl
    either false = refl

-- a cell is the parent's where the parent has a page there
pub member-parent_cells : (leaves : Leaves) → T (is_sorted nat_cmp leaves) → (c : ℕ) → member c (parent_cells leaves) ≡ has_pages (cell_at leaves c).parent
member-parent_cells leaves sorted c =
    member-entries (filter (λ entry. has_pages entry.1.parent) leaves) c ∙ is_some-filter (λ cell. has_pages cell.parent) c leaves sorted
    ∙ elim (find nat_cmp c leaves) as (λ o. passes (λ cell. has_pages cell.parent) o ≡ has_pages (unwrap_or o unused_cell).parent) [ Some cell ↦ refl | None ↦ refl ]

-- a cell where some page has a version
pub page-with-version : (versions : Versions) → has_pages versions ≡ true → (p : ℕ) × ((p < length versions) × IsSome (version_at versions p))
page-with-version [] some = absurd (false≢true some)
page-with-version (None ∷ versions) some = let later = page-with-version versions some in (suc later.0, (omega (arith, later.1.0), later.1.1))
page-with-version (Some version ∷ versions) some = (zero, (omega arith, refl))

-- ---- sums over entries

pub sum-entries-le : {X : Type 0} (f : ℕ × X → ℕ) (g : ℕ → ℕ) (es : List (ℕ × X)) → AllByRecursion (λ e. f e ≤ g e.0) es → sum_by f es ≤ sum_by g (map (λ e. e.0) es)
sum-entries-le f g [] all = omega arith
sum-entries-le f g (e ∷ es) all = omega (arith, sum_by-cons f e es, sum_by-cons g e.0 (map (λ e. e.0) es), all.0, sum-entries-le f g es all.1)

pub sum-entries : {X : Type 0} (f : ℕ × X → ℕ) (g : ℕ → ℕ) (es : List (ℕ × X)) → AllByRecursion (λ e. f e ≡ g e.0) es → sum_by f es ≡ sum_by g (map (λ e. e.0) es)
sum-entries f g [] all = refl
sum-entries f g (e ∷ es) all = omega (arith, sum_by-cons f e es, sum_by-cons g e.0 (map (λ e. e.0) es), all.0, sum-entries f g es all.1)

pub sum-entries-none : {X : Type 0} (f : ℕ × X → ℕ) (es : List (ℕ × X)) → AllByRecursion (λ e. f e ≡ 0) es → sum_by f es ≡ 0
sum-entries-none f [] all = refl
sum-entries-none f (e ∷ es) all = omega (arith, sum_by-cons f e es, all.0, sum-entries-none f es all.1)

-- ---- the pages of a cell

module _ (present : PageMap) (first : ℕ) where
  abbrev here : ℕ → ℕ
  here p = cond (is_some (get present (first + p))) 1 0

  later : (versions : Versions) (version : Option ℕ) (n k : ℕ)
      → ((i : ℕ) → IsSome (version_at (version ∷ versions) i) → (i < suc n) × IsSome (get present (first + (k + i))))
      → (i : ℕ) → IsSome (version_at versions i) → (i < n) × IsSome (get present (first + (k + 1 + i)))
  later versions version n k there i some =
      let both : (suc i < suc n) × IsSome (get present (first + (k + suc i))) = there (suc i) some in
      (omega (arith, both.0), subst (λ q. IsSome (get present (first + q))) (omega arith) both.1)

  -- versions of pages that are present are no more than those pages
  pub pairs-le : (versions : Versions) (n j k : ℕ) → ((i : ℕ) → IsSome (version_at versions i) → (i < n) × IsSome (get present (first + (k + i))))
      → length (pairs_from j versions) ≤ count_by (λ p. is_some (get present (first + p))) (range_with_len k n)
  pairs-le [] n j k there = omega arith
  pairs-le (None ∷ versions) zero j k there = pairs-le versions zero (j + 1) (k + 1) (λ i some. absurd (omega (arith, (there (suc i) some).0)))
  pairs-le (Some version ∷ versions) zero j k there = absurd (omega (arith, (there 0 refl).0))
  pairs-le (None ∷ versions) (suc n) j k there = omega (arith, pairs-le versions n (j + 1) (k + 1) (later versions None n k there), sum_by-cons here k (range_with_len (k + 1) n))
  pairs-le (Some version ∷ versions) (suc n) j k there =
      let rest = pairs-le versions n (j + 1) (k + 1) (later versions (Some version) n k there) in
      let at : k + 0 ≡ k = omega arith in
      let one : here k ≡ 1 = ap (λ b. cond b 1 0) (subst (λ q. IsSome (get present (first + q))) at (there 0 refl).1) in
      omega (arith, rest, one, sum_by-cons here k (range_with_len (k + 1) n))

  -- they are as many where just those are present
  pub pairs-counted : (versions : Versions) (n j k : ℕ) → length versions ≡ n → ((i : ℕ) → i < n → is_some (version_at versions i) ≡ is_some (get present (first + (k + i))))
      → length (pairs_from j versions) ≡ count_by (λ p. is_some (get present (first + p))) (range_with_len k n)
  pairs-counted [] zero j k size alike = refl
  pairs-counted [] (suc n) j k size alike = absurd (omega (arith, size))
  pairs-counted (None ∷ versions) zero j k size alike = absurd (omega (arith, size))
  pairs-counted (Some version ∷ versions) zero j k size alike = absurd (omega (arith, size))
  pairs-counted (None ∷ versions) (suc n) j k size alike =
      let rest = pairs-counted versions n (j + 1) (k + 1) (omega (arith, size))
      (λ i small. alike (suc i) (omega (arith, small)) ∙ ap (λ q. is_some (get present (first + q))) (omega arith)) in
      let at : k + 0 ≡ k = omega arith in
      let none : here k ≡ 0 = ap (λ b. cond b 1 0) (ap (λ q. is_some (get present (first + q))) (sym at) ∙ sym (alike 0 (omega arith))) in
      omega (arith, rest, none, sum_by-cons here k (range_with_len (k + 1) n))
  pairs-counted (Some version ∷ versions) (suc n) j k size alike =
      let rest = pairs-counted versions n (j + 1) (k + 1) (omega (arith, size))
      (λ i small. alike (suc i) (omega (arith, small)) ∙ ap (λ q. is_some (get present (first + q))) (omega arith)) in
      let at : k + 0 ≡ k = omega arith in
      let one : here k ≡ 1 = ap (λ b. cond b 1 0) (ap (λ q. is_some (get present (first + q))) (sym at) ∙ sym (alike 0 (omega arith))) in
      omega (arith, rest, one, sum_by-cons here k (range_with_len (k + 1) n))

-- ---- pairs of one table

pairs-once : (k : ℕ) (versions : Versions) → AreOnce (pairs_from k versions)
pairs-once k [] = tt
pairs-once k (None ∷ versions) = pairs-once (k + 1) versions
pairs-once k (Some version ∷ versions) = (
  (λ again. let at = at-pair (k + 1) versions (k, version) again in absurd (omega (arith, at.1.0))),
  pairs-once (k + 1) versions,
)

listed-pair : (x : ℕ × ℕ) (pairs : List (ℕ × ℕ)) → list_any (is_same_pair x) pairs ≡ true → IsIn x pairs
listed-pair x [] there = absurd (false≢true there)
listed-pair x (pair ∷ pairs) there = elim (or_cases (is_same_pair x pair) (list_any (is_same_pair x) pairs) there) [
  | inl here ↦ inl (same-pair x pair here)
  | inr later ↦ inr (listed-pair x pairs later)
]

once-distinct : (pairs : List (ℕ × ℕ)) → AreOnce pairs → distinct_pairs pairs ≡ pairs
once-distinct [] once = refl
once-distinct (pair ∷ pairs) once = elim (cases_Bool (list_any (is_same_pair pair) pairs)) [
  | inl there ↦ absurd (once.0 (listed-pair pair pairs there))
  | inr new ↦ ap (λ b. cond b (distinct_pairs pairs) (pair ∷ distinct_pairs pairs)) new ∙ ap (λ rest. pair ∷ rest) (once-distinct pairs once.1)
]

-- the pairs of one table are distinct
pub pairs-distinct : (versions : Versions) → distinct_pairs (pairs_from 0 versions ++ []) ≡ pairs_from 0 versions
pairs-distinct versions = ap distinct_pairs (append-nil (pairs_from 0 versions)) ∙ once-distinct (pairs_from 0 versions) (pairs-once 0 versions)

-- distinct pairs are no more than the pairs
pub pairs-fewer : (pairs : List (ℕ × ℕ)) → length (distinct_pairs pairs) ≤ length pairs
pairs-fewer [] = omega arith
pairs-fewer (pair ∷ pairs) =
    let rest : length (distinct_pairs pairs) ≤ length pairs = pairs-fewer pairs in
    elim (list_any (is_same_pair pair) pairs) as (λ b. length (cond b (distinct_pairs pairs) (pair ∷ distinct_pairs pairs)) ≤ length (pair ∷ pairs)) [
      | true ↦ omega arith
      | false ↦ omega arith
    ]
