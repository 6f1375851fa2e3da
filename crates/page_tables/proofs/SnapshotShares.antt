-- The share of a cell that a snapshot joins, and of one that it leaves.
use Rattle.std.proofs.Common.{◌≡◌, ℕ, ◌+◌, ◌≤◌, List, [], ◌∷◌, ◌++◌, length, cond, refl, sym, ◌∙◌, ap, subst, append_assoc, append-nil, arith, inl, inr}
use Rattle.std.specs.Prelude.{Bool, true, false, not, ◌||◌, ◌==◌, flat_map, count_by}
use Rattle.std.specs.List.{list_any}
use Rattle.std.proofs.lemmas.Bool.{false≢true}
use Rattle.std.proofs.lemmas.List.Sums.{sum_by-cons}
use Rattle.vm_base.specs.declared.fork_mode.Mode.TheVariants.{Eager}
use Rattle.kernel_meaning.specs.Leaves.{CellLeaves, Kept, Own, Versions, is_own, pairs_from, pairs_of, is_same_pair, distinct_pairs, named_pairs, without_kept, own_leaves, share}
use Rattle.kernel_meaning.specs.CellActs.{with_fork}
use Rattle.leaf_cell.specs.CellView.{without_snapshot}
use Rattle.leaf_cell.proofs.PairCounts.{IsIn, same-pair, pair-same}

-- how many distinct pairs there are
abbrev distinct_count : List (ℕ × ℕ) → ℕ
distinct_count xs = length (distinct_pairs xs)

or-turned : (a b c : Bool) → (a || (b || c)) ≡ (b || (a || c))
or-turned true true c = refl
or-turned true false c = refl
or-turned false true c = refl
or-turned false false c = refl

any-inserted : (x z : ℕ × ℕ) (xs ys : List (ℕ × ℕ)) → list_any (is_same_pair x) (xs ++ z ∷ ys) ≡ (is_same_pair x z || list_any (is_same_pair x) (xs ++ ys))
any-inserted x z [] ys = refl
any-inserted x z (w ∷ xs) ys = ap (λ b. is_same_pair x w || b) (any-inserted x z xs ys) ∙ or-turned (is_same_pair x w) (is_same_pair x z) (list_any (is_same_pair x) (xs ++ ys))

same-turned : (x z : ℕ × ℕ) → is_same_pair z x ≡ is_same_pair x z
same-turned x z = by (is_same_pair x z) refl (is_same_pair z x) refl
  where
    by : (a : Bool) → is_same_pair x z ≡ a → (b : Bool) → is_same_pair z x ≡ b → is_same_pair z x ≡ is_same_pair x z
    by true e b f = pair-same z x (sym (same-pair x z e)) ∙ sym e
    by false e true f = absurd (false≢true (sym e ∙ pair-same x z (sym (same-pair z x f))))
    by false e false f = f ∙ sym e

-- one pair more: it counts where it was not there
inserted : (xs ys : List (ℕ × ℕ)) (z : ℕ × ℕ) → distinct_count (xs ++ z ∷ ys) + cond (list_any (is_same_pair z) (xs ++ ys)) 1 0 ≡ distinct_count (xs ++ ys) + 1
inserted [] ys z = elim (list_any (is_same_pair z) ys) as (λ b. length (cond b (distinct_pairs ys) (z ∷ distinct_pairs ys)) + cond b 1 0 ≡ distinct_count ys + 1) [ true ↦ refl | false ↦ omega arith ]
inserted (x ∷ xs) ys z =
    let rest : distinct_count (xs ++ z ∷ ys) + cond (list_any (is_same_pair z) (xs ++ ys)) 1 0 ≡ distinct_count (xs ++ ys) + 1 = inserted xs ys z in
    (λ i. length (cond (any-inserted x z xs ys i) (distinct_pairs (xs ++ z ∷ ys)) (x ∷ distinct_pairs (xs ++ z ∷ ys))) + cond (same-turned x z i || list_any (is_same_pair z) (xs ++ ys)) 1 0)
    ∙ by (is_same_pair x z) refl (list_any (is_same_pair x) (xs ++ ys)) refl (list_any (is_same_pair z) (xs ++ ys)) refl rest
  where
    by : (s : Bool) → is_same_pair x z ≡ s → (a : Bool) → list_any (is_same_pair x) (xs ++ ys) ≡ a → (b : Bool) → list_any (is_same_pair z) (xs ++ ys) ≡ b
        → distinct_count (xs ++ z ∷ ys) + cond b 1 0 ≡ distinct_count (xs ++ ys) + 1
        → length (cond (s || a) (distinct_pairs (xs ++ z ∷ ys)) (x ∷ distinct_pairs (xs ++ z ∷ ys))) + cond (s || b) 1 0
        ≡ length (cond a (distinct_pairs (xs ++ ys)) (x ∷ distinct_pairs (xs ++ ys))) + 1
    by true s true a true b rest = rest
    by true s false a false b rest = omega (arith, rest)
    by true s true a false b rest = absurd (false≢true (sym b ∙ ap (λ w. list_any (is_same_pair w) (xs ++ ys)) (sym (same-pair x z s)) ∙ a))
    by true s false a true b rest = absurd (false≢true (sym a ∙ ap (λ w. list_any (is_same_pair w) (xs ++ ys)) (same-pair x z s) ∙ b))
    by false s true a b e rest = rest
    by false s false a b e rest = omega (arith, rest)

-- more pairs are no fewer
grown : (xs zs ys : List (ℕ × ℕ)) → distinct_count (xs ++ ys) ≤ distinct_count (xs ++ (zs ++ ys))
grown xs [] ys = omega arith
grown xs (z ∷ zs) ys =
    let rest : distinct_count (xs ++ ys) ≤ distinct_count (xs ++ (zs ++ ys)) = grown xs zs ys in
    let one : distinct_count (xs ++ z ∷ (zs ++ ys)) + cond (list_any (is_same_pair z) (xs ++ (zs ++ ys))) 1 0 ≡ distinct_count (xs ++ (zs ++ ys)) + 1 = inserted xs (zs ++ ys) z in
    let small : cond (list_any (is_same_pair z) (xs ++ (zs ++ ys))) 1 0 ≤ 1 =
    elim (list_any (is_same_pair z) (xs ++ (zs ++ ys))) as (λ b. cond b 1 0 ≤ 1) [ true ↦ omega arith | false ↦ omega arith ] in
    omega arith

pairs-fall : (n : ℕ) (xs : List (ℕ × ℕ)) (kept : List Kept) → distinct_count (xs ++ flat_map pairs_of (without_kept n kept)) ≤ distinct_count (xs ++ flat_map pairs_of kept)
pairs-fall n xs [] = omega arith
pairs-fall n xs (it ∷ others) =
    let less : distinct_count (xs ++ flat_map pairs_of (without_kept n others)) ≤ distinct_count (xs ++ flat_map pairs_of others) = pairs-fall n xs others in
    let more : distinct_count (xs ++ flat_map pairs_of others) ≤ distinct_count (xs ++ (pairs_of it ++ flat_map pairs_of others)) = grown xs (pairs_of it) (flat_map pairs_of others) in
    let behind : distinct_count ((xs ++ pairs_of it) ++ flat_map pairs_of (without_kept n others)) ≤ distinct_count ((xs ++ pairs_of it) ++ flat_map pairs_of others) =
    pairs-fall n (xs ++ pairs_of it) others in
    let joined : (ys : List (ℕ × ℕ)) → distinct_count ((xs ++ pairs_of it) ++ ys) ≡ distinct_count (xs ++ (pairs_of it ++ ys)) = λ ys. ap distinct_count (append_assoc xs (pairs_of it) ys) in
    elim (it.number == n) as (λ b. distinct_count (xs ++ flat_map pairs_of (cond (not b) (it ∷ without_kept n others) (without_kept n others))) ≤ distinct_count
    (xs ++ (pairs_of it ++ flat_map pairs_of others))) [
      | true ↦ omega (arith, less, more)
      | false ↦ omega (arith, behind, joined (flat_map pairs_of (without_kept n others)), joined (flat_map pairs_of others))
    ]

own-fall : (n : ℕ) (kept : List Kept) → count_by (λ it. is_own it.leaf) (without_kept n kept) ≤ count_by (λ it. is_own it.leaf) kept
own-fall n [] = omega arith
own-fall n (it ∷ others) =
    let rest : count_by (λ it. is_own it.leaf) (without_kept n others) ≤ count_by (λ it. is_own it.leaf) others = own-fall n others in
    let whole : count_by (λ it. is_own it.leaf) (it ∷ others) ≡ cond (is_own it.leaf) 1 0 + count_by (λ it. is_own it.leaf) others = sum_by-cons (λ it. cond (is_own it.leaf) 1 0) it others in
    let part : count_by (λ it. is_own it.leaf) (it ∷ without_kept n others) ≡ cond (is_own it.leaf) 1 0 + count_by (λ it. is_own it.leaf) (without_kept n others) =
    sum_by-cons (λ it. cond (is_own it.leaf) 1 0) it (without_kept n others) in
    elim (it.number == n) as (λ b. count_by (λ it. is_own it.leaf) (cond (not b) (it ∷ without_kept n others) (without_kept n others)) ≤ count_by (λ it. is_own it.leaf) (it ∷ others)) [
      | true ↦ omega (arith, rest, whole)
      | false ↦ omega (arith, rest, whole, part)
    ]

-- without a snapshot the share is no larger
pub share-falls : (n : ℕ) (cell : CellLeaves) → share (without_snapshot n cell) ≤ share cell
share-falls n cell =
    let pages : length (named_pairs (without_snapshot n cell)) ≤ length (named_pairs cell) = pairs-fall n (pairs_from 0 cell.parent) cell.kept in
    let own : own_leaves (without_snapshot n cell) ≤ own_leaves cell = own-fall n cell.kept in
    omega (arith, pages, own)

-- ---- a fork

in-there : (x : ℕ × ℕ) (xs : List (ℕ × ℕ)) → IsIn x xs → list_any (is_same_pair x) xs ≡ true
in-there x [] h = absurd h
in-there x (y ∷ xs) (inl e) = ap (λ b. b || list_any (is_same_pair x) xs) (pair-same x y e)
in-there x (y ∷ xs) (inr h) = ap (λ b. is_same_pair x y || b) (in-there x xs h) ∙ elim (is_same_pair x y) as (λ b. (b || true) ≡ true) [ true ↦ refl | false ↦ refl ]

any-later : (x : ℕ × ℕ) (xs ys : List (ℕ × ℕ)) → list_any (is_same_pair x) ys ≡ true → list_any (is_same_pair x) (xs ++ ys) ≡ true
any-later x [] ys h = h
any-later x (y ∷ xs) ys h = ap (λ b. is_same_pair x y || b) (any-later x xs ys h) ∙ elim (is_same_pair x y) as (λ b. (b || true) ≡ true) [ true ↦ refl | false ↦ refl ]

-- pairs that are there again
again : (xs ys : List (ℕ × ℕ)) → ((x : ℕ × ℕ) → IsIn x xs → list_any (is_same_pair x) ys ≡ true) → distinct_pairs (xs ++ ys) ≡ distinct_pairs ys
again [] ys h = refl
again (x ∷ xs) ys h =
    ap (λ b. cond b (distinct_pairs (xs ++ ys)) (x ∷ distinct_pairs (xs ++ ys))) (any-later x xs ys (h x (inl refl)))
    ∙ again xs ys (λ z e. h z (inr e))

-- a fork adds one leaf
forked-alone : (n : ℕ) (parent : Versions) → share (with_fork n Eager Own (record { parent = parent; kept = [] })) ≡ share (record { parent = parent; kept = [] }) + 1
forked-alone n parent =
    let pairs : List (ℕ × ℕ) = pairs_from 0 parent in
    let same : length (distinct_pairs (pairs ++ (pairs ++ []))) ≡ length (distinct_pairs (pairs ++ [])) =
    ap (λ ys. length (distinct_pairs (pairs ++ ys))) (append-nil pairs) ∙ ap length (again pairs pairs (λ x h. in-there x pairs h)) ∙ ap (λ ys. length (distinct_pairs ys)) (sym (append-nil pairs)) in
    omega (arith, same)

pub share-forked : (n : ℕ) (cell : CellLeaves) → cell.kept ≡ [] → share (with_fork n Eager Own cell) ≡ share cell + 1
share-forked n cell alone = subst (λ kept. share (with_fork n Eager Own (record { parent = cell.parent; kept = kept })) ≡ share (record { parent = cell.parent; kept = kept }) + 1)
    (sym alone) (forked-alone n cell.parent)
