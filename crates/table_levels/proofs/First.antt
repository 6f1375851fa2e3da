-- The first cell of a map from a cell on.
use Rattle.std.proofs.Common.{◌≡◌, ◌≢◌, ℕ, ◌<◌, ◌≤◌, Bool, true, false, eqb, leb, List, [], ◌∷◌, Some, None, refl, sym, ◌∙◌, ap, subst, arith, inl, inr}
use Rattle.std.specs.Prelude.{◌&&◌, T}
use Rattle.std.specs.Ordering.{nat_cmp, eq_by_cmp, is_lt}
use Rattle.std.specs.List.{find as first_that}
use Rattle.std.specs.FinMap.{get, entries, find, is_sorted, get-entries, entries_sorted}
use Rattle.std.specs.FinMap.Entries.{below_all}
use Rattle.std.proofs.lemmas.Bool.{cases_lt, cases_order, cond-true, cond-false, eq-eqb, ne_eqb, le-leb, lt-leb}
use Rattle.std.proofs.lemmas.Bool.Decides.{nat_tests}
use Rattle.table_levels.specs.Cells.{CellMap, first_from}

eq_test : (q k : ℕ) → eq_by_cmp nat_cmp q k ≡ eqb q k
eq_test q k = grind (arith, nat_tests)

found_here : (q : ℕ) (e : ℕ × ℕ) (es : List (ℕ × ℕ)) → q ≡ e.0 → find nat_cmp q (e ∷ es) ≡ Some e.1
found_here q e es same = cond-true (eq_by_cmp nat_cmp q e.0) (Some e.1) (find nat_cmp q es) (eq_test q e.0 ∙ eq-eqb q e.0 same)

found_later : (q : ℕ) (e : ℕ × ℕ) (es : List (ℕ × ℕ)) → q ≢ e.0 → find nat_cmp q (e ∷ es) ≡ find nat_cmp q es
found_later q e es apart = cond-false (eq_by_cmp nat_cmp q e.0) (Some e.1) (find nat_cmp q es) (eq_test q e.0 ∙ ne_eqb q e.0 apart)

first_none : (cell : ℕ) (es : List (ℕ × ℕ)) → ((q : ℕ) → cell ≤ q → find nat_cmp q es ≡ None) → first_that (λ e. leb cell e.0) es ≡ None
first_none cell [] none = refl
first_none cell (e ∷ es) none = elim (cases_lt e.0 cell) [
  | inl below ↦ cond-false (leb cell e.0) (Some e) (first_that (λ e. leb cell e.0) es) (lt-leb cell e.0 below)
      ∙ first_none cell es (λ q le. sym (found_later q e es (λ same. omega arith)) ∙ none q le)
  | inr here ↦
      let found : find nat_cmp e.0 (e ∷ es) ≡ Some e.1 = found_here e.0 e es refl in
      let nothing : find nat_cmp e.0 (e ∷ es) ≡ None = none e.0 here in
      absurd cc
]

-- no cell at or after this one is there
pub first_from-none : (m : CellMap) (cell : ℕ) → ((q : ℕ) → cell ≤ q → get m q ≡ None) → first_from m cell ≡ None
first_from-none m cell none = first_none cell (entries m) (λ q le. sym (get-entries m q) ∙ none q le)

both_first : (a b : Bool) → T (a && b) → T a
both_first true b there = tt
both_first false b there = there

both_second : (a b : Bool) → T (a && b) → T b
both_second true b there = there
both_second false b there = absurd there

less : (x k : ℕ) → T (is_lt (nat_cmp x k)) → x < k
less x k there = elim (cases_lt x k) [
  | inl lt ↦ lt
  | inr le ↦ absurd (subst T (not_less x k le) there)
]
  where
    not_less : (x k : ℕ) → k ≤ x → is_lt (nat_cmp x k) ≡ false
    not_less x k le = grind (arith, nat_tests)

below_absent : (c x : ℕ) (es : List (ℕ × ℕ)) → c ≤ x → T (below_all nat_cmp x es) → find nat_cmp c es ≡ None
below_absent c x [] le sorted = refl
below_absent c x (e ∷ es) le sorted =
    let above : x < e.0 = less x e.0 (both_first (is_lt (nat_cmp x e.0)) (below_all nat_cmp x es) sorted) in
    found_later c e es (λ same. omega arith) ∙ below_absent c x es le (both_second (is_lt (nat_cmp x e.0)) (below_all nat_cmp x es) sorted)

first_some : (cell c slot : ℕ) (es : List (ℕ × ℕ)) → T (is_sorted nat_cmp es) → cell ≤ c → find nat_cmp c es ≡ Some slot → ((q : ℕ) → cell ≤ q → q < c → find nat_cmp q es ≡ None)
    → first_that (λ e. leb cell e.0) es ≡ Some (c, slot)
first_some cell c slot [] sorted le there none = absurd cc
first_some cell c slot (e ∷ es) sorted le there none = elim (cases_lt e.0 cell) [
  | inl below ↦ cond-false (leb cell e.0) (Some e) (first_that (λ e. leb cell e.0) es) (lt-leb cell e.0 below)
      ∙ first_some cell c slot es (both_second (below_all nat_cmp e.0 es) (is_sorted nat_cmp es) sorted) le (sym (found_later c e es (λ same. omega arith)) ∙ there)
      (λ q above lt. sym (found_later q e es (λ same. omega arith)) ∙ none q above lt)
  | inr here ↦ cond-true (leb cell e.0) (Some e) (first_that (λ e. leb cell e.0) es) (le-leb cell e.0 here) ∙ elim (cases_order c e.0) [
    | inl same ↦
        let found : find nat_cmp c (e ∷ es) ≡ Some e.1 = found_here c e es same in
        let slots : slot ≡ e.1 = cc in
        ap (λ k. Some (k, e.1)) (sym same) ∙ ap (λ s. Some (c, s)) (sym slots)
    | inr apart ↦ elim apart [
      | inl lt ↦
          let nothing : find nat_cmp c (e ∷ es) ≡ None =
          found_later c e es (λ same. omega arith) ∙ below_absent c e.0 es (omega arith) (both_first (below_all nat_cmp e.0 es) (is_sorted nat_cmp es) sorted) in
          absurd cc
      | inr gt ↦
          let found : find nat_cmp e.0 (e ∷ es) ≡ Some e.1 = found_here e.0 e es refl in
          let nothing : find nat_cmp e.0 (e ∷ es) ≡ None = none e.0 here gt in
          absurd cc
    ]
  ]
]

-- the lowest cell at or after this one
pub first_from-some : (m : CellMap) (cell c slot : ℕ) → cell ≤ c → get m c ≡ Some slot → ((q : ℕ) → cell ≤ q → q < c → get m q ≡ None) → first_from m cell ≡ Some (c, slot)
first_from-some m cell c slot le there none =
    first_some cell c slot (entries m) (entries_sorted m) le (sym (get-entries m c) ∙ there) (λ q above lt. sym (get-entries m q) ∙ none q above lt)
