-- The cell that a look-up from a number on finds first in a directory.
use Rattle.std.proofs.Common.{◌≡◌, ◌≢◌, ℕ, ◌<◌, ◌≤◌, List, [], ◌∷◌, Some, None, cond, refl, sym, ◌∙◌, ap, subst, arith, inl, inr}
use Rattle.std.specs.Prelude.{Bool, true, false, T, ◌&&◌, is_some, nat_le, unwrap_or}
use Rattle.std.specs.Ordering.{nat_cmp, is_lt}
use Rattle.std.specs.List.{find as first_that}
use Rattle.std.specs.FinMap.{get, entries, find, is_sorted, entries_sorted, get-entries}
use Rattle.std.specs.FinMap.Entries.{below_all}
use Rattle.std.proofs.lemmas.Bool.{cases_lt, eq-eqb, ne_eqb, false≢true}
use Rattle.std.proofs.lemmas.Bool.Decides.{nat_tests}
use Rattle.table_levels.specs.Cells.{CellMap, first_from}
use Rattle.page_tables.proofs.LeafMap.{same_number}

left : (a b : Bool) → T (a && b) → T a
left true b h = tt
left false b h = h

right : (a b : Bool) → T (a && b) → T b
right true b h = h
right false b h = absurd h

below : (x k : ℕ) → T (is_lt (nat_cmp x k)) → x < k
below x k h = elim (cases_lt x k) [
  | inl lt ↦ lt
  | inr le ↦ absurd (subst T (not-less x k le) h)
]
  where
    not-less : (x k : ℕ) → k ≤ x → is_lt (nat_cmp x k) ≡ false
    not-less x k le = grind (arith, nat_tests)

reaches : (x k : ℕ) → nat_le x k ≡ true → x ≤ k
reaches x k h = grind (arith, nat_tests)

falls-short : (x k : ℕ) → nat_le x k ≡ false → k < x
falls-short x k h = grind (arith, nat_tests)

module _ {X : Type 0} where
  pub find-head : (q : ℕ) (e : ℕ × X) (es : List (ℕ × X)) → q ≡ e.0 → find nat_cmp q (e ∷ es) ≡ Some e.1
  find-head q e es same = ap (λ b. cond b (Some e.1) (find nat_cmp q es)) (same_number q e.0 ∙ eq-eqb q e.0 same)

  pub find-tail : (q : ℕ) (e : ℕ × X) (es : List (ℕ × X)) → q ≢ e.0 → find nat_cmp q (e ∷ es) ≡ find nat_cmp q es
  find-tail q e es apart = ap (λ b. cond b (Some e.1) (find nat_cmp q es)) (same_number q e.0 ∙ ne_eqb q e.0 apart)

  -- what lies below the first entry is not found
  pub absent-below : (q : ℕ) (e : ℕ × X) (es : List (ℕ × X)) → T (is_sorted nat_cmp (e ∷ es)) → q < e.0 → find nat_cmp q (e ∷ es) ≡ None
  absent-below q e [] h lt = find-tail q e [] (λ same. omega (arith, lt, same))
  absent-below q e (f ∷ es) h lt =
      let next : e.0 < f.0 = below e.0 f.0 (left _ _ (left _ _ h)) in
      find-tail q e (f ∷ es) (λ same. omega (arith, lt, same)) ∙ absent-below q f es (right _ _ h) (omega (arith, lt, next))

  -- entries of which none lies at a number or below it
  pub all-above : (c : ℕ) (es : List (ℕ × X)) → T (is_sorted nat_cmp es) → ((q : ℕ) → q ≤ c → find nat_cmp q es ≡ None) → T (below_all nat_cmp c es)
  all-above c [] h none = tt
  all-above c (e ∷ es) h none = elim (cases_lt c e.0) [
    | inl lt ↦ both _ _ (subst T (sym (is-less c e.0 lt)) tt) (all-above c es (right _ _ h) (λ q le. sym (find-tail q e es (λ same. omega (arith, lt, le, same))) ∙ none q le))
    | inr le ↦ absurd (false≢true (ap is_some (sym (none e.0 le) ∙ find-head e.0 e es refl)))
  ]
    where
      is-less : (x k : ℕ) → x < k → is_lt (nat_cmp x k) ≡ true
      is-less x k lt = grind (arith, nat_tests)

      both : (a b : Bool) → T a → T b → T (a && b)
      both true b h k = k
      both false b h k = h

none-from : (x : ℕ) (es : List (ℕ × ℕ)) → first_that (λ e. nat_le x e.0) es ≡ None → (q : ℕ) → x ≤ q → find nat_cmp q es ≡ None
none-from x [] e q le = refl
none-from x (f ∷ es) e q le = elim (nat_le x f.0) as (λ b. nat_le x f.0 ≡ b → cond b (Some f) (first_that (λ e. nat_le x e.0) es) ≡ None → find nat_cmp q (f ∷ es) ≡ None) [
  | true ↦ λ there e. absurd (false≢true (sym (ap is_some e)))
  | false ↦ λ short e. find-tail q f es (λ same. let l : f.0 < x = falls-short x f.0 short in omega (arith, l, le, same)) ∙ none-from x es e q le
] refl e

-- no cell is there from this number on
pub first-none : (map : CellMap) (x : ℕ) → first_from map x ≡ None → (q : ℕ) → x ≤ q → get map q ≡ None
first-none map x e q le = get-entries map q ∙ none-from x (entries map) e q le

-- the first that is there
pub record IsFirstFrom (map : CellMap) (x c s : ℕ) : Type 0 where
  pub reached : x ≤ c
  pub there : get map c ≡ Some s
  pub others : (q : ℕ) → x ≤ q → q < c → get map q ≡ None

some-from : (x c s : ℕ) (es : List (ℕ × ℕ)) → T (is_sorted nat_cmp es) → first_that (λ e. nat_le x e.0) es ≡ Some (c, s)
    → (x ≤ c) × ((find nat_cmp c es ≡ Some s) × ((q : ℕ) → x ≤ q → q < c → find nat_cmp q es ≡ None))
some-from x c s [] h e = absurd (false≢true (ap is_some e))
some-from x c s (f ∷ es) h e = elim (nat_le x f.0) as (λ b. nat_le x f.0 ≡ b → cond b (Some f) (first_that (λ e. nat_le x e.0) es) ≡ Some (c, s)
    → (x ≤ c) × ((find nat_cmp c (f ∷ es) ≡ Some s) × ((q : ℕ) → x ≤ q → q < c → find nat_cmp q (f ∷ es) ≡ None))) [
      | true ↦ λ there e.
          let same : f ≡ (c, s) = ap (λ o. unwrap_or o f) e in
          let key : f.0 ≡ c = ap (λ p. p.0) same in
          (subst (λ k. x ≤ k) key (reaches x f.0 there), (find-head c f es (sym key) ∙ ap (λ p. Some p.1) same, λ q le lt. absent-below q f es h (subst (λ k. q < k) (sym key) lt)))
      | false ↦ λ short e.
          let l : f.0 < x = falls-short x f.0 short in
          let rest : (x ≤ c) × ((find nat_cmp c es ≡ Some s) × ((q : ℕ) → x ≤ q → q < c → find nat_cmp q es ≡ None)) = some-from x c s es (right _ _ h) e in
          (rest.0, (find-tail c f es (λ same. omega (arith, l, rest.0, same)) ∙ rest.1.0, λ q le lt. find-tail q f es (λ same. omega (arith, l, le, same)) ∙ rest.1.1 q le lt))
    ] refl e

pub first-some : (map : CellMap) (x c s : ℕ) → first_from map x ≡ Some (c, s) → IsFirstFrom map x c s
first-some map x c s e =
    let found : (x ≤ c) × ((find nat_cmp c (entries map) ≡ Some s) × ((q : ℕ) → x ≤ q → q < c → find nat_cmp q (entries map) ≡ None)) = some-from x c s (entries map) (entries_sorted map) e in
    record { reached = found.0; there = get-entries map c ∙ found.1.0; others = λ q le lt. get-entries map q ∙ found.1.1 q le lt }
