-- Maps of the cells that a look-up finds.
use Rattle.std.proofs.Common.{◌≡◌, ℕ, zero, suc, ◌<◌, ◌≤◌, cond, eqb, ltb, Some, None, Option, refl, sym, ◌∙◌, ap, arith, inl, inr}
use Rattle.std.specs.Ordering.{nat_cmp}
use Rattle.std.specs.Cmp.{nat_cmp_total}
use Rattle.std.specs.FinMap.{get, insert, remove, empty, get-empty, get-remove}
use Rattle.std.proofs.lemmas.Bool.{cases_lt, cases_eq, cond-true, cond-false, lt-ltb, le-ltb, eq-eqb, ne_eqb}
use Rattle.std.proofs.lemmas.Bool.Decides.{nat_tests}
use Rattle.vm_base.proofs.NumberedMaps.{get_inserted_here, get_inserted_apart, same_numbered}
use Rattle.table_levels.specs.Cells.{CellMap, with_cell, cells_below}

more_below : (n : ℕ) (look : ℕ → Option ℕ) (c : ℕ) (found : Option ℕ) → look n ≡ found → get (cells_below n look) c ≡ cond (ltb c n) (look c) None
    → get (with_cell found n (cells_below n look)) c ≡ cond (ltb c (suc n)) (look c) None
more_below n look c None here below = below ∙ elim (cases_lt c n) [
  | inl lt ↦ cond-true (ltb c n) _ _ (lt-ltb c n lt) ∙ sym (cond-true (ltb c (suc n)) _ _ (lt-ltb c (suc n) (omega arith)))
  | inr le ↦ cond-false (ltb c n) _ _ (le-ltb c n le) ∙ elim (cases_eq c n) [
    | inl same ↦ sym (cond-true (ltb c (suc n)) _ _ (lt-ltb c (suc n) (omega arith)) ∙ ap look same ∙ here)
    | inr apart ↦ sym (cond-false (ltb c (suc n)) _ _ (le-ltb c (suc n) (omega arith)))
  ]
]
more_below n look c (Some slot) here below = elim (cases_eq c n) [
  | inl same ↦ get_inserted_here (cells_below n look) n slot c same
      ∙ sym (cond-true (ltb c (suc n)) _ _ (lt-ltb c (suc n) (omega arith)) ∙ ap look same ∙ here)
  | inr apart ↦ get_inserted_apart (cells_below n look) n slot c apart ∙ below ∙ elim (cases_lt c n) [
    | inl lt ↦ cond-true (ltb c n) _ _ (lt-ltb c n lt) ∙ sym (cond-true (ltb c (suc n)) _ _ (lt-ltb c (suc n) (omega arith)))
    | inr le ↦ cond-false (ltb c n) _ _ (le-ltb c n le) ∙ sym (cond-false (ltb c (suc n)) _ _ (le-ltb c (suc n) (omega arith)))
  ]
]

-- what the map has is what the look-up finds
pub get-cells_below : (n : ℕ) (look : ℕ → Option ℕ) (c : ℕ) → get (cells_below n look) c ≡ cond (ltb c n) (look c) None
unfolding cells_below
get-cells_below zero look c = get-empty nat_cmp c ∙ sym (cond-false (ltb c zero) _ _ (le-ltb c zero (omega arith)))
get-cells_below (suc n) look c = more_below n look c (look n) refl (get-cells_below n look c)

pub get_below : (n : ℕ) (look : ℕ → Option ℕ) (c : ℕ) → c < n → get (cells_below n look) c ≡ look c
get_below n look c lt = get-cells_below n look c ∙ cond-true (ltb c n) _ _ (lt-ltb c n lt)

pub get_beyond : (n : ℕ) (look : ℕ → Option ℕ) (c : ℕ) → n ≤ c → get (cells_below n look) c ≡ None
get_beyond n look c le = get-cells_below n look c ∙ cond-false (ltb c n) _ _ (le-ltb c n le)

-- look-ups that find the same make one map
pub same_cells : (n : ℕ) (look other : ℕ → Option ℕ) → ((c : ℕ) → c < n → look c ≡ other c) → cells_below n look ≡ cells_below n other
same_cells n look other same = same_numbered _ _ (λ c. elim (cases_lt c n) [
  | inl lt ↦ get_below n look c lt ∙ same c lt ∙ sym (get_below n other c lt)
  | inr le ↦ get_beyond n look c le ∙ sym (get_beyond n other c le)
])

-- a look-up that finds nothing
pub no_cells : (n : ℕ) (look : ℕ → Option ℕ) → ((c : ℕ) → c < n → look c ≡ None) → cells_below n look ≡ empty
no_cells n look none = same_numbered _ _ (λ c. elim (cases_lt c n) [
  | inl lt ↦ get_below n look c lt ∙ none c lt ∙ sym (get-empty nat_cmp c)
  | inr le ↦ get_beyond n look c le ∙ sym (get-empty nat_cmp c)
])

-- one cell more
pub one_more_cell : (n : ℕ) (old new : ℕ → Option ℕ) (cell slot : ℕ) → cell < n → new cell ≡ Some slot → ((c : ℕ) → c < n → (c ≡ cell → ⊥) → new c ≡ old c)
    → cells_below n new ≡ insert (cells_below n old) cell slot
one_more_cell n old new cell slot below here others = same_numbered _ _ (λ c. elim (cases_eq c cell) [
  | inl same ↦ ap (get (cells_below n new)) same ∙ get_below n new cell below ∙ here ∙ sym (get_inserted_here (cells_below n old) cell slot c same)
  | inr apart ↦ elim (cases_lt c n) [
    | inl lt ↦ get_below n new c lt ∙ others c lt apart ∙ sym (get_inserted_apart (cells_below n old) cell slot c apart ∙ get_below n old c lt)
    | inr le ↦ get_beyond n new c le ∙ sym (get_inserted_apart (cells_below n old) cell slot c apart ∙ get_beyond n old c le)
  ]
])

-- what a map has after a removal
pub get_removed : (m : CellMap) (k q : ℕ) → get (remove m k) q ≡ cond (eqb q k) None (get m q)
get_removed m k q = get-remove nat_cmp_total m k q ∙ ap (λ b. cond b None (get m q)) (grind (arith, nat_tests))

-- to take out what is not there changes nothing
pub remove_absent : (m : CellMap) (k : ℕ) → get m k ≡ None → remove m k ≡ m
remove_absent m k absent = same_numbered _ _ (λ q. elim (cases_eq q k) [
  | inl same ↦ get_removed m k q ∙ cond-true (eqb q k) None (get m q) (eq-eqb q k same) ∙ sym (ap (get m) same ∙ absent)
  | inr apart ↦ get_removed m k q ∙ cond-false (eqb q k) None (get m q) (ne_eqb q k apart)
])

-- one cell less
pub one_cell_less : (n : ℕ) (old new : ℕ → Option ℕ) (cell : ℕ) → new cell ≡ None → ((c : ℕ) → c < n → (c ≡ cell → ⊥) → new c ≡ old c)
    → cells_below n new ≡ remove (cells_below n old) cell
one_cell_less n old new cell here others = same_numbered _ _ (λ c. elim (cases_eq c cell) [
  | inl same ↦
      let gone : get (remove (cells_below n old) cell) c ≡ None = get_removed (cells_below n old) cell c ∙ cond-true (eqb c cell) _ _ (eq-eqb c cell same) in
      elim (cases_lt c n) [
        | inl lt ↦ get_below n new c lt ∙ ap new same ∙ here ∙ sym gone
        | inr le ↦ get_beyond n new c le ∙ sym gone
      ]
  | inr apart ↦
      let passed : get (remove (cells_below n old) cell) c ≡ get (cells_below n old) c =
      get_removed (cells_below n old) cell c ∙ cond-false (eqb c cell) _ _ (ne_eqb c cell apart) in
      elim (cases_lt c n) [
        | inl lt ↦ get_below n new c lt ∙ others c lt apart ∙ sym (passed ∙ get_below n old c lt)
        | inr le ↦ get_beyond n new c le ∙ sym (passed ∙ get_beyond n old c le)
      ]
])
