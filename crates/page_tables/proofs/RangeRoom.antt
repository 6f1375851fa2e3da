-- The slots that are left while the pages of a range are touched.
use Rattle.std.proofs.Common.{◌≡◌, ℕ, ◌+◌, ◌-◌, ◌/◌, ◌<◌, ◌≤◌, List, [], ◌∷◌, length, cond, eqb, refl, sym, ◌∙◌, ap, subst, arith, inl, inr}
use Rattle.std.specs.Prelude.{Bool, true, false, not, ◌||◌, is_some, filter, zero, suc}
use Rattle.std.specs.Ordering.{nat_cmp}
use Rattle.std.specs.List.{list_any, range_with_len}
use Rattle.std.specs.FinMap.{find}
use Rattle.std.proofs.lemmas.Bool.{cases_eq, cases_Bool, eq-eqb, ne_eqb, false≢true}
use Rattle.std.proofs.lemmas.Bool.Decides.{nat_tests}
use Rattle.std.proofs.lemmas.List.{length-map}
use Rattle.vm_base.specs.Places.{cell_of}
use Rattle.kernel_meaning.specs.FrameLaw.{Leaves, lacks_slots, used_cells, cells_without_slot}
use Rattle.page_tables.specs.Ranges.{HasRoom, cells_of_pages}

-- a number is one of the cells
abbrev pub is_among : ℕ → List ℕ → Bool
is_among c cells = list_any (eqb c) cells

pub among-range : (c a n : ℕ) → a ≤ c → c < a + n → is_among c (range_with_len a n) ≡ true
among-range c a zero low high = absurd (omega arith)
among-range c a (suc n) low high = elim (cases_eq c a) [
  | inl here ↦ ap (λ b. b || is_among c (range_with_len (a + 1) n)) (eq-eqb c a here)
  | inr apart ↦ ap (λ b. b || is_among c (range_with_len (a + 1) n)) (ne_eqb c a apart) ∙ among-range c (a + 1) n (omega arith) (omega arith)
]

-- the cell of each of n pages is among their cells
pub page-among : (first n page : ℕ) → first ≤ page → page < first + n → is_among (cell_of page) (cells_of_pages first n) ≡ true
page-among first n page low high =
    ap (λ b. is_among (cell_of page) (cond b [] (range_with_len (cell_of first) (cell_of (first + n - 1) + 1 - cell_of first)))) (ne_eqb n 0 (λ e. omega arith))
    ∙ among-range (cell_of page) (cell_of first) (cell_of (first + n - 1) + 1 - cell_of first) (let l : first / 512 ≤ page / 512 = omega arith in l)
    (let h : page / 512 < first / 512 + ((first + n - 1) / 512 + 1 - first / 512) = omega arith in h)

-- cells without a slot, by a test
abbrev lacking : (ℕ → Bool) → List ℕ → List ℕ
lacking has cells = filter (λ c. not (has c)) cells

same-lacking : (has has_too : ℕ → Bool) (cells : List ℕ) → ((c : ℕ) → has_too c ≡ has c) → length (lacking has_too cells) ≡ length (lacking has cells)
same-lacking has has_too [] alike = refl
same-lacking has has_too (d ∷ cells) alike =
    ap (λ b. length (cond (not b) (d ∷ lacking has_too cells) (lacking has_too cells))) (alike d)
    ∙ elim (has d) as (λ b. length (cond (not b) (d ∷ lacking has_too cells) (lacking has_too cells))
    ≡ length (cond (not b) (d ∷ lacking has cells) (lacking has cells))) [ true ↦ same-lacking has has_too cells alike | false ↦ ap suc (same-lacking has has_too cells alike) ]

fewer-or-same : (has has_too : ℕ → Bool) (c : ℕ) (cells : List ℕ) → ((d : ℕ) → has_too d ≡ (eqb d c || has d)) → length (lacking has_too cells) ≤ length (lacking has cells)
fewer-or-same has has_too c [] alike = omega arith
fewer-or-same has has_too c (d ∷ cells) alike =
    let rest : length (lacking has_too cells) ≤ length (lacking has cells) = fewer-or-same has has_too c cells alike in
    subst (λ b. length (cond (not b) (d ∷ lacking has_too cells) (lacking has_too cells)) ≤ length (lacking has (d ∷ cells))) (sym (alike d))
    (elim (eqb d c) as (λ e. length (cond (not (e || has d)) (d ∷ lacking has_too cells) (lacking has_too cells)) ≤ length (lacking has (d ∷ cells))) [
      | true ↦ elim (has d) as (λ b. length (lacking has_too cells) ≤ length (cond (not b) (d ∷ lacking has cells) (lacking has cells))) [ true ↦ rest | false ↦ omega arith ]
      | false ↦ elim (has d) as (λ b. length (cond (not b) (d ∷ lacking has_too cells) (lacking has_too cells)) ≤ length
          (cond (not b) (d ∷ lacking has cells) (lacking has cells))) [ true ↦ rest | false ↦ omega arith ]
    ])

-- one that is among the cells and had no slot has one then
fewer-lacking : (has has_too : ℕ → Bool) (c : ℕ) (cells : List ℕ) → ((d : ℕ) → has_too d ≡ (eqb d c || has d)) → has c ≡ false
    → is_among c cells ≡ true → length (lacking has_too cells) < length (lacking has cells)
fewer-lacking has has_too c [] alike none among = absurd (false≢true among)
fewer-lacking has has_too c (d ∷ cells) alike none among = elim (cases_eq c d) [
  | inl here ↦
      let rest : length (lacking has_too cells) ≤ length (lacking has cells) = fewer-or-same has has_too c cells alike in
      let gone : has_too d ≡ true = alike d ∙ ap (λ b. b || has d) (eq-eqb d c (sym here)) in
      let was : has d ≡ false = ap has (sym here) ∙ none in
      let less : length (lacking has_too (d ∷ cells)) ≡ length (lacking has_too cells) = ap (λ b. length (cond (not b) (d ∷ lacking has_too cells) (lacking has_too cells))) gone in
      let more : length (lacking has (d ∷ cells)) ≡ suc (length (lacking has cells)) = ap (λ b. length (cond (not b) (d ∷ lacking has cells) (lacking has cells))) was in
      omega arith
  | inr apart ↦
      let rest : length (lacking has_too cells) < length (lacking has cells) = fewer-lacking has has_too c cells alike none (sym (ap (λ b. b || is_among c cells) (ne_eqb c d apart)) ∙ among) in
      let same : has_too d ≡ has d = alike d ∙ ap (λ b. b || has d) (ne_eqb d c (λ e. apart (sym e))) in
      subst (λ b. length (cond (not b) (d ∷ lacking has_too cells) (lacking has_too cells)) < length (lacking has (d ∷ cells))) (sym same)
      (elim (has d) as (λ b. length (cond (not b) (d ∷ lacking has_too cells) (lacking has_too cells)) < length
      (cond (not b) (d ∷ lacking has cells) (lacking has cells))) [ true ↦ rest | false ↦ omega arith ])
]

module _ (slots : ℕ) (leaves : Leaves) (cells : List ℕ) (c : ℕ) (room : HasRoom slots leaves cells) (among : is_among c cells ≡ true) where
  abbrev has : ℕ → Bool
  has d = is_some (find nat_cmp d leaves)

  -- there is a slot for the cell
  pub room-for : lacks_slots slots leaves (c ∷ []) ≡ false
  room-for = elim (cases_Bool (has c)) [
    | inl there ↦
        let none : length (cells_without_slot leaves (c ∷ [])) ≡ 0 = ap (λ b. length (cond (not b) (c ∷ []) [])) there in
        let few : ¬ (slots - length (used_cells leaves) < length (cells_without_slot leaves (c ∷ []))) = λ l. omega arith in
        grind (arith, nat_tests, few)
    | inr lost ↦
        let one : length (cells_without_slot leaves (c ∷ [])) ≡ 1 = ap (λ b. length (cond (not b) (c ∷ []) [])) lost in
        let some : length (lacking (λ d. eqb d c || has d) cells) < length (lacking has cells) = fewer-lacking has (λ d. eqb d c || has d) c cells (λ d. refl) lost among in
        let used : length (used_cells leaves) ≡ length leaves = length-map leaves (λ e. e.0) in
        let whole : length leaves + length (lacking has cells) ≤ slots = room in
        let few : ¬ (slots - length (used_cells leaves) < length (cells_without_slot leaves (c ∷ []))) = λ l. omega arith in
        grind (arith, nat_tests, few)
  ]

  -- and for the others once it has one
  pub room-then : (then : Leaves) → ((d : ℕ) → is_some (find nat_cmp d then) ≡ (eqb d c || has d)) → length then ≡ cond (has c) (length leaves) (length leaves + 1) → HasRoom slots then cells
  room-then then found size =
      let whole : length leaves + length (lacking has cells) ≤ slots = room in
      elim (cases_Bool (has c)) [
        | inl there ↦
            let same : length then ≡ length leaves = size ∙ ap (λ b. cond b (length leaves) (length leaves + 1)) there in
            let few : length (lacking (λ d. is_some (find nat_cmp d then)) cells) ≤ length (lacking has cells) = fewer-or-same has (λ d. is_some (find nat_cmp d then)) c cells found in
            omega arith
        | inr lost ↦
            let more : length then ≡ length leaves + 1 = size ∙ ap (λ b. cond b (length leaves) (length leaves + 1)) lost in
            let few : length (lacking (λ d. is_some (find nat_cmp d then)) cells) < length (lacking has cells) = fewer-lacking has (λ d. is_some (find nat_cmp d then)) c cells found lost among in
            omega arith
      ]
