-- The lowest lost cell of a range, piece by piece.
use Rattle.std.proofs.Common.{◌≡◌, ℕ, zero, suc, ◌+◌, ◌-◌, ◌<◌, ◌≤◌, List, Option, Some, None, refl, sym, ◌∙◌, ap, subst, arith, inl, inr}
use Rattle.std.specs.Prelude.{◌==◌, is_some}
use Rattle.std.specs.Option.{option_or}
use Rattle.std.specs.List.{range_with_len}
use Rattle.std.proofs.lemmas.Bool.{cases_eq, cases_lt, false≢true, cond-false, ne_eqb}
use Rattle.vm_base.specs.Places.{page_of, cell_of, cells_of_range}
use Rattle.vm_base.specs.TwoSides.{Loss, loss_of, first_loss}

-- neither of two is there
neither : (a b : Option ℕ) → option_or a b ≡ None → (a ≡ None) × (b ≡ None)
neither None b e = (refl, e)
neither (Some x) b e = absurd (false≢true (sym (ap is_some e)))

module _ (losses : List Loss) (n : ℕ) where
  -- the cells of a range are not lost
  abbrev AreUnlost : ℕ → ℕ → Type 0
  AreUnlost first end = (c : ℕ) → first ≤ c → c < end → loss_of losses n c ≡ None

  none-lost : (count first : ℕ) → AreUnlost first (first + count) → first_loss losses n (range_with_len first count) ≡ None
  none-lost zero first unlost = refl
  none-lost (suc count) first unlost =
      let low : first ≤ first = omega arith in
      let high : first < first + suc count = omega arith in
      ap (λ o. option_or o (first_loss losses n (range_with_len (first + 1) count))) (unlost first low high)
      ∙ none-lost count (first + 1) (λ c above below. unlost c (omega arith) (omega arith))

  unlost-back : (count first : ℕ) → first_loss losses n (range_with_len first count) ≡ None → AreUnlost first (first + count)
  unlost-back zero first none = λ c above below. absurd (omega arith)
  unlost-back (suc count) first none = λ c above below.
      let both : (loss_of losses n first ≡ None) × (first_loss losses n (range_with_len (first + 1) count) ≡ None) =
      neither (loss_of losses n first) (first_loss losses n (range_with_len (first + 1) count)) none in
      elim (cases_eq c first) [
        | inl here ↦ ap (loss_of losses n) here ∙ both.0
        | inr apart ↦ unlost-back count (first + 1) both.1 c (omega arith) (omega arith)
      ]

  -- the lowest lost cell of a range
  record IsLowest (first end at : ℕ) : Type 0 where
    pub cell : ℕ
    pub above : first ≤ cell
    pub below : cell < end
    pub before : AreUnlost first cell
    pub lost : loss_of losses n cell ≡ Some at

  lost-lowest : (count first at : ℕ) → IsLowest first (first + count) at → first_loss losses n (range_with_len first count) ≡ Some at
  lost-lowest zero first at lowest = let a : first ≤ lowest.cell = lowest.above in let b : lowest.cell < first + zero = lowest.below in absurd (omega arith)
  lost-lowest (suc count) first at lowest =
      let above : first ≤ lowest.cell = lowest.above in
      let below : lowest.cell < first + suc count = lowest.below in
      elim (cases_eq lowest.cell first) [
        | inl here ↦ ap (λ o. option_or o (first_loss losses n (range_with_len (first + 1) count))) (ap (loss_of losses n) (sym here) ∙ lowest.lost)
        | inr apart ↦
            let low : first ≤ first = omega arith in
            let high : first < lowest.cell = omega arith in
            ap (λ o. option_or o (first_loss losses n (range_with_len (first + 1) count))) (lowest.before first low high)
            ∙ lost-lowest count (first + 1) at
            (record { cell = lowest.cell; above = omega arith; below = omega arith; before = λ c over under. lowest.before c (omega arith) under; lost = lowest.lost })
      ]

  lowest-back : (count first at : ℕ) → first_loss losses n (range_with_len first count) ≡ Some at → IsLowest first (first + count) at
  lowest-back zero first at some = absurd (false≢true (ap is_some some))
  lowest-back (suc count) first at some =
      elim (loss_of losses n first) as (λ o. loss_of losses n first ≡ o → option_or o (first_loss losses n (range_with_len (first + 1) count)) ≡ Some at → IsLowest first (first + suc count) at) [
        | Some found ↦ λ e s. record { cell = first; above = omega arith; below = omega arith; before = λ c over under. absurd (omega arith); lost = e ∙ s }
        | None ↦ λ e s.
            let rest : IsLowest (first + 1) (first + 1 + count) at = lowest-back count (first + 1) at s in
            let above : first + 1 ≤ rest.cell = rest.above in
            let below : rest.cell < first + 1 + count = rest.below in
            record {
              cell = rest.cell;
              above = omega arith;
              below = omega arith;
              lost = rest.lost;
              before = λ c over under. elim (cases_eq c first) [ inl here ↦ ap (loss_of losses n) here ∙ e | inr apart ↦ rest.before c (omega arith) under ];
            }
      ] refl some

  abbrev cell_from : ℕ → ℕ
  cell_from address = cell_of (page_of address)

  -- the cells of a range with bytes
  cells-some : (address size : ℕ) → 0 < size → cells_of_range address size ≡ range_with_len (cell_from address) (cell_from (address + size - 1) + 1 - cell_from address)
  cells-some address size some = cond-false (size == 0) _ _ (ne_eqb size 0 (λ e. omega arith))

  last-end : (address size : ℕ) → 0 < size → cell_from address + (cell_from (address + size - 1) + 1 - cell_from address) ≡ cell_from (address + size - 1) + 1
  last-end address size some = let order : cell_from address ≤ cell_from (address + size - 1) = omega arith in omega arith

  abbrev range_loss : ℕ → ℕ → Option ℕ
  range_loss address size = first_loss losses n (cells_of_range address size)

  range-unlost : (address size : ℕ) → 0 < size → AreUnlost (cell_from address) (cell_from (address + size - 1) + 1) → range_loss address size ≡ None
  range-unlost address size some unlost = ap (first_loss losses n) (cells-some address size some)
      ∙ none-lost (cell_from (address + size - 1) + 1 - cell_from address) (cell_from address) (subst (AreUnlost (cell_from address)) (sym (last-end address size some)) unlost)

  range-back : (address size : ℕ) → 0 < size → range_loss address size ≡ None → AreUnlost (cell_from address) (cell_from (address + size - 1) + 1)
  range-back address size some none = subst (AreUnlost (cell_from address)) (last-end address size some)
      (unlost-back (cell_from (address + size - 1) + 1 - cell_from address) (cell_from address) (sym (ap (first_loss losses n) (cells-some address size some)) ∙ none))

  range-lowest : (address size at : ℕ) → 0 < size → IsLowest (cell_from address) (cell_from (address + size - 1) + 1) at → range_loss address size ≡ Some at
  range-lowest address size at some lowest = ap (first_loss losses n) (cells-some address size some)
      ∙ lost-lowest (cell_from (address + size - 1) + 1 - cell_from address) (cell_from address) at (subst (λ end. IsLowest (cell_from address) end at) (sym (last-end address size some)) lowest)

  range-lowest-back : (address size at : ℕ) → 0 < size → range_loss address size ≡ Some at → IsLowest (cell_from address) (cell_from (address + size - 1) + 1) at
  range-lowest-back address size at some lost = subst (λ end. IsLowest (cell_from address) end at) (last-end address size some)
      (lowest-back (cell_from (address + size - 1) + 1 - cell_from address) (cell_from address) at (sym (ap (first_loss losses n) (cells-some address size some)) ∙ lost))

  -- a range whose cells are all one
  pub one-cell : (address size : ℕ) → 0 < size → cell_from (address + size - 1) ≡ cell_from address → range_loss address size ≡ loss_of losses n (cell_from address)
  one-cell address size some same =
      let one : cell_from (address + size - 1) + 1 - cell_from address ≡ 1 = omega arith in
      ap (first_loss losses n) (cells-some address size some) ∙ ap (λ k. first_loss losses n (range_with_len (cell_from address) k)) one ∙ nothing-more (loss_of losses n (cell_from address))
    where
      nothing-more : (o : Option ℕ) → option_or o None ≡ o
      nothing-more None = refl
      nothing-more (Some x) = refl

  -- cells below the second part lie in the first
  before-second : (address j k : ℕ) → range_loss address j ≡ None → AreUnlost (cell_from address) (cell_from (address + j))
  before-second address zero k none c above below = absurd (let here : address + zero ≡ address = omega arith in omega arith)
  before-second address (suc j) k none c above below = range-back address (suc j) (omega arith) none c above (omega arith)

  -- no cell is lost in a range and in one behind it
  pub unlost-more : (address j k : ℕ) → 0 < k → range_loss address j ≡ None → range_loss (address + j) k ≡ None → range_loss address (j + k) ≡ None
  unlost-more address j k some front back = range-unlost address (j + k) (omega arith) (λ c above below. elim (cases_lt c (cell_from (address + j))) [
    | inl low ↦ before-second address j k front c above low
    | inr high ↦
        let last : address + (j + k) - 1 ≡ address + j + k - 1 = omega arith in
        range-back (address + j) k some back c high (subst (λ a. c < cell_from a + 1) last below)
  ])

  -- none is lost in a range, and one in the range behind it
  pub lost-behind : (address j k size at : ℕ) → 0 < k → j + k ≤ size → range_loss address j ≡ None → range_loss (address + j) k ≡ Some at → range_loss address size ≡ Some at
  lost-behind address j k size at some fits front back =
      let lowest : IsLowest (cell_from (address + j)) (cell_from (address + j + k - 1) + 1) at = range-lowest-back (address + j) k at some back in
      let above : cell_from (address + j) ≤ lowest.cell = lowest.above in
      let below : lowest.cell < cell_from (address + j + k - 1) + 1 = lowest.below in
      let order : cell_from address ≤ cell_from (address + j) = omega arith in
      let ends : cell_from (address + j + k - 1) ≤ cell_from (address + size - 1) = omega arith in
      range-lowest address size at (omega arith) (record {
        cell = lowest.cell;
        above = omega arith;
        below = omega arith;
        lost = lowest.lost;
        before = λ c over under. elim (cases_lt c (cell_from (address + j))) [
          | inl low ↦ before-second address j k front c over low
          | inr high ↦ lowest.before c high under
        ];
      })
