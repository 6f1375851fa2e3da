-- Slots of which one loses its owner.
use Rattle.std.proofs.Common.{◌≡◌, ◌≢◌, ℕ, ◌+◌, ◌<◌, List, length, Option, Some, None, cond, sym, ◌∙◌, ap, subst, arith, inl, inr}
use Rattle.std.specs.Prelude.{false, T, is_some, slice_set, slice_index_or, count_by, unwrap_or}
use Rattle.std.specs.Ordering.{nat_cmp}
use Rattle.std.specs.Option.{option_and_then}
use Rattle.std.specs.List.{slice_get}
use Rattle.std.specs.FinMap.{is_sorted}
use Rattle.std.proofs.lemmas.Bool.{cases_eq, false≢true}
use Rattle.std.proofs.lemmas.Option.{slice_get_within, get_or_from_slice_get}
use Rattle.std.proofs.lemmas.List.Sums.{sum_by-set}
use Rattle.kernel_meaning.specs.Leaves.{CellLeaves}
use Rattle.kernel_meaning.specs.FrameLaw.{Leaves, with_cell, is_used}
use Rattle.kernel_meaning.specs.CellAccount.{CellState, empty_state}
use Rattle.leaf_cell.specs.CellView.{CellView}
use Rattle.leaf_cell.specs.Standing.{StandsFor}
use Rattle.page_tables.specs.declared.slot.Slot.{Slot}
use Rattle.page_tables.specs.Standing.{owner_at, state_in, AreSlotsOf}
use Rattle.page_tables.proofs.GoneCell.{find-gone, find-stays, length-gone}
use Rattle.page_tables.proofs.SlotLemmas.{slice_get-set-here, slice_get-set-apart, cells_with, cells_with-apart}

module _ (slots : List Slot) (s : ℕ) (slot : Slot) (here : slice_get slots s ≡ Some slot) (view : CellView) where
  within : s < length slots
  within = slice_get_within slots s slot here

  abbrev pub freed_slot : Slot
  freed_slot = record { owner = None; cell = view }

  abbrev pub freed_slots : List Slot
  freed_slots = slice_set slots s (record { owner = None; cell = view })

  owner-gone : owner_at freed_slots s ≡ None
  owner-gone = ap (option_and_then (λ it. it.owner)) (slice_get-set-here slots s (record { owner = None; cell = view }) within)

  owner-stays : (t : ℕ) → t ≢ s → owner_at freed_slots t ≡ owner_at slots t
  owner-stays t apart = ap (option_and_then (λ it. it.owner)) (slice_get-set-apart slots s t (record { owner = None; cell = view }) apart)

  -- an owner that is left was there, in another slot
  owner-left : (t q : ℕ) → owner_at freed_slots t ≡ Some q → (t ≢ s) × (owner_at slots t ≡ Some q)
  owner-left t q e =
      let away : t ≢ s = λ same. false≢true (ap is_some (sym owner-gone ∙ ap (owner_at freed_slots) (sym same) ∙ e)) in
      (away, sym (owner-stays t away) ∙ e)

  module _ (c : ℕ) (mine : slot.owner ≡ Some c) where
    owned-here : owner_at slots s ≡ Some c
    owned-here = ap (option_and_then (λ it. it.owner)) here ∙ mine

    -- another cell keeps its slot
    pub owner-of-other : (t q : ℕ) → q ≢ c → owner_at slots t ≡ Some q → owner_at freed_slots t ≡ Some q
    owner-of-other t q apart e =
        owner-stays t (λ same. apart (ap (λ o. unwrap_or o q) (sym e ∙ ap (owner_at slots) same ∙ owned-here))) ∙ e

    module _ (leaves : Leaves) (cells : ℕ → CellState) (made : ℕ) (of : AreSlotsOf leaves cells made slots) (new : CellLeaves) (unused : is_used new ≡ false)
        (stands : StandsFor view (record { state = empty_state; made = made })) where
      -- a cell that is left is another one
      other-left : (t q : ℕ) → owner_at freed_slots t ≡ Some q → q ≢ c
      other-left t q e same = (owner-left t q e).0 (of.once t s c ((owner-left t q e).1 ∙ ap Some same) owned-here)

      stands-left : (t : ℕ) (it : Slot) → slice_get freed_slots t ≡ Some it → StandsFor it.cell (record { state = state_in (cells_with cells c empty_state) it.owner; made = made })
      stands-left t it there = elim (cases_eq t s) [
        | inl same ↦
            let is : freed_slot ≡ it = ap (λ o. unwrap_or o it) (sym (slice_get-set-here slots s freed_slot within) ∙ ap (slice_get freed_slots) (sym same) ∙ there) in
            subst (λ it. StandsFor it.cell (record { state = state_in (cells_with cells c empty_state) it.owner; made = made })) is stands
        | inr apart ↦
            by_owner it.owner it.cell (ap (option_and_then (λ it. it.owner)) there) (of.stands t it (sym (slice_get-set-apart slots s t freed_slot apart) ∙ there))
      ]
        where
          by_owner : (owner : Option ℕ) (cell : CellView) → owner_at freed_slots t ≡ owner → StandsFor cell (record { state = state_in cells owner; made = made })
              → StandsFor cell (record { state = state_in (cells_with cells c empty_state) owner; made = made })
          by_owner None cell e h = h
          by_owner (Some q) cell e h = subst (λ st. StandsFor cell (record { state = st; made = made })) (sym (cells_with-apart cells c empty_state q (other-left t q e))) h

      pub slots-freed : T (is_sorted nat_cmp leaves) → AreSlotsOf (with_cell leaves c new) (cells_with cells c empty_state) made freed_slots
      slots-freed sorted = record {
        stands = stands-left;
        once = λ t u q e f. of.once t u q (owner-left t q e).1 (owner-left u q f).1;
        used = λ t q e. ap is_some (find-stays leaves c new unused q (other-left t q e)) ∙ of.used t q (owner-left t q e).1;
        owned = λ q there. elim (cases_eq q c) [
          | inl same ↦ absurd (false≢true (sym (ap is_some (find-gone leaves c new unused q same)) ∙ there))
          | inr apart ↦
              let old : (t : ℕ) × (owner_at slots t ≡ Some q) = of.owned q (ap is_some (sym (find-stays leaves c new unused q apart)) ∙ there) in
              (old.0, owner-of-other old.0 q apart old.1)
        ];
        counted =
            let one : Slot → ℕ = λ it. cond (is_some it.owner) 1 0 in
            let sums : count_by (λ it. is_some it.owner) freed_slots + one (slice_index_or slots s slot) ≡ count_by (λ it. is_some it.owner) slots + 0 =
            sum_by-set one slots s freed_slot slot within in
            let was : one (slice_index_or slots s slot) ≡ 1 = ap one (get_or_from_slice_get slots s slot slot here) ∙ ap (λ o. cond (is_some o) 1 0) mine in
            let fewer : length (with_cell leaves c new) + 1 ≡ length leaves = length-gone leaves c new unused sorted (of.used s c owned-here) in
            omega (arith, sums, was, fewer, of.counted);
      }
