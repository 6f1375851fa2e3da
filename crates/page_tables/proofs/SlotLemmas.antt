-- Slots of which one gets another cell.
use Rattle.std.proofs.Common.{◌≡◌, ◌≢◌, ℕ, ◌+◌, ◌<◌, ◌≤◌, List, [], ◌∷◌, length, Option, Some, None, cond, eqb, refl, sym, ◌∙◌, ap, subst, arith, inl, inr}
use Rattle.std.specs.Prelude.{true, T, is_some, slice_set, slice_index_or, IsSome, count_by, zero, suc, unwrap_or}
use Rattle.std.specs.Ordering.{nat_cmp}
use Rattle.std.specs.Option.{option_and_then}
use Rattle.std.specs.List.{slice_get}
use Rattle.std.specs.FinMap.{find, is_sorted}
use Rattle.std.proofs.lemmas.Bool.{cases_eq, cond-true, cond-false, eq-eqb, ne_eqb, false≢true}
use Rattle.std.proofs.lemmas.Option.{slice_get_within, get_or_from_slice_get}
use Rattle.std.proofs.lemmas.List.Sums.{sum_by-set}
use Rattle.kernel_meaning.specs.FrameLaw.{Leaves, with_cell, is_used}
use Rattle.kernel_meaning.specs.CellAccount.{CellState}
use Rattle.leaf_cell.specs.CellView.{CellView}
use Rattle.leaf_cell.specs.Standing.{StandsFor}
use Rattle.page_tables.specs.declared.slot.Slot.{Slot}
use Rattle.page_tables.specs.Standing.{owner_at, state_in, AreSlotsOf, IsSlotFor}
use Rattle.page_tables.proofs.LeafMap.{find-here, find-apart, length-with_cell}

-- a cell stands for the same account behind more requests
pub stands-later : (view : CellView) (state : CellState) (made later : ℕ) → made ≤ later → StandsFor view (record { state = state; made = made })
    → StandsFor view (record { state = state; made = later })
stands-later view state made later more stands = record {
  name = stands.name;
  leaves = stands.leaves;
  made = λ page version live. let l : version ≤ made = stands.made page version live in omega arith;
  pages = stands.pages;
  snapshots = stands.snapshots;
  whole = stands.whole;
}

pub slice_get-set-here : {X : Type 0} (xs : List X) (i : ℕ) (x : X) → i < length xs → slice_get (slice_set xs i x) i ≡ Some x
slice_get-set-here [] i x l = absurd (omega arith)
slice_get-set-here (y ∷ ys) zero x l = refl
slice_get-set-here (y ∷ ys) (suc i) x l = slice_get-set-here ys i x (omega arith)

pub slice_get-set-apart : {X : Type 0} (xs : List X) (i k : ℕ) (x : X) → k ≢ i → slice_get (slice_set xs i x) k ≡ slice_get xs k
slice_get-set-apart [] i k x apart = refl
slice_get-set-apart (y ∷ ys) zero zero x apart = absurd (apart refl)
slice_get-set-apart (y ∷ ys) zero (suc k) x apart = refl
slice_get-set-apart (y ∷ ys) (suc i) zero x apart = refl
slice_get-set-apart (y ∷ ys) (suc i) (suc k) x apart = slice_get-set-apart ys i k x (λ e. apart (ap suc e))

pub length-set : {X : Type 0} (xs : List X) (i : ℕ) (x : X) → length (slice_set xs i x) ≡ length xs
length-set [] i x = refl
length-set (y ∷ ys) zero x = refl
length-set (y ∷ ys) (suc i) x = ap suc (length-set ys i x)

-- each cell as it was, but for one
abbrev pub cells_with : (ℕ → CellState) → ℕ → CellState → ℕ → CellState
cells_with cells c state q = cond (eqb q c) state (cells q)

pub cells_with-here : (cells : ℕ → CellState) (c : ℕ) (state : CellState) (q : ℕ) → q ≡ c → cells_with cells c state q ≡ state
cells_with-here cells c state q here = cond-true (eqb q c) _ _ (eq-eqb q c here)

pub cells_with-apart : (cells : ℕ → CellState) (c : ℕ) (state : CellState) (q : ℕ) → q ≢ c → cells_with cells c state q ≡ cells q
cells_with-apart cells c state q apart = cond-false (eqb q c) _ _ (ne_eqb q c apart)

module _ (leaves : Leaves) (cells : ℕ → CellState) (made : ℕ) (slots : List Slot) (of : AreSlotsOf leaves cells made slots)
    (c s : ℕ) (slot : Slot) (here : slice_get slots s ≡ Some slot) (fits : IsSlotFor leaves c slot.owner)
    (view : CellView) (state : CellState) (later : ℕ) (more : made ≤ later) (used : is_used state.leaves ≡ true)
    (stands : StandsFor view (record { state = state; made = later })) where
  within : s < length slots
  within = slice_get_within slots s slot here

  abbrev new_slot : Slot
  new_slot = record { owner = Some c; cell = view }

  abbrev new_slots : List Slot
  new_slots = slice_set slots s new_slot

  abbrev new_leaves : Leaves
  new_leaves = with_cell leaves c state.leaves

  owner-here : owner_at new_slots s ≡ Some c
  owner-here = ap (option_and_then (λ slot. slot.owner)) (slice_get-set-here slots s new_slot within)

  owner-apart : (t : ℕ) → t ≢ s → owner_at new_slots t ≡ owner_at slots t
  owner-apart t apart = ap (option_and_then (λ slot. slot.owner)) (slice_get-set-apart slots s t new_slot apart)

  old_owner : owner_at slots s ≡ slot.owner
  old_owner = ap (option_and_then (λ slot. slot.owner)) here

  -- no other slot has the cell
  alone : (t : ℕ) → t ≢ s → owner_at slots t ≢ Some c
  alone t apart e = elim fits [
    | inl mine ↦ apart (of.once t s c e (old_owner ∙ mine))
    | inr free ↦ false≢true (sym free.1 ∙ of.used t c e)
  ]

  same_owner : (a b : ℕ) → Some a ≡ Some b → a ≡ b
  same_owner a b e = ap (λ o. unwrap_or o a) e

  -- a cell that another slot has is another one
  other_cell : (t q : ℕ) → t ≢ s → owner_at slots t ≡ Some q → q ≢ c
  other_cell t q apart e is = alone t apart (e ∙ ap Some is)

  -- the slot of another cell is another one
  other_slot : (t q : ℕ) → q ≢ c → owner_at slots t ≡ Some q → t ≢ s
  other_slot t q apart e is =
      let owned : slot.owner ≡ Some q = sym old_owner ∙ ap (owner_at slots) (sym is) ∙ e in
      elim fits [
        | inl mine ↦ apart (same_owner q c (sym owned ∙ mine))
        | inr free ↦ false≢true (ap is_some (sym free.0 ∙ owned))
      ]

  stands-there : (t : ℕ) (it : Slot) → slice_get new_slots t ≡ Some it → StandsFor it.cell (record { state = state_in (cells_with cells c state) it.owner; made = later })
  stands-there t it there = elim (cases_eq t s) [
    | inl same ↦
        let is : new_slot ≡ it = ap (λ o. unwrap_or o it) (sym (slice_get-set-here slots s new_slot within) ∙ ap (slice_get new_slots) (sym same) ∙ there) in
        subst (λ it. StandsFor it.cell (record { state = state_in (cells_with cells c state) it.owner; made = later })) is
        (subst (λ st. StandsFor view (record { state = st; made = later })) (sym (cells_with-here cells c state c refl)) stands)
    | inr apart ↦
        let old : slice_get slots t ≡ Some it = sym (slice_get-set-apart slots s t new_slot apart) ∙ there in
        stands-owner t it.owner it.cell apart (ap (option_and_then (λ slot. slot.owner)) old) (stands-later it.cell (state_in cells it.owner) made later more (of.stands t it old))
  ]
    where
      stands-owner : (t : ℕ) (owner : Option ℕ) (cell : CellView) → t ≢ s → owner_at slots t ≡ owner → StandsFor cell (record { state = state_in cells owner; made = later })
          → StandsFor cell (record { state = state_in (cells_with cells c state) owner; made = later })
      stands-owner t None cell apart e h = h
      stands-owner t (Some q) cell apart e h = subst (λ st. StandsFor cell (record { state = st; made = later })) (sym (cells_with-apart cells c state q (other_cell t q apart e))) h

  once-there : (t u q : ℕ) → owner_at new_slots t ≡ Some q → owner_at new_slots u ≡ Some q → t ≡ u
  once-there t u q e f = elim (cases_eq t s) [
    | inl t_here ↦ elim (cases_eq u s) [
      | inl u_here ↦ t_here ∙ sym u_here
      | inr u_apart ↦ absurd (alone u u_apart (sym (owner-apart u u_apart) ∙ f ∙ sym (sym owner-here ∙ ap (owner_at new_slots) (sym t_here) ∙ e)))
    ]
    | inr t_apart ↦ elim (cases_eq u s) [
      | inl u_here ↦ absurd (alone t t_apart (sym (owner-apart t t_apart) ∙ e ∙ sym (sym owner-here ∙ ap (owner_at new_slots) (sym u_here) ∙ f)))
      | inr u_apart ↦ of.once t u q (sym (owner-apart t t_apart) ∙ e) (sym (owner-apart u u_apart) ∙ f)
    ]
  ]

  used-there : (t q : ℕ) → owner_at new_slots t ≡ Some q → IsSome (find nat_cmp q new_leaves)
  used-there t q e = elim (cases_eq q c) [
    | inl here ↦ ap is_some (find-here leaves c state.leaves used q here)
    | inr apart ↦
        let away : t ≢ s = λ same. apart (same_owner q c (sym e ∙ ap (owner_at new_slots) same ∙ owner-here)) in
        ap is_some (find-apart leaves c state.leaves used q apart) ∙ of.used t q (sym (owner-apart t away) ∙ e)
  ]

  owned-there : (q : ℕ) → IsSome (find nat_cmp q new_leaves) → (t : ℕ) × (owner_at new_slots t ≡ Some q)
  owned-there q there = elim (cases_eq q c) [
    | inl here ↦ (s, owner-here ∙ ap Some (sym here))
    | inr apart ↦
        let old : (t : ℕ) × (owner_at slots t ≡ Some q) = of.owned q (ap is_some (sym (find-apart leaves c state.leaves used q apart)) ∙ there) in
        (old.0, owner-apart old.0 (other_slot old.0 q apart old.1) ∙ old.1)
  ]

  counted-there : T (is_sorted nat_cmp leaves) → count_by (λ it. is_some it.owner) new_slots ≡ length new_leaves
  counted-there sorted =
      let one : Slot → ℕ = λ it. cond (is_some it.owner) 1 0 in
      let sums : count_by (λ it. is_some it.owner) new_slots + one (slice_index_or slots s slot) ≡ count_by (λ it. is_some it.owner) slots + 1 = sum_by-set one slots s new_slot slot within in
      let was : one (slice_index_or slots s slot) ≡ one slot = ap one (get_or_from_slice_get slots s slot slot here) in
      let old : count_by (λ it. is_some it.owner) slots ≡ length leaves = of.counted in
      let size : length new_leaves ≡ cond (is_some (find nat_cmp c leaves)) (length leaves) (length leaves + 1) = length-with_cell leaves c state.leaves used sorted in
      elim fits [
        | inl mine ↦
            let full : one slot ≡ 1 = ap (λ o. cond (is_some o) 1 0) mine in
            let same : length new_leaves ≡ length leaves = size ∙ ap (λ b. cond b (length leaves) (length leaves + 1)) (of.used s c (old_owner ∙ mine)) in
            omega arith
        | inr free ↦
            let none : one slot ≡ 0 = ap (λ o. cond (is_some o) 1 0) free.0 in
            let more : length new_leaves ≡ length leaves + 1 = size ∙ ap (λ b. cond b (length leaves) (length leaves + 1)) free.1 in
            omega arith
      ]

  pub slots-acted : T (is_sorted nat_cmp leaves) → AreSlotsOf new_leaves (cells_with cells c state) later new_slots
  slots-acted sorted = record {
    stands = stands-there;
    once = once-there;
    used = used-there;
    owned = owned-there;
    counted = counted-there sorted;
  }

-- an owner stays where a slot gets another cell of the same
pub owner-same : (slots : List Slot) (s c : ℕ) (slot : Slot) (view : CellView) → slice_get slots s ≡ Some slot → slot.owner ≡ Some c
    → (t : ℕ) → owner_at (slice_set slots s (record { owner = Some c; cell = view })) t ≡ owner_at slots t
owner-same slots s c slot view here mine t = elim (cases_eq t s) [
  | inl same ↦
      ap (owner_at (slice_set slots s new)) same ∙ ap (option_and_then (λ it. it.owner)) (slice_get-set-here slots s new (slice_get_within slots s slot here))
      ∙ sym (ap (owner_at slots) same ∙ ap (option_and_then (λ it. it.owner)) here ∙ mine)
  | inr apart ↦ ap (option_and_then (λ it. it.owner)) (slice_get-set-apart slots s t new apart)
]
  where
    new : Slot
    new = record { owner = Some c; cell = view }
