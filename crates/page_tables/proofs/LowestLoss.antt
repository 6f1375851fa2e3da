-- The lowest cell that a snapshot has lost.
use Rattle.std.proofs.Common.{◌≡◌, ℕ, ◌+◌, ◌<◌, ◌≤◌, List, length, Option, Some, None, refl, sym, ◌∙◌, ap, subst, arith, inl, inr}
use Rattle.std.specs.Prelude.{true, false, is_some, nat_lt, if◌then◌else◌}
use Rattle.std.specs.Ordering.{nat_cmp}
use Rattle.std.specs.Option.{option_map, option_and_then}
use Rattle.std.specs.List.{slice_get}
use Rattle.std.specs.FinMap.{find}
use Rattle.std.proofs.lemmas.Bool.{cases_Bool, false≢true}
use Rattle.std.proofs.lemmas.Bool.Decides.{nat_tests}
use Rattle.std.proofs.lemmas.Option.{same_Some, slice_get_within}
use Rattle.leaf_cell.specs.Standing.{StandsFor}
use Rattle.page_tables.specs.declared.loss.LostCell.{LostCell}
use Rattle.page_tables.specs.declared.slot.Slot.{Slot}
use Rattle.page_tables.specs.declared.tables.PageTables.{PageTables}
use Rattle.page_tables.specs.Sides.{Sides}
use Rattle.page_tables.specs.Standing.{owner_at, TablesStandFor}
use Rattle.page_tables.specs.Accesses.{loss_of, IsLowestLoss}
use Rattle.page_tables.specs.Losses.{lost_here, lower_of, IsLowestLost}
use Rattle.page_tables.proofs.LossAt.{loss_in}
use Rattle.page_tables.proofs.OwnedSlots.{owned-slot}
use Rattle.page_tables.proofs.ParentPages.{account_at, slot-stands}
use Rattle.page_tables.proofs.SnapshotPages.{loss-alike}

-- a cell that was lost, with its count
abbrev lost_cell : ℕ → ℕ → LostCell
lost_cell cell at = record { cell = cell; at = at }

-- some cell was found that is no higher than another
abbrev IsFoundBelow : Option LostCell → LostCell → Type 0
IsFoundBelow lowest other = (lost : LostCell) × ((lowest ≡ Some lost) × (lost.cell ≤ other.cell))

lower-below-first : (one other : Option LostCell) (found : LostCell) → one ≡ Some found → IsFoundBelow (lower_of one other) found
lower-below-first None other found e = absurd (false≢true (ap is_some e))
lower-below-first (Some lost) None found e = (lost, (refl, (let same : lost.cell ≡ found.cell = ap (λ it. it.cell) (same_Some lost found e) in omega arith)))
lower-below-first (Some lost) (Some low) found e =
    let same : lost.cell ≡ found.cell = ap (λ it. it.cell) (same_Some lost found e) in
    elim (cases_Bool (nat_lt low.cell lost.cell)) [
      | inl below ↦ (low, (ap (λ b. Some (if b then low else lost)) below, (let less : low.cell < lost.cell = grind (arith, nat_tests) in omega arith)))
      | inr above ↦ (lost, (ap (λ b. Some (if b then low else lost)) above, omega arith))
    ]

lower-below-second : (one other : Option LostCell) (found : LostCell) → other ≡ Some found → IsFoundBelow (lower_of one other) found
lower-below-second None other found e = (found, (e, omega arith))
lower-below-second (Some lost) None found e = absurd (false≢true (ap is_some e))
lower-below-second (Some lost) (Some low) found e =
    let same : low.cell ≡ found.cell = ap (λ it. it.cell) (same_Some low found e) in
    elim (cases_Bool (nat_lt low.cell lost.cell)) [
      | inl below ↦ (low, (ap (λ b. Some (if b then low else lost)) below, omega arith))
      | inr above ↦ (lost, (ap (λ b. Some (if b then low else lost)) above, (let most : lost.cell ≤ low.cell = grind (arith, nat_tests) in omega arith)))
    ]

-- the lower of two is one of them
lower-either : (P : LostCell → Type 0) (one other : Option LostCell) (lost : LostCell) → (one ≡ Some lost → P lost) → (other ≡ Some lost → P lost)
    → lower_of one other ≡ Some lost → P lost
lower-either P None other lost first second e = second e
lower-either P (Some it) None lost first second e = first e
lower-either P (Some it) (Some low) lost first second e =
    elim (nat_lt low.cell it.cell) as (λ b. Some (if b then low else it) ≡ Some lost → P lost) [ true ↦ second | false ↦ first ] e

-- one slot more was looked at
pub lowest-next : (slots : List Slot) (n k : ℕ) (slot : Slot) (lowest : Option LostCell) → slice_get slots k ≡ Some slot → IsLowestLost slots n k lowest
    → IsLowestLost slots n (k + 1) (lower_of lowest (lost_here slot n))
lowest-next slots n k slot lowest here before = record {
  lost = λ lost e.
      lower-either (λ lost. (s : ℕ) × ((slot : Slot) × ((slice_get slots s ≡ Some slot) × (lost_here slot n ≡ Some lost))))
      lowest (lost_here slot n) lost (before.lost lost) (λ mine. (k, (slot, (here, mine)))) e;
  least = λ s other found small there mine. elim (cases_Bool (nat_lt s k)) [
    | inl below ↦
        let less : s < k = grind (arith, nat_tests) in
        let low : IsFoundBelow lowest found = before.least s other found less there mine in
        let lower : IsFoundBelow (lower_of lowest (lost_here slot n)) low.0 = lower-below-first lowest (lost_here slot n) low.0 low.1.0 in
        (lower.0, (lower.1.0, (let one : lower.0.cell ≤ low.0.cell = lower.1.1 in let two : low.0.cell ≤ found.cell = low.1.1 in omega arith)))
    | inr above ↦
        let last : s ≡ k = (let most : k ≤ s = grind (arith, nat_tests) in omega (arith, small)) in
        let same : other ≡ slot = same_Some other slot (sym there ∙ ap (slice_get slots) last ∙ here) in
        lower-below-second lowest (lost_here slot n) found (ap (λ it. lost_here it n) (sym same) ∙ mine)
  ];
}

-- a slot in which a cell is lost is that cell's
lost-owner : (slot : Slot) (n : ℕ) (lost : LostCell) → lost_here slot n ≡ Some lost → (slot.owner ≡ Some lost.cell) × (loss_in slot.cell.leaves.kept n ≡ Some lost.at)
lost-owner slot n lost e = by slot.owner (loss_in slot.cell.leaves.kept n) e
  where
    by : (owner count : Option ℕ) → option_and_then (λ cell. option_map (λ at. lost_cell cell at) count) owner ≡ Some lost → (owner ≡ Some lost.cell) × (count ≡ Some lost.at)
    by None count e = absurd (false≢true (ap is_some e))
    by (Some cell) None e = absurd (false≢true (ap is_some e))
    by (Some cell) (Some at) e = let same : lost_cell cell at ≡ lost = same_Some (lost_cell cell at) lost e in (ap (λ it. Some it.cell) same, ap (λ it. Some it.at) same)

module _ (tables : PageTables) (sides : Sides) (st : TablesStandFor tables sides) where
  abbrev slots : List Slot
  slots = tables.slots.items

  -- what was lost of a cell in its slot was lost of it on the sides
  cell-loss : (n c s : ℕ) (slot : Slot) → slice_get slots s ≡ Some slot → slot.owner ≡ Some c → loss_in slot.cell.leaves.kept n ≡ loss_of sides.leaves n c
  cell-loss n c s slot here mine =
      let stands : StandsFor slot.cell (account_at tables.directory tables.snapshot slots sides st c) =
      slot-stands tables.directory tables.snapshot slots sides st c s slot here (ap (option_and_then (λ it. it.owner)) here ∙ mine) in
      loss-alike stands.name n slot.cell.leaves.kept (st.cells c).leaves.kept stands.leaves.kept ∙ ap (λ cell. loss_in cell.kept n) (st.each.leaves c)

  -- a cell that was lost on the sides is told by a slot
  lost-slot : (n c at : ℕ) → loss_of sides.leaves n c ≡ Some at → (s : ℕ) × ((slot : Slot) × ((slice_get slots s ≡ Some slot) × (lost_here slot n ≡ Some (lost_cell c at))))
  lost-slot n c at lost = elim (cases_Bool (is_some (find nat_cmp c sides.leaves))) [
    | inl used ↦
        let owned : (s : ℕ) × (owner_at slots s ≡ Some c) = st.slots_of.owned c used in
        let there : (slot : Slot) × ((slice_get slots owned.0 ≡ Some slot) × (slot.owner ≡ Some c)) = owned-slot slots owned.0 c owned.1 in (
          owned.0,
          (
            there.0,
            (
              there.1.0,
              ap (option_and_then (λ cell. option_map (λ at. lost_cell cell at) (loss_in there.0.cell.leaves.kept n))) there.1.1
                  ∙ ap (option_map (λ at. lost_cell c at)) (cell-loss n c owned.0 there.0 there.1.0 there.1.1 ∙ lost),
            ),
          ),
        )
    | inr unused ↦
        let none : None ≡ loss_of sides.leaves n c = sym (ap (λ state. loss_in state.leaves.kept n) (st.blank c unused)) ∙ ap (λ cell. loss_in cell.kept n) (st.each.leaves c) in
        absurd (false≢true (ap is_some (none ∙ lost)))
  ]

  -- the lowest cell that the slots tell lost
  module _ (n : ℕ) (lowest : Option LostCell) (low : IsLowestLost slots n (length slots) lowest) where
    found-below : (c at : ℕ) → loss_of sides.leaves n c ≡ Some at → IsFoundBelow lowest (lost_cell c at)
    found-below c at lost =
        let there : (s : ℕ) × ((slot : Slot) × ((slice_get slots s ≡ Some slot) × (lost_here slot n ≡ Some (lost_cell c at)))) = lost-slot n c at lost in
        low.least there.0 there.1.0 (lost_cell c at) (slice_get_within slots there.0 there.1.0 there.1.1.0) there.1.1.0 there.1.1.1

    -- no cell is lost where the slots tell none
    lowest-none : lowest ≡ None → IsLowestLoss sides.leaves n None
    lowest-none none c = by (loss_of sides.leaves n c) refl
      where
        by : (o : Option ℕ) → loss_of sides.leaves n c ≡ o → o ≡ None
        by None e = refl
        by (Some at) e = let below : IsFoundBelow lowest (lost_cell c at) = found-below c at e in absurd (false≢true (ap is_some (sym none ∙ below.1.0)))

    -- the lowest cell that the slots tell lost is the lowest that is
    lowest-some : (lost : LostCell) → lowest ≡ Some lost → IsLowestLoss sides.leaves n (Some lost)
    lowest-some lost some =
        let there : (s : ℕ) × ((slot : Slot) × ((slice_get slots s ≡ Some slot) × (lost_here slot n ≡ Some lost))) = low.lost lost some in
        let owner : (there.1.0.owner ≡ Some lost.cell) × (loss_in there.1.0.cell.leaves.kept n ≡ Some lost.at) = lost-owner there.1.0 n lost there.1.1.1 in
        (sym (cell-loss n lost.cell there.0 there.1.0 there.1.1.0 owner.0) ∙ owner.1, λ d less. by d less (loss_of sides.leaves n d) refl)
      where
        by : (d : ℕ) → d < lost.cell → (o : Option ℕ) → loss_of sides.leaves n d ≡ o → o ≡ None
        by d less None e = refl
        by d less (Some at) e =
            let below : IsFoundBelow lowest (lost_cell d at) = found-below d at e in
            let same : lost ≡ below.0 = same_Some lost below.0 (sym some ∙ below.1.0) in
            let order : lost.cell ≤ d = subst (λ it. it.cell ≤ d) (sym same) below.1.1 in
            absurd (omega (arith, less, order))

    -- so it is
    pub lowest-is : IsLowestLoss sides.leaves n lowest
    lowest-is = is lowest refl
      where
        is : (o : Option LostCell) → lowest ≡ o → IsLowestLoss sides.leaves n o
        is None none = lowest-none none
        is (Some lost) some = lowest-some lost some
