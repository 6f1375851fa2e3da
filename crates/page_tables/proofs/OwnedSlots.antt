-- Slots that cells have, and the frames in them.
use Rattle.std.proofs.Common.{◌≡◌, ℕ, ◌+◌, ◌<◌, ◌≤◌, List, [], ◌∷◌, length, Option, Some, None, refl, sym, ◌∙◌, ap, subst, arith}
use Rattle.std.specs.Prelude.{is_some, slice_set, slice_index_or, zero, suc, unwrap_or}
use Rattle.std.specs.Option.{option_and_then}
use Rattle.std.specs.List.{slice_get}
use Rattle.std.proofs.lemmas.Bool.{false≢true}
use Rattle.std.proofs.lemmas.List.Sums.{sum_by-set, sum_by-cons}
use Rattle.std.proofs.lemmas.Option.{slice_get_within, get_or_from_slice_get, slice_get_read}
use Rattle.kernel_meaning.specs.Leaves.{Kept, is_joined}
use Rattle.kernel_meaning.specs.CellAccount.{CellAccount}
use Rattle.leaf_cell.specs.CellView.{CellView, AreUnjoined, held_of}
use Rattle.leaf_cell.specs.Renaming.{AreKeptAlike}
use Rattle.leaf_cell.specs.Standing.{StandsFor}
use Rattle.page_tables.specs.declared.slot.Slot.{Slot}
use Rattle.table_levels.specs.Cells.{CellMap}
use Rattle.page_tables.specs.declared.tables.SnapshotTables.{SnapshotTables}
use Rattle.page_tables.specs.Sides.{Sides}
use Rattle.page_tables.specs.Standing.{owner_at, state_in, StandFor}
use Rattle.page_tables.specs.Held.{frames_in}

-- a slot that some cell has is one of the slots
pub owned-slot : (slots : List Slot) (s c : ℕ) → owner_at slots s ≡ Some c → (slot : Slot) × ((slice_get slots s ≡ Some slot) × (slot.owner ≡ Some c))
owned-slot slots s c owned = elim (slice_get slots s) as (λ o. option_and_then (λ it. it.owner) o ≡ Some c → (slot : Slot) × ((o ≡ Some slot) × (slot.owner ≡ Some c))) [
  | None ↦ λ e. absurd (false≢true (ap is_some e))
  | Some slot ↦ λ e. (slot, (refl, e))
] owned

pub owned-within : (slots : List Slot) (s c : ℕ) → owner_at slots s ≡ Some c → s < length slots
owned-within slots s c owned = let there : (slot : Slot) × ((slice_get slots s ≡ Some slot) × (slot.owner ≡ Some c)) = owned-slot slots s c owned in slice_get_within slots s there.0 there.1.0

-- what lies in one slot lies in all
pub held-within : (slots : List Slot) (s : ℕ) (slot : Slot) → slice_get slots s ≡ Some slot → held_of slot.cell ≤ frames_in slots
held-within [] s slot e = absurd (false≢true (ap is_some e))
held-within (it ∷ slots) zero slot e =
    let same : it ≡ slot = ap (λ o. unwrap_or o slot) e in
    let held : held_of it.cell ≡ held_of slot.cell = ap (λ it. held_of it.cell) same in
    let whole : frames_in (it ∷ slots) ≡ held_of it.cell + frames_in slots = sum_by-cons (λ slot. held_of slot.cell) it slots in
    omega arith
held-within (it ∷ slots) (suc s) slot e =
    let rest : held_of slot.cell ≤ frames_in slots = held-within slots s slot e in
    let whole : frames_in (it ∷ slots) ≡ held_of it.cell + frames_in slots = sum_by-cons (λ slot. held_of slot.cell) it slots in
    omega arith

-- one slot gets another cell
pub frames-set : (slots : List Slot) (s : ℕ) (slot new : Slot) → slice_get slots s ≡ Some slot → frames_in (slice_set slots s new) + held_of slot.cell ≡ frames_in slots + held_of new.cell
frames-set slots s slot new here =
    let sums : frames_in (slice_set slots s new) + held_of (slice_index_or slots s slot).cell ≡ frames_in slots + held_of new.cell =
    sum_by-set (λ it. held_of it.cell) slots s new slot (slice_get_within slots s slot here) in
    let was : held_of (slice_index_or slots s slot).cell ≡ held_of slot.cell = ap (λ it. held_of it.cell) (get_or_from_slice_get slots s slot slot here) in
    omega arith

unjoined-back : (name : ℕ → ℕ → ℕ) (view meant : List Kept) → AreKeptAlike name view meant → AreUnjoined meant → AreUnjoined view
unjoined-back name [] [] alike h = tt
unjoined-back name [] (it ∷ others) alike h = absurd alike
unjoined-back name (it ∷ others) [] alike h = absurd alike
unjoined-back name (it ∷ others) (meant ∷ rest) alike h = (ap is_joined alike.0.leaf ∙ h.0, unjoined-back name others rest alike.1 h.1)

-- a cell that stands for one without joined leaves has none
pub view-unjoined : (view : CellView) (account : CellAccount) → StandsFor view account → AreUnjoined account.state.leaves.kept → AreUnjoined view.leaves.kept
view-unjoined view account stands h = unjoined-back stands.name view.leaves.kept account.state.leaves.kept stands.leaves.kept h

-- a slot that was read from the list
pub read-slot : (slots : List Slot) (s : ℕ) (slot : Slot) → s < length slots → slot ≡ slice_index_or slots s slot → slice_get slots s ≡ Some slot
read-slot slots s slot within read = slice_get_read slots (length slots) s slot refl within read

module _ (directory : CellMap) (snapshot : Option SnapshotTables) (slots : List Slot) (sides : Sides) (st : StandFor directory snapshot slots sides)
    (s : ℕ) (slot : Slot) (here : slice_get slots s ≡ Some slot) where
  -- no leaf is joined in any slot
  pub slot-unjoined : AreUnjoined slot.cell.leaves.kept
  slot-unjoined = view-unjoined slot.cell (record { state = state_in st.cells slot.owner; made = sides.made }) (st.slots_of.stands s slot here) (meant slot.owner)
    where
      meant : (owner : Option ℕ) → AreUnjoined (state_in st.cells owner).leaves.kept
      meant None = tt
      meant (Some c) = subst (λ cell. AreUnjoined cell.kept) (sym (st.each.leaves c)) (st.kept.unjoined c)

-- one slot keeps its cell
pub set-same : (slots : List Slot) (s : ℕ) (slot : Slot) → slice_get slots s ≡ Some slot → slice_set slots s slot ≡ slots
set-same [] s slot e = refl
set-same (it ∷ slots) zero slot e = ap (λ o. unwrap_or o it ∷ slots) (sym e)
set-same (it ∷ slots) (suc s) slot e = ap (λ rest. it ∷ rest) (set-same slots s slot e)

pub same_slot : (a b : Slot) → Some a ≡ Some b → a ≡ b
same_slot a b e = ap (λ o. unwrap_or o a) e
