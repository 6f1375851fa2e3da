-- A cell that the directory lacks has a slot, or a free one is there for it.
use Rattle.std.proofs.Common.{◌≡◌, ◌≢◌, ℕ, ◌+◌, ◌-◌, ◌<◌, List, [], ◌∷◌, length, Option, Some, None, cond, refl, sym, ◌∙◌, ap, arith, inl, inr, nat_lt}
use Rattle.std.specs.Prelude.{true, false, not, is_some, count_by, zero, suc}
use Rattle.std.specs.Ordering.{nat_cmp}
use Rattle.std.specs.List.{slice_get}
use Rattle.std.specs.Option.{option_and_then}
use Rattle.std.specs.FinMap.{get, find}
use Rattle.std.proofs.lemmas.Bool.{false≢true}
use Rattle.std.proofs.lemmas.Bool.Decides.{nat_tests}
use Rattle.std.proofs.lemmas.List.{length-map}
use Rattle.std.proofs.lemmas.List.Sums.{sum_by-cons}
use Rattle.kernel_meaning.specs.FrameLaw.{lacks_slots, used_cells, cells_without_slot}
use Rattle.page_tables.specs.declared.slot.Slot.{Slot}
use Rattle.page_tables.specs.declared.tables.PageTables.{PageTables}
use Rattle.page_tables.specs.Sides.{Sides}
use Rattle.page_tables.specs.Standing.{owner_at, slot_in, TablesStandFor, IsSlotOf, IsSlotChosen, HasSlotFor, slot_count}
use Rattle.page_tables.proofs.Vacancies.{kept-found}

-- one for a slot that has an owner
abbrev one_if_owned : Option ℕ → ℕ
one_if_owned owner = cond (is_some owner) 1 0

all-owned : (slots : List Slot) → ((s : ℕ) (slot : Slot) → slice_get slots s ≡ Some slot → slot.owner ≢ None) → count_by (λ slot. is_some slot.owner) slots ≡ length slots
all-owned [] h = refl
all-owned (it ∷ slots) h =
    let one : Slot → ℕ = λ slot. cond (is_some slot.owner) 1 0 in
    let whole : count_by (λ slot. is_some slot.owner) (it ∷ slots) ≡ one it + count_by (λ slot. is_some slot.owner) slots = sum_by-cons one it slots in
    let rest : count_by (λ slot. is_some slot.owner) slots ≡ length slots = all-owned slots (λ s slot e. h (suc s) slot e) in
    let here : one it ≡ 1 = has-owner it.owner refl in
    omega arith
  where
    has-owner : (o : Option ℕ) → it.owner ≡ o → one_if_owned o ≡ 1
    has-owner None e = absurd (h zero it refl e)
    has-owner (Some c) e = refl

module _ (tables : PageTables) (sides : Sides) (st : TablesStandFor tables sides) (c : ℕ) where
  -- no slot has the cell, and so no one has it
  pub unfound : IsSlotOf tables.slots.items (Some c) None → is_some (find nat_cmp c sides.leaves) ≡ false
  unfound none = elim (is_some (find nat_cmp c sides.leaves)) as (λ b. is_some (find nat_cmp c sides.leaves) ≡ b → b ≡ false) [
    | false ↦ λ e. refl
    | true ↦ λ e. let owned : (s : ℕ) × (owner_at tables.slots.items s ≡ Some c) = st.slots_of.owned c e in absurd (held owned.0 (slice_get tables.slots.items owned.0) refl owned.1)
  ] refl
    where
      held : (s : ℕ) (o : Option Slot) → slice_get tables.slots.items s ≡ o → option_and_then (λ it. it.owner) o ≡ Some c → ⊥
      held s None e owned = false≢true (ap is_some owned)
      held s (Some slot) e owned = none s slot e owned

  pub slot-chosen : (s : ℕ) → IsSlotChosen tables.slots.items c (Some s) → HasSlotFor tables sides.leaves c s
  slot-chosen s (inl mine) = record { slot = mine.0; here = mine.1.0; fits = inl mine.1.1 }
  slot-chosen s (inr free) = record { slot = free.1.0; here = free.1.1.0; fits = inr (free.1.1.1, unfound free.0) }

  -- some slot is left for it
  pub slot-left : lacks_slots (slot_count tables) sides.leaves (c ∷ []) ≡ false → IsSlotChosen tables.slots.items c None → ⊥
  slot-left room chosen =
      let counted : count_by (λ slot. is_some slot.owner) tables.slots.items ≡ length sides.leaves = st.slots_of.counted in
      let owned : count_by (λ slot. is_some slot.owner) tables.slots.items ≡ length tables.slots.items = all-owned tables.slots.items chosen.1 in
      let used : length (used_cells sides.leaves) ≡ length sides.leaves = length-map sides.leaves (λ e. e.0) in
      let lacking : length (cells_without_slot sides.leaves (c ∷ [])) ≡ 1 = ap (λ b. length (cond (not b) (c ∷ []) [])) (unfound chosen.0) in
      let more : length tables.slots.items - length (used_cells sides.leaves) < length (cells_without_slot sides.leaves (c ∷ [])) = omega arith in
      let told : nat_lt (length tables.slots.items - length (used_cells sides.leaves)) (length (cells_without_slot sides.leaves (c ∷ []))) ≡ true = grind (arith, nat_tests) in
      false≢true (sym room ∙ told)

  -- the slot that the snapshot has for the cell is the cell's
  pub kept-slot : (s : ℕ) → slot_in tables.snapshot c ≡ Some s → IsSlotOf tables.slots.items (Some c) (Some s)
  kept-slot s kept = held (slice_get tables.slots.items s) refl (st.snapshot_of.named c s kept)
    where
      held : (o : Option Slot) → slice_get tables.slots.items s ≡ o
          → option_and_then (λ it. it.owner) o ≡ Some c → IsSlotOf tables.slots.items (Some c) (Some s)
      held None e owned = absurd (false≢true (ap is_some owned))
      held (Some slot) e owned = (slot, (e, owned))

  -- a cell that neither directory has lies in no slot
  pub in-no-slot : get tables.directory c ≡ None → slot_in tables.snapshot c ≡ None → IsSlotOf tables.slots.items (Some c) None
  in-no-slot new unkept s slot here mine =
      let found : is_some (find nat_cmp c sides.leaves) ≡ true =
      st.slots_of.used s c (ap (option_and_then (λ it. it.owner)) here ∙ mine) in
      let missing : is_some (find nat_cmp c sides.leaves) ≡ false =
      sym (kept-found tables sides st c (ap is_some new)) ∙ ap is_some unkept in
      false≢true (sym missing ∙ found)

  -- a free slot is the slot chosen where neither directory has the cell
  pub chosen-free : (free : Option ℕ) → get tables.directory c ≡ None → slot_in tables.snapshot c ≡ None
      → IsSlotOf tables.slots.items None free
      → IsSlotChosen tables.slots.items c free
  chosen-free (Some s) new unkept none = inr (in-no-slot new unkept, none)
  chosen-free None new unkept none = (in-no-slot new unkept, none)
