-- What follows from facts of sides that are not named. Each of these goals has one proof at most.
use Rattle.std.proofs.Common.{◌≡◌, ℕ, ◌<◌, ◌≤◌, List, [], ◌∷◌, Option, Some, None, length, refl, sym, ◌∙◌, ap, subst, inl, inr}
use Rattle.std.specs.Prelude.{Bool, true, false, ◌==◌, if◌then◌else◌, is_some}
use Rattle.std.proofs.lemmas.Bool.{false≢true}
use Rattle.std.specs.List.{slice_get}
use Rattle.std.specs.FinMap.{get}
use Rattle.std.specs.Coded.{Coded, Coded-set, code_by, coded×, coded_ℕ, coded_bool, coded_list, coded_option, ×_prop, Unit-prop, le_prop}
use Rattle.std.proofs.Math.Logic.{∥∥₁_elim, ∥∥₁_map}
use mathlib.Core.HLevel.{⊥_prop}
use Rattle.std.proofs.lemmas.Option.{slice_get_within}
use Rattle.vm_base.specs.Deals.{Deal, Granted, Denied, Returned}
use Rattle.vm_base.specs.declared.frame_request.Want.{Want}
use Rattle.vm_base.specs.declared.frame_request.Want.TheVariants.{Top, Upper, Middle, Leaf, Page}
use Rattle.kernel_meaning.specs.Leaves.{CellLeaves, Kept, is_joined, version_at}
use Rattle.leaf_cell.specs.CellView.{AreUnjoined}
use Rattle.leaf_cell.specs.Touching.{IsAlone}
use Rattle.leaf_cell.specs.Codes.{kept_code}
use Rattle.page_tables.specs.declared.slot.Slot.{Slot}
use Rattle.page_tables.specs.declared.tables.PageTables.{PageTables}
use Rattle.page_tables.specs.Sides.{Sides}
use Rattle.page_tables.specs.Standing.{owner_at, slot_in, TablesStandFor, HasSlotFor, IsSlotFor}
use Rattle.page_tables.proofs.OwnedSlots.{same_slot, slot-unjoined}
use Rattle.page_tables.proofs.Room.{fits-again}

-- ---- deals told apart

-- a want as a number
abbrev want_number : Want → ℕ
want_number Top = 0
want_number Upper = 1
want_number Middle = 2
want_number Leaf = 3
want_number Page = 4

-- the want of a number
abbrev want_of_number : ℕ → Want
want_of_number n = if n == 0 then Top else if n == 1 then Upper else if n == 2 then Middle else if n == 3 then Leaf else Page

want_again : (want : Want) → want_of_number (want_number want) ≡ want
want_again Top = refl
want_again Upper = refl
want_again Middle = refl
want_again Leaf = refl
want_again Page = refl

-- a deal as three numbers
abbrev deal_numbers : Deal → ℕ × (ℕ × ℕ)
deal_numbers (Granted want) = (0, (want_number want, 0))
deal_numbers (Denied want at) = (1, (want_number want, at))
deal_numbers Returned = (2, (0, 0))

-- the deal of three numbers
abbrev deal_of_numbers : ℕ × (ℕ × ℕ) → Deal
deal_of_numbers p = if p.0 == 0 then Granted (want_of_number p.1.0) else if p.0 == 1 then Denied (want_of_number p.1.0) p.1.1 else Returned

deal_again : (deal : Deal) → deal_of_numbers (deal_numbers deal) ≡ deal
deal_again (Granted want) = λ i. Granted (want_again want i)
deal_again (Denied want at) = λ i. Denied (want_again want i) at
deal_again Returned = refl

abbrev deal_code : Coded Deal
deal_code = code_by (ℕ × (ℕ × ℕ)) (coded× coded_ℕ (coded× coded_ℕ coded_ℕ)) deal_numbers deal_of_numbers deal_again

-- ---- goals with one proof at most

unjoined-prop : (kept : List Kept) → IsProp (AreUnjoined kept)
unjoined-prop [] = Unit-prop
unjoined-prop (it ∷ others) = ×_prop (Coded-set coded_bool (is_joined it.leaf) false) (unjoined-prop others)

alone-prop : (cell : CellLeaves) (page : ℕ) → IsProp (IsAlone cell page)
alone-prop cell page a b = λ i. record {
  present = Coded-set coded_bool (is_some (version_at cell.parent page)) true a.present b.present i;
  unnamed = λ version there named. ⊥_prop (a.unnamed version there named) (b.unnamed version there named) i;
}

module _ {A : Type 0} (known : ∥ A ∥₁) where
  pub known-below : {m n : ℕ} → (A → m ≤ n) → m ≤ n
  known-below so = ∥∥₁_elim known le_prop so

  pub known-less : {m n : ℕ} → (A → m < n) → m < n
  known-less so = ∥∥₁_elim known le_prop so

  pub known-number : {m n : ℕ} → (A → m ≡ n) → m ≡ n
  known-number {m} {n} so = ∥∥₁_elim known (Coded-set coded_ℕ m n) so

  pub known-test : {a b : Bool} → (A → a ≡ b) → a ≡ b
  known-test {a} {b} so = ∥∥₁_elim known (Coded-set coded_bool a b) so

  pub known-option : {a b : Option ℕ} → (A → a ≡ b) → a ≡ b
  known-option {a} {b} so = ∥∥₁_elim known (Coded-set (coded_option coded_ℕ) a b) so

  pub known-deals : {a b : List Deal} → (A → a ≡ b) → a ≡ b
  known-deals {a} {b} so = ∥∥₁_elim known (Coded-set (coded_list deal_code) a b) so

  pub known-kept : {a b : List Kept} → (A → a ≡ b) → a ≡ b
  known-kept {a} {b} so = ∥∥₁_elim known (Coded-set (coded_list kept_code) a b) so

  pub known-alone : {cell : CellLeaves} {page : ℕ} → (A → IsAlone cell page) → IsAlone cell page
  known-alone {cell} {page} so = ∥∥₁_elim known (alone-prop cell page) so

  pub known-impossible : (A → ⊥) → ⊥
  known-impossible so = ∥∥₁_elim known ⊥_prop so

-- ---- tables that stand for some sides

-- what else is known of the sides may be left out
pub standing : (tables : PageTables) (also : Sides → Type 0) → ∥ ((sides : Sides) × (TablesStandFor tables sides × also sides)) ∥₁ → ∥ ((sides : Sides) × TablesStandFor tables sides) ∥₁
standing tables also known = ∥∥₁_map known (λ it. (it.0, it.1.0))

module _ (tables : PageTables) (known : ∥ ((sides : Sides) × TablesStandFor tables sides) ∥₁) where
  -- a slot in the directory has its cell
  pub known-owner : (c s : ℕ) → get tables.directory c ≡ Some s → owner_at tables.slots.items s ≡ Some c
  known-owner c s there = known-option known (λ it. it.1.named c s there)

  -- so has one in the snapshot's directory
  pub known-snapshot-owner : (c s : ℕ) → slot_in tables.snapshot c ≡ Some s → owner_at tables.slots.items s ≡ Some c
  known-snapshot-owner c s there = known-option known (λ it. it.1.snapshot_of.named c s there)

  -- no leaf is joined in any slot
  pub known-unjoined : (s : ℕ) (slot : Slot) → slice_get tables.slots.items s ≡ Some slot → AreUnjoined slot.cell.leaves.kept
  known-unjoined s slot here = ∥∥₁_elim known (unjoined-prop slot.cell.leaves.kept) (λ it. slot-unjoined tables.directory tables.snapshot tables.slots.items it.0 it.1 s slot here)

module _ (tables : PageTables) (c s : ℕ) (known : ∥ ((sides : Sides) × (TablesStandFor tables sides × HasSlotFor tables sides.leaves c s)) ∥₁) where
  -- the slot that is chosen for a cell is one of the slots
  pub known-home : s < length tables.slots.items
  known-home = known-less known (λ it. slice_get_within tables.slots.items s it.1.1.slot it.1.1.here)

  -- and serves the cell, whatever sides the tables stand for
  pub known-fits : (sides : Sides) → TablesStandFor tables sides → (slot : Slot) → slice_get tables.slots.items s ≡ Some slot → IsSlotFor sides.leaves c slot.owner
  known-fits sides st slot here = by slot.owner refl
    where
      fits : (owner : Option ℕ) → slot.owner ≡ owner → ∥ IsSlotFor sides.leaves c owner ∥₁
      fits owner is = ∥∥₁_map known (λ it.
          subst (IsSlotFor sides.leaves c) is
          (fits-again tables.directory tables.snapshot tables.slots.items it.0 sides it.1.0 st c slot.owner
          (subst (λ it_too. IsSlotFor it.0.leaves c it_too.owner) (same_slot it.1.1.slot slot (sym it.1.1.here ∙ here)) it.1.1.fits)))

      by : (owner : Option ℕ) → slot.owner ≡ owner → IsSlotFor sides.leaves c owner
      by None is = inr (
        refl,
        known-test (fits None is) (elim [
          | inl mine ↦ absurd (false≢true (ap is_some mine))
          | inr free ↦ free.1
        ]),
      )
      by (Some cell) is = inl (known-option (fits (Some cell) is) (elim [
        | inl mine ↦ mine
        | inr free ↦ absurd (false≢true (ap is_some (sym free.0)))
      ]))
