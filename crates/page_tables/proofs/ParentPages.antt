-- What the two sides have where the directory has a cell, and where it lacks one.
use Rattle.std.proofs.Common.{◌≡◌, ℕ, ◌+◌, ◌*◌, ◌/◌, ◌%◌, ◌<◌, ◌≤◌, List, length, Option, Some, None, refl, sym, ◌∙◌, ap, subst, arith, inl, inr}
use Rattle.std.specs.Prelude.{false, is_some, slice_index_or}
use Rattle.std.specs.Ordering.{nat_cmp}
use Rattle.std.specs.Option.{option_and_then, option_map}
use Rattle.std.specs.List.{slice_get}
use Rattle.std.specs.FinMap.{get, find, get-empty}
use Rattle.std.proofs.lemmas.Bool.{cases_Bool, false≢true}
use Rattle.vm_base.specs.Places.{page_of, offset_of, cell_of}
use Rattle.vm_base.specs.FlatMemory.{bytes_at}
use Rattle.kernel_meaning.specs.Leaves.{CellLeaves, version_at, has_pages}
use Rattle.kernel_meaning.specs.FrameLaw.{cell_at}
use Rattle.kernel_meaning.specs.CellAccount.{CellAccount}
use Rattle.leaf_cell.specs.CellView.{bytes_in, part_of}
use Rattle.leaf_cell.specs.Standing.{StandsFor}
use Rattle.leaf_cell.proofs.Renamed.{version_at-renamed}
use Rattle.table_levels.specs.Cells.{CellMap}
use Rattle.page_tables.specs.declared.slot.Slot.{Slot}
use Rattle.page_tables.specs.declared.tables.SnapshotTables.{SnapshotTables}
use Rattle.page_tables.specs.declared.tables.PageTables.{PageTables}
use Rattle.page_tables.specs.Sides.{Sides}
use Rattle.page_tables.specs.Standing.{owner_at, state_in, StandFor, TablesStandFor}
use Rattle.page_tables.proofs.FlatParts.{bytes_at-part}
use Rattle.page_tables.proofs.TouchShapes.{page-there}
use Rattle.page_tables.proofs.OwnedSlots.{owned-slot, owned-within, read-slot}

-- a cell without pages has no version of any
pub version-absent : (cell : CellLeaves) (page : ℕ) → has_pages cell.parent ≡ false → version_at cell.parent page ≡ None
version-absent cell page none = elim (version_at cell.parent page) as (λ o. version_at cell.parent page ≡ o → o ≡ None) [
  | None ↦ λ e. refl
  | Some version ↦ λ e. absurd (false≢true (sym none ∙ page-there cell page (ap is_some e)))
] refl

-- a slot that a cell has, as it was read
pub owned-here : (slots : List Slot) (s c : ℕ) (slot : Slot) → owner_at slots s ≡ Some c → slot ≡ slice_index_or slots s slot → slice_get slots s ≡ Some slot
owned-here slots s c slot owned read = read-slot slots s slot (owned-within slots s c owned) read

-- the slot is one of the slots, as an index needs it
pub owned-index : (slots : List Slot) (count s c : ℕ) → count ≡ length slots → owner_at slots s ≡ Some c → s < count
owned-index slots count s c size owned = subst (λ n. s < n) (sym size) (owned-within slots s c owned)

module _ (directory : CellMap) (snapshot : Option SnapshotTables) (slots : List Slot) (sides : Sides) (st : StandFor directory snapshot slots sides) where
  -- the account of a cell
  abbrev pub account_at : ℕ → CellAccount
  account_at c = record { state = st.cells c; made = sides.made }

  -- a slot that a cell has stands for the cell's account
  pub slot-stands : (c s : ℕ) (slot : Slot) → slice_get slots s ≡ Some slot → owner_at slots s ≡ Some c → StandsFor slot.cell (account_at c)
  slot-stands c s slot here owned =
      let mine : slot.owner ≡ Some c = sym (ap (option_and_then (λ it. it.owner)) here) ∙ owned in
      subst (λ owner. StandsFor slot.cell (record { state = state_in st.cells owner; made = sides.made })) mine (st.slots_of.stands s slot here)

  -- a version that the parent lacks is a page that it lacks
  pub page-lacking : (c p : ℕ) → p < 512 → version_at (cell_at sides.leaves c).parent p ≡ None → get sides.pages (c * 512 + p) ≡ None
  page-lacking c p small none = elim (cases_Bool (is_some (find nat_cmp c sides.leaves))) [
    | inl used ↦
        let owned : (s : ℕ) × (owner_at slots s ≡ Some c) = st.slots_of.owned c used in
        let there : (slot : Slot) × ((slice_get slots owned.0 ≡ Some slot) × (slot.owner ≡ Some c)) = owned-slot slots owned.0 c owned.1 in
        let stands : StandsFor there.0.cell (account_at c) = slot-stands c owned.0 there.0 there.1.0 owned.1 in
        sym (st.each.pages c p small) ∙ sym (stands.pages p small) ∙ ap (bytes_in there.0.cell.frames)
        (ap (λ vs. version_at vs p) stands.leaves.parent ∙ version_at-renamed stands.name (st.cells c).leaves.parent p
        ∙ ap (option_map (stands.name p)) (ap (λ cell. version_at cell.parent p) (st.each.leaves c) ∙ none))
    | inr unused ↦ sym (st.each.pages c p small) ∙ ap (λ state. get state.pages p) (st.blank c unused) ∙ get-empty nat_cmp p
  ]

  -- a page of a cell that the directory lacks
  pub page-absent : (page : ℕ) → get directory (cell_of page) ≡ None → get sides.pages page ≡ None
  page-absent page missing =
      let low : page % 512 < 512 = omega arith in
      let whole : page / 512 * 512 + page % 512 ≡ page = omega arith in
      let none : has_pages (cell_at sides.leaves (cell_of page)).parent ≡ false = sym (st.parent (cell_of page)) ∙ ap is_some missing in
      ap (get sides.pages) (sym whole) ∙ page-lacking (cell_of page) (page % 512) low (version-absent (cell_at sides.leaves (cell_of page)) (page % 512) none)

  -- a page of a cell that the directory has
  pub page-known : (page s : ℕ) → get directory (cell_of page) ≡ Some s → get (st.cells (cell_of page)).pages (page % 512) ≡ get sides.pages page
  page-known page s known =
      let low : page % 512 < 512 = omega arith in
      let whole : page / 512 * 512 + page % 512 ≡ page = omega arith in
      st.each.pages (cell_of page) (page % 512) low ∙ ap (get sides.pages) whole

-- a part of a page that the cell of a slot gave
module _ (tables : PageTables) (sides : Sides) (st : TablesStandFor tables sides) (s addr size : ℕ) (slot : Slot) (known : get tables.directory (cell_of (page_of addr)) ≡ Some s)
    (here : slot ≡ slice_index_or tables.slots.items s slot) (room : offset_of addr + size ≤ 4096) (bytes : List ℕ) (as_many : length bytes ≡ size)
    (page at : ℕ) (page_is : page ≡ page_of addr % 512) (at_is : at ≡ offset_of addr)
    (told : (account : CellAccount) → StandsFor slot.cell account → bytes ≡ part_of (get account.state.pages page) at size) where
  abbrev c : ℕ
  c = cell_of (page_of addr)

  stood : StandsFor slot.cell (account_at tables.directory tables.snapshot tables.slots.items sides st c)
  stood = slot-stands tables.directory tables.snapshot tables.slots.items sides st c s slot (owned-here tables.slots.items s c slot (st.named c s known) here) (st.named c s known)

  part : bytes ≡ part_of (get (st.cells c).pages (page_of addr % 512)) (offset_of addr) size
  part = told (account_at tables.directory tables.snapshot tables.slots.items sides st c) stood
      ∙ ap (λ p. part_of (get (st.cells c).pages p) at size) page_is ∙ ap (λ i. part_of (get (st.cells c).pages (page_of addr % 512)) i size) at_is

  pub parent-read : bytes ≡ bytes_at sides.pages addr size
  parent-read =
      let there : get sides.pages (page_of addr) ≡ get (st.cells c).pages (page_of addr % 512) = sym (page-known tables.directory tables.snapshot tables.slots.items sides st (page_of addr) s known) in
      part ∙ bytes_at-part sides.pages addr size (get (st.cells c).pages (page_of addr % 512)) there room (sym (ap length part) ∙ as_many)
