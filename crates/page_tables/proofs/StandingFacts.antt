-- What follows where tables stand for two sides.
use Rattle.std.proofs.Common.{◌≡◌, ℕ, zero, suc, ◌+◌, ◌*◌, ◌<◌, ◌≤◌, List, [], ◌∷◌, length, map, Option, Some, None, cond, refl, sym, ◌∙◌, ap, subst, arith}
use Rattle.std.specs.Prelude.{Bool, true, false, T, is_some, IsSome, count_by, sum_by, unwrap_or}
use Rattle.std.specs.Ordering.{nat_cmp}
use Rattle.std.specs.Option.{option_and_then}
use Rattle.std.specs.List.{slice_get}
use Rattle.std.specs.FinMap.{get, find, is_sorted, get-empty}
use Rattle.std.proofs.lemmas.Bool.{false≢true}
use Rattle.std.proofs.lemmas.List.Sums.{sum_by-cons}
use Rattle.std.proofs.lemmas.Option.{slice_get_within}
use Rattle.kernel_meaning.specs.Leaves.{CellLeaves, Kept, Versions, unused_cell, has_pages, parent_leaves, version_at}
use Rattle.kernel_meaning.specs.FrameLaw.{Leaves, cell_at, is_used, parent_cells}
use Rattle.kernel_meaning.specs.CellAccount.{CellState, empty_state}
use Rattle.kernel_meaning.proofs.Shares.{parent_leaves-sum}
use Rattle.leaf_cell.specs.CellView.{CellView, bytes_in}
use Rattle.leaf_cell.specs.Standing.{StandsFor}
use Rattle.table_levels.specs.Cells.{CellMap}
use Rattle.page_tables.specs.declared.slot.Slot.{Slot}
use Rattle.page_tables.specs.declared.tables.SnapshotTables.{SnapshotTables}
use Rattle.page_tables.specs.Sides.{Sides}
use Rattle.page_tables.specs.Standing.{owner_at, state_in, AreKept, AreSlotsOf, StandFor}
use Rattle.page_tables.specs.Forking.{AllBecome, Becomes, HaveAccounts, AreAlone, is_forked, forked_count}
use Rattle.page_tables.proofs.LeafMap.{used-found, found-used}
use Rattle.page_tables.proofs.OwnedSlots.{owned-slot}
use Rattle.page_tables.proofs.SlotLemmas.{stands-later}
use Rattle.page_tables.proofs.HeldFrames.{all-found, sum-alike, owners-sum, slots-alike}
use Rattle.page_tables.proofs.ForkSlots.{alone-viewed, pages-alike}
use Rattle.page_tables.proofs.Changing.{slice_get_there}

-- a cell is in the map where somebody has it
pub found-is-used : (leaves : Leaves) → AreKept leaves → (c : ℕ) → is_some (find nat_cmp c leaves) ≡ is_used (cell_at leaves c)
found-is-used leaves kept c = by (is_some (find nat_cmp c leaves)) refl (is_used (cell_at leaves c)) refl
  where
    by : (a : Bool) → is_some (find nat_cmp c leaves) ≡ a → (b : Bool) → is_used (cell_at leaves c) ≡ b → a ≡ b
    by true e b f = sym (found-used leaves kept.in_use c e) ∙ f
    by false e true f = sym e ∙ used-found leaves c f
    by false e false f = refl

pub no-numbers : (kept : List Kept) → map (λ it. it.number) kept ≡ [] → kept ≡ []
no-numbers [] e = refl
no-numbers (it ∷ others) e = let l : length (map (λ (k : Kept). k.number) (it ∷ others)) ≡ 0 = ap length e in absurd (omega arith)

pub none-at : (versions : Versions) (p : ℕ) → has_pages versions ≡ false → version_at versions p ≡ None
none-at [] p none = refl
none-at (None ∷ versions) zero none = refl
none-at (None ∷ versions) (suc p) none = none-at versions p none
none-at (Some version ∷ versions) p none = absurd (false≢true (sym none))

-- a sum of ones
sum-ones : {X : Type 0} (es : List X) → sum_by (λ e. 1) es ≡ length es
sum-ones [] = refl
sum-ones (e ∷ es) = let rest : sum_by (λ (x : _). 1) es ≡ length es = sum-ones es in let whole : sum_by (λ (x : _). 1) (e ∷ es) ≡ 1 + sum_by (λ (x : _). 1) es =
    sum_by-cons (λ x. 1) e es in omega arith

-- the count of the owners follows
pub counted-by : (leaves : Leaves) → T (is_sorted nat_cmp leaves) → (slots : List Slot) → ((s t c : ℕ) → owner_at slots s ≡ Some c → owner_at slots t ≡ Some c → s ≡ t)
    → ((s c : ℕ) → owner_at slots s ≡ Some c → IsSome (find nat_cmp c leaves))
    → ((c : ℕ) → IsSome (find nat_cmp c leaves) → (s : ℕ) × (owner_at slots s ≡ Some c)) → count_by (λ slot. is_some slot.owner) slots ≡ length leaves
counted-by leaves sorted slots once used owned = owners-sum (λ owner. cond (is_some owner) 1 0) refl leaves sorted slots once used owned ∙ sum-ones leaves

-- the same owners where each slot keeps its own
pub owners-same : (old new : List Slot) → length new ≡ length old → ((s : ℕ) (slot : Slot) → slice_get old s ≡ Some slot → (it : Slot) × ((slice_get new s ≡ Some it) × (it.owner ≡ slot.owner)))
    → (t : ℕ) → owner_at new t ≡ owner_at old t
owners-same [] [] size each t = refl
owners-same [] (it ∷ new) size each t = absurd (omega arith)
owners-same (slot ∷ old) [] size each t = absurd (omega arith)
owners-same (slot ∷ old) (it ∷ new) size each zero =
    let first : (to : Slot) × ((slice_get (it ∷ new) 0 ≡ Some to) × (to.owner ≡ slot.owner)) = each 0 slot refl in
    ap (option_and_then (λ it. it.owner)) first.1.0 ∙ first.1.1
owners-same (slot ∷ old) (it ∷ new) size each (suc t) = owners-same old new (omega arith) (λ s. each (suc s)) t

module _ (directory : CellMap) (snapshot : Option SnapshotTables) (slots : List Slot) (sides : Sides) (st : StandFor directory snapshot slots sides) where
  pub known-slots : HaveAccounts slots
  known-slots s slot here = (record { state = state_in st.cells slot.owner; made = sides.made }, st.slots_of.stands s slot here)

  -- as many cells to fork as the parent has
  pub forks-counted : forked_count slots ≡ length (parent_cells sides.leaves)
  forks-counted =
      let one : Option ℕ → ℕ = λ owner. parent_leaves (state_in st.cells owner).leaves in
      slots-alike (λ slot. cond (is_forked slot) 1 0) (λ slot. one slot.owner) slots
      (λ s slot here. ap (λ b. cond b 1 0) (pages-alike slot.cell (record { state = state_in st.cells slot.owner; made = sides.made }) (st.slots_of.stands s slot here)))
      ∙ owners-sum one refl sides.leaves st.kept.sorted slots st.slots_of.once st.slots_of.used st.slots_of.owned
      ∙ sum-alike (λ e. one (Some e.0)) (λ e. parent_leaves e.1) sides.leaves
      (all-found (λ q cell. one (Some q) ≡ parent_leaves cell) sides.leaves st.kept.sorted
      (λ q cell found. ap parent_leaves (st.each.leaves q) ∙ ap (λ o. parent_leaves (unwrap_or o unused_cell)) found))
      ∙ sym (parent_leaves-sum sides.leaves)

  -- the parent has no page in a cell where it has none
  pub no-page : (c p : ℕ) → has_pages (cell_at sides.leaves c).parent ≡ false → p < 512 → get sides.pages (c * 512 + p) ≡ None
  no-page c p none small = sym (st.each.pages c p small) ∙ by (is_some (find nat_cmp c sides.leaves)) refl
    where
      by : (b : Bool) → is_some (find nat_cmp c sides.leaves) ≡ b → get (st.cells c).pages p ≡ None
      by false e = ap (λ state. get state.pages p) (st.blank c e) ∙ get-empty nat_cmp p
      by true e =
          let owned : (s : ℕ) × (owner_at slots s ≡ Some c) = st.slots_of.owned c e in
          let there : (slot : Slot) × ((slice_get slots owned.0 ≡ Some slot) × (slot.owner ≡ Some c)) = owned-slot slots owned.0 c owned.1 in
          let view : CellView = there.0.cell in
          let stands : StandsFor view (record { state = st.cells c; made = sides.made }) =
          subst (λ owner. StandsFor view (record { state = state_in st.cells owner; made = sides.made })) there.1.1 (st.slots_of.stands owned.0 there.0 there.1.0) in
          let unviewed : has_pages view.leaves.parent ≡ false = pages-alike view (record { state = st.cells c; made = sides.made }) stands
          ∙ ap (λ cell. has_pages cell.parent) (st.each.leaves c) ∙ none in
          sym (stands.pages p small) ∙ ap (bytes_in view.frames) (none-at view.leaves.parent p unviewed)

pub alone-slots : (directory : CellMap) (slots : List Slot) (sides : Sides) → StandFor directory None slots sides → AreAlone slots
alone-slots directory slots sides st s slot here = alone-viewed slot.cell (record { state = state_in st.cells slot.owner; made = sides.made }) (st.slots_of.stands s slot here) (meant slot.owner)
  where
    meant : (owner : Option ℕ) → (state_in st.cells owner).leaves.kept ≡ []
    meant None = refl
    meant (Some c) = ap (λ cell. cell.kept) (st.each.leaves c) ∙ no-numbers (cell_at sides.leaves c).kept (st.snapshot_of.numbers c)

-- slots that have all changed hold the changed cells
pub slots-become : (leaves : CellLeaves → CellLeaves) (change : CellState → CellState) → change empty_state ≡ empty_state → (old new : List Slot) → AllBecome leaves change old new
    → (before after : Leaves) (cells : ℕ → CellState) (made later : ℕ) → AreSlotsOf before cells made old → AreKept after
    → ((c : ℕ) → is_some (find nat_cmp c after) ≡ is_some (find nat_cmp c before)) → made ≤ later
    → AreSlotsOf after (λ c. change (cells c)) later new
slots-become leaves change blank old new become before after cells made later of kept found more = record {
  stands = stands_there;
  once = once_there;
  used = used_there;
  owned = owned_there;
  counted = counted-by after kept.sorted new once_there used_there owned_there;
}
  where
    same : (t : ℕ) → owner_at new t ≡ owner_at old t
    same = owners-same old new become.size (λ s slot here. let it : (it : Slot) × ((slice_get new s ≡ Some it) × Becomes leaves change slot it) =
        become.each s slot here in (it.0, (it.1.0, it.1.1.owner)))

    once_there : (s t c : ℕ) → owner_at new s ≡ Some c → owner_at new t ≡ Some c → s ≡ t
    once_there s t c e f = of.once s t c (sym (same s) ∙ e) (sym (same t) ∙ f)

    used_there : (s c : ℕ) → owner_at new s ≡ Some c → IsSome (find nat_cmp c after)
    used_there s c e = found c ∙ of.used s c (sym (same s) ∙ e)

    owned_there : (c : ℕ) → IsSome (find nat_cmp c after) → (s : ℕ) × (owner_at new s ≡ Some c)
    owned_there c there = let was : (s : ℕ) × (owner_at old s ≡ Some c) = of.owned c (sym (found c) ∙ there) in (was.0, same was.0 ∙ was.1)

    state_there : (owner : Option ℕ) → change (state_in cells owner) ≡ state_in (λ c. change (cells c)) owner
    state_there None = blank
    state_there (Some c) = refl

    stands_there : (s : ℕ) (it : Slot) → slice_get new s ≡ Some it → StandsFor it.cell (record { state = state_in (λ c. change (cells c)) it.owner; made = later })
    stands_there s it here =
        let within : s < length new = slice_get_within new s it here in
        let size : length new ≡ length old = become.size in
        let was : (slot : Slot) × (slice_get old s ≡ Some slot) = slice_get_there old s (omega arith) in
        let to : (to : Slot) × ((slice_get new s ≡ Some to) × Becomes leaves change was.0 to) = become.each s was.0 was.1 in
        let is : to.0 ≡ it = ap (λ o. unwrap_or o it) (sym to.1.0 ∙ here) in
        let stood : StandsFor to.0.cell (record { state = change (state_in cells was.0.owner); made = made }) = to.1.1.stands (state_in cells was.0.owner) made (of.stands s was.0 was.1) in
        let named : change (state_in cells was.0.owner) ≡ state_in (λ c. change (cells c)) to.0.owner = state_there was.0.owner ∙ ap (state_in (λ c. change (cells c))) (sym to.1.1.owner) in
        subst (λ slot. StandsFor slot.cell (record { state = state_in (λ c. change (cells c)) slot.owner; made = later })) is
        (stands-later to.0.cell (state_in (λ c. change (cells c)) to.0.owner) made later more (subst (λ state. StandsFor to.0.cell (record { state = state; made = made })) named stood))
