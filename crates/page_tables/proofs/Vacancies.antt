-- Slots that are free, and cells of a range that have none.
use Rattle.std.proofs.Common.{◌≡◌, ℕ, ◌+◌, ◌-◌, ◌<◌, ◌≤◌, take, drop, length-drop, List, [], ◌∷◌, ◌++◌, length, length-append, Option, Some, None, cond, refl, sym, ◌∙◌, ap, arith, inl, inr, nat_lt}
use Rattle.std.specs.Prelude.{Bool, true, false, not, ◌||◌, ◌==◌, ◌&&◌, is_some, count_by, filter}
use Rattle.std.specs.Ordering.{nat_cmp}
use Rattle.std.specs.List.{range_with_len}
use Rattle.std.specs.FinMap.{get, find}
use Rattle.std.proofs.lemmas.Bool.{cases_Bool, ne_eqb, false≢true}
use Rattle.std.proofs.Math.Bool.{not-not}
use Rattle.std.proofs.lemmas.Bool.Decides.{nat_tests}
use Rattle.std.proofs.lemmas.List.{length-map}
use Rattle.std.proofs.lemmas.List.Elements.{filter-append}
use Rattle.std.proofs.lemmas.List.Sums.{sum_by_push, sum_by-take-drop, count_by-le-length}
use Rattle.vm_base.specs.Places.{cell_of}
use Rattle.vm_base.proofs.Ranges.{range-split}
use Rattle.kernel_meaning.specs.Leaves.{has_pages}
use Rattle.kernel_meaning.specs.FrameLaw.{Leaves, cell_at, is_used, lacks_slots, used_cells, cells_without_slot}
use Rattle.page_tables.specs.declared.slot.Slot.{Slot}
use Rattle.page_tables.specs.declared.tables.PageTables.{PageTables}
use Rattle.page_tables.specs.declared.tables.SnapshotTables.{SnapshotTables}
use Rattle.page_tables.specs.Sides.{Sides}
use Rattle.page_tables.specs.Standing.{TablesStandFor, slot_count, slot_in, numbers_at}
use Rattle.page_tables.specs.Ranges.{missing_in, cells_of_pages}
use Rattle.page_tables.proofs.LeafMap.{used-found, found-used}

-- a snapshot without a slot for a cell has no number there
no-numbers : (snapshot : Option SnapshotTables) (c : ℕ) → slot_in snapshot c ≡ None → numbers_at snapshot c ≡ []
no-numbers None c none = refl
no-numbers (Some tables) c none = ap (λ o. cond (is_some o) (tables.number ∷ []) []) none

module _ (tables : PageTables) (sides : Sides) (st : TablesStandFor tables sides) (c : ℕ) where
  -- a cell that the directory has is in the map
  pub known-found : is_some (get tables.directory c) ≡ true → is_some (find nat_cmp c sides.leaves) ≡ true
  known-found known = used-found sides.leaves c (ap (λ b. b || not (length (cell_at sides.leaves c).kept == 0)) (sym (st.parent c) ∙ known))

  -- and of the others those that the snapshot has
  pub kept-found : is_some (get tables.directory c) ≡ false → is_some (slot_in tables.snapshot c) ≡ is_some (find nat_cmp c sides.leaves)
  kept-found unknown = by (slot_in tables.snapshot c) refl
    where
      unused : slot_in tables.snapshot c ≡ None → is_used (cell_at sides.leaves c) ≡ false
      unused none =
          let no_pages : has_pages (cell_at sides.leaves c).parent ≡ false = sym (st.parent c) ∙ unknown in
          let no_kept : length (cell_at sides.leaves c).kept ≡ 0 = sym (length-map (cell_at sides.leaves c).kept (λ it. it.number))
          ∙ ap length (st.snapshot_of.numbers c ∙ no-numbers tables.snapshot c none) in
          ap (λ b. b || not (length (cell_at sides.leaves c).kept == 0)) no_pages ∙ ap (λ n. not (n == 0)) no_kept

      by : (s : Option ℕ) → slot_in tables.snapshot c ≡ s → is_some s ≡ is_some (find nat_cmp c sides.leaves)
      by (Some s) is = sym (st.slots_of.used s c (st.snapshot_of.named c s is))
      by None is = elim (cases_Bool (is_some (find nat_cmp c sides.leaves))) [
        | inl found ↦ absurd (false≢true (sym (unused is) ∙ found-used sides.leaves st.kept.in_use c found))
        | inr missing ↦ sym missing
      ]

-- one cell more of a range
pub missing-push : (leaves : Leaves) (first n : ℕ) → missing_in leaves first (n + 1) ≡ missing_in leaves first n + cond
    (is_some (find nat_cmp (first + n) leaves)) 0 1
missing-push leaves first n =
    let test : ℕ → Bool = λ cell. not (is_some (find nat_cmp cell leaves)) in
    let one : length (filter test ((first + n) ∷ [])) ≡ cond (is_some (find nat_cmp (first + n) leaves)) 0 1 =
    elim (is_some (find nat_cmp (first + n) leaves)) as (λ b. length (cond (not b) ((first + n) ∷ []) []) ≡ cond b 0 1)
    [ true ↦ refl | false ↦ refl ] in
    ap (λ xs. length (filter test xs)) (range-split first n 1) ∙ ap length (filter-append test (range_with_len first n) ((first + n) ∷ []))
    ∙ length-append (filter test (range_with_len first n)) (filter test ((first + n) ∷ [])) ∙ ap (λ k. missing_in leaves first n + k) one

-- slots of which some are looked at: no more of the others have an owner than there are
pub owned-beyond : (slots : List Slot) (i : ℕ) → count_by (λ slot. is_some slot.owner) slots ≤ count_by (λ slot. is_some slot.owner)
    (take i slots) + (length slots - i)
owned-beyond slots i =
    let split : count_by (λ slot. is_some slot.owner) (take i slots) + count_by (λ slot. is_some slot.owner) (drop i slots) ≡ count_by
    (λ slot. is_some slot.owner) slots =
    sum_by-take-drop (λ slot. cond (is_some slot.owner) 1 0) slots i in
    omega (arith, split, count_by-le-length (λ slot. is_some slot.owner) (drop i slots), length-drop i slots)

module _ (tables : PageTables) (sides : Sides) (st : TablesStandFor tables sides) (first n free : ℕ) (some : 0 < n)
    (counted : free + count_by (λ slot. is_some slot.owner) tables.slots.items ≡ length tables.slots.items) where
  abbrev missing : ℕ
  missing = missing_in sides.leaves (cell_of first) (cell_of (first + n - 1) + 1 - cell_of first)

  -- the cells that lack a slot are more than the free slots
  pub lacking-told : (nat_lt 0 missing && nat_lt free missing) ≡ lacks_slots (slot_count tables) sides.leaves (cells_of_pages first n)
  lacking-told =
      let cells : cells_of_pages first n ≡ range_with_len (cell_of first) (cell_of (first + n - 1) + 1 - cell_of first) =
      ap (λ b. cond b [] (range_with_len (cell_of first) (cell_of (first + n - 1) + 1 - cell_of first))) (ne_eqb n 0 (λ e. omega arith)) in
      let owned : count_by (λ slot. is_some slot.owner) tables.slots.items ≡ length sides.leaves = st.slots_of.counted in
      let used : length (used_cells sides.leaves) ≡ length sides.leaves = length-map sides.leaves (λ e. e.0) in
      let left : slot_count tables - length (used_cells sides.leaves) ≡ free = omega arith in
      both ∙ sym (ap (λ cells. nat_lt (slot_count tables - length (used_cells sides.leaves))
      (length (cells_without_slot sides.leaves cells))) cells ∙ ap (λ k. nat_lt k missing) left)
    where
      both : (nat_lt 0 missing && nat_lt free missing) ≡ nat_lt free missing
      both = elim (cases_Bool (nat_lt free missing)) [
        | inl more ↦ let pos : nat_lt 0 missing ≡ true = grind (arith, nat_tests) in ap (λ b. b && nat_lt free missing) pos
        | inr few ↦ ap (λ b. nat_lt 0 missing && b) few ∙ elim (nat_lt 0 missing) as (λ b. (b && false) ≡ false)
            [ true ↦ refl | false ↦ refl ] ∙ sym few
      ]

-- the same by a test of whether as many slots are free as are wanted
pub lacking-free : (tables : PageTables) (sides : Sides) → TablesStandFor tables sides → (first n wanted : ℕ) → 0 < n
    → wanted ≡ missing_in sides.leaves (cell_of first) (cell_of (first + n - 1) + 1 - cell_of first) → (b : Bool)
    → ((free : ℕ) → free + count_by (λ slot. is_some slot.owner) tables.slots.items ≡ length tables.slots.items
    → b ≡ not (nat_lt free wanted))
    → (nat_lt 0 wanted && not b) ≡ lacks_slots (slot_count tables) sides.leaves (cells_of_pages first n)
lacking-free tables sides st first n wanted some is b told =
    let owned : ℕ = count_by (λ slot. is_some slot.owner) tables.slots.items in
    let free : ℕ = length tables.slots.items - owned in
    let counted : free + owned ≡ length tables.slots.items = omega
    (arith, count_by-le-length (λ slot. is_some slot.owner) tables.slots.items) in
    ap (λ x. nat_lt 0 wanted && x) (ap not (told free counted) ∙ not-not (nat_lt free wanted))
    ∙ ap (λ k. nat_lt 0 k && nat_lt free k) is
    ∙ lacking-told tables sides st first n free some counted

-- and where no slot is wanted
pub lacking-none : (tables : PageTables) (sides : Sides) → TablesStandFor tables sides → (first n wanted : ℕ) → 0 < n
    → wanted ≡ missing_in sides.leaves (cell_of first) (cell_of (first + n - 1) + 1 - cell_of first) → nat_lt 0 wanted ≡ false
    → nat_lt 0 wanted ≡ lacks_slots (slot_count tables) sides.leaves (cells_of_pages first n)
lacking-none tables sides st first n wanted some is none =
    let owned : ℕ = count_by (λ slot. is_some slot.owner) tables.slots.items in
    let free : ℕ = length tables.slots.items - owned in
    let counted : free + owned ≡ length tables.slots.items = omega
    (arith, count_by-le-length (λ slot. is_some slot.owner) tables.slots.items) in
    none ∙ sym (ap (λ b. b && nat_lt free wanted) none)
    ∙ ap (λ k. nat_lt 0 k && nat_lt free k) is
    ∙ lacking-told tables sides st first n free some counted

-- a slot that nobody has counts
pub free-push : (slots : List Slot) (slot : Slot) → count_by (λ it. is_some it.owner) (slots ++ slot ∷ []) ≡ count_by
    (λ it. is_some it.owner) slots + cond (is_some slot.owner) 1 0
free-push slots slot = sum_by_push (λ it. cond (is_some it.owner) 1 0) slots slot
