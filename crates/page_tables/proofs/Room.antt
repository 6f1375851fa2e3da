-- The directory has the parent's cells, and room for one more while a slot is free.
use Rattle.std.proofs.Common.{◌≡◌, ℕ, ◌+◌, ◌<◌, ◌≤◌, List, [], ◌∷◌, length, Option, Some, None, cond, refl, sym, ◌∙◌, ap, subst, arith, inl, inr}
use Rattle.std.specs.Prelude.{Bool, true, false, is_some, filter, count_by, unwrap_or, zero, suc}
use Rattle.std.specs.Ordering.{nat_cmp, eq_by_cmp}
use Rattle.std.specs.Option.{option_and_then}
use Rattle.std.specs.List.{slice_get}
use Rattle.std.specs.FinMap.{get, len, keys, entries, find, entries_sorted, get-entries, len-entries}
use Rattle.std.proofs.lemmas.Bool.{false≢true}
use Rattle.std.proofs.lemmas.List.{length-map}
use Rattle.std.proofs.lemmas.List.Sums.{count_by-le-length, sum_by-cons}
use Rattle.kernel_meaning.specs.Leaves.{CellLeaves, unused_cell, has_pages}
use Rattle.kernel_meaning.specs.FrameLaw.{cell_at, parent_cells}
use Rattle.table_levels.specs.Cells.{CellMap}
use Rattle.page_tables.specs.declared.slot.Slot.{Slot}
use Rattle.page_tables.specs.declared.tables.SnapshotTables.{SnapshotTables}
use Rattle.page_tables.specs.Sides.{Sides}
use Rattle.page_tables.specs.Standing.{owner_at, StandFor, IsSlotFor}
use Rattle.page_tables.proofs.LeafMap.{parent_cells-alike}

module _ {X : Type 0} where
  filter-within : (test : X → Bool) (es : List (ℕ × X)) → length (filter (λ e. test e.1) es) ≤ length es
  filter-within test [] = omega arith
  filter-within test (f ∷ es) =
      let rest : length (filter (λ e. test e.1) es) ≤ length es = filter-within test es in
      elim (test f.1) as (λ b. length (cond b (f ∷ filter (λ e. test e.1) es) (filter (λ e. test e.1) es)) ≤ length (f ∷ es)) [ true ↦ omega arith | false ↦ omega arith ]

  -- fewer pass where one that is found does not
  filter-shorter : (test : X → Bool) (q : ℕ) (v : X) (es : List (ℕ × X)) → find nat_cmp q es ≡ Some v → test v ≡ false → length (filter (λ e. test e.1) es) < length es
  filter-shorter test q v [] e nope = absurd (false≢true (ap is_some e))
  filter-shorter test q v (f ∷ es) e nope =
      let within : length (filter (λ e. test e.1) es) ≤ length es = filter-within test es in
      elim (eq_by_cmp nat_cmp q f.0) as (λ b. cond b (Some f.1) (find nat_cmp q es) ≡ Some v → length (filter (λ e. test e.1) (f ∷ es)) < length (f ∷ es)) [
        | true ↦ λ e.
            let fails : test f.1 ≡ false = ap (λ o. test (unwrap_or o f.1)) e ∙ nope in
            subst (λ b. length (cond b (f ∷ filter (λ e. test e.1) es) (filter (λ e. test e.1) es)) < length (f ∷ es)) (sym fails) (omega arith)
        | false ↦ λ e.
            let rest : length (filter (λ e. test e.1) es) < length es = filter-shorter test q v es e nope in
            elim (test f.1) as (λ b. length (cond b (f ∷ filter (λ e. test e.1) es) (filter (λ e. test e.1) es)) < length (f ∷ es)) [ true ↦ omega arith | false ↦ omega arith ]
      ] e

  count-shorter : (p : X → Bool) (xs : List X) (i : ℕ) (x : X) → slice_get xs i ≡ Some x → p x ≡ false → count_by p xs < length xs
  count-shorter p [] i x e nope = absurd (false≢true (ap is_some e))
  count-shorter p (y ∷ xs) zero x e nope =
      let one : X → ℕ = λ x. cond (p x) 1 0 in
      let whole : count_by p (y ∷ xs) ≡ one y + count_by p xs = sum_by-cons one y xs in
      let fails : one y ≡ 0 = ap (λ o. one (unwrap_or o y)) e ∙ ap (λ b. cond b 1 0) nope in
      let rest : count_by p xs ≤ length xs = count_by-le-length p xs in
      omega arith
  count-shorter p (y ∷ xs) (suc i) x e nope =
      let one : X → ℕ = λ x. cond (p x) 1 0 in
      let whole : count_by p (y ∷ xs) ≡ one y + count_by p xs = sum_by-cons one y xs in
      let small : one y ≤ 1 = elim (p y) as (λ b. cond b 1 0 ≤ 1) [ true ↦ omega arith | false ↦ omega arith ] in
      let rest : count_by p xs < length xs = count-shorter p xs i x e nope in
      omega arith

module _ (directory : CellMap) (snapshot : Option SnapshotTables) (slots : List Slot) (sides : Sides) (st : StandFor directory snapshot slots sides) where
  -- the directory has just the parent's cells
  pub directory-cells : keys directory ≡ parent_cells sides.leaves
  directory-cells = parent_cells-alike sides.leaves st.kept.sorted (entries directory) (entries_sorted directory) (λ c. ap is_some (sym (get-entries directory c)) ∙ st.parent c)

  directory-size : len directory ≡ length (parent_cells sides.leaves)
  directory-size = len-entries directory ∙ sym (length-map (entries directory) (λ e. e.0)) ∙ ap length directory-cells

  -- as many cells as slots that they have
  within-slots : length sides.leaves ≤ length slots
  within-slots =
      let counted : count_by (λ slot. is_some slot.owner) slots ≡ length sides.leaves = st.slots_of.counted in
      let few : count_by (λ slot. is_some slot.owner) slots ≤ length slots = count_by-le-length (λ slot. is_some slot.owner) slots in
      omega arith

  -- there is room for a cell that has a slot, and that the directory lacks
  pub room-left : (c s : ℕ) (slot : Slot) → slice_get slots s ≡ Some slot → IsSlotFor sides.leaves c slot.owner → get directory c ≡ None → len directory < 512
  room-left c s slot here fits absent =
      let few : length slots ≤ 512 = st.few in
      let size : len directory ≡ length (parent_cells sides.leaves) = directory-size in
      let names : length (parent_cells sides.leaves) ≡ length (filter (λ e. has_pages e.1.parent) sides.leaves) = length-map (filter (λ e. has_pages e.1.parent) sides.leaves) (λ e. e.0) in
      let none : has_pages (cell_at sides.leaves c).parent ≡ false = sym (st.parent c) ∙ ap is_some absent in
      elim fits [
        | inl mine ↦
            let within : length sides.leaves ≤ length slots = within-slots in
            let fewer : length (filter (λ e. has_pages e.1.parent) sides.leaves) < length sides.leaves =
            found-fails (find nat_cmp c sides.leaves) refl (st.slots_of.used s c (ap (option_and_then (λ it. it.owner)) here ∙ mine)) none in
            omega arith
        | inr free ↦
            let counted : count_by (λ slot. is_some slot.owner) slots ≡ length sides.leaves = st.slots_of.counted in
            let fewer : count_by (λ slot. is_some slot.owner) slots < length slots = count-shorter (λ slot. is_some slot.owner) slots s slot here (ap is_some free.0) in
            let within : length (filter (λ e. has_pages e.1.parent) sides.leaves) ≤ length sides.leaves = filter-within (λ cell. has_pages cell.parent) sides.leaves in
            omega arith
      ]
    where
      found-fails : (o : Option CellLeaves) → find nat_cmp c sides.leaves ≡ o → is_some o ≡ true → has_pages (unwrap_or o unused_cell).parent ≡ false
          → length (filter (λ e. has_pages e.1.parent) sides.leaves) < length sides.leaves
      found-fails None e there nope = absurd (false≢true there)
      found-fails (Some cell) e there nope = filter-shorter (λ cell. has_pages cell.parent) c cell sides.leaves e nope

-- a slot that serves a cell serves it whatever sides the tables stand for
pub fits-again : (directory : CellMap) (snapshot : Option SnapshotTables) (slots : List Slot) (first second : Sides)
    → StandFor directory snapshot slots first → StandFor directory snapshot slots second
    → (c : ℕ) (owner : Option ℕ) → IsSlotFor first.leaves c owner → IsSlotFor second.leaves c owner
fits-again directory snapshot slots first second st st_too c owner fits = elim fits [
  | inl mine ↦ inl mine
  | inr free ↦ inr (free.0, nobody (is_some (find nat_cmp c second.leaves)) refl free.1)
]
  where
    nobody : (b : Bool) → is_some (find nat_cmp c second.leaves) ≡ b → is_some (find nat_cmp c first.leaves) ≡ false → is_some (find nat_cmp c second.leaves) ≡ false
    nobody false e none = e
    nobody true e none =
        let owned : (s : ℕ) × (owner_at slots s ≡ Some c) = st_too.slots_of.owned c e in
        absurd (false≢true (sym none ∙ st.slots_of.used owned.0 c owned.1))
