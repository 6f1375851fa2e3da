-- Tables that nothing has changed stand for the same sides behind more requests.
use Rattle.std.proofs.Common.{◌≡◌, ℕ, ◌≤◌, List, Option, Some, None, cond, eqb, refl, sym, ◌∙◌, ap, inl, inr}
use Rattle.std.specs.Prelude.{Bool, true, false, is_some, not, unwrap_or}
use Rattle.std.specs.Ordering.{nat_cmp}
use Rattle.std.specs.Cmp.{nat_cmp_total}
use Rattle.std.specs.FinMap.{find, nat_cmp-IsAntisymmetric}
use Rattle.std.specs.FinMap.Entries.{same_entries, where_key, is_sorted-where_key, find-where_key}
use Rattle.std.proofs.lemmas.Bool.{cases_eq, cond-false, eq-eqb, ne_eqb, false≢true}
use Rattle.kernel_meaning.specs.Leaves.{CellLeaves, unused_cell}
use Rattle.kernel_meaning.specs.FrameLaw.{Leaves, cell_at, with_cell, is_used}
use Rattle.kernel_meaning.specs.CellAccount.{CellState}
use Rattle.table_levels.specs.Cells.{CellMap}
use Rattle.page_tables.specs.declared.slot.Slot.{Slot}
use Rattle.page_tables.specs.declared.tables.SnapshotTables.{SnapshotTables}
use Rattle.page_tables.specs.Sides.{Sides}
use Rattle.page_tables.specs.Standing.{AreKept, AreSlotsOf, StandFor, state_in}
use Rattle.page_tables.proofs.LeafMap.{find-here, find-apart, sorted-with_cell, found-used}
use Rattle.page_tables.proofs.SlotLemmas.{stands-later}

pub slots-later : (leaves : Leaves) (cells : ℕ → CellState) (made later : ℕ) (slots : List Slot) → made ≤ later → AreSlotsOf leaves cells made slots → AreSlotsOf leaves cells later slots
slots-later leaves cells made later slots more of = record {
  stands = λ s slot here. stands-later slot.cell (state_in cells slot.owner) made later more (of.stands s slot here);
  once = of.once;
  used = of.used;
  owned = of.owned;
  counted = of.counted;
}

pub tables-later : (directory : CellMap) (snapshot : Option SnapshotTables) (slots : List Slot) (sides : Sides) (later : ℕ) → sides.made ≤ later
    → StandFor directory snapshot slots sides → StandFor directory snapshot slots (record sides { made = later })
tables-later directory snapshot slots sides later more st = record {
  cells = st.cells;
  kept = st.kept;
  each = record { leaves = st.each.leaves; pages = st.each.pages; snapshots = st.each.snapshots };
  slots_of = slots-later sides.leaves st.cells sides.made later slots more st.slots_of;
  blank = st.blank;
  few = st.few;
  parent = st.parent;
  named = st.named;
  snapshot_of = record { numbers = st.snapshot_of.numbers; named = st.snapshot_of.named; live = st.snapshot_of.live; absent = st.snapshot_of.absent };
}

-- a cell that becomes what it is leaves the map as it is
pub with_cell-same : (leaves : Leaves) (c : ℕ) → AreKept leaves → with_cell leaves c (cell_at leaves c) ≡ leaves
with_cell-same leaves c kept = by-use (is_used (cell_at leaves c)) refl
  where
    there : (o : Option CellLeaves) → find nat_cmp c leaves ≡ o → is_used (unwrap_or o unused_cell) ≡ true → find nat_cmp c leaves ≡ Some (cell_at leaves c)
    there None e used = absurd (false≢true used)
    there (Some cell) e used = e ∙ ap (λ o. Some (unwrap_or o unused_cell)) (sym e)

    gone : (o : Option CellLeaves) → find nat_cmp c leaves ≡ o → is_used (cell_at leaves c) ≡ false → find nat_cmp c leaves ≡ None
    gone None e unused = e
    gone (Some cell) e unused = absurd (false≢true (sym unused ∙ found-used leaves kept.in_use c (ap is_some e)))

    keeps : (x : ℕ) → not (eqb x c) ≡ false → x ≡ c
    keeps x e = elim (cases_eq x c) [ inl same ↦ same | inr apart ↦ absurd (false≢true (sym e ∙ ap not (ne_eqb x c apart))) ]

    by-use : (b : Bool) → is_used (cell_at leaves c) ≡ b → with_cell leaves c (cell_at leaves c) ≡ leaves
    by-use true used = same_entries nat_cmp nat_cmp_total nat_cmp-IsAntisymmetric (with_cell leaves c (cell_at leaves c)) leaves
        (sorted-with_cell leaves c (cell_at leaves c) used kept.sorted) kept.sorted
        (λ q. elim (cases_eq q c) [
          | inl same ↦ find-here leaves c (cell_at leaves c) used q same ∙ sym (ap (λ n. find nat_cmp n leaves) same ∙ there (find nat_cmp c leaves) refl used)
          | inr apart ↦ find-apart leaves c (cell_at leaves c) used q apart
        ])
    by-use false unused =
        let test : ℕ → Bool = λ n. not (eqb n c) in
        cond-false (is_used (cell_at leaves c)) _ _ unused
        ∙ same_entries nat_cmp nat_cmp_total nat_cmp-IsAntisymmetric (where_key nat_cmp test leaves) leaves (is_sorted-where_key nat_cmp test leaves kept.sorted) kept.sorted
        (λ q. find-where_key nat_cmp test q (λ x e. ap test (sym (nat_cmp-IsAntisymmetric q x e))) leaves
        ∙ elim (cases_eq q c) [
          | inl same ↦ ap (λ b. cond (not b) (find nat_cmp q leaves) None) (eq-eqb q c same) ∙ sym (ap (λ n. find nat_cmp n leaves) same ∙ gone (find nat_cmp c leaves) refl unused)
          | inr apart ↦ ap (λ b. cond (not b) (find nat_cmp q leaves) None) (ne_eqb q c apart)
        ])
