-- Tables of which one cell acts stand for what the act leaves.
use Rattle.std.proofs.Common.{◌≡◌, ◌≢◌, ℕ, ◌+◌, ◌*◌, ◌/◌, ◌<◌, ◌≤◌, List, length, Option, Some, sym, ◌∙◌, ap, subst, arith, inl, inr}
use Rattle.std.specs.Prelude.{true, is_some, slice_set, map}
use Rattle.std.proofs.lemmas.Option.{slice_get_within}
use Rattle.std.specs.Option.{option_and_then}
use Rattle.std.specs.List.{slice_get}
use Rattle.std.specs.FinMap.{get}
use Rattle.std.proofs.lemmas.Bool.{cases_eq, false≢true}
use Rattle.vm_base.specs.FlatMemory.{PageMap}
use Rattle.kernel_meaning.specs.Leaves.{has_pages}
use Rattle.kernel_meaning.specs.FrameLaw.{cell_at, with_cell, is_used}
use Rattle.kernel_meaning.specs.CellAccount.{CellState}
use Rattle.leaf_cell.specs.CellView.{CellView, AreUnjoined}
use Rattle.leaf_cell.specs.Standing.{StandsFor}
use Rattle.table_levels.specs.Cells.{CellMap}
use Rattle.page_tables.specs.declared.slot.Slot.{Slot}
use Rattle.page_tables.specs.declared.tables.SnapshotTables.{SnapshotTables}
use Rattle.page_tables.specs.Sides.{Sides}
use Rattle.page_tables.specs.Standing.{owner_at, AreCellsOf, StandFor, IsSlotFor}
use Rattle.page_tables.proofs.LeafMap.{find-here, find-apart, cell_at-here, cell_at-apart, kept-with_cell}
use Rattle.page_tables.proofs.SlotLemmas.{cells_with, cells_with-here, cells_with-apart, slots-acted, length-set, slice_get-set-here, slice_get-set-apart}

module _ (directory : CellMap) (snapshot : Option SnapshotTables) (slots : List Slot) (sides : Sides) (st : StandFor directory snapshot slots sides)
    (c s : ℕ) (slot : Slot) (here : slice_get slots s ≡ Some slot) (fits : IsSlotFor sides.leaves c slot.owner)
    (view : CellView) (state : CellState) (later : ℕ) (more : sides.made ≤ later) (used : is_used state.leaves ≡ true)
    (size : length state.leaves.parent ≡ 512) (unjoined : AreUnjoined state.leaves.kept)
    (stands : StandsFor view (record { state = state; made = later }))
    (pages : PageMap) (inside : (p : ℕ) → p < 512 → get state.pages p ≡ get pages (c * 512 + p)) (outside : (q : ℕ) → q / 512 ≢ c → get pages q ≡ get sides.pages q)
    (snapshots : state.snapshots ≡ (st.cells c).snapshots) (numbers : map (λ it. it.number) state.leaves.kept ≡ map (λ it. it.number) (cell_at sides.leaves c).kept) where
  abbrev pub sides_acted : Sides
  sides_acted = record { leaves = with_cell sides.leaves c state.leaves; pages = pages; snapshots = sides.snapshots; made = later }

  abbrev pub slots_acted : List Slot
  slots_acted = slice_set slots s (record { owner = Some c; cell = view })

  cells-acted : AreCellsOf sides_acted (cells_with st.cells c state)
  cells-acted = record {
    leaves = λ q. elim (cases_eq q c) [
      | inl same ↦ ap (λ st. st.leaves) (cells_with-here st.cells c state q same) ∙ sym (cell_at-here sides.leaves c state.leaves used q same)
      | inr apart ↦ ap (λ st. st.leaves) (cells_with-apart st.cells c state q apart) ∙ st.each.leaves q ∙ sym (cell_at-apart sides.leaves c state.leaves used q apart)
    ];
    pages = λ q p small. elim (cases_eq q c) [
      | inl same ↦ ap (λ st. get st.pages p) (cells_with-here st.cells c state q same) ∙ inside p small ∙ ap (λ n. get pages (n * 512 + p)) (sym same)
      | inr apart ↦ ap (λ st. get st.pages p) (cells_with-apart st.cells c state q apart) ∙ st.each.pages q p small
          ∙ sym (outside (q * 512 + p) (λ e. apart (let d : (q * 512 + p) / 512 ≡ q = omega arith in sym d ∙ e)))
    ];
    snapshots = λ n q p small. elim (cases_eq q c) [
      | inl same ↦ ap (λ st. option_and_then (λ it. get it p) (get st.snapshots n)) (cells_with-here st.cells c state q same)
          ∙ ap (λ snaps. option_and_then (λ it. get it p) (get snaps n)) (snapshots ∙ ap (λ q. (st.cells q).snapshots) (sym same)) ∙ st.each.snapshots n q p small
      | inr apart ↦ ap (λ st. option_and_then (λ it. get it p) (get st.snapshots n)) (cells_with-apart st.cells c state q apart) ∙ st.each.snapshots n q p small
    ];
  }

  -- a cell keeps its slot
  pub owner-kept : (q t : ℕ) → owner_at slots t ≡ Some q → owner_at slots_acted t ≡ Some q
  owner-kept q t e = elim (cases_eq t s) [
    | inl same ↦
        let owned : slot.owner ≡ Some q = sym (ap (option_and_then (λ it. it.owner)) here) ∙ ap (owner_at slots) (sym same) ∙ e in
        ap (owner_at slots_acted) same ∙ ap (option_and_then (λ it. it.owner)) (slice_get-set-here slots s (record { owner = Some c; cell = view }) (slice_get_within slots s slot here))
        ∙ elim fits [ inl mine ↦ sym mine ∙ owned | inr free ↦ absurd (false≢true (ap is_some (sym free.0 ∙ owned))) ]
    | inr apart ↦ ap (option_and_then (λ it. it.owner)) (slice_get-set-apart slots s t (record { owner = Some c; cell = view }) apart) ∙ e
  ]

  pub tables-acted : (found : CellMap) → ((q : ℕ) → is_some (get found q) ≡ has_pages (cell_at sides_acted.leaves q).parent) → ((q t : ℕ) → get found q ≡ Some t → owner_at slots_acted t ≡ Some q)
      → StandFor found snapshot slots_acted sides_acted
  tables-acted found parent named = record {
    cells = cells_with st.cells c state;
    kept = kept-with_cell sides.leaves c state.leaves used size unjoined st.kept;
    each = cells-acted;
    slots_of = slots-acted sides.leaves st.cells sides.made slots st.slots_of c s slot here fits view state later more used stands st.kept.sorted;
    blank = λ q none. elim (cases_eq q c) [
      | inl same ↦ absurd (false≢true (sym none ∙ ap is_some (find-here sides.leaves c state.leaves used q same)))
      | inr apart ↦ cells_with-apart st.cells c state q apart ∙ st.blank q (ap is_some (sym (find-apart sides.leaves c state.leaves used q apart)) ∙ none)
    ];
    few = subst (λ n. n ≤ 512) (sym (length-set slots s (record { owner = Some c; cell = view }))) st.few;
    parent = parent;
    named = named;
    snapshot_of = record {
      numbers = λ q. elim (cases_eq q c) [
        | inl same ↦ ap (λ cell. map (λ it. it.number) cell.kept) (cell_at-here sides.leaves c state.leaves used q same) ∙ numbers
            ∙ ap (λ n. map (λ it. it.number) (cell_at sides.leaves n).kept) (sym same) ∙ st.snapshot_of.numbers q
        | inr apart ↦ ap (λ cell. map (λ it. it.number) cell.kept) (cell_at-apart sides.leaves c state.leaves used q apart) ∙ st.snapshot_of.numbers q
      ];
      named = λ q t e. owner-kept q t (st.snapshot_of.named q t e);
      live = st.snapshot_of.live;
      absent = st.snapshot_of.absent;
    };
  }
