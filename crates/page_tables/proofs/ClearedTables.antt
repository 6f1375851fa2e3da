-- Tables of which one cell loses pages of the parent: they stand for the sides without those pages, and give back the frames that those held.
use Rattle.std.proofs.Common.{◌≡◌, ◌≢◌, ℕ, ◌+◌, ◌*◌, ◌/◌, ◌<◌, ◌≤◌, List, [], ◌∷◌, length, map, Option, Some, None, cond, eqb, refl, sym, ◌∙◌, ap, subst, arith, inl, inr}
use Rattle.std.specs.Prelude.{Bool, true, false, is_some, slice_set, ◌||◌, ◌==◌, not}
use Rattle.std.specs.Option.{option_and_then}
use Rattle.std.specs.List.{slice_get, list_any}
use Rattle.std.specs.FinMap.{get, remove, retain_keys, get-empty}
use Rattle.std.proofs.lemmas.Bool.{cases_eq, cond-true, cond-false, eq-eqb, ne_eqb, false≢true}
use Rattle.vm_base.specs.Deals.{Deal}
use Rattle.vm_base.specs.FlatStep.{is_beyond}
use Rattle.kernel_meaning.specs.Requests.{answers_of, opening_requests}
use Rattle.kernel_meaning.specs.Leaves.{CellLeaves, unused_cell, has_present, has_pages}
use Rattle.kernel_meaning.specs.FrameLaw.{cell_at, is_used}
use Rattle.kernel_meaning.specs.CellAccount.{CellState, CellAccount, Clear, empty_state, state_after}
use Rattle.leaf_cell.specs.CellView.{CellView, AreUnjoined}
use Rattle.leaf_cell.specs.Standing.{StandsFor, TakesAccount}
use Rattle.leaf_cell.proofs.Without.{length-without}
use Rattle.table_levels.specs.Cells.{CellMap}
use Rattle.table_levels.specs.Requests.{returned}
use Rattle.table_levels.proofs.CellLemmas.{get_removed}
use Rattle.page_tables.specs.declared.slot.Slot.{Slot}
use Rattle.page_tables.specs.declared.tables.SnapshotTables.{SnapshotTables}
use Rattle.page_tables.specs.Sides.{Sides}
use Rattle.page_tables.specs.Courses.{Runs}
use Rattle.page_tables.specs.Clearing.{cell_without, sides_without, cell_unmapped}
use Rattle.page_tables.specs.Standing.{owner_at, state_in, AreCellsOf, StandFor, numbers_at, slot_in}
use Rattle.page_tables.proofs.ClearedCell.{share_freed, cleared-is, tables_freed, unmapped-runs, retained-inside, retained-outside}
use Rattle.page_tables.proofs.GoneCell.{cell_at-gone, cell_at-stays, find-stays, kept-gone, unused-cell, no-page, stands-empty}
use Rattle.page_tables.proofs.FreedSlots.{freed_slots, owner-of-other, slots-freed}
use Rattle.page_tables.proofs.SlotLemmas.{cells_with, cells_with-here, cells_with-apart, length-set}
use Rattle.page_tables.proofs.LeafMap.{cell_at-here, cell_at-apart}
use Rattle.page_tables.proofs.SlotLemmas.{owner-same}
use Rattle.page_tables.proofs.Acting.{tables-acted}

module _ (directory : CellMap) (snapshot : Option SnapshotTables) (slots : List Slot) (sides : Sides) (st : StandFor directory snapshot slots sides)
    (c s : ℕ) (slot : Slot) (known : get directory c ≡ Some s) (here : slice_get slots s ≡ Some slot) where
  pub mine : slot.owner ≡ Some c
  mine = sym (ap (option_and_then (λ it. it.owner)) here) ∙ st.named c s known

  abbrev pub account : CellAccount
  account = record { state = st.cells c; made = sides.made }

  pub stood : StandsFor slot.cell account
  stood = subst (λ owner. StandsFor slot.cell (record { state = state_in st.cells owner; made = sides.made })) mine (st.slots_of.stands s slot here)

  pub had : has_pages (cell_at sides.leaves c).parent ≡ true
  had = sym (st.parent c) ∙ ap is_some known

  module _ (first n : ℕ) (present : has_present (cell_at sides.leaves c).parent first n ≡ true) (fits : first + n ≤ 512) where
    abbrev pub after : CellLeaves
    after = cell_without first n (cell_at sides.leaves c)

    pub size : length after.parent ≡ 512
    size = length-without (cell_at sides.leaves c).parent first n (subst (λ m. first + n ≤ m) (sym (st.kept.sizes c)) fits) ∙ st.kept.sizes c

    abbrev then : Sides
    then = sides_without c first n sides

    module _ (view : CellView) (deals : List Deal) (takes : TakesAccount (Clear first n) slot.cell view deals None account) where
      abbrev pub state : CellState
      state = record { leaves = after; pages = retain_keys (st.cells c).pages (is_beyond first n); snapshots = (st.cells c).snapshots }

      pub stands_then : StandsFor view (record { state = state; made = sides.made })
      stands_then =
          subst (λ cell. StandsFor view (record { state = record { leaves = cell_without first n cell; pages = state.pages; snapshots = state.snapshots }; made = sides.made })) (st.each.leaves c)
          (subst (λ course. StandsFor view (record { state = state_after (Clear first n) course (st.cells c); made = course.requests.made }))
          (cleared-is first n (st.cells c).leaves (opening_requests sides.made (answers_of deals))
          (ap (λ cell. has_present cell.parent first n) (st.each.leaves c) ∙ present)
          (subst (λ cell. AreUnjoined cell.kept) (sym (st.each.leaves c)) (st.kept.unjoined c)))
          takes.stands)

      inside : (p : ℕ) → p < 512 → get state.pages p ≡ get then.pages (c * 512 + p)
      inside = retained-inside (st.cells c).pages sides.pages c first n (st.each.pages c)

      outside : (q : ℕ) → q / 512 ≢ c → get then.pages q ≡ get sides.pages q
      outside = retained-outside sides.pages c first n fits

      -- somebody has the cell still
      module _ (used : is_used after ≡ true) where
        abbrev pub kept_slots : List Slot
        kept_slots = slice_set slots s (record { owner = Some c; cell = view })

        kept-named : (q t : ℕ) → get directory q ≡ Some t → owner_at kept_slots t ≡ Some q
        kept-named q t e = owner-same slots s c slot view here mine t ∙ st.named q t e

        acted : (found : CellMap) → ((q : ℕ) → is_some (get found q) ≡ has_pages (cell_at then.leaves q).parent)
            → ((q t : ℕ) → get found q ≡ Some t → owner_at kept_slots t ≡ Some q) → StandFor found snapshot kept_slots then
        acted = tables-acted directory snapshot slots sides st c s slot here (inl mine) view state sides.made (omega arith) used size
            (st.kept.unjoined c) stands_then then.pages inside outside refl refl

        -- the parent has
        pub kept-stands : has_pages after.parent ≡ true → StandFor directory snapshot kept_slots then
        kept-stands has = acted directory
            (λ q. elim (cases_eq q c) [
              | inl same ↦ ap (λ m. is_some (get directory m)) same ∙ ap is_some known ∙ sym has ∙ ap (λ cell. has_pages cell.parent) (sym (cell_at-here sides.leaves c after used q same))
              | inr apart ↦ st.parent q ∙ ap (λ cell. has_pages cell.parent) (sym (cell_at-apart sides.leaves c after used q apart))
            ])
            kept-named

        -- only a snapshot has
        pub left-stands : has_pages after.parent ≡ false → StandFor (remove directory c) snapshot kept_slots then
        left-stands none = acted (remove directory c)
            (λ q. elim (cases_eq q c) [
              | inl same ↦ ap is_some (get_removed directory c q ∙ cond-true (eqb q c) None (get directory q) (eq-eqb q c same)) ∙ sym none
                  ∙ ap (λ cell. has_pages cell.parent) (sym (cell_at-here sides.leaves c after used q same))
              | inr apart ↦ ap is_some (get_removed directory c q ∙ cond-false (eqb q c) None (get directory q) (ne_eqb q c apart)) ∙ st.parent q
                  ∙ ap (λ cell. has_pages cell.parent) (sym (cell_at-apart sides.leaves c after used q apart))
            ])
            (λ q t e. kept-named q t (was q t e))
          where
            was : (q t : ℕ) → get (remove directory c) q ≡ Some t → get directory q ≡ Some t
            was q t e = elim (cases_eq q c) [
              | inl same ↦ absurd (false≢true (ap is_some (sym (get_removed directory c q ∙ cond-true (eqb q c) None (get directory q) (eq-eqb q c same)) ∙ e)))
              | inr apart ↦ sym (get_removed directory c q ∙ cond-false (eqb q c) None (get directory q) (ne_eqb q c apart)) ∙ e
            ]

      -- nobody has it any more
      module _ (unused : is_used after ≡ false) where
        gone : after ≡ unused_cell
        gone = unused-cell after size unused

        no-kept : (cell_at sides.leaves c).kept ≡ []
        no-kept = ap (λ cell. cell.kept) gone

        no-number : numbers_at snapshot c ≡ []
        no-number = sym (st.snapshot_of.numbers c) ∙ ap (map (λ it. it.number)) no-kept

        other_cell : (q t : ℕ) → slot_in snapshot q ≡ Some t → q ≢ c
        other_cell q t e same = by snapshot no-number (ap (slot_in snapshot) (sym same) ∙ e)
          where
            by : (snapshot : Option SnapshotTables) → numbers_at snapshot c ≡ [] → slot_in snapshot c ≡ Some t → ⊥
            by None none e = false≢true (ap is_some e)
            by (Some tables) none e =
                let one : length (tables.number ∷ []) ≡ 0 = ap (λ b. length (cond b (tables.number ∷ []) [])) (sym (ap is_some e)) ∙ ap length none in
                omega (arith, one)

        cells-left : AreCellsOf then (cells_with st.cells c empty_state)
        cells-left = record {
          leaves = λ q. elim (cases_eq q c) [
            | inl same ↦ ap (λ it. it.leaves) (cells_with-here st.cells c empty_state q same) ∙ sym (cell_at-gone sides.leaves c after unused q same)
            | inr apart ↦ ap (λ it. it.leaves) (cells_with-apart st.cells c empty_state q apart) ∙ st.each.leaves q ∙ sym (cell_at-stays sides.leaves c after unused q apart)
          ];
          pages = λ q p small. elim (cases_eq q c) [
            | inl same ↦ ap (λ it. get it.pages p) (cells_with-here st.cells c empty_state q same) ∙ get-empty _ p
                ∙ sym (no-page view state sides.made stands_then gone p) ∙ stands_then.pages p small ∙ inside p small ∙ ap (λ m. get then.pages (m * 512 + p)) (sym same)
            | inr apart ↦ ap (λ it. get it.pages p) (cells_with-apart st.cells c empty_state q apart) ∙ st.each.pages q p small
                ∙ sym (outside (q * 512 + p) (λ e. apart (let d : (q * 512 + p) / 512 ≡ q = omega arith in sym d ∙ e)))
          ];
          snapshots = λ m q p small. elim (cases_eq q c) [
            | inl same ↦ ap (λ it. option_and_then (λ pages. get pages p) (get it.snapshots m)) (cells_with-here st.cells c empty_state q same)
                ∙ ap (option_and_then (λ pages. get pages p)) (get-empty _ m)
                ∙ sym (st.snapshot_of.absent m q p small (ap (λ numbers. list_any (λ k. k == m) numbers) (ap (numbers_at snapshot) same ∙ no-number)))
            | inr apart ↦ ap (λ it. option_and_then (λ pages. get pages p) (get it.snapshots m)) (cells_with-apart st.cells c empty_state q apart) ∙ st.each.snapshots m q p small
          ];
        }

        pub gone-stands : StandFor (remove directory c) snapshot (freed_slots slots s slot here view) then
        gone-stands = record {
          cells = cells_with st.cells c empty_state;
          kept = kept-gone sides.leaves c after unused st.kept;
          each = cells-left;
          slots_of = slots-freed slots s slot here view c mine sides.leaves st.cells sides.made st.slots_of after unused (stands-empty view state sides.made stands_then gone) st.kept.sorted;
          blank = λ q none. elim (cases_eq q c) [
            | inl same ↦ cells_with-here st.cells c empty_state q same
            | inr apart ↦ cells_with-apart st.cells c empty_state q apart ∙ st.blank q (ap is_some (sym (find-stays sides.leaves c after unused q apart)) ∙ none)
          ];
          few = subst (λ m. m ≤ 512) (sym (length-set slots s (record { owner = None; cell = view }))) st.few;
          parent = λ q. elim (cases_eq q c) [
            | inl same ↦ ap is_some (get_removed directory c q ∙ cond-true (eqb q c) None (get directory q) (eq-eqb q c same))
                ∙ sym (ap (λ cell. has_pages cell.parent) (cell_at-gone sides.leaves c after unused q same) ∙ ap (λ cell. has_pages cell.parent) (sym gone) ∙ no-pages)
            | inr apart ↦ ap is_some (get_removed directory c q ∙ cond-false (eqb q c) None (get directory q) (ne_eqb q c apart)) ∙ st.parent q
                ∙ ap (λ cell. has_pages cell.parent) (sym (cell_at-stays sides.leaves c after unused q apart))
          ];
          named = λ q t e. elim (cases_eq q c) [
            | inl same ↦ absurd (false≢true (ap is_some (sym (get_removed directory c q ∙ cond-true (eqb q c) None (get directory q) (eq-eqb q c same)) ∙ e)))
            | inr apart ↦ owner-of-other slots s slot here view c mine t q apart (st.named q t (sym (get_removed directory c q ∙ cond-false (eqb q c) None (get directory q) (ne_eqb q c apart)) ∙ e))
          ];
          snapshot_of = record {
            numbers = λ q. elim (cases_eq q c) [
              | inl same ↦ ap (λ cell. map (λ it. it.number) cell.kept) (cell_at-gone sides.leaves c after unused q same) ∙ sym (ap (numbers_at snapshot) same ∙ no-number)
              | inr apart ↦ ap (λ cell. map (λ it. it.number) cell.kept) (cell_at-stays sides.leaves c after unused q apart) ∙ st.snapshot_of.numbers q
            ];
            named = λ q t e. owner-of-other slots s slot here view c mine t q (other_cell q t e) (st.snapshot_of.named q t e);
            live = st.snapshot_of.live;
            absent = st.snapshot_of.absent;
          };
        }
          where
            no-pages : has_pages after.parent ≡ false
            no-pages = by (has_pages after.parent) (not (length after.kept == 0)) unused
              where
                by : (a b : Bool) → (a || b) ≡ false → a ≡ false
                by true b e = e
                by false b e = refl

    -- the deals of the unmap, where the cell gives back so many frames, and the directory so many
    pub event-runs : (freed share_less tables_less : ℕ) → freed ≡ share_less + tables_less → share_less ≡ share_freed first n (cell_at sides.leaves c)
        → tables_less ≡ tables_freed sides.leaves then.leaves
        → Runs (cell_unmapped c first n) sides.leaves sides.made (returned freed) then.leaves sides.made None
    event-runs freed share_less tables_less whole cell tables =
        unmapped-runs c first n sides.leaves sides.made present (st.kept.unjoined c) freed (omega (arith, whole, cell, tables))
