-- A directory with one cell more.
use Rattle.std.proofs.Common.{◌≡◌, ◌≢◌, ℕ, ◌+◌, ◌/◌, ◌%◌, ◌^◌, ◌<◌, cond, length, Some, None, Option, refl, sym, ◌∙◌, ap, subst, arith, inl, inr}
use Rattle.std.specs.Prelude.{IsSome}
use Rattle.std.specs.Option.{option_and_then}
use Rattle.std.specs.FinMap.{get, insert, keys}
use Rattle.std.proofs.lemmas.Bool.{cases_eq}
use Rattle.table_levels.specs.Cells.{tables_of, middle_tables_of}
use Rattle.table_levels.specs.Requests.{shares, missing_tables}
use Rattle.table_levels.specs.Walks.{Levels, entry_in, table_at, tables_at, tables_in, middle_of, slot_of, directory_cells, NamesUppers, AreNamed, IsDirectory}
use Rattle.table_levels.proofs.CellLemmas.{one_more_cell}
use Rattle.table_levels.proofs.Counting.{tables_of-insert, middle_tables_of-insert}
use Rattle.table_levels.proofs.Sharing.{upper_of_middle}

-- the cell's middle table is there under its place with the slot, and all else is as it was
pub record Inserts (old new : Levels) (cell slot place : ℕ) : Type 0 where
  pub uppers : length new.uppers ≡ 512
  pub middles : length new.middles ≡ 512
  pub names : NamesUppers new.top new.uppers
  pub named : AreNamed new.top new.uppers
  pub kept : (i : ℕ) → i ≢ cell / 512 / 512 → table_at new.uppers i ≡ table_at old.uppers i
  pub here : middle_of new (cell / 512) ≡ Some place
  pub others : (index : ℕ) → index < 2 ^ 18 → index ≢ cell / 512 → middle_of new index ≡ middle_of old index
  pub unused : (index : ℕ) → index < 2 ^ 18 → index ≢ cell / 512 → middle_of old index ≡ Some place → ⊥
  pub place_below : place < 512
  pub there : IsSome (table_at new.middles place)
  pub slot_here : entry_in (table_at new.middles place) (cell % 512) ≡ Some slot
  pub slot_rest : (j : ℕ) → j < 512 → j ≢ cell % 512 → entry_in (table_at new.middles place) j ≡ option_and_then (λ m. entry_in (table_at old.middles m) j) (middle_of old (cell / 512))
  pub tables : (m : ℕ) → m ≢ place → table_at new.middles m ≡ table_at old.middles m

module _ (old new : Levels) (cell slot place n : ℕ) (directory : IsDirectory old n) (inserts : Inserts old new cell slot place) (below : cell < 2 ^ 27) where
  pub slot_inserted : slot_of new cell ≡ Some slot
  slot_inserted = ap (option_and_then (λ m. entry_in (table_at new.middles m) (cell % 512))) inserts.here ∙ inserts.slot_here

  -- a middle table of another place
  elsewhere : (index k : ℕ) → index < 2 ^ 18 → index ≢ cell / 512 → (found : Option ℕ) → middle_of old index ≡ found
      → option_and_then (λ m. entry_in (table_at new.middles m) k) found ≡ option_and_then (λ m. entry_in (table_at old.middles m) k) found
  elsewhere index k lt apart None at = refl
  elsewhere index k lt apart (Some m) at = ap (λ p. entry_in p k) (inserts.tables m (λ same. inserts.unused index lt apart (at ∙ ap Some same)))

  pub slot_kept : (c : ℕ) → c < 2 ^ 27 → c ≢ cell → slot_of new c ≡ slot_of old c
  slot_kept c lt apart = elim (cases_eq (c / 512) (cell / 512)) [
    | inl same ↦
        let place_apart : c % 512 ≢ cell % 512 = λ same_place. apart (omega arith) in
        ap (λ index. option_and_then (λ m. entry_in (table_at new.middles m) (c % 512)) (middle_of new index)) same
        ∙ ap (option_and_then (λ m. entry_in (table_at new.middles m) (c % 512))) inserts.here
        ∙ inserts.slot_rest (c % 512) (omega arith) place_apart
        ∙ sym (ap (λ index. option_and_then (λ m. entry_in (table_at old.middles m) (c % 512)) (middle_of old index)) same)
    | inr other ↦
        ap (option_and_then (λ m. entry_in (table_at new.middles m) (c % 512))) (inserts.others (c / 512) (omega arith) other)
        ∙ elsewhere (c / 512) (c % 512) (omega arith) other (middle_of old (c / 512)) refl
  ]

  pub cells_inserted : directory_cells new ≡ insert (directory_cells old) cell slot
  cells_inserted = one_more_cell (2 ^ 27) (slot_of old) (slot_of new) cell slot below slot_inserted slot_kept

  pub directory_inserted : get (directory_cells old) cell ≡ None → (extra : ℕ) → tables_in new ≡ n + extra
      → extra ≡ length (missing_tables (keys (directory_cells old)) cell)
      → tables_at new.middles ≡ tables_at old.middles + cond (shares (2 ^ 9) (keys (directory_cells old)) cell) 0 1
      → IsDirectory new (n + extra)
  directory_inserted absent extra counted missing middles_counted =
      let index = cell / 512 in
      let index_below : index < 2 ^ 18 = omega arith in
      record {
        uppers = inserts.uppers;
        middles = inserts.middles;
        upper_there = inserts.names;
        upper_named = inserts.named;
        middle_there = λ o m lt at. elim (cases_eq o index) [
          | inl same ↦
              let found : Some m ≡ Some place = sym at ∙ ap (middle_of new) same ∙ inserts.here in
              let is : m ≡ place = cc in
              (omega (arith, inserts.place_below), subst (λ p. IsSome (table_at new.middles p)) (sym is) inserts.there)
          | inr apart ↦
              let before = sym (inserts.others o lt apart) ∙ at in
              let known = directory.middle_there o m lt before in
              (known.0, subst IsSome (sym (inserts.tables m (λ same. inserts.unused o lt apart (before ∙ ap Some same)))) known.1)
        ];
        middle_once = λ o other m lt lt_other at at_other. elim (cases_eq o index) [
          | inl same ↦ elim (cases_eq other index) [
            | inl same_other ↦ same ∙ sym same_other
            | inr apart_other ↦
                let found : Some m ≡ Some place = sym at ∙ ap (middle_of new) same ∙ inserts.here in
                absurd (inserts.unused other lt_other apart_other (sym (inserts.others other lt_other apart_other) ∙ at_other ∙ found))
          ]
          | inr apart ↦ elim (cases_eq other index) [
            | inl same_other ↦
                let found : Some m ≡ Some place = sym at_other ∙ ap (middle_of new) same_other ∙ inserts.here in
                absurd (inserts.unused o lt apart (sym (inserts.others o lt apart) ∙ at ∙ found))
            | inr apart_other ↦
                directory.middle_once o other m lt lt_other (sym (inserts.others o lt apart) ∙ at) (sym (inserts.others other lt_other apart_other) ∙ at_other)
          ]
        ];
        top_used = λ there. (index / 512, omega arith, upper_of_middle new index (subst IsSome (sym inserts.here) refl));
        upper_used = λ i there. elim (cases_eq i (index / 512)) [
          | inl same ↦ (index, index_below, sym same, subst IsSome (sym inserts.here) refl)
          | inr apart ↦
              let under = directory.upper_used i (subst IsSome (inserts.kept i apart) there) in
              let other : under.0 ≢ index = λ same. apart (sym under.2 ∙ ap (λ k. k / 512) same) in
              (under.0, under.1, under.2, subst IsSome (sym (inserts.others under.0 under.1 other)) under.3)
        ];
        middle_used = λ o lt there. elim (cases_eq o index) [
          | inl same ↦ (cell, below, sym same, subst IsSome (sym slot_inserted) refl)
          | inr apart ↦
              let under = directory.middle_used o lt (subst IsSome (inserts.others o lt apart) there) in
              let other : under.0 ≢ cell = λ same. apart (sym under.2 ∙ ap (λ c. c / 512) same) in
              (under.0, under.1, under.2, subst IsSome (sym (slot_kept under.0 under.1 other)) under.3)
        ];
        counted = sym counted;
        taken = ap (λ k. k + extra) directory.taken ∙ ap (λ k. tables_of (directory_cells old) + k) missing
            ∙ sym (ap tables_of cells_inserted ∙ tables_of-insert (directory_cells old) cell slot absent);
        middles_taken = middles_counted ∙ ap (λ k. k + cond (shares (2 ^ 9) (keys (directory_cells old)) cell) 0 1) directory.middles_taken
            ∙ sym (ap middle_tables_of cells_inserted ∙ middle_tables_of-insert (directory_cells old) cell slot absent);
      }
