-- A directory with one cell less.
use Rattle.std.proofs.Common.{◌≡◌, ◌≢◌, ℕ, ◌+◌, ◌*◌, ◌/◌, ◌%◌, ◌^◌, ◌<◌, ◌⊎◌, cond, length, Some, None, Option, refl, sym, ◌∙◌, ap, subst, arith, inl, inr}
use Rattle.std.specs.Prelude.{IsSome, is_some}
use Rattle.std.specs.Option.{option_and_then}
use Rattle.std.specs.FinMap.{get, insert, remove, keys}
use Rattle.std.proofs.lemmas.Bool.{cases_eq, ne_eqb, false≢true}
use Rattle.vm_base.proofs.NumberedMaps.{get_inserted_here, get_inserted_apart, same_numbered}
use Rattle.table_levels.specs.Cells.{CellMap, tables_of, middle_tables_of}
use Rattle.table_levels.specs.Requests.{shares, missing_tables, wanted_tables}
use Rattle.table_levels.specs.Walks.{Levels, entry_in, table_at, tables_at, tables_in, middle_of, slot_of, directory_cells, NamesUppers, AreNamed, IsDirectory}
use Rattle.table_levels.specs.Links.{IsInUse, wanted_for}
use Rattle.table_levels.proofs.CellLemmas.{one_cell_less, get_removed}
use Rattle.table_levels.proofs.Counting.{unless_one, tables_of-insert, middle_tables_of-insert}
use Rattle.table_levels.proofs.Sharing.{IsUsed, middle_shared}
use Rattle.table_levels.proofs.Linked.{wanted_for_used}
use Rattle.table_levels.proofs.Walking.{middle_under, slot_under_middle, slot_there, get-cells_of}

-- the slot of a cell is gone from its middle table, and of the tables on the way those stay that have an entry
pub record Removes (old new : Levels) (cell place : ℕ) : Type 0 where
  pub uppers : length new.uppers ≡ 512
  pub middles : length new.middles ≡ 512
  pub names : NamesUppers new.top new.uppers
  pub named : AreNamed new.top new.uppers
  pub kept : (i : ℕ) → i ≢ cell / 512 / 512 → table_at new.uppers i ≡ table_at old.uppers i
  pub was : middle_of old (cell / 512) ≡ Some place
  pub here : ((middle_of new (cell / 512) ≡ Some place) × IsSome (table_at new.middles place)) ⊎ ((middle_of new (cell / 512) ≡ None) × (table_at new.middles place ≡ None))
  pub others : (index : ℕ) → index < 2 ^ 18 → index ≢ cell / 512 → middle_of new index ≡ middle_of old index
  pub slot_gone : entry_in (table_at new.middles place) (cell % 512) ≡ None
  pub slot_rest : (j : ℕ) → j < 512 → j ≢ cell % 512 → entry_in (table_at new.middles place) j ≡ entry_in (table_at old.middles place) j
  pub tables : (m : ℕ) → m ≢ place → table_at new.middles m ≡ table_at old.middles m
  pub middle_used : IsInUse (table_at new.middles place)
  pub upper_used : IsInUse (table_at new.uppers (cell / 512 / 512))
  pub top_used : IsInUse new.top

-- to put back what was taken out
insert-remove : (m : CellMap) (cell slot : ℕ) → get m cell ≡ Some slot → insert (remove m cell) cell slot ≡ m
insert-remove m cell slot there = same_numbered _ _ (λ q. elim (cases_eq q cell) [
  | inl same ↦ get_inserted_here (remove m cell) cell slot q same ∙ sym (ap (get m) same ∙ there)
  | inr apart ↦ get_inserted_apart (remove m cell) cell slot q apart ∙ get_removed m cell q ∙ ap (λ b. cond b None (get m q)) (ne_eqb q cell apart)
])

module _ (old new : Levels) (cell place n : ℕ) (directory : IsDirectory old n) (removes : Removes old new cell place) (below : cell < 2 ^ 27) where
  index_below : cell / 512 < 2 ^ 18
  index_below = omega arith

  -- a middle table that is named has its name and its table from before
  there_before : (o m : ℕ) → o < 2 ^ 18 → middle_of new o ≡ Some m → (middle_of old o ≡ Some m) × IsSome (table_at new.middles m)
  there_before o m lt at = elim (cases_eq o (cell / 512)) [
    | inl same ↦ elim removes.here [
      | inl here ↦
          let found : Some m ≡ Some place = sym at ∙ ap (middle_of new) same ∙ here.0 in
          let is : m ≡ place = cc in
          (ap (middle_of old) same ∙ removes.was ∙ ap Some (sym is), subst (λ p. IsSome (table_at new.middles p)) (sym is) here.1)
      | inr gone ↦
          let found : Some m ≡ None = sym at ∙ ap (middle_of new) same ∙ gone.0 in
          absurd cc
    ]
    | inr apart ↦
        let before = sym (removes.others o lt apart) ∙ at in
        let elsewhere : m ≢ place = λ same. apart (directory.middle_once o (cell / 512) place lt index_below (before ∙ ap Some same) removes.was) in
        (before, subst IsSome (sym (removes.tables m elsewhere)) (directory.middle_there o m lt before).1)
  ]

  -- a slot of the same middle table
  slot_beside : (c : ℕ) → c / 512 ≡ cell / 512 → slot_of new c ≡ entry_in (table_at new.middles place) (c % 512)
  slot_beside c same = elim removes.here [
    | inl here ↦ slot_there new c place (ap (middle_of new) same ∙ here.0)
    | inr gone ↦ ap (option_and_then (λ m. entry_in (table_at new.middles m) (c % 512))) (ap (middle_of new) same ∙ gone.0)
        ∙ sym (ap (λ p. entry_in p (c % 512)) gone.1)
  ]

  slot_gone : slot_of new cell ≡ None
  slot_gone = slot_beside cell refl ∙ removes.slot_gone

  -- a slot of a middle table elsewhere
  slot_elsewhere : (c o : ℕ) → o ≡ c / 512 → o < 2 ^ 18 → o ≢ cell / 512 → (found : Option ℕ) → middle_of old o ≡ found
      → option_and_then (λ m. entry_in (table_at new.middles m) (c % 512)) found ≡ option_and_then (λ m. entry_in (table_at old.middles m) (c % 512)) found
  slot_elsewhere c o is lt apart None at = refl
  slot_elsewhere c o is lt apart (Some m) at =
      let elsewhere : m ≢ place = λ same. apart (directory.middle_once o (cell / 512) place lt index_below (at ∙ ap Some same) removes.was) in
      ap (λ p. entry_in p (c % 512)) (removes.tables m elsewhere)

  slot_kept : (c : ℕ) → c < 2 ^ 27 → c ≢ cell → slot_of new c ≡ slot_of old c
  slot_kept c lt apart = elim (cases_eq (c / 512) (cell / 512)) [
    | inl same ↦
        let place_apart : c % 512 ≢ cell % 512 = λ same_place. apart (omega arith) in
        slot_beside c same ∙ removes.slot_rest (c % 512) (omega arith) place_apart ∙ sym (slot_there old c place (ap (middle_of old) same ∙ removes.was))
    | inr other ↦
        ap (option_and_then (λ m. entry_in (table_at new.middles m) (c % 512))) (removes.others (c / 512) (omega arith) other)
        ∙ slot_elsewhere c (c / 512) refl (omega arith) other (middle_of old (c / 512)) refl
  ]

  pub cells_removed : directory_cells new ≡ remove (directory_cells old) cell
  cells_removed = one_cell_less (2 ^ 27) (slot_of old) (slot_of new) cell slot_gone slot_kept

  -- each table is used
  pub removed_used : IsUsed new
  removed_used = record {
    upper_there = removes.names;
    top_used = removes.top_used;
    upper_used = λ i there. elim (cases_eq i (cell / 512 / 512)) [
      | inl same ↦
          let u = cell / 512 / 512 in
          let upper : IsSome (table_at new.uppers u) = subst (λ k. IsSome (table_at new.uppers k)) same there in
          let entry = removes.upper_used upper in
          let at = middle_under new.top new.uppers u entry.0 removes.named (omega arith) entry.1 upper in
          (u * 512 + entry.0, omega (arith, entry.1), omega (arith, entry.1), subst IsSome (sym at) entry.2)
      | inr apart ↦
          let under = directory.upper_used i (subst IsSome (removes.kept i apart) there) in
          let other : under.0 ≢ cell / 512 = λ same. apart (sym under.2 ∙ ap (λ k. k / 512) same) in
          (under.0, under.1, under.2, subst IsSome (sym (removes.others under.0 under.1 other)) under.3)
    ];
    middle_used = λ o lt there. elim (cases_eq o (cell / 512)) [
      | inl same ↦ elim removes.here [
        | inl here ↦
            let entry = removes.middle_used here.1 in
            let at = slot_under_middle new (cell / 512) place entry.0 entry.1 here.0 in
            (cell / 512 * 512 + entry.0, omega (arith, entry.1), omega (arith, entry.1, same), subst IsSome (sym at) entry.2)
        | inr gone ↦ absurd (false≢true (subst IsSome (ap (middle_of new) same ∙ gone.0) there))
      ]
      | inr apart ↦
          let under = directory.middle_used o lt (subst IsSome (removes.others o lt apart) there) in
          let other : under.0 ≢ cell = λ same. apart (sym under.2 ∙ ap (λ c. c / 512) same) in
          (under.0, under.1, under.2, subst IsSome (sym (slot_kept under.0 under.1 other)) under.3)
    ];
  }

  -- so many tables are gone as the cell would miss
  pub tables_missing : length (wanted_tables (wanted_for new cell)) ≡ length (missing_tables (keys (directory_cells new)) cell)
  tables_missing = ap length (wanted_for_used new removed_used cell below)

  pub directory_removed : (slot : ℕ) → slot_of old cell ≡ Some slot → (left : ℕ) → tables_in new ≡ left → left + length (wanted_tables (wanted_for new cell)) ≡ n
      → tables_at new.middles + unless_one (is_some (middle_of new (cell / 512))) ≡ tables_at old.middles → IsDirectory new left
  directory_removed slot there left counted sum middles_counted =
      let cells = directory_cells new in
      let back : insert cells cell slot ≡ directory_cells old =
      ap (λ m. insert m cell slot) cells_removed ∙ insert-remove (directory_cells old) cell slot (get-cells_of old cell below ∙ there) in
      let absent : get cells cell ≡ None = get-cells_of new cell below ∙ slot_gone in
      let whole : tables_of (directory_cells old) ≡ tables_of cells + length (missing_tables (keys cells) cell) =
      ap tables_of (sym back) ∙ tables_of-insert cells cell slot absent in
      let whole_middles : middle_tables_of (directory_cells old) ≡ middle_tables_of cells + unless_one (shares (2 ^ 9) (keys cells) cell) =
      ap middle_tables_of (sym back) ∙ middle_tables_of-insert cells cell slot absent in
      let shared : unless_one (shares (2 ^ 9) (keys cells) cell) ≡ unless_one (is_some (middle_of new (cell / 512))) =
      ap unless_one (middle_shared new removed_used cell below) in
      record {
        uppers = removes.uppers;
        middles = removes.middles;
        upper_there = removes.names;
        upper_named = removes.named;
        middle_there = λ o m lt at.
            let before = there_before o m lt at in
            ((directory.middle_there o m lt before.0).0, before.1);
        middle_once = λ o other m lt lt_other at at_other. directory.middle_once o other m lt lt_other (there_before o m lt at).0 (there_before other m lt_other at_other).0;
        top_used = removes.top_used;
        upper_used = removed_used.upper_used;
        middle_used = removed_used.middle_used;
        counted = sym counted;
        taken = omega (arith, sum, directory.taken, whole, tables_missing);
        middles_taken = omega (arith, middles_counted, directory.middles_taken, whole_middles, shared);
      }
