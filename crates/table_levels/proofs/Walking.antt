-- The walk through the levels, step by step.
use Rattle.std.proofs.Common.{◌≡◌, ℕ, zero, suc, ◌+◌, ◌*◌, ◌<◌, ◌/◌, ◌%◌, ◌^◌, List, [], ◌∷◌, length, get_or, replicate, Some, None, refl, sym, ◌∙◌, ap, subst, arith}
use Rattle.std.specs.Option.{option_and_then}
use Rattle.std.specs.FinMap.{get, empty}
use Rattle.std.specs.Prelude.{IsSome}
use Rattle.std.proofs.lemmas.List.{length-replicate}
use Rattle.std.proofs.lemmas.Bool.{false≢true}
use Rattle.table_levels.specs.Cells.{tables_of, middle_tables_of}
use Rattle.table_levels.proofs.Counting.{tables_of-empty, middle_tables_of-empty}
use Rattle.table_levels.specs.Walks.{Place, Levels, table_at, entry_in, middle_at, middle_of, slot_of, directory_cells, tables_at, AreNamed, IsDirectory}
use Rattle.table_levels.proofs.CellLemmas.{get_below, no_cells}

-- the table at a place of the list
pub table_at-get : (places : List Place) (i : ℕ) (d : Place) → i < length places → table_at places i ≡ get_or places i d
table_at-get [] i d inside = absurd (omega arith)
table_at-get (p ∷ places) zero d inside = refl
table_at-get (p ∷ places) (suc i) d inside = table_at-get places i d (omega arith)

-- places that are all free
pub table_at-free : (n i : ℕ) → table_at (replicate n None) i ≡ None
table_at-free zero i = refl
table_at-free (suc n) zero = refl
table_at-free (suc n) (suc i) = table_at-free n i

-- a look-up of the map is the walk
pub get-cells_of : (levels : Levels) (cell : ℕ) → cell < 2 ^ 27 → get (directory_cells levels) cell ≡ slot_of levels cell
get-cells_of levels cell below = get_below (2 ^ 27) (slot_of levels) cell below

-- the slot under a middle table
pub slot_there : (levels : Levels) (cell middle : ℕ) → middle_of levels (cell / 512) ≡ Some middle → slot_of levels cell ≡ entry_in (table_at levels.middles middle) (cell % 512)
slot_there levels cell middle there = ap (option_and_then (λ m. entry_in (table_at levels.middles m) (cell % 512))) there

-- there is no slot where there is no middle table
pub slot_absent : (levels : Levels) (cell : ℕ) → middle_of levels (cell / 512) ≡ None → slot_of levels cell ≡ None
slot_absent levels cell absent = ap (option_and_then (λ m. entry_in (table_at levels.middles m) (cell % 512))) absent

-- the middle table under an upper table, by its place there
pub middle_under : (top : Place) (uppers : List Place) (i j : ℕ) → AreNamed top uppers → i < 512 → j < 512 → IsSome (table_at uppers i) → middle_at top uppers (i * 512 + j) ≡ entry_in (table_at uppers i) j
middle_under top uppers i j named inside below there =
    let upper : (i * 512 + j) / 512 ≡ i = omega arith in
    let place : (i * 512 + j) % 512 ≡ j = omega arith in
    ap (λ k. option_and_then (λ u. entry_in (table_at uppers u) ((i * 512 + j) % 512)) (entry_in top k)) upper
    ∙ ap (option_and_then (λ u. entry_in (table_at uppers u) ((i * 512 + j) % 512))) (named i there) ∙ ap (entry_in (table_at uppers i)) place

-- the slot of a cell, by its place in its middle table
pub slot_under_middle : (levels : Levels) (index middle j : ℕ) → j < 512 → middle_of levels index ≡ Some middle → slot_of levels (index * 512 + j) ≡ entry_in (table_at levels.middles middle) j
slot_under_middle levels index middle j below there =
    let upper : (index * 512 + j) / 512 ≡ index = omega arith in
    let place : (index * 512 + j) % 512 ≡ j = omega arith in
    slot_there levels (index * 512 + j) middle (ap (middle_of levels) upper ∙ there) ∙ ap (entry_in (table_at levels.middles middle)) place

-- ---- no tables
abbrev bare : List Place → List Place → Levels
bare uppers middles = record { top = None; uppers = uppers; middles = middles }

pub no_levels : (uppers middles : List Place) → directory_cells (bare uppers middles) ≡ empty
no_levels uppers middles = no_cells (2 ^ 27) (slot_of (bare uppers middles)) (λ c below. refl)

abbrev free : Place
free = None

pub tables_at-free : (n : ℕ) → tables_at (replicate n free) ≡ 0
tables_at-free zero = refl
tables_at-free (suc n) = tables_at-free n

pub bare_directory : (uppers middles : List Place) → uppers ≡ replicate 512 free → middles ≡ replicate 512 free → IsDirectory (bare uppers middles) 0
bare_directory uppers middles free_uppers free_middles =
    record {
      uppers = ap length free_uppers ∙ length-replicate 512 free;
      middles = ap length free_middles ∙ length-replicate 512 free;
      upper_there = λ i upper below named. absurd cc;
      upper_named = λ i there. absurd (none_at i uppers free_uppers there);
      middle_there = λ index middle below named. absurd cc;
      middle_once = λ index other middle below below_other named named_other. absurd cc;
      top_used = λ there. absurd (false≢true there);
      upper_used = λ i there. absurd (none_at i uppers free_uppers there);
      middle_used = λ index below there. absurd (false≢true there);
      counted = sym (ap (λ l. tables_at l + tables_at middles) free_uppers ∙ ap (λ l. tables_at (replicate 512 free) + tables_at l) free_middles
          ∙ ap (λ n. n + tables_at (replicate 512 free)) (tables_at-free 512) ∙ tables_at-free 512);
      taken = sym (ap tables_of (no_levels uppers middles) ∙ tables_of-empty);
      middles_taken = ap tables_at free_middles ∙ tables_at-free 512 ∙ sym (ap middle_tables_of (no_levels uppers middles) ∙ middle_tables_of-empty);
    }
  where
    none_at : (i : ℕ) (places : List Place) → places ≡ replicate 512 free → IsSome (table_at places i) → ⊥
    none_at i places all_free there = false≢true (subst IsSome (ap (λ l. table_at l i) all_free ∙ table_at-free 512 i) there)
