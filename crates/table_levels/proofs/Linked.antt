-- A cell that had no middle table is linked.
use Rattle.std.proofs.Common.{◌≡◌, ℕ, ◌+◌, ◌/◌, ◌%◌, ◌^◌, ◌<◌, ◌≤◌, Bool, true, false, not, cond, List, [], ◌∷◌, ◌++◌, length, Some, None, Option, refl, sym, ◌∙◌, ap, subst, arith, length-append}
use Rattle.std.specs.Prelude.{IsSome, is_some}
use Rattle.std.specs.Option.{option_and_then, option_or}
use Rattle.std.specs.FinMap.{get, keys}
use Rattle.std.proofs.lemmas.Bool.{false≢true}
use Rattle.vm_base.specs.declared.frame_request.Want.{Want}
use Rattle.vm_base.specs.declared.frame_request.Want.TheVariants.{Top, Upper, Middle}
use Rattle.table_levels.specs.declared.frames.Wanted.{Wanted}
use Rattle.table_levels.specs.declared.frames.Fresh.{Fresh}
use Rattle.table_levels.specs.Requests.{shares, missing_tables, wanted_if, wanted_tables}
use Rattle.table_levels.specs.Tables.{entry_at}
use Rattle.table_levels.specs.Walks.{Place, Levels, entry_in, table_at, tables_at, tables_in, levels_of, middle_of, slot_of, directory_cells, IsDirectory, AreDirectory}
use Rattle.table_levels.specs.Fresh.{IsFresh, HasFresh}
use Rattle.table_levels.specs.Links.{AddsMiddle, PutsMiddle, LinksCell, wanted_at, wanted_for}
use Rattle.table_levels.proofs.TableLemmas.{entry_at-zeros}
use Rattle.table_levels.proofs.Walking.{get-cells_of, slot_absent}
use Rattle.table_levels.proofs.Asking.{fresh_count}
use Rattle.table_levels.proofs.Sharing.{IsUsed, used, middle_shared, wanted_are_missing, nothing_missing, upper_of_middle, table_of_entry}
use Rattle.table_levels.proofs.Inserted.{Inserts, cells_inserted, directory_inserted}

-- a fresh table has no entry
fresh_bare : (old fresh : Place) (j : ℕ) → IsFresh true fresh → entry_in (option_or fresh old) j ≡ None
fresh_bare old None j is_fresh = absurd is_fresh
fresh_bare old (Some table) j is_fresh = ap (λ bytes. entry_at bytes j) is_fresh ∙ entry_at-zeros j

pair_counts : (p q : Place) → tables_at (p ∷ q ∷ []) ≡ tables_at (p ∷ []) + tables_at (q ∷ [])
pair_counts None None = refl
pair_counts None (Some b) = refl
pair_counts (Some a) None = refl
pair_counts (Some a) (Some b) = refl

pub cell_linked : (top new_top : Place) (uppers new_uppers middles new_middles : List Place) (cell slot free : ℕ) (fresh : Fresh)
    → cell < 2 ^ 27 → AreDirectory (levels_of top uppers middles) → middle_of (levels_of top uppers middles) (cell / 512) ≡ None
    → HasFresh (wanted_at top (cell / 512 / 512)) fresh → free < length middles → table_at middles free ≡ None
    → AddsMiddle top uppers new_top new_uppers (cell / 512) free → length new_uppers ≡ 512
    → tables_at (new_top ∷ new_uppers) ≡ tables_at (top ∷ uppers) + tables_at (fresh.top ∷ fresh.upper ∷ [])
    → PutsMiddle middles new_middles free fresh.middle (cell % 512) slot → length new_middles ≡ length middles
    → tables_at new_middles ≡ tables_at middles + tables_at (fresh.middle ∷ [])
    → LinksCell (levels_of top uppers middles) (levels_of new_top new_uppers new_middles) cell slot
cell_linked top new_top uppers new_uppers middles new_middles cell slot free fresh below directory absent is_fresh inside is_free added size_uppers counted_uppers put size_middles counted_middles =
    let old = levels_of top uppers middles in
    let new = levels_of new_top new_uppers new_middles in
    let cells = directory_cells old in
    let inserts : Inserts old new cell slot free = record {
      uppers = size_uppers;
      middles = size_middles ∙ directory.middles;
      names = added.names;
      named = added.named;
      kept = added.kept;
      here = added.here;
      others = added.others;
      unused = λ index lt apart at. false≢true (subst IsSome is_free (directory.middle_there index free lt at).1);
      place_below = omega (arith, directory.middles);
      there = put.there;
      slot_here = put.here;
      slot_rest = λ j lt apart. put.rest j lt apart ∙ fresh_bare (table_at middles free) fresh.middle j is_fresh.2
          ∙ sym (ap (option_and_then (λ m. entry_in (table_at middles m) j)) absent);
      tables = put.others;
    } in
    let no_slot : get cells cell ≡ None = get-cells_of old cell below ∙ slot_absent old cell absent in
    let one : tables_at (fresh.middle ∷ []) ≡ 1 = fresh_count true Middle fresh.middle is_fresh.2 in
    let wants : length (wanted_tables (wanted_at top (cell / 512 / 512))) ≡ tables_at (fresh.top ∷ []) + (tables_at (fresh.upper ∷ []) + 1) =
    length-append (wanted_if (not (is_some top)) Top) (wanted_if (not (is_some (entry_in top (cell / 512 / 512)))) Upper ++ Middle ∷ [])
    ∙ ap (λ k. length (wanted_if (not (is_some top)) Top) + k) (length-append (wanted_if (not (is_some (entry_in top (cell / 512 / 512)))) Upper) (Middle ∷ []))
    ∙ ap (λ k. k + (length (wanted_if (not (is_some (entry_in top (cell / 512 / 512)))) Upper) + 1)) (sym (fresh_count (not (is_some top)) Top fresh.top is_fresh.0))
    ∙ ap (λ k. tables_at (fresh.top ∷ []) + (k + 1)) (sym (fresh_count (not (is_some (entry_in top (cell / 512 / 512)))) Upper fresh.upper is_fresh.1)) in
    let missing : length (wanted_tables (wanted_at top (cell / 512 / 512))) ≡ length (missing_tables (keys cells) cell) = ap length (wanted_are_missing old (used old (tables_in old) directory) cell below absent) in
    let counted : tables_in new ≡ tables_in old + length (missing_tables (keys cells) cell) = omega (arith, counted_uppers, counted_middles, pair_counts fresh.top fresh.upper, one, wants, missing) in
    let shared : shares (2 ^ 9) (keys cells) cell ≡ false = middle_shared old (used old (tables_in old) directory) cell below ∙ ap is_some absent in
    let middles_counted : tables_at new_middles ≡ tables_at middles + cond (shares (2 ^ 9) (keys cells) cell) 0 1 =
    counted_middles ∙ ap (λ k. tables_at middles + k) (one ∙ sym (ap (λ b. cond b 0 1) shared)) in
    record {
      cells = cells_inserted old new cell slot free (tables_in old) directory inserts below;
      directory = subst (IsDirectory new) (sym counted)
          (directory_inserted old new cell slot free (tables_in old) directory inserts below no_slot (length (missing_tables (keys cells) cell)) counted refl middles_counted);
      counted = counted;
    }

-- a slot is named in a middle table that is there
pub slot_linked : (top : Place) (uppers middles new_middles : List Place) (cell slot middle : ℕ) → cell < 2 ^ 27 → AreDirectory (levels_of top uppers middles)
    → middle_of (levels_of top uppers middles) (cell / 512) ≡ Some middle → slot_of (levels_of top uppers middles) cell ≡ None
    → PutsMiddle middles new_middles middle None (cell % 512) slot → length new_middles ≡ length middles → tables_at new_middles ≡ tables_at middles + 0
    → LinksCell (levels_of top uppers middles) (levels_of top uppers new_middles) cell slot
slot_linked top uppers middles new_middles cell slot middle below directory at absent put size counted_middles =
    let old = levels_of top uppers middles in
    let new = levels_of top uppers new_middles in
    let cells = directory_cells old in
    let index_below : cell / 512 < 2 ^ 18 = omega arith in
    let inserts : Inserts old new cell slot middle = record {
      uppers = directory.uppers;
      middles = size ∙ directory.middles;
      names = directory.upper_there;
      named = directory.upper_named;
      kept = λ i apart. refl;
      here = at;
      others = λ index lt apart. refl;
      unused = λ index lt apart also. apart (directory.middle_once index (cell / 512) middle lt index_below also at);
      place_below = (directory.middle_there (cell / 512) middle index_below at).0;
      there = put.there;
      slot_here = put.here;
      slot_rest = λ j lt apart. put.rest j lt apart ∙ sym (ap (option_and_then (λ m. entry_in (table_at middles m) j)) at);
      tables = put.others;
    } in
    let there : IsSome (middle_of old (cell / 512)) = subst IsSome (sym at) refl in
    let no_slot : get cells cell ≡ None = get-cells_of old cell below ∙ absent in
    let none : length (missing_tables (keys cells) cell) ≡ 0 = ap length (nothing_missing old (used old (tables_in old) directory) cell below there) in
    let counted : tables_in new ≡ tables_in old + length (missing_tables (keys cells) cell) = omega (arith, counted_middles, none) in
    let shared : shares (2 ^ 9) (keys cells) cell ≡ true = middle_shared old (used old (tables_in old) directory) cell below ∙ there in
    let middles_counted : tables_at new_middles ≡ tables_at middles + cond (shares (2 ^ 9) (keys cells) cell) 0 1 =
    counted_middles ∙ ap (λ k. tables_at middles + k) (sym (ap (λ b. cond b 0 1) shared)) in
    record {
      cells = cells_inserted old new cell slot middle (tables_in old) directory inserts below;
      directory = subst (IsDirectory new) (sym counted)
          (directory_inserted old new cell slot middle (tables_in old) directory inserts below no_slot (length (missing_tables (keys cells) cell)) counted refl middles_counted);
      counted = counted;
    }

-- no upper table is fresh where the cell's is named
pub unwanted_upper : (levels : Levels) (cell : ℕ) (fresh : Fresh) → IsSome (entry_in levels.top (cell / 512 / 512))
    → HasFresh (wanted_for levels cell) fresh → tables_at (fresh.upper ∷ []) ≡ 0
unwanted_upper levels cell fresh named is_fresh =
    fresh_count (not (is_some (entry_in levels.top (cell / 512 / 512)))) Upper fresh.upper is_fresh.1
    ∙ ap (λ b. length (wanted_if (not b) Upper)) named

-- what is wanted is what the definition misses
pub wanted_for_used : (levels : Levels) → IsUsed levels → (cell : ℕ) → cell < 2 ^ 27 → wanted_tables (wanted_for levels cell) ≡ missing_tables (keys (directory_cells levels)) cell
wanted_for_used levels directory cell below = by_middle (middle_of levels (cell / 512)) refl
  where
    by_middle : (found : Option ℕ) → middle_of levels (cell / 512) ≡ found → wanted_tables (wanted_for levels cell) ≡ missing_tables (keys (directory_cells levels)) cell
    by_middle None at =
        ap (λ b. wanted_tables (record { top = not (is_some levels.top); upper = not (is_some (entry_in levels.top (cell / 512 / 512))); middle = not b })) (ap is_some at)
        ∙ wanted_are_missing levels directory cell below at
    by_middle (Some m) at =
        let there : IsSome (middle_of levels (cell / 512)) = subst IsSome (sym at) refl in
        let upper : IsSome (entry_in levels.top (cell / 512 / 512)) = upper_of_middle levels (cell / 512) there in
        ap (λ b. wanted_tables (record { top = not b; upper = not (is_some (entry_in levels.top (cell / 512 / 512))); middle = not (is_some (middle_of levels (cell / 512))) }))
        (table_of_entry levels.top (cell / 512 / 512) upper)
        ∙ ap (λ b. wanted_tables (record { top = false; upper = not b; middle = not (is_some (middle_of levels (cell / 512))) })) upper
        ∙ ap (λ b. wanted_tables (record { top = false; upper = false; middle = not b })) there
        ∙ sym (nothing_missing levels directory cell below there)

pub wanted_for_missing : (levels : Levels) (n : ℕ) → IsDirectory levels n → (cell : ℕ) → cell < 2 ^ 27 → wanted_tables (wanted_for levels cell) ≡ missing_tables (keys (directory_cells levels)) cell
wanted_for_missing levels n directory cell below = wanted_for_used levels (used levels n directory) cell below

-- there are no more tables than places, and no more than three are wanted
pub few_tables : (places : List Place) → tables_at places ≤ length places
few_tables [] = omega arith
few_tables (None ∷ places) = let rest : tables_at places ≤ length places = few_tables places in omega arith
few_tables (Some table ∷ places) = let rest : tables_at places ≤ length places = few_tables places in omega arith

pub few_wanted : (wanted : Wanted) → length (wanted_tables wanted) ≤ 3
few_wanted wanted =
    omega (
      arith,
      length-append (wanted_if wanted.top Top) (wanted_if wanted.upper Upper ++ wanted_if wanted.middle Middle),
      length-append (wanted_if wanted.upper Upper) (wanted_if wanted.middle Middle),
      one_at_most wanted.top Top,
      one_at_most wanted.upper Upper,
      one_at_most wanted.middle Middle,
    )
  where
    one_at_most : (is_wanted : Bool) (want : Want) → length (wanted_if is_wanted want) ≤ 1
    one_at_most true want = omega arith
    one_at_most false want = omega arith

test_turned : (test held : Bool) → held ≡ not test → test ≡ not held
test_turned true true is = is
test_turned true false is = refl
test_turned false true is = refl
test_turned false false is = is

-- three tests make the tables that are wanted
pub wanted_same : (levels : Levels) (cell : ℕ) (top upper middle : Bool) → is_some levels.top ≡ not top → is_some (entry_in levels.top (cell / 512 / 512)) ≡ not upper
    → is_some (middle_of levels (cell / 512)) ≡ not middle → ◌≡◌ {A = Wanted} (record { top = top; upper = upper; middle = middle }) (wanted_for levels cell)
wanted_same levels cell top upper middle top_is upper_is middle_is =
    ap (λ (b : Bool). let w : Wanted = record { top = b; upper = upper; middle = middle } in w) (test_turned top (is_some levels.top) top_is)
    ∙ ap (λ (b : Bool). let w : Wanted = record { top = not (is_some levels.top); upper = b; middle = middle } in w) (test_turned upper (is_some (entry_in levels.top (cell / 512 / 512))) upper_is)
    ∙ ap (λ (b : Bool). let w : Wanted = record { top = not (is_some levels.top); upper = not (is_some (entry_in levels.top (cell / 512 / 512))); middle = b } in w)
    (test_turned middle (is_some (middle_of levels (cell / 512))) middle_is)
