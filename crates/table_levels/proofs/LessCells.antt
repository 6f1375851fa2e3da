-- A cell is unlinked.
use Rattle.std.proofs.Common.{◌≡◌, ℕ, ◌+◌, ◌/◌, ◌%◌, ◌^◌, ◌<◌, false, not, List, [], ◌∷◌, length, Some, None, Option, refl, sym, ◌∙◌, ap, subst, arith, inl, inr}
use Rattle.std.proofs.Math.ListN.{set, length-set}
use Rattle.std.specs.Prelude.{IsSome, is_some}
use Rattle.std.specs.Option.{option_and_then}
use Rattle.std.proofs.lemmas.Bool.{false≢true}
use Rattle.vm_base.specs.Frames.{FrameView}
use Rattle.table_levels.specs.Requests.{wanted_tables}
use Rattle.table_levels.specs.Walks.{Place, entry_in, table_at, tables_at, tables_in, levels_of, middle_of, slot_of, AreDirectory}
use Rattle.table_levels.specs.Links.{SetsIn, IsInUse, DropsMiddle, UnlinksCell, wanted_at, wanted_for}
use Rattle.table_levels.proofs.Links.{table_at-set_here, table_at-set_other, tables_at-set, some_counts}
use Rattle.table_levels.proofs.Counting.{unless_one}
use Rattle.table_levels.proofs.Sharing.{nothing_missing}
use Rattle.table_levels.proofs.Linked.{wanted_for_used}
use Rattle.table_levels.proofs.Removed.{Removes, cells_removed, removed_used, directory_removed}
use Rattle.table_levels.proofs.Unlinked.{upper_named}

pub some_is : {X : Type 0} (found : Option X) → IsSome found → (x : X) × (found ≡ Some x)
some_is None there = absurd (false≢true there)
some_is (Some x) there = (x, refl)

pub none_is : {X : Type 0} (found : Option X) → is_some found ≡ false → found ≡ None
none_is None none = refl
none_is (Some x) none = absurd (false≢true (sym none))

pub more_at : (p q : Place) (table : FrameView) → tables_at (p ∷ q ∷ Some table ∷ []) ≡ tables_at (p ∷ q ∷ []) + 1
more_at None None table = refl
more_at None (Some b) table = refl
more_at (Some a) None table = refl
more_at (Some a) (Some b) table = refl

-- the slot goes, and its middle table stays
pub slot_unlinked : (top : Place) (uppers middles : List Place) (new_middle : Place) (cell slot place : ℕ) → cell < 2 ^ 27 → AreDirectory (levels_of top uppers middles)
    → middle_of (levels_of top uppers middles) (cell / 512) ≡ Some place → slot_of (levels_of top uppers middles) cell ≡ Some slot
    → SetsIn (table_at middles place) new_middle (cell % 512) None → IsInUse new_middle → IsSome new_middle
    → UnlinksCell (levels_of top uppers middles) (levels_of top uppers (set middles place new_middle)) cell 0
slot_unlinked top uppers middles new_middle cell slot place below directory at there taken used stays =
    let old = levels_of top uppers middles in
    let new = levels_of top uppers (set middles place new_middle) in
    let index_below : cell / 512 < 2 ^ 18 = omega arith in
    let known = directory.middle_there (cell / 512) place index_below at in
    let inside : place < length middles = omega (arith, known.0, directory.middles) in
    let here : table_at (set middles place new_middle) place ≡ new_middle = table_at-set_here middles place new_middle inside in
    let is_there : IsSome (middle_of old (cell / 512)) = subst IsSome (sym at) refl in
    let named = upper_named top uppers (cell / 512) index_below directory.upper_there is_there in
    let upper_at : entry_in (table_at uppers (cell / 512 / 512)) (cell / 512 % 512) ≡ Some place =
    sym (ap (option_and_then (λ u. entry_in (table_at uppers u) (cell / 512 % 512))) named) ∙ at in
    let removes : Removes old new cell place = record {
      uppers = directory.uppers;
      middles = length-set middles place new_middle ∙ directory.middles;
      names = directory.upper_there;
      named = directory.upper_named;
      kept = λ i apart. refl;
      was = at;
      here = inl (at, subst IsSome (sym here) stays);
      others = λ index lt apart. refl;
      slot_gone = ap (λ p. entry_in p (cell % 512)) here ∙ taken.here;
      slot_rest = λ j lt apart. ap (λ p. entry_in p j) here ∙ taken.others j lt apart;
      tables = λ m apart. table_at-set_other middles place m new_middle apart;
      middle_used = subst IsInUse (sym here) used;
      upper_used = λ some. (cell / 512 % 512, omega arith, subst IsSome (sym upper_at) refl);
      top_used = λ some. (cell / 512 / 512, omega arith, subst IsSome (sym named) refl);
    } in
    let users = removed_used old new cell place (tables_in old) directory removes below in
    let none : length (wanted_tables (wanted_for new cell)) ≡ 0 = ap length (wanted_for_used new users cell below ∙ nothing_missing new users cell below is_there) in
    let same : tables_at (set middles place new_middle) ≡ tables_at middles =
    omega (arith, tables_at-set middles place new_middle inside, some_counts (table_at middles place) known.1, some_counts new_middle stays) in
    let counted : tables_in new ≡ tables_in old = ap (λ k. tables_at (top ∷ uppers) + k) same in
    let shared : unless_one (is_some (middle_of new (cell / 512))) ≡ 0 = ap unless_one is_there in
    record {
      cells = cells_removed old new cell place (tables_in old) directory removes below;
      directory = directory_removed old new cell place (tables_in old) directory removes below slot there (tables_in new) refl (omega (arith, counted, none)) (omega (arith, same, shared));
      counted = omega (arith, counted);
    }

-- the middle table goes too, and above it what is left without an entry
pub cell_unlinked : (top new_top : Place) (uppers new_uppers middles : List Place) (new_middle : Place) (cell slot place unused : ℕ) → cell < 2 ^ 27 → AreDirectory (levels_of top uppers middles)
    → middle_of (levels_of top uppers middles) (cell / 512) ≡ Some place → slot_of (levels_of top uppers middles) cell ≡ Some slot
    → SetsIn (table_at middles place) new_middle (cell % 512) None → new_middle ≡ None
    → DropsMiddle top uppers new_top new_uppers (cell / 512) → length new_uppers ≡ 512 → tables_at (new_top ∷ new_uppers) + unused ≡ tables_at (top ∷ uppers)
    → unused + 1 ≡ length (wanted_tables (wanted_at new_top (cell / 512 / 512)))
    → UnlinksCell (levels_of top uppers middles) (levels_of new_top new_uppers (set middles place new_middle)) cell (unused + 1)
cell_unlinked top new_top uppers new_uppers middles new_middle cell slot place unused below directory at there taken gone dropped size counted_uppers wanted =
    let old = levels_of top uppers middles in
    let new = levels_of new_top new_uppers (set middles place new_middle) in
    let index_below : cell / 512 < 2 ^ 18 = omega arith in
    let known = directory.middle_there (cell / 512) place index_below at in
    let inside : place < length middles = omega (arith, known.0, directory.middles) in
    let here : table_at (set middles place new_middle) place ≡ new_middle = table_at-set_here middles place new_middle inside in
    let removes : Removes old new cell place = record {
      uppers = size;
      middles = length-set middles place new_middle ∙ directory.middles;
      names = dropped.names;
      named = dropped.named;
      kept = dropped.kept;
      was = at;
      here = inr (dropped.here, here ∙ gone);
      others = dropped.others;
      slot_gone = ap (λ p. entry_in p (cell % 512)) here ∙ taken.here;
      slot_rest = λ j lt apart. ap (λ p. entry_in p j) here ∙ taken.others j lt apart;
      tables = λ m apart. table_at-set_other middles place m new_middle apart;
      middle_used = λ some. absurd (false≢true (subst IsSome (here ∙ gone) some));
      upper_used = dropped.upper_used;
      top_used = dropped.top_used;
    } in
    let none : is_some (middle_of new (cell / 512)) ≡ false = ap is_some dropped.here in
    let all : length (wanted_tables (wanted_for new cell)) ≡ unused + 1 =
    ap (λ b. length (wanted_tables (record { top = not (is_some new_top); upper = not (is_some (entry_in new_top (cell / 512 / 512))); middle = not b }))) none ∙ sym wanted in
    let gone_count : tables_at (new_middle ∷ []) ≡ 0 = ap (λ (p : Place). tables_at (p ∷ [])) gone in
    let fewer : tables_at (set middles place new_middle) + 1 ≡ tables_at middles =
    omega (arith, tables_at-set middles place new_middle inside, some_counts (table_at middles place) known.1, gone_count) in
    let counted : tables_in new + (unused + 1) ≡ tables_in old = omega (arith, counted_uppers, fewer) in
    let shared : unless_one (is_some (middle_of new (cell / 512))) ≡ 1 = ap unless_one none in
    record {
      cells = cells_removed old new cell place (tables_in old) directory removes below;
      directory = directory_removed old new cell place (tables_in old) directory removes below slot there (tables_in new) refl (omega (arith, counted, all)) (omega (arith, fewer, shared));
      counted = counted;
    }
