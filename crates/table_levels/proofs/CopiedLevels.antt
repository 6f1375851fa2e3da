-- A directory that was copied, and one without cells.
use Rattle.std.proofs.Common.{◌≡◌, ℕ, ◌+◌, ◌/◌, ◌%◌, ◌^◌, List, [], ◌∷◌, ◌++◌, map, length, replicate, Some, None, Option, refl, sym, ◌∙◌, ap, subst, arith}
use Rattle.std.specs.Prelude.{IsSome}
use Rattle.std.specs.Option.{option_and_then}
use Rattle.std.specs.FinMap.{empty, keys}
use Rattle.std.proofs.lemmas.Bool.{false≢true}
use Rattle.vm_base.specs.declared.frame_request.Want.TheVariants.{Top, Upper, Middle}
use Rattle.vm_base.specs.Places.{distinct, directory_frames}
use Rattle.table_levels.specs.Tables.{entry_at}
use Rattle.table_levels.specs.Cells.{tables_of, middle_tables_of}
use Rattle.table_levels.specs.Requests.{directory_wants}
use Rattle.table_levels.specs.Walks.{Place, Levels, entry_in, table_at, tables_at, middle_of, slot_of, directory_cells, IsDirectory}
use Rattle.table_levels.specs.Copies.{Copies, table_bytes_in}
use Rattle.table_levels.proofs.CellLemmas.{same_cells}
use Rattle.table_levels.proofs.Counting.{tables_of-empty}
use Rattle.table_levels.proofs.Links.{tables_at-cons, some_counts}
use Rattle.table_levels.proofs.Sharing.{top_there}
use Rattle.table_levels.proofs.Unlinked.{counted_none}
use Rattle.table_levels.proofs.Copied.{same_counted}

entry_same : (p q : Place) (j : ℕ) → table_bytes_in p ≡ table_bytes_in q → entry_in p j ≡ entry_in q j
entry_same None None j same = refl
entry_same None (Some b) j same = absurd cc
entry_same (Some a) None j same = absurd cc
entry_same (Some a) (Some b) j same = let bytes : a.bytes ≡ b.bytes = cc in ap (λ l. entry_at l j) bytes

there_same : (p q : Place) → table_bytes_in p ≡ table_bytes_in q → IsSome p → IsSome q
there_same None q same there = absurd (false≢true there)
there_same (Some a) None same there = absurd cc
there_same (Some a) (Some b) same there = refl

-- the levels have the same tables, in frames of their own
pub record CopiesLevels (new old : Levels) : Type 0 where
  pub top : table_bytes_in new.top ≡ table_bytes_in old.top
  pub uppers : Copies new.uppers old.uppers
  pub middles : Copies new.middles old.middles

module _ (new old : Levels) (n : ℕ) (directory : IsDirectory old n) (copies : CopiesLevels new old) where
  through : (news olds : List Place) (k : ℕ) (found : Option ℕ) → Copies news olds → option_and_then (λ m. entry_in (table_at news m) k) found ≡ option_and_then (λ m. entry_in (table_at olds m) k) found
  through news olds k None same = refl
  through news olds k (Some m) same = entry_same (table_at news m) (table_at olds m) k (same.bytes m)

  middle_same : (index : ℕ) → middle_of new index ≡ middle_of old index
  middle_same index =
      ap (option_and_then (λ u. entry_in (table_at new.uppers u) (index % 512))) (entry_same new.top old.top (index / 512) copies.top)
      ∙ through new.uppers old.uppers (index % 512) (entry_in old.top (index / 512)) copies.uppers

  slot_same : (c : ℕ) → slot_of new c ≡ slot_of old c
  slot_same c =
      ap (option_and_then (λ m. entry_in (table_at new.middles m) (c % 512))) (middle_same (c / 512))
      ∙ through new.middles old.middles (c % 512) (middle_of old (c / 512)) copies.middles

  pub cells_copied : directory_cells new ≡ directory_cells old
  cells_copied = same_cells (2 ^ 27) (slot_of new) (slot_of old) (λ c below. slot_same c)

  pub directory_copied : IsDirectory new n
  directory_copied = record {
    uppers = copies.uppers.places ∙ directory.uppers;
    middles = copies.middles.places ∙ directory.middles;
    upper_there = λ i upper inside at.
        let known = directory.upper_there i upper inside (sym (entry_same new.top old.top i copies.top) ∙ at) in
        (known.0, there_same (table_at old.uppers i) (table_at new.uppers i) (sym (copies.uppers.bytes i)) known.1);
    upper_named = λ i there. entry_same new.top old.top i copies.top ∙ directory.upper_named i (there_same (table_at new.uppers i) (table_at old.uppers i) (copies.uppers.bytes i) there);
    middle_there = λ index middle below at.
        let known = directory.middle_there index middle below (sym (middle_same index) ∙ at) in
        (known.0, there_same (table_at old.middles middle) (table_at new.middles middle) (sym (copies.middles.bytes middle)) known.1);
    middle_once = λ index other middle below below_other at at_other. directory.middle_once index other middle below below_other (sym (middle_same index) ∙ at) (sym (middle_same other) ∙ at_other);
    top_used = λ there.
        let entry = directory.top_used (there_same new.top old.top copies.top there) in
        (entry.0, entry.1, subst IsSome (sym (entry_same new.top old.top entry.0 copies.top)) entry.2);
    upper_used = λ i there.
        let under = directory.upper_used i (there_same (table_at new.uppers i) (table_at old.uppers i) (copies.uppers.bytes i) there) in
        (under.0, under.1, under.2, subst IsSome (sym (middle_same under.0)) under.3);
    middle_used = λ index below there.
        let under = directory.middle_used index below (subst IsSome (middle_same index) there) in
        (under.0, under.1, under.2, subst IsSome (sym (slot_same under.0)) under.3);
    counted = omega (
      arith,
      directory.counted,
      tables_at-cons new.top new.uppers,
      tables_at-cons old.top old.uppers,
      same_counted new.top old.top copies.top,
      copies.uppers.counted,
      copies.middles.counted,
    );
    taken = directory.taken ∙ ap tables_of (sym cells_copied);
    middles_taken = copies.middles.counted ∙ directory.middles_taken ∙ ap middle_tables_of (sym cells_copied);
  }

-- ---- as many tables on each level as its cells have parts
pub level_wants : (levels : Levels) (n : ℕ) → IsDirectory levels n
    → directory_wants (keys (directory_cells levels)) ≡ replicate (tables_at (levels.top ∷ [])) Top ++ (replicate (tables_at levels.uppers) Upper ++ replicate (tables_at levels.middles) Middle)
level_wants levels n directory = by_keys (keys (directory_cells levels)) refl
  where
    by_keys : (ks : List ℕ) → keys (directory_cells levels) ≡ ks
        → directory_wants ks ≡ replicate (tables_at (levels.top ∷ [])) Top ++ (replicate (tables_at levels.uppers) Upper ++ replicate (tables_at levels.middles) Middle)
    by_keys [] at =
        let none : n ≡ 0 = directory.taken ∙ ap directory_frames at in
        let top : tables_at (levels.top ∷ []) ≡ 0 = omega (arith, none, directory.counted, tables_at-cons levels.top levels.uppers) in
        let uppers : tables_at levels.uppers ≡ 0 = omega (arith, none, directory.counted, tables_at-cons levels.top levels.uppers) in
        let middles : tables_at levels.middles ≡ 0 = omega (arith, none, directory.counted) in
        sym (ap (λ k. replicate k Top ++ (replicate (tables_at levels.uppers) Upper ++ replicate (tables_at levels.middles) Middle)) top
        ∙ ap (λ k. replicate k Upper ++ replicate (tables_at levels.middles) Middle) uppers ∙ ap (λ k. replicate k Middle) middles)
    by_keys (k ∷ ks) at =
        let upper_parts = length (distinct (map (λ c. c / 2 ^ 18) (k ∷ ks))) in
        let middle_parts = length (distinct (map (λ c. c / 2 ^ 9) (k ∷ ks))) in
        let all : n ≡ 1 + upper_parts + middle_parts = directory.taken ∙ ap directory_frames at in
        let top : tables_at (levels.top ∷ []) ≡ 1 = some_counts levels.top (top_there levels k ks at) in
        let middles : tables_at levels.middles ≡ middle_parts = directory.middles_taken ∙ ap (λ l. length (distinct (map (λ c. c / 2 ^ 9) l))) at in
        let uppers : tables_at levels.uppers ≡ upper_parts = omega (arith, all, directory.counted, tables_at-cons levels.top levels.uppers, top, middles) in
        sym (ap (λ m. replicate m Top ++ (replicate (tables_at levels.uppers) Upper ++ replicate (tables_at levels.middles) Middle)) top
        ∙ ap (λ m. Top ∷ (replicate m Upper ++ replicate (tables_at levels.middles) Middle)) uppers
        ∙ ap (λ m. Top ∷ (replicate upper_parts Upper ++ replicate m Middle)) middles)

-- ---- no cells
abbrev free : Place
free = None

all_free : (places : List Place) → tables_at places ≡ 0 → places ≡ replicate (length places) free
all_free [] none = refl
all_free (None ∷ places) none = ap (λ l. free ∷ l) (all_free places none)
all_free (Some table ∷ places) none = absurd (omega arith)

pub record IsBare (levels : Levels) : Type 0 where
  pub top : levels.top ≡ None
  pub uppers : levels.uppers ≡ replicate 512 None
  pub middles : levels.middles ≡ replicate 512 None

pub empty_bare : (levels : Levels) (n : ℕ) → IsDirectory levels n → directory_cells levels ≡ empty → IsBare levels
empty_bare levels n directory none =
    let count : n ≡ 0 = directory.taken ∙ ap tables_of none ∙ tables_of-empty in
    let top : tables_at (levels.top ∷ []) ≡ 0 = omega (arith, count, directory.counted, tables_at-cons levels.top levels.uppers) in
    let uppers : tables_at levels.uppers ≡ 0 = omega (arith, count, directory.counted, tables_at-cons levels.top levels.uppers) in
    let middles : tables_at levels.middles ≡ 0 = omega (arith, count, directory.counted) in
    record {
      top = counted_none levels.top top;
      uppers = all_free levels.uppers uppers ∙ ap (λ k. replicate k free) directory.uppers;
      middles = all_free levels.middles middles ∙ ap (λ k. replicate k free) directory.middles;
    }
