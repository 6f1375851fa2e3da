-- The frames of the parent alone over all cells, and what one cell more or another one changes in them.
use Rattle.std.proofs.Common.{◌≡◌, ℕ, suc, ◌+◌, ◌/◌, ◌^◌, Bool, true, false, cond, eqb, List, [], ◌∷◌, ◌++◌, length, map, Some, None, refl, sym, ◌∙◌, ap, arith, inl, inr}
use Rattle.std.specs.Prelude.{◌||◌, ◌==◌, T, not, sum_by, filter, unwrap_or}
use Rattle.std.specs.Ordering.{nat_cmp}
use Rattle.std.specs.FinMap.{find, is_sorted}
use Rattle.std.specs.FinMap.Entries.{is_some-find}
use Rattle.std.proofs.lemmas.Bool.{cases_eq, eq-eqb, ne_eqb}
use Rattle.std.proofs.lemmas.List.{length-append}
use Rattle.vm_base.specs.declared.frame_request.Want.{Want}
use Rattle.vm_base.specs.declared.frame_request.Want.TheVariants as want
use Rattle.vm_base.specs.Places.{distinct, directory_frames}
use Rattle.kernel_meaning.specs.Leaves.{CellLeaves, unused_cell, has_pages}
use Rattle.kernel_meaning.specs.FrameLaw.{Leaves, cell_at, with_cell, is_used, parent_cells}
use Rattle.kernel_meaning.specs.EventRequests.{shares_table, missing_tables, wanted_unless}
use Rattle.page_tables.proofs.LeafMap.{same_number, sum-put, with_cell-put, is_some-filter, passes}
use Rattle.page_tables.proofs.Missing.{has_number}
use Rattle.vm_base.proofs.OwnFrames.{member}

-- ---- sums over the cells
-- a part of each cell, summed
abbrev pub sum_of : (CellLeaves → ℕ) → Leaves → ℕ
sum_of part leaves = sum_by (λ entry. part entry.1) leaves

-- one cell becomes another
pub sum-with_cell : (part : CellLeaves → ℕ) → part unused_cell ≡ 0 → (leaves : Leaves) (c : ℕ) (new : CellLeaves) → T (is_sorted nat_cmp leaves) → is_used new ≡ true
    → sum_of part (with_cell leaves c new) + part (cell_at leaves c) ≡ sum_of part leaves + part new
sum-with_cell part none leaves c new sorted used =
    ap (λ ls. sum_of part ls + part (cell_at leaves c)) (with_cell-put leaves c new used)
    ∙ sum-put (λ o. part (unwrap_or o unused_cell)) none c new leaves sorted

-- ---- the parent's cells
same-member : (c : ℕ) (cells : List ℕ) → has_number c cells ≡ member c cells
same-member c [] = refl
same-member c (d ∷ cells) = ap (λ b. b || has_number c cells) (same_number c d) ∙ ap (λ b. eqb c d || b) (same-member c cells)

-- the parent has a cell where it has a page
pub member-cells : (leaves : Leaves) (c : ℕ) → T (is_sorted nat_cmp leaves) → member c (parent_cells leaves) ≡ has_pages (cell_at leaves c).parent
member-cells leaves c sorted =
    sym (same-member c (parent_cells leaves)) ∙ sym (is_some-find nat_cmp c (filter (λ e. has_pages e.1.parent) leaves))
    ∙ is_some-filter (λ cell. has_pages cell.parent) c leaves sorted
    ∙ elim (find nat_cmp c leaves) as (λ o. passes (λ cell. has_pages cell.parent) o ≡ has_pages (unwrap_or o unused_cell).parent) [ Some cell ↦ refl | None ↦ refl ]

length-unless : (b : Bool) (table : Want) → length (wanted_unless b table) ≡ cond b 0 1
length-unless true table = refl
length-unless false table = refl

shares-parts : (width c : ℕ) (cells : List ℕ) → shares_table width c cells ≡ member (c / width) (map (λ d. d / width) cells)
shares-parts width c [] = refl
shares-parts width c (d ∷ cells) =
    ap (λ b. b || shares_table width c cells) (turned (d / width) (c / width)) ∙ ap (λ b. eqb (c / width) (d / width) || b) (shares-parts width c cells)
  where
    turned : (a b : ℕ) → eqb a b ≡ eqb b a
    turned a b = elim (cases_eq a b) [ inl same ↦ eq-eqb a b same ∙ sym (eq-eqb b a (sym same)) | inr apart ↦ ne_eqb a b apart ∙ sym (ne_eqb b a (λ e. apart (sym e))) ]

distinct-more : (x : ℕ) (xs : List ℕ) → length (distinct (x ∷ xs)) ≡ length (distinct xs) + cond (member x xs) 0 1
distinct-more x xs = by (member x xs)
  where
    by : (b : Bool) → length (cond b (distinct xs) (x ∷ distinct xs)) ≡ length (distinct xs) + cond b 0 1
    by true = omega arith
    by false = omega arith

-- a new cell beside the parent's takes the tables that it lacks
pub directory-more : (c : ℕ) (cells : List ℕ) → directory_frames (c ∷ cells) ≡ directory_frames cells + length (missing_tables cells c)
directory-more c [] = refl
directory-more c (d ∷ cells) =
    let upper : length (wanted_unless (shares_table (2 ^ 18) c (d ∷ cells)) want.Upper) ≡ cond (member (c / 2 ^ 18) (map (λ e. e / 2 ^ 18) (d ∷ cells))) 0 1 =
    length-unless (shares_table (2 ^ 18) c (d ∷ cells)) want.Upper ∙ ap (λ b. cond b 0 1) (shares-parts (2 ^ 18) c (d ∷ cells)) in
    let middle : length (wanted_unless (shares_table (2 ^ 9) c (d ∷ cells)) want.Middle) ≡ cond (member (c / 2 ^ 9) (map (λ e. e / 2 ^ 9) (d ∷ cells))) 0 1 =
    length-unless (shares_table (2 ^ 9) c (d ∷ cells)) want.Middle ∙ ap (λ b. cond b 0 1) (shares-parts (2 ^ 9) c (d ∷ cells)) in
    let some : (length (d ∷ cells) == 0) ≡ false = ne_eqb (length (d ∷ cells)) 0 (λ none. let l : suc (length cells) ≡ 0 = none in omega arith) in
    let uppers : List Want = wanted_unless (shares_table (2 ^ 18) c (d ∷ cells)) want.Upper in
    let middles : List Want = wanted_unless (shares_table (2 ^ 9) c (d ∷ cells)) want.Middle in
    let all : length (missing_tables (d ∷ cells) c) ≡ length uppers + length middles =
    ap (λ b. length (wanted_unless (not b) want.Top ++ uppers ++ middles)) some ∙ length-append uppers middles in
    omega (arith, all, upper, middle, distinct-more (c / 2 ^ 18) (map (λ e. e / 2 ^ 18) (d ∷ cells)), distinct-more (c / 2 ^ 9) (map (λ e. e / 2 ^ 9) (d ∷ cells)))
