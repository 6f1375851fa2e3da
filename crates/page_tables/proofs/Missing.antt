-- The directory tables that a cell lacks.
use Rattle.std.proofs.Common.{◌≡◌, ℕ, ◌/◌, ◌^◌, List, [], ◌∷◌, ◌++◌, length, Some, None, eqb, refl, sym, ◌∙◌, ap, arith}
use Rattle.std.specs.Prelude.{Bool, true, false, not, ◌||◌, ◌==◌, suc, T, filter, unwrap_or}
use Rattle.std.specs.Ordering.{nat_cmp, eq_by_cmp}
use Rattle.std.specs.List.{list_any}
use Rattle.std.specs.FinMap.{find, is_sorted}
use Rattle.std.specs.FinMap.Entries.{is_some-find}
use Rattle.std.proofs.lemmas.Bool.{eq-eqb, ne_eqb, false≢true}
use Rattle.std.proofs.lemmas.Bool.Decides.{nat_tests}
use Rattle.vm_base.specs.declared.frame_request.Want.TheVariants as want
use Rattle.kernel_meaning.specs.EventRequests.{shares_table, missing_tables, wanted_unless}
use Rattle.kernel_meaning.specs.Leaves.{unused_cell, has_pages}
use Rattle.kernel_meaning.specs.FrameLaw.{Leaves, cell_at, parent_cells}
use Rattle.page_tables.proofs.LeafMap.{same_number, is_some-filter, passes}

-- a number is in the list
abbrev pub has_number : ℕ → List ℕ → Bool
has_number c cells = list_any (eq_by_cmp nat_cmp c) cells

or-true : (a : Bool) → (a || true) ≡ true
or-true true = refl
or-true false = refl

-- a cell that is there shares each table with itself
shares-there : (width c : ℕ) (cells : List ℕ) → has_number c cells ≡ true → shares_table width c cells ≡ true
shares-there width c [] h = absurd (false≢true h)
shares-there width c (d ∷ cells) h =
    elim (eq_by_cmp nat_cmp c d) as (λ b. eq_by_cmp nat_cmp c d ≡ b → (b || has_number c cells) ≡ true → (eqb (d / width) (c / width) || shares_table width c cells) ≡ true) [
      | true ↦ λ e _.
          let same : c ≡ d = let t : eqb c d ≡ true = sym (same_number c d) ∙ e in grind (arith, nat_tests) in
          ap (λ b. b || shares_table width c cells) (eq-eqb (d / width) (c / width) (ap (λ n. n / width) (sym same)))
      | false ↦ λ e h. ap (λ b. eqb (d / width) (c / width) || b) (shares-there width c cells h) ∙ or-true (eqb (d / width) (c / width))
    ] refl h

some-there : (c : ℕ) (cells : List ℕ) → has_number c cells ≡ true → (length cells == 0) ≡ false
some-there c [] h = absurd (false≢true h)
some-there c (d ∷ cells) h = ne_eqb (length (d ∷ cells)) 0 (λ e. let l : suc (length cells) ≡ 0 = e in omega arith)

-- a cell that is there lacks none
pub missing-there : (c : ℕ) (cells : List ℕ) → has_number c cells ≡ true → missing_tables cells c ≡ []
missing-there c cells h = λ i.
    wanted_unless (not (some-there c cells h i)) want.Top
    ++ wanted_unless (shares-there (2 ^ 18) c cells h i) want.Upper
    ++ wanted_unless (shares-there (2 ^ 9) c cells h i) want.Middle

-- the parent has the cell, where it has a page there
pub parent-there : (leaves : Leaves) (c : ℕ) → T (is_sorted nat_cmp leaves) → has_pages (cell_at leaves c).parent ≡ true → has_number c (parent_cells leaves) ≡ true
parent-there leaves c sorted there =
    sym (is_some-find nat_cmp c (filter (λ e. has_pages e.1.parent) leaves))
    ∙ is_some-filter (λ cell. has_pages cell.parent) c leaves sorted
    ∙ elim (find nat_cmp c leaves) as (λ o. has_pages (unwrap_or o unused_cell).parent ≡ true → passes (λ cell. has_pages cell.parent) o ≡ true) [ Some cell ↦ λ h. h | None ↦ λ h. h ] there

-- a touch at a cell of the parent lacks no table
pub missing-known : (leaves : Leaves) (c : ℕ) → T (is_sorted nat_cmp leaves) → has_pages (cell_at leaves c).parent ≡ true → missing_tables (parent_cells leaves) c ≡ []
missing-known leaves c sorted there = missing-there c (parent_cells leaves) (parent-there leaves c sorted there)
