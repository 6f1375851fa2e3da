-- The part of an unmap that lies in one cell.
use Rattle.std.proofs.Common.{◌≡◌, ℕ, sym, ◌∙◌, subst}
use Rattle.std.specs.Prelude.{true, false, None}
use Rattle.kernel_meaning.specs.Leaves.{has_present}
use Rattle.kernel_meaning.specs.FrameLaw.{cell_at}
use Rattle.kernel_meaning.specs.EventRequests.{first_in_cell, count_in_cell}
use Rattle.table_levels.specs.Requests.{returned}
use Rattle.page_tables.specs.declared.tables.PageTables.{PageTables}
use Rattle.page_tables.specs.Sides.{Sides}
use Rattle.page_tables.specs.Courses.{Runs}
use Rattle.page_tables.specs.Clearing.{sides_without, cell_unmapped, has_some, IsOutOf}
use Rattle.page_tables.specs.Standing.{TablesStandFor}

module _ (c first n f k : ℕ) (new : PageTables) (freed : ℕ) (sides : Sides) (from : f ≡ first_in_cell c first) (size : k ≡ count_in_cell c first n) where
  some : has_present (cell_at sides.leaves c).parent f k ≡ has_some first n c (cell_at sides.leaves c)
  some = λ i. has_present (cell_at sides.leaves c).parent (from i) (size i)

  pub are-out : has_present (cell_at sides.leaves c).parent f k ≡ true → TablesStandFor new (sides_without c f k sides)
      → Runs (cell_unmapped c f k) sides.leaves sides.made (returned freed) (sides_without c f k sides).leaves sides.made None
      → IsOutOf (has_some first n c (cell_at sides.leaves c)) c first n new freed sides
  are-out present stands runs =
      subst (λ b. IsOutOf b c first n new freed sides) (sym present ∙ some) (
        subst (λ g. TablesStandFor new (sides_without c g (count_in_cell c first n) sides)) from (subst (λ m. TablesStandFor new (sides_without c f m sides)) size stands),
        subst (λ g. Runs (cell_unmapped c g (count_in_cell c first n)) sides.leaves sides.made (returned freed) (sides_without c g (count_in_cell c first n) sides).leaves sides.made None) from
            (subst (λ m. Runs (cell_unmapped c f m) sides.leaves sides.made (returned freed) (sides_without c f m sides).leaves sides.made None) size runs),
      )

  pub none-out : has_present (cell_at sides.leaves c).parent f k ≡ false → TablesStandFor new sides → freed ≡ 0 → IsOutOf (has_some first n c (cell_at sides.leaves c)) c first n new freed sides
  none-out absent stands nothing = subst (λ b. IsOutOf b c first n new freed sides) (sym absent ∙ some) (stands, nothing)
