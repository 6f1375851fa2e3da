-- What is left of a table whose pages were taken out.
use Rattle.std.specs.Prelude.{◌≡◌, ℕ, replicate, Option, Some, None, is_some, cond}
use Rattle.vm_base.specs.Deals.{Deal, Returned, LeadsAlong}
use Rattle.kernel_meaning.specs.Leaves.{without_versions, has_pages}
use Rattle.leaf_cell.specs.Places.{TableView, without_entries}

-- the table without the pages of a range, where one is left
abbrev pub table_left : TableView → ℕ → ℕ → Option TableView
table_left table first n =
    cond (has_pages (without_versions table.places first n)) (Some (without_entries table first n)) None

-- one frame where the table is gone
abbrev pub gone_if : Option TableView → ℕ
gone_if table = cond (is_some table) 0 1

-- the table is left with the other pages, and was given back where there are none
pub record IsLeft {State : Type 0} (goes : State → Deal → State → Type 0) (from to : State) (old : TableView) (first n : ℕ) (table : Option TableView) : Type 0 where
  pub left : table ≡ table_left old first n
  pub led : LeadsAlong goes from (replicate (gone_if table) Returned) to
