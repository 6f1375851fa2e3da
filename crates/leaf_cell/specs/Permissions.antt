-- What a permission for the parent's pages leaves.
use Rattle.std.specs.Prelude.{ℕ, Bool, not, ◌&&◌, List, Option, is_some}
use Rattle.std.specs.Option.{option_map}
use Rattle.vm_base.specs.declared.permission.Perm.{Perm}
use Rattle.vm_base.specs.FlatStep.{is_writable}
use Rattle.kernel_meaning.specs.Leaves.{Versions, CellLeaves, version_at}
use Rattle.leaf_cell.specs.Writable.{with_writable}
use Rattle.leaf_cell.specs.Places.{TableView}
use Rattle.leaf_cell.specs.CellView.{CellView}
use Rattle.leaf_cell.specs.Inside.{is_apart}
use Rattle.leaf_cell.specs.Touching.{needs_copy}

-- a page is present, and no snapshot's own leaf names its version
abbrev pub is_unshared : CellLeaves → ℕ → Bool
is_unshared cell page = is_some (version_at cell.parent page) && not (needs_copy cell page)

-- which pages may be written to once n of them have this permission: of these the present ones that no snapshot's own leaf names, where the permission is for writing, and of the others those that might before
abbrev pub allowed : Perm → ℕ → ℕ → CellView → List Bool
allowed perm first n view = with_writable (λ page. is_writable perm && is_unshared view.leaves page) first n view.writable

-- a table of which n pages may be written to or not, but for those whose frame another table names
abbrev pub table_allowed : Bool → Versions → ℕ → ℕ → TableView → TableView
table_allowed may other first n table = record {
  places = table.places;
  writable = with_writable (λ page. may && is_apart other table.places page) first n table.writable;
}

-- the same where there is a table
abbrev pub with_allowed : Bool → Versions → ℕ → ℕ → Option TableView → Option TableView
with_allowed may other first n table = option_map (table_allowed may other first n) table
