use Rattle.std.proofs.Common.{◌≡◌, ◌-◌}
use Rattle.leaf_cell.specs.Inside.{own_places}
use Rattle.leaf_cell.specs.Permissions.{table_allowed}
use Rattle.leaf_cell.proofs.protect.allow_pages.Given as goal

abbrev pub invariant-loop-page : goal.invariant-loop-page
invariant-loop-page l = l.table ≡ table_allowed l.is_writable (own_places l.snapshot) l.first (l.page - l.first) l.initial.table
