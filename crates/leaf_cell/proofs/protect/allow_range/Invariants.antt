use Rattle.std.proofs.Common.{◌≡◌, ◌*◌}
use Rattle.leaf_cell.specs.Inside.{own_places}
use Rattle.leaf_cell.specs.Permissions.{table_allowed}
use Rattle.leaf_cell.proofs.protect.allow_range.Given as goal

abbrev pub invariant-loop-block : goal.invariant-loop-block
invariant-loop-block l = l.table ≡ table_allowed l.is_writable (own_places l.snapshot) l.first (8 * l.block) l.initial.table
