-- Each place so far has a table.
use Rattle.std.proofs.Common.{ℕ, ◌<◌}
use Rattle.std.specs.Prelude.{IsSome}
use Rattle.table_levels.specs.Walks.{table_at}
use Rattle.table_levels.proofs.linking.free_place.Given as goal

abbrev pub invariant-loop-i : goal.invariant-loop-i
invariant-loop-i l = (k : ℕ) → k < l.i → IsSome (table_at l.places k)
