-- No entry so far.
use Rattle.std.proofs.Common.{◌≡◌, ◌*◌, ◌/◌, ◌<◌, ◌≤◌, ℕ, None}
use Rattle.table_levels.specs.Tables.{entry_at}
use Rattle.table_levels.proofs.search.first_in.Given as goal

abbrev pub invariant-loop-stretch : goal.invariant-loop-stretch
invariant-loop-stretch l = record {
  from : l.from / 64 ≤ l.stretch;
  none : (k : ℕ) → l.from ≤ k → k < 64 * l.stretch → entry_at l.table.bytes k ≡ None;
}
