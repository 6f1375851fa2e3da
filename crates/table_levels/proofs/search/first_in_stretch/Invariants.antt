-- No entry so far.
use Rattle.std.proofs.Common.{◌≡◌, ◌*◌, ◌/◌, ◌<◌, ◌≤◌, ℕ, max, None}
use Rattle.table_levels.specs.Tables.{entry_at}
use Rattle.table_levels.proofs.search.first_in_stretch.Given as goal

abbrev pub invariant-loop-block : goal.invariant-loop-block
invariant-loop-block l = record {
  from : max l.from (64 * l.stretch) / 8 ≤ l.block;
  none : (k : ℕ) → max l.from (64 * l.stretch) ≤ k → k < 8 * l.block → entry_at l.table.bytes k ≡ None;
}
