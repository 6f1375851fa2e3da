-- No entry so far.
use Rattle.std.proofs.Common.{◌≡◌, ◌*◌, ◌<◌, ◌≤◌, ℕ, max, None}
use Rattle.table_levels.specs.Tables.{entry_at}
use Rattle.table_levels.proofs.search.first_in_block.Given as goal

abbrev pub invariant-loop-i : goal.invariant-loop-i
invariant-loop-i l = record {
  from : max l.from (8 * l.block) ≤ l.i;
  none : (k : ℕ) → max l.from (8 * l.block) ≤ k → k < l.i → entry_at l.table.bytes k ≡ None;
}
