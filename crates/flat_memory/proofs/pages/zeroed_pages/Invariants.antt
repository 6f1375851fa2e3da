-- As many pages so far as turns.
use Rattle.std.proofs.Common.{◌≡◌, vec_len, vec_capacity}
use Rattle.flat_memory.proofs.pages.zeroed_pages.Given as goal

abbrev pub invariant-loop : goal.invariant-loop
invariant-loop l = record {
  len : vec_len l.pages ≡ l.counter;
  capacity : vec_capacity l.pages ≡ l.room;
}
