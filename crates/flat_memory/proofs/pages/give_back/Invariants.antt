-- No page is lost, and no room.
use Rattle.std.proofs.Common.{◌≡◌, ◌+◌, vec_len, vec_capacity}
use Rattle.flat_memory.proofs.pages.give_back.Given as goal

abbrev pub invariant-loop-entries : goal.invariant-loop-entries
invariant-loop-entries l = record {
  all : vec_len l.entries + vec_len l.spare ≡ vec_len l.fn.entries + vec_len l.fn.spare;
  room : vec_capacity l.entries ≡ vec_capacity l.fn.entries;
  spare_room : vec_capacity l.spare ≡ vec_capacity l.fn.spare;
}

abbrev pub decreases-loop-entries : goal.decreases-loop-entries
decreases-loop-entries l = vec_len l.entries
