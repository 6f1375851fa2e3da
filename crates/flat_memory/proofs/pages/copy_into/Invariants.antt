-- The entries so far are copied.
use Rattle.std.proofs.Common.{◌≡◌, ◌+◌, vec_len, vec_capacity, take}
use Rattle.flat_memory.proofs.pages.copy_into.Given as goal

abbrev pub invariant-loop-entry : goal.invariant-loop-entry
invariant-loop-entry l = record {
  copied : l.entries.items ≡ take l.entry-index l.from;
  len : vec_len l.entries ≡ l.entry-index;
  all : vec_len l.entries + vec_len l.spare ≡ vec_len l.fn.entries + vec_len l.fn.spare;
  room : vec_capacity l.entries ≡ vec_capacity l.fn.entries;
  spare_room : vec_capacity l.spare ≡ vec_capacity l.fn.spare;
}
