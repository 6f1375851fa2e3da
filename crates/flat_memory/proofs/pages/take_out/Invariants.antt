-- The entries below the place are as they were, and of those behind it the ones beyond the pages are left.
use Rattle.std.proofs.Common.{◌≡◌, ◌+◌, ◌≤◌, ◌++◌, vec_len, vec_capacity, take, drop}
use Rattle.std.specs.Ordering.{nat_cmp}
use Rattle.std.specs.FinMap.Entries.{where_key}
use Rattle.vm_base.specs.FlatStep.{is_beyond}
use Rattle.flat_memory.proofs.pages.take_out.Given as goal

abbrev pub invariant-loop-at : goal.invariant-loop-at
invariant-loop-at l = record {
  within : l.at ≤ vec_len l.entries;
  below : l.at ≤ vec_len l.fn.entries;
  left : l.entries.items ≡ take l.at l.fn.entries.items ++ where_key nat_cmp (is_beyond l.first l.pages) (drop l.at l.fn.entries.items);
  all : vec_len l.entries + vec_len l.spare ≡ vec_len l.fn.entries + vec_len l.fn.spare;
  room : vec_capacity l.entries ≡ vec_capacity l.fn.entries;
  spare_room : vec_capacity l.spare ≡ vec_capacity l.fn.spare;
}

abbrev pub decreases-loop-at : goal.decreases-loop-at
decreases-loop-at l = l.at
