use Rattle.std.proofs.Common.{◌≡◌, ◌+◌, ◌≤◌, ◌++◌, reverse, map, vec_len}
use Rattle.std.specs.VecDeque.{deque_len, deque_capacity}
use Rattle.io_face.specs.Memory.{file_entry}
use Rattle.io_face.proofs.mem_folder.newest_first.Given as goal

abbrev pub invariant-loop-name : goal.invariant-loop-name
invariant-loop-name l = record {
  order : l.entries.items ++ reverse (map file_entry l.files.items) ≡ reverse (map file_entry l.fn.files.items);
  places : deque_len l.entries + vec_len l.files + 32 ≤ deque_capacity l.entries;
}

abbrev pub decreases-loop-name : goal.decreases-loop-name
decreases-loop-name l = vec_len l.files
