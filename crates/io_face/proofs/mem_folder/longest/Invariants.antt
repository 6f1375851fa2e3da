use Rattle.std.proofs.Common.{◌≡◌}
use Rattle.std.specs.VecDeque.Iter.{deque_iter_rest}
use Rattle.io_face.specs.Memory.{longest}
use Rattle.io_face.proofs.mem_folder.longest.Given as goal

abbrev pub invariant-loop-entry : goal.invariant-loop-entry
invariant-loop-entry l = longest l.most (deque_iter_rest l.entry-iterator) ≡ longest l.room l.files.items
