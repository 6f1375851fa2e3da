use Rattle.std.proofs.Common.{◌≡◌}
use Rattle.std.specs.VecDeque.Iter.{deque_iter_rest}
use Rattle.io_face.specs.Memory.{text_of}
use Rattle.io_face.proofs.mem_folder.find.Given as goal

abbrev pub invariant-loop-entry : goal.invariant-loop-entry
invariant-loop-entry l = text_of l.files.items l.name ≡ text_of (deque_iter_rest l.entry-iterator) l.name
