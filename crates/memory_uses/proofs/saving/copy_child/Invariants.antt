use Rattle.std.proofs.Common.{◌≡◌, ◌≤◌, ◌+◌, ◌⊎◌, IsTrue, length}
use Rattle.vm_base.specs.Places.{distinct}
use Rattle.vm_base.specs.FlatMemory.{cells_of}
use Rattle.vm_base.specs.SnapshotState.{Quiet}
use Rattle.memory_uses.proofs.saving.copy_child.Given as goal

-- cells were copied, and none was refused or found lost
abbrev pub invariant-loop-copies : goal.invariant-loop-copies
invariant-loop-copies g l = record {
  lives : IsTrue (g.P.Nest.lives (g.P.Nest.beside l.process l.child));
  quiet : Quiet (g.P.Nest.nested l.fn.process l.fn.child) (g.P.Nest.nested l.process l.child);
  memory : (g.P.Nest.nested l.process l.child).mem ≡ (g.P.Nest.nested l.fn.process l.fn.child).mem;
  passed : IsTrue (g.P.Nest.nested l.fn.process l.fn.child).passed → IsTrue (g.P.Nest.nested l.process l.child).passed;
  whole : IsTrue (g.P.Nest.nested l.fn.process l.fn.child).whole → IsTrue (g.P.Nest.nested l.process l.child).whole;
  due : l.copies + (g.P.Nest.nested l.process l.child).todo ≤ (g.P.Nest.nested l.fn.process l.fn.child).todo;
  cells : (l.copies ≡ 0) ⊎ (l.copies + (g.P.Nest.nested l.process l.child).todo ≤ length (distinct (cells_of (g.P.Nest.nested l.fn.process l.fn.child).mem)));
  beside : g.P.Nest.beside l.process l.child ≡ g.P.Nest.beside l.fn.process l.fn.child;
  went : g.P.Nest.went l.fn.process l.process;
}

abbrev pub decreases-loop-copies : goal.decreases-loop-copies
decreases-loop-copies g l = (g.P.Nest.nested l.process l.child).todo
