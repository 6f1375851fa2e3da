use Rattle.vm_base.specs.SnapshotState.{Quiet}
use Rattle.std.proofs.Common.{◌≡◌, ◌≤◌, IsTrue}
use Rattle.memory_uses.proofs.copying.copy_through.Given as goal

-- what was found lost before the first call is known only behind one
abbrev pub invariant-loop : goal.invariant-loop
invariant-loop g l = record {
  quiet : Quiet (g.Z.Frozen.snapshot l.fn.z) (g.Z.Frozen.snapshot l.z);
  memory : (g.Z.Frozen.snapshot l.z).mem ≡ (g.Z.Frozen.snapshot l.fn.z).mem;
  todo : (g.Z.Frozen.snapshot l.z).todo ≤ (g.Z.Frozen.snapshot l.fn.z).todo;
  passed : IsTrue (g.Z.Frozen.snapshot l.fn.z).passed → IsTrue (g.Z.Frozen.snapshot l.z).passed;
  whole : IsTrue (g.Z.Frozen.snapshot l.fn.z).whole → IsTrue (g.Z.Frozen.snapshot l.z).whole;
  aside : g.Z.Frozen.aside l.z ≡ g.Z.Frozen.aside l.fn.z;
  went : g.Z.Frozen.went l.fn.z l.z;
}

abbrev pub decreases-loop : goal.decreases-loop
decreases-loop g l = (g.Z.Frozen.snapshot l.z).todo
