-- The bytes so far are stored.
use Rattle.std.proofs.Common.{◌≡◌, ◌-◌, ◌≤◌, length, take}
use Rattle.vm_base.specs.FlatStep.{with_bytes}
use Rattle.flat_memory.proofs.range.store_range.Given as goal

abbrev pub invariant-loop-done : goal.invariant-loop-done
invariant-loop-done l = record {
  within : l.done ≤ length l.bytes;
  stored : l.pages ≡ record l.fn.pages { present = with_bytes l.fn.pages.present l.addr (take l.done l.bytes) };
}

abbrev pub decreases-loop-done : goal.decreases-loop-done
decreases-loop-done l = length l.bytes - l.done
