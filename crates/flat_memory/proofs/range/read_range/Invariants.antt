-- The bytes so far are those of the range.
use Rattle.std.proofs.Common.{◌≡◌, ◌-◌, ◌≤◌, length, take}
use Rattle.vm_base.specs.FlatMemory.{bytes_at}
use Rattle.flat_memory.proofs.range.read_range.Given as goal

abbrev pub invariant-loop-done : goal.invariant-loop-done
invariant-loop-done l = record {
  within : l.done ≤ length l.fn.buf;
  read : take l.done l.buf ≡ bytes_at l.pages.present l.addr l.done;
}

abbrev pub decreases-loop-done : goal.decreases-loop-done
decreases-loop-done l = length l.fn.buf - l.done
