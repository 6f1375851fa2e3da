-- The bytes so far are those up to the address.
use Rattle.std.proofs.Common.{◌≡◌, ◌-◌, ◌≤◌}
use Rattle.vm_base.specs.FlatMemory.{bytes_at}
use Rattle.plain_kernel.proofs.range.read_range.Given as goal

abbrev pub invariant-loop-at : goal.invariant-loop-at
invariant-loop-at l = record {
  above : l.addr ≤ l.at;
  within : l.at ≤ l.end;
  told : l.bytes ≡ bytes_at l.pages l.addr (l.at - l.addr);
}

abbrev pub decreases-loop-at : goal.decreases-loop-at
decreases-loop-at l = l.end - l.at
