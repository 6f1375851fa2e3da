use Rattle.std.proofs.Common.{◌≡◌, ◌≤◌, ◌-◌, length, take}
use Rattle.vm_base.specs.FlatMemory.{bytes_at}
use Rattle.page_hash.proofs.chain.has_bytes.Given as goal

-- the range has the bytes so far
abbrev pub invariant-loop-done : goal.invariant-loop-done
invariant-loop-done g l = record {
  same : g.M.Memory.state l.m ≡ g.M.Memory.state l.fn.m;
  aside : g.M.Memory.aside l.m ≡ g.M.Memory.aside l.fn.m;
  went : g.M.Memory.went l.fn.m l.m;
  room : length l.piece ≡ 272;
  within : l.done ≤ length l.bytes;
  so_far : bytes_at (g.M.Memory.state l.fn.m).mem.present l.addr l.done ≡ take l.done l.bytes;
}

abbrev pub decreases-loop-done : goal.decreases-loop-done
decreases-loop-done g l = length l.bytes - l.done
