use Rattle.std.proofs.Common.{◌≡◌, ◌≤◌, ◌-◌, length, fold}
use Rattle.vm_base.specs.FlatMemory.{bytes_at}
use Rattle.store_meaning.specs.HashLayout.{hash_step}
use Rattle.page_hash.proofs.block_head.hash_range.Given as goal

-- the hash of the bytes so far
abbrev pub invariant-loop-done : goal.invariant-loop-done
invariant-loop-done g l = record {
  same : g.M.Memory.state l.m ≡ g.M.Memory.state l.fn.m;
  aside : g.M.Memory.aside l.m ≡ g.M.Memory.aside l.fn.m;
  went : g.M.Memory.went l.fn.m l.m;
  room : length l.piece ≡ 272;
  within : l.done ≤ l.n;
  so_far : l.on ≡ fold hash_step l.hash (bytes_at (g.M.Memory.state l.fn.m).mem.present l.addr l.done);
}

abbrev pub decreases-loop-done : goal.decreases-loop-done
decreases-loop-done g l = l.n - l.done
