use Rattle.std.proofs.Common.{◌≡◌, ◌≤◌, ◌-◌, replicate, vec_len}
use Rattle.io_face.specs.Memory.{empty_record}
use Rattle.io_face.proofs.mem_folder.empty_sinks.Given as goal

abbrev pub invariant-loop-alloc : goal.invariant-loop-alloc
invariant-loop-alloc l = record {
  count : vec_len l.sinks ≤ 32;
  empty : l.sinks.items ≡ replicate (vec_len l.sinks) (empty_record l.room);
}

abbrev pub decreases-loop-alloc : goal.decreases-loop-alloc
decreases-loop-alloc l = 32 - vec_len l.sinks
