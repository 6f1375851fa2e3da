-- Storing the rest gives what storing all gives, and the pages of the rest are present.
use Rattle.std.proofs.Common.{◌+◌, length}
use Rattle.vm_base.specs.FlatStep.{with_bytes}
use Rattle.plain_kernel.proofs.Storing.{Storing}
use Rattle.plain_kernel.proofs.range.store_range.Given as goal

abbrev pub invariant-loop-rest : goal.invariant-loop-rest
invariant-loop-rest l = Storing l.pages l.at l.rest (l.addr + length l.bytes) (with_bytes l.fn.pages l.addr l.bytes)

abbrev pub decreases-loop-rest : goal.decreases-loop-rest
decreases-loop-rest l = length l.rest
