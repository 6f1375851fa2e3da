use Rattle.std.proofs.Common.{length, arith, Ok, Err}
use Rattle.vm_base.specs.FlatStep.{OutsideAreas}
use Rattle.trace_core.proofs.supplies.Policies.{known-under}
use Rattle.trace_core.proofs.memories.StepSoundness.{known-noted, noted-under}
use Rattle.trace_core.proofs.memories.KernelMemories.{known-memory}
use Rattle.trace_core.proofs.memories.WithEnough.{told-memory}
use Rattle.trace_core.proofs.memories.Reads.{read-seen}
use Rattle.trace_core.specs.WentOn.{went-none}
use Rattle.trace_core.proofs.memory.KernelMemory.read.Goals as goal

pub returns-then-is_empty-clause-sound : goal.returns-then-is_empty-clause-sound
returns-then-is_empty-clause-sound g c = told-memory _ _ c.args.self.now.reached (known-memory _ _ c.args.self.now.stood (omega arith))

pub read-requires-clause-stands : goal.read-requires-clause-stands
read-requires-clause-stands g c = known-under _ _ (known-noted _ _ c.args.self.now.stood)

pub returns-in-Ok-clause-bytes : goal.returns-in-Ok-clause-bytes
returns-in-Ok-clause-bytes g c = read-seen _ _ (noted-under _ _ _ c.args.self.now.stood) c.args.addr (length c.args.buf.now) (Ok c.read.new.buf) c.in-Ok.ensures.read

pub returns-in-Ok-clause-sound : goal.returns-in-Ok-clause-sound
returns-in-Ok-clause-sound g c = told-memory _ _ c.args.self.now.reached (known-memory _ _ c.args.self.now.stood (omega arith))

pub returns-in-Err-clause-fault : goal.returns-in-Err-clause-fault
returns-in-Err-clause-fault g c = read-seen _ _ (noted-under _ _ _ c.args.self.now.stood) c.args.addr (length c.args.buf.now) (Err (OutsideAreas c.in-Err.outside.page)) c.in-Err.ensures.read

pub returns-in-Err-clause-sound : goal.returns-in-Err-clause-sound
returns-in-Err-clause-sound g c = told-memory _ _ c.args.self.now.reached (known-memory _ _ c.args.self.now.stood (omega arith))

pub returns-then-is_empty-clause-went : goal.returns-then-is_empty-clause-went
returns-then-is_empty-clause-went g c = went-none _ _ c.args.self.now.given

pub returns-in-Ok-clause-went : goal.returns-in-Ok-clause-went
returns-in-Ok-clause-went g c = went-none _ _ c.args.self.now.given

pub returns-in-Err-clause-went : goal.returns-in-Err-clause-went
returns-in-Err-clause-went g c = went-none _ _ c.args.self.now.given
