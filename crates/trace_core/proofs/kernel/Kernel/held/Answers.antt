use Rattle.trace_core.proofs.memories.StepSoundness.{noted-under}
use Rattle.trace_core.proofs.enough.ParentAlone.{held-alone, none-alive}
use Rattle.trace_core.specs.KernelSeen.{notes_of}
use Rattle.trace_core.proofs.kernel.Kernel.held.Goals as goal

pub returns-clause-alone : goal.returns-clause-alone
returns-clause-alone g c none =
    held-alone _ (notes_of c.args.self.now.notes) (noted-under _ _ _ c.args.self.now.stood) (none-alive c.args.self.now.parts.snapshot none) c.held.result c.held.ensures.held
