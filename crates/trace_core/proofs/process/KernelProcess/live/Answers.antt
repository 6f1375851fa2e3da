use Rattle.trace_core.proofs.processes.KernelProcesses.{known-children}
use Rattle.trace_core.proofs.process.KernelProcess.live.Goals as goal

-- src/process.rt:77:5
pub returns-clause-sound : goal.returns-clause-sound
returns-clause-sound g c = known-children _ _ c.args.self.now.stood c.args.self.now.parts.numbered
