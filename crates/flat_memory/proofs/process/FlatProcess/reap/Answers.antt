-- A memory is as it was without its child.
use Rattle.flat_memory.proofs.FlatCalls.{reap-leaves}
use Rattle.flat_memory.proofs.process.FlatProcess.reap.Goals as goal

pub returns-clause-memory : goal.returns-clause-memory
returns-clause-memory c = reap-leaves c.args.self.now.sides c.args.self.now.holds
