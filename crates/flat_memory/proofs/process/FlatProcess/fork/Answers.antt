-- A fork leaves the memory, whether there is a child or not.
use Rattle.flat_memory.proofs.FlatCalls.{fork-leaves, unforked-leaves}
use Rattle.flat_memory.proofs.process.FlatProcess.fork.Goals as goal

pub returns-in-Ok-clause-memory : goal.returns-in-Ok-clause-memory
returns-in-Ok-clause-memory c = fork-leaves c.args.self.now.sides c.fork.new.self c.in-Ok.number c.args.self.now.holds c.in-Ok.ensures

pub returns-in-Err-clause-memory : goal.returns-in-Err-clause-memory
returns-in-Err-clause-memory c = unforked-leaves c.args.self.now.sides c.fork.new.self c.in-Err.fault c.args.self.now.holds c.in-Err.ensures
