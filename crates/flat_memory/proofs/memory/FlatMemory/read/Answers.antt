-- A memory reads as it is.
use Rattle.flat_memory.proofs.FlatStands.{holds-memory}
use Rattle.flat_memory.proofs.memory.FlatMemory.read.Goals as goal

pub returns-in-Ok-clause-sound : goal.returns-in-Ok-clause-sound
returns-in-Ok-clause-sound c = holds-memory c.args.self.now.sides c.args.self.now.holds

pub returns-in-Err-clause-sound : goal.returns-in-Err-clause-sound
returns-in-Err-clause-sound c = holds-memory c.args.self.now.sides c.args.self.now.holds
