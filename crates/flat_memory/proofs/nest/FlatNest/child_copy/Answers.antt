-- Nothing is left to be copied.
use Rattle.flat_memory.specs.SideSeen.{mem_of}
use Rattle.flat_memory.specs.FlatLaws.{none_found}
use Rattle.flat_memory.proofs.FlatCalls.{nest-keeps}
use Rattle.flat_memory.proofs.nest.FlatNest.child_copy.Goals as goal

pub returns-clause-keeps : goal.returns-clause-keeps
returns-clause-keeps c = nest-keeps (mem_of c.args.self.now.sides.kept)

pub returns-clause-since : goal.returns-clause-since
returns-clause-since c = λ cell at found. absurd (none_found cell at found)
