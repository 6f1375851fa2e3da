-- A child is read from what it has.
use Rattle.std.proofs.Common.{length}
use Rattle.flat_memory.specs.SideSeen.{mem_of}
use Rattle.flat_memory.specs.FlatLaws.{none_found}
use Rattle.flat_memory.proofs.FlatCalls.{nest-keeps, kept-read}
use Rattle.flat_memory.proofs.nest.FlatNest.child_read.Goals as goal

pub returns-in-Ok-clause-bytes : goal.returns-in-Ok-clause-bytes
returns-in-Ok-clause-bytes c =
    kept-read (mem_of c.args.self.now.sides.kept) c.args.addr (length c.args.buf.now) c.read.new.buf c.in-Ok.ensures.inside
    c.in-Ok.ensures.bytes

pub returns-in-Ok-clause-keeps : goal.returns-in-Ok-clause-keeps
returns-in-Ok-clause-keeps c = nest-keeps (mem_of c.args.self.now.sides.kept)

pub returns-in-Ok-clause-since : goal.returns-in-Ok-clause-since
returns-in-Ok-clause-since c = λ cell at found. absurd (none_found cell at found)

pub returns-in-Err-clause-keeps : goal.returns-in-Err-clause-keeps
returns-in-Err-clause-keeps c = nest-keeps (mem_of c.args.self.now.sides.kept)

pub returns-in-Err-clause-since : goal.returns-in-Err-clause-since
returns-in-Err-clause-since c = λ cell at found. absurd (none_found cell at found)
