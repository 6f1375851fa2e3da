use Rattle.std.proofs.Common.{◌∙◌, length}
use Rattle.memory_uses.proofs.Answered.{bytes_on_ok}
use Rattle.memory_uses.proofs.Writing.{written_or_refused}
use Rattle.memory_uses.proofs.parting.write_and_read_own.Goals as goal

pub returns-clause-bytes : goal.returns-clause-bytes
returns-clause-bytes g c =
    bytes_on_ok c.read.result (g.P.Own.Frozen.snapshot c.read.new.self) (g.P.Process.kept (g.P.Process.beside c.args.process.now) c.args.child.now)
    c.args.addr (length c.args.buf.now) c.read.new.buf
    (c.read.ensures.keeps.goes_on.mem ∙ g.met.P.Parting.kept_own c.args.process.now c.args.child.now) c.read.ensures.bytes

pub returns-clause-written : goal.returns-clause-written
returns-clause-written g c =
    written_or_refused c.write_at-written.result (g.P.Memory.state c.args.process.now) (g.P.Memory.state c.write_at-written.new.memory)
    c.args.addr c.args.bytes.now c.write_at-written.ensures.ready c.write_at-written.ensures.cause
