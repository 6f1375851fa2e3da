-- Nothing is lost, so the snapshot's read is that of its memory.
use Rattle.std.proofs.Common.{sym, ◌∙◌, ap}
use Rattle.std.specs.Option.{option_copied}
use Rattle.plain_kernel.proofs.OneSnapshot.{snap_read_answers}
use Rattle.plain_kernel.proofs.kernel.Kernel.snap_read.Goals as goal

pub returns-in-Some : goal.returns-in-Some
returns-in-Some c = rw c.bytes_outcome.ensures
    (snap_read_answers c.args.self.now.snapshots c.args.self.now.losses c.args.number c.in-Some.memory.now c.args.addr c.args.len c.read.result
    (sym c.kept.ensures.found ∙ ap option_copied c.in-Some.is) c.kept.ensures.whole c.read.ensures)
