use Rattle.std.proofs.Common.{length, refl, ap, Ok, Err}
use Rattle.trace_core.specs.KernelSeen.{parts_of, notes_of}
use Rattle.trace_core.proofs.supplies.Policies.{known-under}
use Rattle.trace_core.proofs.memories.StepSoundness.{known-noted, noted-under}
use Rattle.trace_core.proofs.processes.Nests.{read-bytes, read-outside, read-lost, read-lives, nest-keeps}
use Rattle.trace_core.specs.WentOn.{went-none}
use Rattle.trace_core.proofs.nest.KernelNest.child_read.Goals as goal

-- src/nest.rt:39:13
pub returns-then-is_empty-clause-keeps : goal.returns-then-is_empty-clause-keeps
returns-then-is_empty-clause-keeps g c = nest-keeps (parts_of c.args.self.now.parts) (notes_of c.args.self.now.notes) c.args.child.now.number c.args.self.now.stood c.args.self.now.held

-- src/nest.rt:41:15
pub snap_read-requires-clause-stands : goal.snap_read-requires-clause-stands
snap_read-requires-clause-stands g c = known-under _ _ (known-noted _ _ c.args.self.now.stood)

-- src/nest.rt:45:44
pub unreachable-requires : goal.unreachable-requires
unreachable-requires g c =
    absurd (read-lives _ (notes_of c.args.self.now.notes) c.args.child.now.number (noted-under _ _ _ c.args.self.now.stood) c.requires.lives c.args.addr (length c.args.buf.now) (Err c.in-Err-NotLive.field-0) c.snap_read.new.buf
    c.in-Err-NotLive.ensures.read (ap Err c.in-Err-NotLive.field-0-is))

-- src/nest.rt:32:5
pub returns-in-Ok-clause-bytes : goal.returns-in-Ok-clause-bytes
returns-in-Ok-clause-bytes g c =
    read-bytes _ (notes_of c.args.self.now.notes) c.args.child.now.number (noted-under _ _ _ c.args.self.now.stood) c.requires.lives c.args.addr (length c.args.buf.now) (Ok tt) c.snap_read.new.buf
    c.in-Ok.ensures.read tt refl

-- src/nest.rt:32:5
pub returns-in-Ok-clause-keeps : goal.returns-in-Ok-clause-keeps
returns-in-Ok-clause-keeps g c = nest-keeps (parts_of c.args.self.now.parts) (notes_of c.args.self.now.notes) c.args.child.now.number c.args.self.now.stood c.args.self.now.held

-- src/nest.rt:32:5
pub returns-in-Err-NoArea-clause-fault : goal.returns-in-Err-NoArea-clause-fault
returns-in-Err-NoArea-clause-fault g c =
    read-outside _ (notes_of c.args.self.now.notes) c.args.child.now.number (noted-under _ _ _ c.args.self.now.stood) c.requires.lives c.args.addr (length c.args.buf.now) (Err c.in-Err-NoArea.field-0)
    c.snap_read.new.buf c.in-Err-NoArea.ensures.read c.in-Err-NoArea.page (ap Err c.in-Err-NoArea.field-0-is)

-- src/nest.rt:32:5
pub returns-in-Err-NoArea-clause-keeps : goal.returns-in-Err-NoArea-clause-keeps
returns-in-Err-NoArea-clause-keeps g c = nest-keeps (parts_of c.args.self.now.parts) (notes_of c.args.self.now.notes) c.args.child.now.number c.args.self.now.stood c.args.self.now.held

-- src/nest.rt:32:5
pub returns-in-Err-Lost-clause-fault : goal.returns-in-Err-Lost-clause-fault
returns-in-Err-Lost-clause-fault g c =
    read-lost _ (notes_of c.args.self.now.notes) c.args.child.now.number (noted-under _ _ _ c.args.self.now.stood) c.requires.lives c.args.addr (length c.args.buf.now) (Err c.in-Err-Lost.field-0)
    c.snap_read.new.buf c.in-Err-Lost.ensures.read c.in-Err-Lost.at (ap Err c.in-Err-Lost.field-0-is)

-- src/nest.rt:32:5
pub returns-in-Err-Lost-clause-keeps : goal.returns-in-Err-Lost-clause-keeps
returns-in-Err-Lost-clause-keeps g c = nest-keeps (parts_of c.args.self.now.parts) (notes_of c.args.self.now.notes) c.args.child.now.number c.args.self.now.stood c.args.self.now.held

pub returns-then-is_empty-clause-went : goal.returns-then-is_empty-clause-went
returns-then-is_empty-clause-went g c = went-none _ _ c.args.self.now.given

pub returns-in-Ok-clause-went : goal.returns-in-Ok-clause-went
returns-in-Ok-clause-went g c = went-none _ _ c.args.self.now.given

pub returns-in-Err-NoArea-clause-went : goal.returns-in-Err-NoArea-clause-went
returns-in-Err-NoArea-clause-went g c = went-none _ _ c.args.self.now.given

pub returns-in-Err-Lost-clause-went : goal.returns-in-Err-Lost-clause-went
returns-in-Err-Lost-clause-went g c = went-none _ _ c.args.self.now.given
