use Rattle.std.proofs.Common.{◌≡◌, Ok, length, sym, subst}
use Rattle.vm_base.specs.SnapshotState.{KeepsSnapshot, snapshot_answer}
use Rattle.memory_views.specs.ReadViews.{snapshot_of}
use Rattle.memory_views.proofs.ViewReads.{reads, keeps_snapshot}
use Rattle.memory_views.proofs.read_only.ReadOnlyFrozen.read.Goals as goal

pub returns-in-Ok-clause-bytes : goal.returns-in-Ok-clause-bytes
returns-in-Ok-clause-bytes g c =
    let old = g.M.Memory.state c.args.self.now.memory.now in
    subst (λ s. snapshot_answer (snapshot_of s.mem) c.args.addr (length c.args.buf.now) ≡ Ok c.read.new.buf) (sym c.read.ensures.same)
    (reads old.mem c.args.addr (length c.args.buf.now) c.read.new.buf c.in-Ok.ensures.bytes)

pub returns-in-Ok-clause-keeps : goal.returns-in-Ok-clause-keeps
returns-in-Ok-clause-keeps g c =
    let old = g.M.Memory.state c.args.self.now.memory.now in
    subst (λ s. KeepsSnapshot (snapshot_of old.mem) (snapshot_of s.mem)) (sym c.read.ensures.same) (keeps_snapshot old.mem)

pub returns-in-Err-NoArea-clause-keeps : goal.returns-in-Err-NoArea-clause-keeps
returns-in-Err-NoArea-clause-keeps g c =
    let old = g.M.Memory.state c.args.self.now.memory.now in
    subst (λ s. KeepsSnapshot (snapshot_of old.mem) (snapshot_of s.mem)) (sym c.read.ensures.same) (keeps_snapshot old.mem)
