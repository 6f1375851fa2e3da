use Rattle.kernel_meaning.specs.CellActs.{before_change}
use Rattle.kernel_meaning.specs.Leaves.{is_shared, is_marked}
use Rattle.share_cell.specs.Copies.{copied_where}
use Rattle.share_cell.proofs.SomeLeaves.{made-both}
use Rattle.mark_cell.proofs.JoinedCopies.{copies-joined}
use Rattle.mark_cell.proofs.acts.copy_joined.Goals as goal

pub returns-clause-made : goal.returns-clause-made
returns-clause-made g c = made-both g.A.Allot.goes (g.A.Allot.state c.args.allot.now) (g.A.Allot.state c.unshare.new.allot)
    (g.A.Allot.state c.sync.new.allot)
    (copied_where is_shared) (copied_where is_marked) c.args.cell.now c.unshare.new.cell c.sync.new.cell c.unshare.ensures.made
    c.sync.ensures.made

pub returns-clause-copied : goal.returns-clause-copied
returns-clause-copied g c = copies-joined (g.A.Allot.refused (g.A.Allot.state c.args.allot.now))
    (g.A.Allot.refused (g.A.Allot.state c.unshare.new.allot))
    (g.A.Allot.refused (g.A.Allot.state c.sync.new.allot)) c.args.cell.now c.unshare.new.cell c.sync.new.cell c.unshare.ensures.copied
    c.sync.ensures.copied
