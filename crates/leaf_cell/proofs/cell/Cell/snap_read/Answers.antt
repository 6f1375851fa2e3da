use Rattle.std.proofs.Common.{◌≡◌, length, Ok, arith}
use Rattle.std.proofs.lemmas.Grind.{common_steps}
use Rattle.leaf_cell.specs.States.{snapshot_part}
use Rattle.leaf_cell.proofs.SameReads.{snap-stands}
use Rattle.leaf_cell.proofs.cell.Cell.snap_read.Goals as goal

pub returns-then-snapshot-number-clause-account : goal.returns-then-snapshot-number-clause-account
returns-then-snapshot-number-clause-account c = λ account stands.
    let read : snapshot_part c.args.self.now c.args.number c.args.page c.args.at (length c.args.buf.now) ≡ Ok c.read_place.new.buf = grind (arith, common_steps) in
    snap-stands c.args.self.now account stands c.args.number c.args.page c.args.at (length c.args.buf.now) c.read_place.new.buf c.requires.page read
