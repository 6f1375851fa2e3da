use Rattle.leaf_cell.specs.Inside.{own_places}
use Rattle.leaf_cell.proofs.BlockPages.{bare-allowed}
use Rattle.leaf_cell.proofs.protect.allow_block.Goals as goal

pub returns-then-is_bare : goal.returns-then-is_bare
returns-then-is_bare c =
    bare-allowed c.args.is_writable (own_places c.args.snapshot.now) c.args.first 8 c.args.table.now c.requires.writable
    (c.is_bare.ensures c.if-is_bare.true)
