use Rattle.std.proofs.Common.{◌∙◌, sym}
use Rattle.leaf_cell.proofs.BlockPages.{has_present-absent}
use Rattle.leaf_cell.proofs.leaf_table.LeafTable.covers_block.Goals as goal

pub returns-then-is_bare : goal.returns-then-is_bare
returns-then-is_bare c = sym (has_present-absent c.args.self.now.places c.args.first 8 (c.is_bare.ensures c.if-is_bare.true))
