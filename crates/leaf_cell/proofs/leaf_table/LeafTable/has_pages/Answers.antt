use Rattle.std.proofs.Common.{◌≡◌, ◌≤◌, ◌∙◌, ◌+◌, ◌*◌, sym, arith, length}
use Rattle.leaf_cell.proofs.BlockPages.{pages-there, pages-none, block-none}
use Rattle.leaf_cell.proofs.leaf_table.LeafTable.has_pages.Goals as goal

pub loop-block-preserved : goal.loop-block-preserved
loop-block-preserved c = block-none c.args.self.now.places (8 * c.loop-block.block) (8 * (c.loop-block.block + 1)) (omega arith)
    c.loop-block.invariant (sym c.covers_block.ensures ∙ c.if-covers_block.false)

pub returns-then-covers_block : goal.returns-then-covers_block
returns-then-covers_block c = sym (pages-there c.args.self.now.places (8 * c.loop-block.block) c.loop-block.invariant
    (sym c.covers_block.ensures ∙ c.if-covers_block.true))

pub returns : goal.returns
returns c =
    let all : length c.args.self.now.places ≤ 8 * c.loop-block.block = omega
    (arith, c.entries-block-end.ensures.count, c.entries-block-end.ensures.size, c.loop-block-test.false) in
    sym (pages-none c.args.self.now.places (8 * c.loop-block.block) all c.loop-block.invariant)
