use Rattle.std.proofs.Common.{◌≡◌, ◌∙◌, ◌+◌, ◌*◌, subst, arith}
use Rattle.leaf_cell.specs.Inside.{table_places}
use Rattle.leaf_cell.specs.Releasing.{Releasing}
use Rattle.leaf_cell.proofs.BlockPages.{releasing-both}
use Rattle.leaf_cell.proofs.release.release_pages.Goals as goal

pub loop-block-preserved : goal.loop-block-preserved
loop-block-preserved g c =
    let next : 8 * c.loop-block.block + 8 ≡ 8 * (c.loop-block.block + 1) = omega arith in
    record {
      released = subst (λ upto. Releasing g.A.Allot.goes (g.A.Allot.state c.args.allot.now) (g.A.Allot.state c.release_block.new.allot)
          c.args.table.now.places (table_places c.args.other.now) c.args.frames.now c.release_block.new.frames 0 upto) next
          (releasing-both g.A.Allot.goes (g.A.Allot.state c.args.allot.now) (g.A.Allot.state c.loop-block.allot) (g.A.Allot.state c.release_block.new.allot)
          c.args.table.now.places (table_places c.args.other.now) c.args.frames.now c.loop-block.frames c.release_block.new.frames 0 (8 * c.loop-block.block) (8 * c.loop-block.block + 8)
          (omega arith) (omega arith) c.loop-block.invariant.released c.release_block.ensures.released);
      out = omega (arith, c.loop-block.invariant.out, c.release_block.ensures.out);
      untold = c.release_block.ensures.untold;
      unrefused = c.release_block.ensures.unrefused ∙ c.loop-block.invariant.unrefused;
    }
