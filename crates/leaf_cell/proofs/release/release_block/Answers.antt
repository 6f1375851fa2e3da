use Rattle.std.proofs.Common.{◌∙◌, ◌+◌, arith}
use Rattle.leaf_cell.specs.Inside.{table_places}
use Rattle.leaf_cell.proofs.BlockPages.{releasing-bare}
use Rattle.leaf_cell.proofs.Releases.{releasing-more}
use Rattle.leaf_cell.proofs.release.release_block.Goals as goal

pub returns-then-is_bare-clause-released : goal.returns-then-is_bare-clause-released
returns-then-is_bare-clause-released g c = releasing-bare g.A.Allot.goes (g.A.Allot.state c.args.allot.now) c.args.table.now.places
    (table_places c.args.other.now) c.args.frames.now
    c.args.first (c.args.first + 8) (c.is_bare.ensures c.if-is_bare.true)

pub loop-page-preserved : goal.loop-page-preserved
loop-page-preserved g c = record {
  released = releasing-more g.A.Allot.goes (g.A.Allot.state c.args.allot.now) (g.A.Allot.state c.loop-page.allot)
      (g.A.Allot.state c.release_entry.new.allot)
      c.args.table.now.places (table_places c.args.other.now) c.args.frames.now c.loop-page.frames c.release_entry.new.frames c.args.first
      c.loop-page.page
      (omega (arith, c.loop-page-test.true, c.requires.home.0)) (omega (arith, c.loop-page.auto.page)) c.requires.size c.requires.home.1.0
      c.requires.home.1.1 c.loop-page.invariant.released c.release_entry.ensures.released;
  out = omega (arith, c.loop-page.invariant.out, c.release_entry.ensures.out);
  untold = c.release_entry.ensures.untold;
  unrefused = c.release_entry.ensures.unrefused ∙ c.loop-page.invariant.unrefused;
}
