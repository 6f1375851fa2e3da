use Rattle.std.proofs.Common.{◌∙◌, ◌<◌, sym, arith}
use Rattle.kernel_meaning.specs.Leaves.{version_at}
use Rattle.leaf_cell.specs.Inside.{table_places, own_places, IsPlaceOf}
use Rattle.leaf_cell.proofs.PutPage.{place_room}
use Rattle.leaf_cell.proofs.Releases.{releasing-more, released-as}
use Rattle.leaf_cell.proofs.release.release_range.Goals as goal

pub release_page-requires-clause-room : goal.release_page-requires-clause-room
release_page-requires-clause-room g c = λ q named.
    let home : (c.loop-page.page < 512) × IsPlaceOf c.loop-page.page q = c.requires.home c.loop-page.page q (sym c.place_in.ensures ∙ named) in
    place_room c.loop-page.page q home.0 home.1

pub loop-page-preserved : goal.loop-page-preserved
loop-page-preserved g c = record {
  released = releasing-more g.A.Allot.goes (g.A.Allot.state c.args.allot.now) (g.A.Allot.state c.loop-page.allot) (g.A.Allot.state c.release_page.new.allot)
      (table_places c.args.parent.now) (own_places c.args.snapshot.now) c.args.frames.now c.loop-page.frames c.release_page.new.frames c.args.first c.loop-page.page
      (omega arith) (omega arith) c.requires.size c.requires.home c.requires.others c.loop-page.invariant.released
      (released-as g.A.Allot.goes (g.A.Allot.state c.loop-page.allot) (g.A.Allot.state c.release_page.new.allot)
      c.place_in.result (version_at (table_places c.args.parent.now) c.loop-page.page) c.own_place.result (version_at (own_places c.args.snapshot.now) c.loop-page.page)
      c.loop-page.frames c.release_page.new.frames c.place_in.ensures c.own_place.ensures c.release_page.ensures.released);
  out = omega (arith, c.loop-page.invariant.out, c.release_page.ensures.out);
  untold = c.release_page.ensures.untold;
  unrefused = c.release_page.ensures.unrefused ∙ c.loop-page.invariant.unrefused;
}
