use Rattle.std.proofs.Common.{◌<◌, ◌∙◌, sym}
use Rattle.kernel_meaning.specs.Leaves.{version_at}
use Rattle.leaf_cell.specs.Inside.{table_places, IsPlaceOf}
use Rattle.leaf_cell.proofs.PutPage.{place_room}
use Rattle.leaf_cell.proofs.Releases.{not-named, released-as}
use Rattle.leaf_cell.proofs.release.release_entry.Goals as goal

pub release_page-requires-clause-room : goal.release_page-requires-clause-room
release_page-requires-clause-room g c = λ q named.
    let home : (c.args.page < 512) × IsPlaceOf c.args.page q = c.requires.home.1 c.args.page q (sym c.get-place.ensures ∙ named) in
    place_room c.args.page q home.0 home.1

pub returns-in-Some-clause-released : goal.returns-in-Some-clause-released
returns-in-Some-clause-released g c =
    released-as g.A.Allot.goes (g.A.Allot.state c.args.allot.now) (g.A.Allot.state c.release_page.new.allot)
    c.get-place.result (version_at c.args.table.now.places c.args.page)
    c.place_in.result (version_at (table_places c.args.other.now) c.args.page)
    c.args.frames.now c.release_page.new.frames c.get-place.ensures c.place_in.ensures c.release_page.ensures.released

pub returns-in-None-clause-released : goal.returns-in-None-clause-released
returns-in-None-clause-released g c =
    not-named g.A.Allot.goes (g.A.Allot.state c.args.allot.now) (version_at c.args.table.now.places c.args.page)
    (version_at (table_places c.args.other.now) c.args.page) c.args.frames.now (sym c.get-place.ensures ∙ c.in-None.is)
