use Rattle.std.proofs.Common.{sym, subst}
use Rattle.kernel_meaning.specs.Leaves.{no_versions}
use Rattle.leaf_cell.specs.Inside.{table_places, snapshot_places, leaf_value}
use Rattle.leaf_cell.specs.Releasing.{own_if, IsLeafReleased, AreHome}
use Rattle.leaf_cell.proofs.AbsentPages.{version_at-none}
use Rattle.leaf_cell.proofs.Releases.{leaf-released, leaf-kept}
use Rattle.leaf_cell.proofs.release.release_leaf.Goals as goal

pub release_pages-requires-clause-home : goal.release_pages-requires-clause-home
release_pages-requires-clause-home g c = subst (λ leaf. AreHome (snapshot_places no_versions leaf)) c.in-Own.is c.requires.home

pub returns-in-Own-clause-released : goal.returns-in-Own-clause-released
returns-in-Own-clause-released g c =
    subst (λ leaf. IsLeafReleased g.A.Allot.goes (g.A.Allot.state c.args.allot.now) (g.A.Allot.state c.give.new.self)
    (snapshot_places no_versions leaf) (table_places c.args.parent.now) (own_if (leaf_value leaf)) c.args.frames.now c.release_pages.new.frames) (sym c.in-Own.is)
    (leaf-released g.A.Allot.goes (g.A.Allot.state c.args.allot.now) (g.A.Allot.state c.release_pages.new.allot) (g.A.Allot.state c.give.new.self) c.in-Own.table.places
    (table_places c.args.parent.now) c.args.frames.now c.release_pages.new.frames
    (subst (λ leaf. AreHome (snapshot_places no_versions leaf)) c.in-Own.is c.requires.home) c.release_pages.ensures.released c.give.ensures.returned)

pub returns-in-Joined-clause-released : goal.returns-in-Joined-clause-released
returns-in-Joined-clause-released g c =
    subst (λ leaf. IsLeafReleased g.A.Allot.goes (g.A.Allot.state c.args.allot.now) (g.A.Allot.state c.args.allot.now)
    (snapshot_places no_versions leaf) (table_places c.args.parent.now) (own_if (leaf_value leaf)) c.args.frames.now c.args.frames.now) (sym c.in-Joined.is)
    (leaf-kept g.A.Allot.goes (g.A.Allot.state c.args.allot.now) no_versions (table_places c.args.parent.now) c.args.frames.now version_at-none)

pub returns-in-Lost-clause-released : goal.returns-in-Lost-clause-released
returns-in-Lost-clause-released g c =
    subst (λ leaf. IsLeafReleased g.A.Allot.goes (g.A.Allot.state c.args.allot.now) (g.A.Allot.state c.args.allot.now)
    (snapshot_places no_versions leaf) (table_places c.args.parent.now) (own_if (leaf_value leaf)) c.args.frames.now c.args.frames.now) (sym c.in-Lost.is)
    (leaf-kept g.A.Allot.goes (g.A.Allot.state c.args.allot.now) no_versions (table_places c.args.parent.now) c.args.frames.now version_at-none)
