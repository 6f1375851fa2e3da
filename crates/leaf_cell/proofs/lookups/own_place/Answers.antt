use Rattle.std.proofs.Common.{sym, ap, ◌∙◌}
use Rattle.kernel_meaning.specs.Leaves.{no_versions, version_at}
use Rattle.leaf_cell.specs.Inside.{own_places, snapshot_places}
use Rattle.leaf_cell.proofs.AbsentPages.{version_at-none}
use Rattle.leaf_cell.proofs.lookups.own_place.Goals as goal

pub returns-in-Joined : goal.returns-in-Joined
returns-in-Joined c = sym (ap (λ it. version_at (own_places it) c.args.page) c.in-Some.is
    ∙ ap (λ leaf. version_at (snapshot_places no_versions leaf) c.args.page) c.in-Joined.is ∙ version_at-none c.args.page)

pub returns-in-Lost : goal.returns-in-Lost
returns-in-Lost c = sym (ap (λ it. version_at (own_places it) c.args.page) c.in-Some.is
    ∙ ap (λ leaf. version_at (snapshot_places no_versions leaf) c.args.page) c.in-Lost.is ∙ version_at-none c.args.page)

pub returns-in-None : goal.returns-in-None
returns-in-None c = sym (ap (λ it. version_at (own_places it) c.args.page) c.in-None.is ∙ version_at-none c.args.page)
