use Rattle.std.proofs.Common.{◌∙◌, sym, subst, Some}
use Rattle.leaf_cell.specs.Inside.{AreInside}
use Rattle.leaf_cell.proofs.InsideFacts.{parent_at_home, own_at_home}
use Rattle.leaf_cell.proofs.unshare.lose_leaf.Goals as goal

pub release_leaf-requires-clause-home : goal.release_leaf-requires-clause-home
release_leaf-requires-clause-home g c = own_at_home c.args.parent.now (Some c.in-Some.lost) c.args.frames.now
    (subst (λ it. AreInside c.args.parent.now it c.args.frames.now) (sym c.take.ensures.value ∙ c.in-Some.is) c.requires.inside)

pub release_leaf-requires-clause-others : goal.release_leaf-requires-clause-others
release_leaf-requires-clause-others g c = parent_at_home c.args.parent.now c.args.snapshot.now c.args.frames.now c.requires.inside
