use Rattle.std.proofs.Common.{◌+◌, refl, sym, ◌∙◌, ap, subst}
use Rattle.std.proofs.lemmas.Option.{slice_get_read}
use Rattle.page_tables.specs.Losses.{lower_of, IsLowestLost}
use Rattle.page_tables.proofs.LowestLoss.{lowest-next}
use Rattle.page_tables.proofs.loss.lowest_lost.Goals as goal

-- src/loss.rt:22:5
pub loop-i-preserved : goal.loop-i-preserved
loop-i-preserved c =
    subst (IsLowestLost c.args.slots.now c.args.number (c.loop-i.i + 1)) (sym (c.lower_of-lowest.ensures ∙ ap (lower_of c.loop-i.lowest) c.lost_here.ensures))
    (lowest-next c.args.slots.now c.args.number c.loop-i.i c.index-slots-i.result c.loop-i.lowest
    (slice_get_read c.args.slots.now _ c.loop-i.i c.index-slots-i.result refl c.loop-i-test.true c.index-slots-i.is) c.loop-i.invariant)
