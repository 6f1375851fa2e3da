-- The places are made, and the frame put at one of them.
use Rattle.std.proofs.Common.{Some, ◌∙◌}
use Rattle.std.proofs.Math.ListN.{set, length-set}
use Rattle.leaf_cell.proofs.OpenedPlaces.{opened-set, slots-full}
use Rattle.leaf_cell.proofs.frame_places.FramePlaces.put.Goals as goal

pub invariant_of-self : goal.invariant_of-self
invariant_of-self c =
    let slots = c.open.new.slots.items in
    slots-full (set slots c.args.place (Some c.args.frame)) _ (length-set slots c.args.place (Some c.args.frame) ∙ c.open.ensures.size)

pub returns : goal.returns
returns c =
    let same = c.open.ensures.opened ∙ c.self.view_is in
    opened-set c.open.new.slots.items c.args.self.now c.args.place (Some c.args.frame) c.open.ensures.size same
