-- The places are made, and the frame taken out of one of them.
use Rattle.std.proofs.Common.{◌∙◌, ap}
use Rattle.std.proofs.Math.ListN.{set, length-set}
use Rattle.leaf_cell.proofs.OpenedPlaces.{opened-set, slots-full}
use Rattle.leaf_cell.proofs.frame_places.FramePlaces.take.Goals as goal

pub invariant_of-self : goal.invariant_of-self
invariant_of-self c =
    let slots = c.open.new.slots.items in
    slots-full (set slots c.args.place c.take.new.self) _ (length-set slots c.args.place c.take.new.self ∙ c.open.ensures.size)

pub returns-clause-left : goal.returns-clause-left
returns-clause-left c =
    let same = c.open.ensures.opened ∙ c.self.view_is in
    opened-set c.open.new.slots.items c.args.self.now c.args.place c.take.new.self c.open.ensures.size same
    ∙ ap (λ slot. set c.args.self.now c.args.place slot) c.take.ensures.after
