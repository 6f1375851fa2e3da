-- The places are made, and the bytes stored in one of them.
use Rattle.std.proofs.Common.{◌≡◌, length, None, ◌∙◌, ap, subst}
use Rattle.std.specs.Prelude.{slice_set, slice_index_or}
use Rattle.std.proofs.Math.ListN.{length-set}
use Rattle.leaf_cell.specs.Adding.{stored_in, IsWholeFrame}
use Rattle.leaf_cell.proofs.OpenedPlaces.{opened-full, slots-full}
use Rattle.leaf_cell.proofs.frame_places.FramePlaces.store.Goals as goal

pub invariant_of-self : goal.invariant_of-self
invariant_of-self c =
    let size : length c.store_place.new.frames.items ≡ 1024 =
    ap length c.store_place.ensures.stored ∙ length-set c.open.new.slots.items c.args.place _ ∙ c.open.ensures.size in
    slots-full c.store_place.new.frames.items _ size

pub returns-clause-stored : goal.returns-clause-stored
returns-clause-stored c =
    let size : length c.store_place.new.frames.items ≡ 1024 =
    ap length c.store_place.ensures.stored ∙ length-set c.open.new.slots.items c.args.place _ ∙ c.open.ensures.size in
    opened-full c.store_place.new.frames.items size ∙ c.store_place.ensures.stored
    ∙ ap (λ l. slice_set l c.args.place (stored_in (slice_index_or l c.args.place None) c.args.at c.args.bytes.now))
    (c.open.ensures.opened ∙ c.self.view_is)

pub returns-clause-whole : goal.returns-clause-whole
returns-clause-whole c =
    subst (λ l. IsWholeFrame (slice_index_or l c.args.place None)) (c.open.ensures.opened ∙ c.self.view_is) c.store_place.ensures.whole
