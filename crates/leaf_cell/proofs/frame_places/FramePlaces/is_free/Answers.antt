-- No frame lies where no place is made.
use Rattle.std.proofs.Common.{◌≤◌, length, None, not, sym, ◌∙◌, ap, arith}
use Rattle.std.specs.Prelude.{is_some, slice_index_or}
use Rattle.leaf_cell.proofs.OpenedPlaces.{opened-past}
use Rattle.leaf_cell.proofs.frame_places.FramePlaces.is_free.Goals as goal

pub returns-in-None : goal.returns-in-None
returns-in-None c =
    let slots = c.self.inside.slots.items in
    let past : length slots ≤ c.args.place = omega (arith, c.in-None.ensures.lookup, ap length c.deref.ensures.value) in
    let none = ap (λ l. slice_index_or l c.args.place None) (sym c.self.view_is) ∙ opened-past slots c.args.place past in
    sym (ap (λ slot. not (is_some slot)) none)
