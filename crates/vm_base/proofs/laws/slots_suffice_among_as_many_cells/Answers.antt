use Rattle.vm_base.proofs.FlatAreas.{cells-of_pages}
use Rattle.vm_base.proofs.FlatSlots.{slots-among, slots-below, touch_answer-areas, slots-never_full}
use Rattle.vm_base.proofs.laws.slots_suffice_among_as_many_cells.Goals as goal

pub returns : goal.returns
returns c = record {
  among = slots-among;
  below = slots-below;
  areas = touch_answer-areas;
  full = slots-never_full;
  cells = cells-of_pages;
}
