use Rattle.vm_base.proofs.FlatAreas.{read_of-in_area, touch_of-in_area}
use Rattle.vm_base.proofs.laws.a_range_of_one_area_is_not_refused.Goals as goal

pub returns : goal.returns
returns c = record { read = read_of-in_area; touched = touch_of-in_area }
