use Rattle.vm_base.proofs.FlatAreas.{area_of-found, outside-in_area, outside-none, unwritable-in_area, unwritable-none, taken-apart, taken-none}
use Rattle.vm_base.proofs.laws.no_area_is_missed.Goals as goal

pub returns : goal.returns
returns c = record {
  found = area_of-found;
  held = outside-in_area;
  outside = outside-none;
  writable = unwritable-in_area;
  unwritable = unwritable-none;
  apart = taken-apart;
  taken = taken-none;
}
