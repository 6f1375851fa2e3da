-- The areas so far lead to the page that is reached.
use Rattle.std.proofs.Common.{◌≡◌, drop}
use Rattle.area_list.proofs.Found.{reached}
use Rattle.area_list.proofs.lookup.lowest_outside.Given as goal

abbrev pub invariant-loop-area : goal.invariant-loop-area
invariant-loop-area l = reached l.first l.areas ≡ reached l.page (drop l.area-index l.areas)
