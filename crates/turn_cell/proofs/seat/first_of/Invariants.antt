use Rattle.turn_cell.specs.Lists.{HasNone}
use Rattle.turn_cell.proofs.seat.first_of.Given as goal

abbrev pub invariant-loop-at : goal.invariant-loop-at
invariant-loop-at g l = HasNone l.slots l.at
