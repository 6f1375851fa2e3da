use Rattle.turn_cell.proofs.Making.{Gathering}
use Rattle.turn_cell.proofs.life.gather_seats.Given as goal

abbrev pub invariant-loop-number : goal.invariant-loop-number
invariant-loop-number g l = Gathering g.T.Told.seat_of l.initial.maker l.initial.slots.items l.number l.maker l.slots.items
