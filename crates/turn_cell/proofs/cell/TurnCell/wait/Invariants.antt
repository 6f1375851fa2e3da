use Rattle.turn_cell.specs.Seats.{Rests, cell_id}
use Rattle.turn_cell.proofs.cell.TurnCell.wait.Given as goal

abbrev pub invariant-loop : goal.invariant-loop
invariant-loop g l = Rests g.T.Told.seat_of (cell_id l.self) l.initial.seat l.seat

abbrev pub invariant-loop-2 : goal.invariant-loop-2
invariant-loop-2 g l = Rests g.T.Told.seat_of (cell_id l.self) l.initial.seat l.seat
