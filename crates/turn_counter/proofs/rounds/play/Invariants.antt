use Rattle.turn_cell.specs.Seats.{IsSeatOf, cell_id}
use Rattle.turn_counter.specs.Additions.{made_by}
use Rattle.turn_counter.proofs.rounds.play.Given as goal

abbrev pub invariant-loop-round : goal.invariant-loop-round
invariant-loop-round g l = IsSeatOf made_by (cell_id l.cell) l.seat
