use Rattle.std.proofs.Common.{◌≡◌, ◌+◌, length}
use Rattle.turn_cell.specs.Seats.{IsSeatOf, IsSameSeat, cell_id, mine}
use Rattle.turn_counter.specs.Additions.{made_by}
use Rattle.turn_counter.proofs.race.climb.Given as goal

abbrev pub invariant-loop-amount : goal.invariant-loop-amount
invariant-loop-amount g l = record {
  seat : IsSeatOf made_by (cell_id l.cell) l.seat;
  same : IsSameSeat l.initial.seat l.seat;
  made : length (mine l.seat) ≡ length (mine l.initial.seat) + l.amount;
}
