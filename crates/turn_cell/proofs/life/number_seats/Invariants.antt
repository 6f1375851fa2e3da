use Rattle.std.proofs.Common.{◌≡◌, vec_capacity}
use Rattle.turn_cell.specs.Lists.{start_id}
use Rattle.turn_cell.proofs.Making.{Seating}
use Rattle.turn_cell.proofs.life.number_seats.Given as goal

abbrev pub invariant-loop-number : goal.invariant-loop-number
invariant-loop-number g l = Seating g.T.Told.seat_of (start_id l.shared.table_id l.shared.key) l.shared.key l.number l.maker l.slots.items × (vec_capacity l.slots ≡ l.seats)
