use Rattle.std.proofs.Common.{ap, ◌≡◌, refl, subst, arith}
use Rattle.turn_cell.specs.declared.seat.Seat.{Seat}
use Rattle.turn_cell.specs.Seats.{CellId, IsSeatOf}
use Rattle.turn_cell.specs.Lists.{list_id}
use Rattle.turn_cell.proofs.Lists.{same_some}
use Rattle.turn_cell.proofs.Given.{list_kept}
use Rattle.turn_cell.proofs.seat.SeatList.put.Goals as goal

pub returns-clause-list : goal.returns-clause-list
returns-clause-list g c =
    let l = c.requires.list in
    let s = c.requires.seat in
    let small = s.numbered.small in
    let size = l.size in
    let seats = ap (λ (z : CellId g.row.T.Denot). z.seats) s.cell in
    list_kept g.T.Told.seat_of c.args.self.now _ c.args.seat.number _ refl refl (omega arith)
    (λ t e.
    subst (λ (z : Seat g.row.T.Denot g.row.T-Entry.Denot). IsSeatOf g.T.Told.seat_of (list_id c.args.self.now) z × (z.number ≡ c.args.seat.number)) (same_some _ _ e) (s, refl))
    l
