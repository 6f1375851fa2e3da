use Rattle.std.proofs.Common.{refl, subst, List, length, ◌<◌}
use Rattle.std.specs.Prelude.{Option}
use Rattle.turn_cell.specs.declared.seat.Seat.{Seat}
use Rattle.turn_cell.specs.Lists.{HasNone, IsSeatIn}
use Rattle.turn_cell.proofs.Lists.{not_both}
use Rattle.turn_cell.proofs.Given.{list_kept, list_taken}
use Rattle.turn_cell.proofs.seat.SeatList.take.Goals as goal

pub returns-clause-list : goal.returns-clause-list
returns-clause-list g c =
    let at = c.in_ok-at.ensures in
    list_kept g.T.Told.seat_of c.args.self.now _ c.in_ok-at.at c.take.new.self refl refl
    (subst (λ (l : List (Option (Seat g.row.T.Denot g.row.T-Entry.Denot))). c.in_ok-at.at < length l) c.as_slice.ensures.value at.0)
    (λ s e. absurd (not_both _ _ c.take.ensures.after e))
    c.requires.list

pub returns-clause-taken : goal.returns-clause-taken
returns-clause-taken g c =
    let at = subst (λ (l : List (Option (Seat g.row.T.Denot g.row.T-Entry.Denot))). (c.in_ok-at.at < length l) × HasNone l c.in_ok-at.at × IsSeatIn l c.in_ok-at.at) c.as_slice.ensures.value (c.in_ok-at.ensures) in
    list_taken g.T.Told.seat_of _ c.args.self.now c.in_ok-at.at c.take.result c.index_mut.result.now c.take.new.self c.requires.list at.0 at.1 at.2 c.take.ensures.value c.index_mut.ensures.value c.take.ensures.after
