use Rattle.std.proofs.Common.{ap, sym, ◌∙◌, ◌≡◌, refl, subst, List, arith, ◌+◌}
use Rattle.std.specs.Prelude.{Option}
use Rattle.turn_cell.specs.declared.seat.Seat.{Seat}
use Rattle.turn_cell.specs.Lists.{start_id}
use Rattle.turn_cell.specs.Steps.{Holder}
use Rattle.turn_cell.proofs.Keeps.{splits_numbered}
use Rattle.turn_cell.proofs.Making.{Seating, seating_more, seated}
use Rattle.turn_cell.proofs.life.number_seats.Goals as goal

pub split_seat-place-requires : goal.split_seat-place-requires
split_seat-place-requires g c =
    let r = c.loop-number.invariant.0 in
    let number : c.loop-number.maker.me.0.number ≡ c.loop-number.number = ap (λ (m : Holder g.row.T.Denot g.row.T-Entry.Denot). m.0.number) r.view in
    let seats : c.loop-number.maker.me.0.seats ≡ c.args.shared.now.key.seats = ap (λ (m : Holder g.row.T.Denot g.row.T-Entry.Denot). m.0.seats) r.view in
    let small = c.loop-number-test.true in
    let all = c.requires.seats in (
      r.table_is,
      c.requires.table.1,
      splits_numbered g.T.Told.opening g.T.Told.stands g.T.Told.seat_of _ _ c.loop-number.maker.me.0
          (ap (λ (m : Holder g.row.T.Denot g.row.T-Entry.Denot). m.0.role) r.view)
          (ap (λ (m : Holder g.row.T.Denot g.row.T-Entry.Denot). m.0.holds) r.view)
          (omega arith)
          (ap (λ (m : Holder g.row.T.Denot g.row.T-Entry.Denot). m.0.parts) r.view)
          (ap (λ (m : Holder g.row.T.Denot g.row.T-Entry.Denot). m.0.seen) r.view),
    )

pub loop-number-preserved : goal.loop-number-preserved
loop-number-preserved g c =
    let r = c.loop-number.invariant in
    let split = c.split_seat-place.ensures in
    let small = c.loop-number-test.true in
    let all = c.requires.seats in (
      subst (λ (l : List (Option (Seat g.row.T.Denot g.row.T-Entry.Denot))). Seating g.T.Told.seat_of (start_id c.args.shared.now.table_id c.args.shared.now.key) c.args.shared.now.key (c.loop-number.number + 1) c.split_seat-place.new.seat l)
          (sym c.push_reserved.ensures.items)
          (seating_more g.T.Told.seat_of _ c.args.shared.now.key refl refl c.loop-number.number c.loop-number.maker c.split_seat-place.new.seat c.split_seat-place.result c.loop-number.slots.items r.0 (omega arith)
          split.0 split.2 split.3 split.4),
      c.push_reserved.ensures.capacity ∙ r.1,
    )

pub returns-clause-list : goal.returns-clause-list
returns-clause-list g c =
    let all = c.requires.seats in
    (seated g.T.Told.seat_of _ c.args.shared.now.key refl refl c.loop-number.number _ (omega arith) c.loop-number.invariant.0).0

pub returns-clause-new : goal.returns-clause-new
returns-clause-new g c =
    let all = c.requires.seats in
    (seated g.T.Told.seat_of _ c.args.shared.now.key refl refl c.loop-number.number (record { maker = c.loop-number.maker; slots = c.loop-number.slots }) (omega arith) c.loop-number.invariant.0).1
