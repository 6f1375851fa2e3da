use Rattle.std.proofs.Common.{ap, sym, ◌∙◌, ◌≡◌, ◌<◌, arith, length, get_or, le_refl}
use Rattle.std.specs.Prelude.{Some, None}
use Rattle.turn_cell.specs.Seats.{CellId}
use Rattle.turn_cell.specs.Steps.{gathered}
use Rattle.turn_cell.proofs.Keeps.{joins_gathered}
use Rattle.turn_cell.proofs.Lists.{not_both}
use Rattle.turn_cell.proofs.Making.{Place, slot_read, gathering_more, gathered_all}
use Rattle.turn_cell.proofs.life.gather_seats.Goals as goal

pub join_seat-requires : goal.join_seat-requires
join_seat-requires g c =
    let r = c.loop-number.invariant in
    let size = r.size in
    let inside : c.loop-number.number < length c.loop-number.slots.items = omega arith in
    let here : get_or c.args.slots.items c.loop-number.number None ≡ Some c.in-Some.seat = sym (r.rest c.loop-number.number (le_refl c.loop-number.number))
    ∙ (slot_read c.loop-number.slots.items c.loop-number.number c.index_mut.result.now c.take.result inside c.index_mut.ensures.value c.take.ensures.value ∙ c.in-Some.is) in
    let s = c.requires.list.each c.loop-number.number c.in-Some.seat here in
    let of = s.0 in
    let into : c.into_place.result ≡ c.in-Some.seat.place = c.into_place.ensures in (
      r.table_is ∙ c.requires.table.0,
      ap (λ (p : Place g.row.T.Denot g.row.T-Entry.Denot). p.table_id) into ∙ (ap (λ (z : CellId g.row.T.Denot). z.table) of.cell ∙ c.requires.table.0),
      ap (λ (p : Place g.row.T.Denot g.row.T-Entry.Denot). p.me.1) into ∙ of.slots,
      c.requires.table.1,
      joins_gathered g.T.Told.opening g.T.Told.stands g.T.Told.seat_of _ _ _ c.loop-number.maker.me.0 c.into_place.result.me.0
          r.role
          (ap (λ (p : Place g.row.T.Denot g.row.T-Entry.Denot). p.me.0.role) into ∙ of.numbered.role)
          (ap (λ (p : Place g.row.T.Denot g.row.T-Entry.Denot). p.me.0.holds) into ∙ of.resting)
          (ap (λ (p : Place g.row.T.Denot g.row.T-Entry.Denot). p.me.0.number) into ∙ (of.numbered.number ∙ (s.1 ∙ sym r.count))),
    )

pub unreachable-requires : goal.unreachable-requires
unreachable-requires g c =
    let r = c.loop-number.invariant in
    let size = r.size in
    let all = c.requires.list.size in
    let inside : c.loop-number.number < length c.loop-number.slots.items = omega arith in
    let none = sym (r.rest c.loop-number.number (le_refl c.loop-number.number))
    ∙ (slot_read c.loop-number.slots.items c.loop-number.number c.index_mut.result.now c.take.result inside c.index_mut.ensures.value c.take.ensures.value ∙ c.in-None.is) in
    let some = c.requires.whole c.loop-number.number (omega arith) in
    not_both _ some.0 none some.1

pub loop-number-preserved : goal.loop-number-preserved
loop-number-preserved g c =
    let r = c.loop-number.invariant in
    let size = r.size in
    let inside : c.loop-number.number < length c.loop-number.slots.items = omega arith in
    let here : get_or c.args.slots.items c.loop-number.number None ≡ Some c.in-Some.seat = sym (r.rest c.loop-number.number (le_refl c.loop-number.number))
    ∙ (slot_read c.loop-number.slots.items c.loop-number.number c.index_mut.result.now c.take.result inside c.index_mut.ensures.value c.take.ensures.value ∙ c.in-Some.is) in
    let into : c.into_place.result ≡ c.in-Some.seat.place = c.into_place.ensures in
    gathering_more g.T.Told.seat_of c.args.maker c.args.slots.items c.loop-number.number c.loop-number.maker c.join_seat.new.seat c.loop-number.slots.items c.in-Some.seat c.take.new.self r here
    c.join_seat.ensures.0
    (c.join_seat.ensures.2 ∙ ap (λ (p : Place g.row.T.Denot g.row.T-Entry.Denot). (gathered c.loop-number.maker.me.0 p.me.0, c.loop-number.maker.me.1)) into)

pub returns : goal.returns
returns g c = gathered_all g.T.Told.seat_of c.args.maker c.loop-number.maker c.args.slots.items c.loop-number.slots.items c.loop-number.number (omega arith) c.loop-number.invariant
