use Rattle.std.proofs.Common.{ap, sym, ◌∙◌, ◌≡◌, refl, subst, List, IsSome}
use Rattle.std.specs.Prelude.{Option, Some}
use Rattle.std.specs.Slots.{slots_items, slots_counts}
use Rattle.turn_cell.specs.declared.seat.Seat.{Seat}
use Rattle.turn_cell.specs.Seats.{CellId}
use Rattle.turn_cell.specs.Lists.{IsList, IsWhole, IsGathered, IsWholeHistory, list_slots}
use Rattle.turn_cell.proofs.Lists.{same_some}
use Rattle.turn_cell.proofs.Making.{Place, closed}
use Rattle.turn_cell.proofs.cell.TurnCell.close.Given.{Over}
use Rattle.turn_cell.proofs.cell.TurnCell.close.Goals as goal
use Rattle.turn_cell.proofs.cell.TurnCell.close.Goals.{After-free}

pub gather_seats-maker-requires-clause-list : goal.gather_seats-maker-requires-clause-list
gather_seats-maker-requires-clause-list g c =
    let e = c.into_parts-maker.ensures in
    subst (IsList g.T.Told.seat_of) (λ i. record { maker = sym e.0 i; slots = sym e.1 i }) c.requires.list

pub gather_seats-maker-requires-clause-whole : goal.gather_seats-maker-requires-clause-whole
gather_seats-maker-requires-clause-whole g c =
    let e = c.into_parts-maker.ensures in
    subst IsWhole (λ i. record { maker = sym e.0 i; slots = sym e.1 i }) c.requires.whole

ending : (g : Over) (c : After-free g) → (x : g.row.T.Denot) × (c.take-value.result ≡ Some x) × IsWholeHistory g.T.Told.opening g.T.Told.stands g.T.Told.seat_of c.args.seats x
ending g c =
    let e = c.into_parts-maker.ensures in
    let slots = c.close_with-closed.result.slots in
    closed g.T.Told.opening g.T.Told.stands g.T.Told.seat_of c.args.self.table.shared.key c.args.seats c.gather_seats-maker.result _ (slots_items slots) c.take-value.result c.requires.list
    (ap (λ (z : CellId g.row.T.Denot). z.first) c.requires.cell)
    (subst (λ (z : Place g.row.T.Denot g.row.T-Entry.Denot × List (Option (Seat g.row.T.Denot g.row.T-Entry.Denot))). IsGathered z.0 z.1 c.gather_seats-maker.result)
    (λ i. (e.0 i, list_slots (record { maker = e.0 i; slots = e.1 i }))) c.gather_seats-maker.ensures)
    (sym (slots_counts slots).0 ∙ (c.close_with-closed.ensures.counts.1 ∙ c.args.self.sized.1))
    c.close_with-closed.ensures.values.2
    c.take-value.ensures.value

pub unwrap-requires : goal.unwrap-requires
unwrap-requires g c = let e = ending g c in subst IsSome (sym e.1) refl

pub returns : goal.returns
returns g c =
    let e = ending g (goal.at.returns g c).After-free in
    subst (λ (z : g.row.T.Denot). IsWholeHistory g.T.Told.opening g.T.Told.stands g.T.Told.seat_of c.args.seats z) (same_some e.0 c.unwrap.result (sym e.1 ∙ c.unwrap.ensures)) e.2
