use Rattle.std.proofs.Common.{rules, ap, sym, ◌∙◌, ◌≡◌, ◌∷◌, [], subst, ℕ, List}
use Rattle.turn_cell.specs.History.{entries_of}
use Rattle.turn_cell.specs.Steps.{Holder, Heard}
use Rattle.turn_cell.specs.Seats.{CellId, seen}
use Rattle.turn_cell.proofs.Keeps.{splits_guest, joins_told, looks}
use Rattle.turn_cell.proofs.Given.{was_told}
use Rattle.turn_cell.proofs.cell.TurnCell.tell.Goals as goal

pub split_seat-guest-requires : goal.split_seat-guest-requires
split_seat-guest-requires g c = (
  ap (λ (z : CellId g.row.T.Denot). z.table) c.requires.from.cell,
  search rules,
  splits_guest g.T.Told.opening g.T.Told.stands g.T.Told.seat_of _ _ _ c.requires.from.numbered.role,
)

pub join_seat-requires : goal.join_seat-requires
join_seat-requires g c = (
  ap (λ (z : CellId g.row.T.Denot). z.table) c.requires.to.cell,
  c.split_seat-guest.ensures.3 ∙ ap (λ (z : CellId g.row.T.Denot). z.table) c.requires.from.cell,
  ap (λ (m : Holder g.row.T.Denot g.row.T-Entry.Denot). m.1) c.split_seat-guest.ensures.4,
  search rules,
  joins_told g.T.Told.opening g.T.Told.stands g.T.Told.seat_of _ _ _ _ _,
)

pub load-requires : goal.load-requires
load-requires g c =
    let is = c.join_seat.ensures.2 in
    let s = c.requires.to in (
      c.join_seat.ensures.0 ∙ ap (λ (z : CellId g.row.T.Denot). z.table) s.cell,
      search rules,
      looks g.T.Told.opening g.T.Told.stands g.T.Told.seat_of _ _ _ c.join_seat.new.seat.me c.split_seat-guest.result.me.0.seen
          (ap (λ (m : Holder g.row.T.Denot g.row.T-Entry.Denot). m.0.heard) is)
          (ap (λ (m : Holder g.row.T.Denot g.row.T-Entry.Denot). m.0.role) is ∙ s.numbered.role)
          (ap (λ (m : Holder g.row.T.Denot g.row.T-Entry.Denot). m.0.holds) is ∙ s.resting)
          (ap (λ (m : Holder g.row.T.Denot g.row.T-Entry.Denot). m.0.mine) is ∙ (s.numbered.own
          ∙ (ap (λ (n : ℕ). entries_of g.T.Told.seat_of n (seen c.args.to.now)) (sym s.numbered.number)
          ∙ sym (ap (λ (m : Holder g.row.T.Denot g.row.T-Entry.Denot). entries_of g.T.Told.seat_of m.0.number m.0.seen) is)))),
    )

pub returns-clause-from : goal.returns-clause-from
returns-clause-from g c =
    let e = c.split_seat-guest.ensures in
    λ i. record { place = record { marker = c.args.from.now.place.marker; table_id = e.0 i; id = e.1 i; me = e.2 i }; number = c.args.from.now.number }

pub returns-clause-to : goal.returns-clause-to
returns-clause-to g c =
    let heard : c.split_seat-guest.result.me.0.seen ∷ [] ≡ seen c.args.from.now ∷ [] = ap (λ (m : Holder g.row.T.Denot g.row.T-Entry.Denot). m.0.seen ∷ []) c.split_seat-guest.ensures.4 in
    let is = c.join_seat.ensures.2 ∙ ap (λ (l : List (List g.row.T-Entry.Denot)). (record c.args.to.now.place.me.0 { heard = l }, c.args.to.now.place.me.1)) heard in
    let h = c.load.ensures.2 (seen c.args.from.now) (ap (λ (m : Holder g.row.T.Denot g.row.T-Entry.Denot). m.0.heard) is) in
    was_told g.T.Told.seat_of _ c.args.to.now c.args.from.now c.load.new.seat c.requires.to
    (c.load.ensures.0 ∙ c.join_seat.ensures.0)
    (subst (λ (m : Holder g.row.T.Denot g.row.T-Entry.Denot). Heard g.T.Told.seat_of (seen c.args.from.now) m c.load.new.seat.me) is h)
