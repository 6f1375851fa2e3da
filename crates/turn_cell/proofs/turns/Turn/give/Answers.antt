use Rattle.std.proofs.Common.{rules, ap, sym, ◌∙◌, ◌≡◌, ◌∷◌, ◌++◌, ℕ, subst, List, false}
use Rattle.std.specs.Prelude.{Some, Option}
use Rattle.atomic_table.specs.Table.{rest}
use Rattle.turn_cell.specs.declared.known.Known.{Known}
use Rattle.turn_cell.specs.History.{AllMadeBy}
use Rattle.turn_cell.specs.Steps.{Holder, StandsSince}
use Rattle.turn_cell.specs.Seats.{CellId, GaveBack, cell_id}
use Rattle.turn_cell.specs.declared.seat.Seat.{Seat}
use Rattle.turn_cell.proofs.Keeps.{gives_back}
use Rattle.turn_cell.proofs.Given.{gave_back}
use Rattle.turn_cell.proofs.turns.Turn.give.Goals as goal

pub store-requires : goal.store-requires
store-requires g c =
    let s = c.requires.held in
    let v : Known g.row.T.Denot g.row.T-Entry.Denot = c.args.self.seat.now.place.me.0 in
    let is = c.exchange.ensures.3 ∙ ap (λ (l : List (ℕ × Option g.row.T.Denot)). (v, (0, Some c.args.self.value) ∷ rest l)) s.slots in (
      search rules,
      search rules,
      gives_back g.T.Told.opening g.T.Told.stands g.T.Told.seat_of _ _ _ _ v c.args.self.value g.W.Adds.added (search rules)
          is s.holds
          (subst (λ (n : ℕ). AllMadeBy g.T.Told.seat_of n g.W.Adds.added) (sym s.numbered.number) c.requires.made)
          (subst (λ (f : Option g.row.T.Denot). StandsSince g.T.Told.opening g.T.Told.stands g.T.Told.seat_of f (v.seen ++ g.W.Adds.added) c.args.self.value)
          (sym (ap (λ (z : CellId g.row.T.Denot). z.first) s.cell)) c.requires.value),
    )

pub returns : goal.returns
returns g c =
    let v : Known g.row.T.Denot g.row.T-Entry.Denot = c.args.self.seat.now.place.me.0 in
    let old : c.exchange.new.seat.me.0 ≡ v = ap (λ (m : Holder g.row.T.Denot g.row.T-Entry.Denot). m.0) c.exchange.ensures.3 in
    subst (λ (z : Seat g.row.T.Denot g.row.T-Entry.Denot). GaveBack g.T.Told.seat_of (cell_id c.args.self.cell.now) c.args.self.seat.now g.W.Adds.added z) (sym c.call.ensures)
    (gave_back g.T.Told.seat_of _ c.args.self.seat.now c.store.new.seat g.W.Adds.added c.requires.held c.requires.made
    (c.store.ensures.0 ∙ c.exchange.ensures.0)
    (c.store.ensures.2.0 ∙ ap (λ (z : Known g.row.T.Denot g.row.T-Entry.Denot). record z { holds = false; seen = z.seen ++ g.W.Adds.added; mine = z.mine ++ g.W.Adds.added }) old)
    c.store.ensures.2.1)
