use Rattle.std.proofs.Common.{sym, subst, List, [], ◌∷◌}
use Rattle.std.specs.Prelude.{Option}
use Rattle.atomic_table.specs.Table.{opening}
use Rattle.turn_cell.specs.Rule.{Standing, first_view}
use Rattle.turn_cell.specs.declared.cell.Start.{Start}
use Rattle.turn_cell.proofs.Keeps.{opens}
use Rattle.turn_cell.proofs.cell.TurnCell.new.Goals as goal

pub new-requires : goal.new-requires
new-requires g c =
    let key : Start g.row.T.Denot = record { value = c.of.result; seats = c.args.seats } in
    subst (λ (l : List (Option g.row.T.Denot)). Standing g.T.Told.opening g.T.Told.stands g.T.Told.seat_of key (opening (0 ∷ 0 ∷ []) l (first_view key)))
    (sym c.in-Ok-home_of.ensures)
    (opens g.T.Told.opening g.T.Told.stands g.T.Told.seat_of key c.args.value (sym c.of.ensures)
    (subst (λ (z : g.row.T.Denot). g.T.Told.stands (g.T.Told.opening z) [] c.args.value) (sym c.of.ensures) c.requires.value))
