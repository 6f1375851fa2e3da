use Rattle.std.proofs.Common.{rules, ◌+◌, ◌%◌, ◌^◌}
use Rattle.turn_cell.proofs.Keeps.{calls}
use Rattle.turn_cell.proofs.cell.TurnCell.call.Goals as goal

pub fetch_add-requires : goal.fetch_add-requires
fetch_add-requires g c = (c.requires, search rules, calls g.T.Told.opening g.T.Told.stands g.T.Told.seat_of _ _ _ _ (λ n. (n + 1) % 2 ^ 64))

pub returns-then-swap-ne0 : goal.returns-then-swap-ne0
returns-then-swap-ne0 g c =
    let e = c.fetch_add.ensures in
    λ i. record { place = record { marker = c.args.seat.now.place.marker; table_id = e.0 i; id = e.1 i; me = e.2 i }; number = c.args.seat.now.number }
