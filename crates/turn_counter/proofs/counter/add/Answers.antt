use Rattle.std.proofs.Common.{sym, ap, ◌∙◌}
use Rattle.turn_cell.specs.Seats.{CellId, seen}
use Rattle.turn_counter.specs.declared.counter.Counter.{Counter}
use Rattle.turn_counter.proofs.Sums.{adds}
use Rattle.turn_counter.proofs.counter.add.Goals as goal

pub back-requires-clause-value : goal.back-requires-clause-value
back-requires-clause-value g c =
    λ f e.
    let taken = c.turn-turn.ensures.taken in
    let first = ap (λ (z : CellId Counter). z.first) (sym c.turn-turn.ensures.cell) ∙ e in
    adds f.sum _ c.from.result (seen c.turn-turn.result.seat.now) _ (ap (λ (z : Counter). z.sum) c.value-counter.ensures.value ∙ taken.means f first) c.from.ensures
