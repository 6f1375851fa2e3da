use Rattle.std.proofs.Common.{sym, ◌∙◌}
use Rattle.std.specs.Prelude.{None}
use Rattle.turn_cell.proofs.Lists.{some_of}
use Rattle.std.proofs.lemmas.List.{get_or_default}
use Rattle.turn_cell.proofs.seat.first_of.Goals as goal

pub returns-then-is_some : goal.returns-then-is_some
returns-then-is_some g c =
    let some = some_of c.index-slots-at.result (c.if-is_some.ensures) in (
      c.loop-at-test.true,
      c.loop-at.invariant,
      (some.0, get_or_default c.args.slots.now c.loop-at.at None c.index-slots-at.result c.loop-at-test.true ∙ (sym c.index-slots-at.is ∙ some.1)),
    )
