use Rattle.page_tables.specs.Losses.{IsLowestLost}
use Rattle.page_tables.proofs.loss.lowest_lost.Given as goal

abbrev pub invariant-loop-i : goal.invariant-loop-i
invariant-loop-i l = IsLowestLost l.fn.slots l.fn.number l.i l.lowest
