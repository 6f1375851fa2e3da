use Rattle.std.proofs.Common.{◌-◌, length}
use Rattle.resp_text.proofs.Texts.{StandsInLine}
use Rattle.resp_text.proofs.spelled.line_of.Given as goal

abbrev pub decreases-loop-at : goal.decreases-loop-at
decreases-loop-at l = length l.text - l.at

abbrev pub invariant-loop-at : goal.invariant-loop-at
invariant-loop-at l = StandsInLine l.text l.at l.number
