use Rattle.std.proofs.Common.{length, take, ◌-◌, ◌≤◌}
use Rattle.resp_text.specs.Grammar.{DigitsGoOn}
use Rattle.resp_text.proofs.front.front_line.Given as goal

abbrev pub decreases-loop-at : goal.decreases-loop-at
decreases-loop-at l = length l.digits - l.at

abbrev pub invariant-loop-at : goal.invariant-loop-at
invariant-loop-at l = record {
  within : l.at ≤ length l.digits;
  few : l.number ≤ l.most;
  goes : DigitsGoOn 0 (take l.at l.digits) l.number;
}
