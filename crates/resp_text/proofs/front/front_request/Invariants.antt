use Rattle.std.proofs.Common.{length, ◌-◌, ◌≤◌}
use Rattle.resp_text.proofs.FrontTexts.{ReadsWords}
use Rattle.resp_text.proofs.front.front_request.Given as goal

abbrev pub decreases-loop-line : goal.decreases-loop-line
decreases-loop-line l = l.line.number - length l.spans.items

abbrev pub invariant-loop-line : goal.invariant-loop-line
invariant-loop-line l = record {
  few : length l.spans.items ≤ l.line.number;
  reads : ReadsWords l.text l.line.length l.at l.room l.spans.items;
}
