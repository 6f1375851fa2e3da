use Rattle.std.proofs.Common.{◌-◌, ◌≤◌, length, take}
use Rattle.resp_text.specs.Residual.{IsSoundScan, LeadsOn, ReadsOn}
use Rattle.resp_text.proofs.scan.scan_item.Given as goal

abbrev pub decreases-loop-at : goal.decreases-loop-at
decreases-loop-at l = length l.bytes - l.at

abbrev pub invariant-loop-at : goal.invariant-loop-at
invariant-loop-at l = record {
  within : l.at ≤ length l.bytes;
  sound : IsSoundScan l.scan;
  leads : LeadsOn l.fn.scan (take l.at l.bytes) l.scan;
  reads : ReadsOn l.fn.scan (take l.at l.bytes) l.scan;
}
