-- The lowest page outside is that of the rest, and the lowest that may only be read that so far or that of the rest.
use Rattle.std.proofs.Common.{◌≡◌, ◌-◌}
use Rattle.vm_base.specs.FlatStep.{outside, unwritable}
use Rattle.trace_core.proofs.events.AreaSteps.{first_of}
use Rattle.trace_core.proofs.writing.check_areas.Given as goal

abbrev pub invariant-loop-page : goal.invariant-loop-page
invariant-loop-page l = record {
  left : outside l.areas l.page (l.end - l.page) ≡ outside l.areas l.first l.count;
  read_only : first_of l.lowest (unwritable l.areas l.page (l.end - l.page)) ≡ unwritable l.areas l.first l.count;
}

abbrev pub decreases-loop-page : goal.decreases-loop-page
decreases-loop-page l = l.end - l.page
