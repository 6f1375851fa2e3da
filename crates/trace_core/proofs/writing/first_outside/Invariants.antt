-- The lowest page outside is that of the rest.
use Rattle.std.proofs.Common.{◌≡◌, ◌-◌}
use Rattle.vm_base.specs.FlatStep.{outside}
use Rattle.trace_core.proofs.writing.first_outside.Given as goal

abbrev pub invariant-loop-page : goal.invariant-loop-page
invariant-loop-page l = outside l.areas l.page (l.end - l.page) ≡ outside l.areas l.first l.count

abbrev pub decreases-loop-page : goal.decreases-loop-page
decreases-loop-page l = l.end - l.page
