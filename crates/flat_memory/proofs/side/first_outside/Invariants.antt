-- The lowest page outside is that of the rest.
use Rattle.std.proofs.Common.{◌≡◌, ◌-◌}
use Rattle.vm_base.specs.FlatStep.{outside}
use Rattle.flat_memory.proofs.side.first_outside.Given as goal

abbrev pub invariant-loop-page : goal.invariant-loop-page
invariant-loop-page l = outside l.areas l.page (l.page-end - l.page) ≡ outside l.areas l.first l.count
