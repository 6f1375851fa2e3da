-- The lowest page that may only be read is that of the rest.
use Rattle.std.proofs.Common.{◌≡◌, ◌-◌}
use Rattle.vm_base.specs.FlatStep.{unwritable}
use Rattle.flat_memory.proofs.side.first_read_only.Given as goal

abbrev pub invariant-loop-page : goal.invariant-loop-page
invariant-loop-page l = unwritable l.areas l.page (l.page-end - l.page) ≡ unwritable l.areas l.first l.count
