-- The pages so far are present.
use Rattle.std.proofs.Common.{◌≡◌, ◌-◌, ◌≤◌}
use Rattle.vm_base.specs.FlatStep.{with_pages}
use Rattle.flat_memory.proofs.range.touch_range.Given as goal

abbrev pub invariant-loop-page : goal.invariant-loop-page
invariant-loop-page l = record {
  above : l.first ≤ l.page;
  touched : l.pages ≡ record l.fn.pages { present = with_pages l.fn.pages.present l.first (l.page - l.first) };
}
