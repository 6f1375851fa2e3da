-- What is free is what the pages so far leave of the room.
use Rattle.std.proofs.Common.{◌≡◌, ◌+◌, ◌-◌, ◌≤◌}
use Rattle.std.specs.FinMap.{len}
use Rattle.vm_base.specs.FlatStep.{with_pages}
use Rattle.flat_memory.proofs.range.lacking.Given as goal

abbrev pub invariant-loop-page : goal.invariant-loop-page
invariant-loop-page l = record {
  above : l.first ≤ l.page;
  free : len (with_pages l.pages.present l.first (l.page - l.first)) + l.free ≡ l.pages.room;
}
