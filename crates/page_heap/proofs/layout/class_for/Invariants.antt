use Rattle.std.proofs.Common.{◌-◌, ◌≡◌, ◌<◌, ◌≤◌}
use Rattle.store_meaning.specs.Layout.{class_of}
use Rattle.page_heap.proofs.Classes.{class_from}
use Rattle.page_heap.proofs.layout.class_for.Given as goal

-- no class below this one holds the size
abbrev pub invariant-loop-class : goal.invariant-loop-class
invariant-loop-class l = record {
  least : 5 ≤ l.class;
  within : l.class < 22;
  from : class_of l.size ≡ class_from l.class l.size;
}

abbrev pub decreases-loop-class : goal.decreases-loop-class
decreases-loop-class l = 21 - l.class
