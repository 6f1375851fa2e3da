use Rattle.std.proofs.Common.{◌≡◌, ◌≤◌, ◌*◌, ◌-◌}
use Rattle.vm_base.specs.Places.{cells_of_range}
use Rattle.vm_base.specs.MemoryState.{IsKept}
use Rattle.memory_uses.specs.Doubled.{TouchesPages}
use Rattle.memory_uses.proofs.doubling.touch_pages.Given as goal

-- the pages in front were touched
abbrev pub invariant-loop-done : goal.invariant-loop-done
invariant-loop-done g l = record {
  within : l.done ≤ l.pages;
  front : TouchesPages (g.M.Memory.state l.fn.memory) (g.M.Memory.state l.memory) l.first l.done;
  kept : IsKept (g.M.Memory.state l.fn.memory) (g.M.Memory.state l.memory) (cells_of_range (l.first * 4096) (l.pages * 4096));
  aside : g.M.Memory.aside l.memory ≡ g.M.Memory.aside l.fn.memory;
  went : g.M.Memory.went l.fn.memory l.memory;
}

abbrev pub decreases-loop-done : goal.decreases-loop-done
decreases-loop-done g l = l.pages - l.done
