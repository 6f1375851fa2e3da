use Rattle.std.proofs.Common.{◌≡◌, ◌-◌}
use Rattle.page_hash.specs.Doubling.{IsFreshArea}
use Rattle.page_hash.proofs.AreaTouch.{TouchesFront}
use Rattle.page_hash.proofs.doubling.touch_area.Given as goal

-- the first pages are touched
abbrev pub invariant-loop-done : goal.invariant-loop-done
invariant-loop-done g l = record {
  front : (is : IsFreshArea (g.M.Memory.state l.fn.m) l.addr l.size)
      → TouchesFront (g.M.Memory.state l.fn.m) (g.M.Memory.state l.m) is.first l.size l.done;
  aside : g.M.Memory.aside l.m ≡ g.M.Memory.aside l.fn.m;
  went : g.M.Memory.went l.fn.m l.m;
}

abbrev pub decreases-loop-done : goal.decreases-loop-done
decreases-loop-done g l = l.size - l.done
