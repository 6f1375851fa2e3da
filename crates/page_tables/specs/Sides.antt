-- What page tables stand for: leaves and versions, and the bytes of both sides.
use Rattle.std.specs.Prelude.{ℕ, []}
use Rattle.std.specs.Ordering.{nat_cmp}
use Rattle.std.specs.FinMap.{FinMap, empty}
use Rattle.vm_base.specs.FlatMemory.{PageMap}
use Rattle.kernel_meaning.specs.FrameLaw.{Leaves}

-- the leaves with their versions, the parent's pages, each snapshot's pages at its fork, and how many requests were made so far
pub record Sides : Type 0 where
  pub leaves : Leaves
  pub pages : PageMap
  pub snapshots : FinMap nat_cmp PageMap
  pub made : ℕ

-- no page and no snapshot
abbrev pub opening_sides : Sides
opening_sides = record { leaves = []; pages = empty; snapshots = empty; made = 0 }
