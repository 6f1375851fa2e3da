use Rattle.std.proofs.Common.{◌≡◌, ◌+◌, length}
use Rattle.store_meaning.specs.HashLayout.{Table}
use Rattle.page_hash.specs.Relinking.{KeepsPlace}
use Rattle.page_hash.specs.ArrayRelinking.{IsOldTable, SplitsPart}
use Rattle.page_hash.proofs.relinking_all.split_page.Given as goal

-- the chains so far are linked anew, and their first blocks stand in the buffers
abbrev pub invariant-loop-place : goal.invariant-loop-place
invariant-loop-place g l = record {
  keeps : KeepsPlace (g.M.Memory.state l.fn.m) (g.M.Memory.state l.m);
  aside : g.M.Memory.aside l.m ≡ g.M.Memory.aside l.fn.m;
  went : g.M.Memory.went l.fn.m l.m;
  rooms : (length l.lower ≡ 4096) × (length l.upper ≡ 4096);
  splits : (table : Table) → IsOldTable (g.M.Memory.state l.fn.m).mem l.arrays table l.bucket
      → SplitsPart (g.M.Memory.state l.fn.m).mem (g.M.Memory.state l.m).mem l.arrays table l.bucket (l.bucket + l.place) l.lower l.upper;
}
