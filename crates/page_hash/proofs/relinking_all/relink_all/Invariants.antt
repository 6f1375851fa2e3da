use Rattle.std.proofs.Common.{◌≡◌, ◌*◌}
use Rattle.store_meaning.specs.HashLayout.{Table}
use Rattle.page_hash.specs.Relinking.{KeepsPlace}
use Rattle.page_hash.specs.ArrayRelinking.{IsOldTable, RelinksPart}
use Rattle.page_hash.proofs.relinking_all.relink_all.Given as goal

-- the chains of the pages so far are linked anew
abbrev pub invariant-loop-page : goal.invariant-loop-page
invariant-loop-page g l = record {
  keeps : KeepsPlace (g.M.Memory.state l.fn.m) (g.M.Memory.state l.m);
  aside : g.M.Memory.aside l.m ≡ g.M.Memory.aside l.fn.m;
  went : g.M.Memory.went l.fn.m l.m;
  part : (table : Table) → IsOldTable (g.M.Memory.state l.fn.m).mem l.arrays table 0
      → RelinksPart (g.M.Memory.state l.fn.m).mem (g.M.Memory.state l.m).mem l.arrays table 0 (512 * l.page);
}
