use Rattle.std.proofs.Common.{◌≡◌, List}
use Rattle.store_meaning.specs.HashLayout.{Entry}
use Rattle.page_hash.specs.Relinking.{KeepsPlace, IsChainOf}
use Rattle.page_hash.proofs.ChainTurns.{Halfway}
use Rattle.page_hash.proofs.relinking.relink_chain.Given as goal

-- the blocks so far are linked anew
abbrev pub invariant-loop-at : goal.invariant-loop-at
invariant-loop-at g l = record {
  keeps : KeepsPlace (g.M.Memory.state l.fn.m) (g.M.Memory.state l.m);
  aside : g.M.Memory.aside l.m ≡ g.M.Memory.aside l.fn.m;
  went : g.M.Memory.went l.fn.m l.m;
  halfway : (chain : List Entry) → IsChainOf (g.M.Memory.state l.fn.m).mem l.first l.pairs l.buckets l.bucket chain
      → Halfway (g.M.Memory.state l.fn.m).mem (g.M.Memory.state l.m).mem l.at l.left l.heads l.buckets l.bucket chain;
}

abbrev pub decreases-loop-at : goal.decreases-loop-at
decreases-loop-at g l = l.left
