use Rattle.std.proofs.Common.{◌≡◌, List}
use Rattle.store_meaning.specs.HashLayout.{Entry}
use Rattle.page_hash.specs.Walks.{IsChainFrom, HasChain, located_in}
use Rattle.page_hash.proofs.chain.walk.Given as goal

-- each chain from the first block goes on here, and what stands in front has not the key
abbrev pub invariant-loop-at : goal.invariant-loop-at
invariant-loop-at g l = record {
  same : g.M.Memory.state l.m ≡ g.M.Memory.state l.fn.m;
  aside : g.M.Memory.aside l.m ≡ g.M.Memory.aside l.fn.m;
  went : g.M.Memory.went l.fn.m l.m;
  rest : (chain : List Entry) → IsChainFrom (g.M.Memory.state l.fn.m).mem l.first chain
      → (rest : List Entry) × (IsChainFrom (g.M.Memory.state l.fn.m).mem l.at rest
      × (located_in l.bucket chain l.key ≡ located_in l.link rest l.key));
  left : HasChain (g.M.Memory.state l.fn.m).mem l.at l.left;
}

abbrev pub decreases-loop-at : goal.decreases-loop-at
decreases-loop-at g l = l.left
