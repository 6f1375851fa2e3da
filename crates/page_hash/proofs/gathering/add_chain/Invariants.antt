use Rattle.std.proofs.Common.{◌≡◌, List}
use Rattle.vm_base.specs.SnapshotState.{KeepsSnapshot}
use Rattle.store_meaning.specs.HashLayout.{Entry}
use Rattle.page_hash.specs.Walks.{IsChainFrom, HasChain}
use Rattle.page_hash.proofs.ListedChains.{IsChainSoFar}
use Rattle.page_hash.proofs.gathering.add_chain.Given as goal

-- each chain from the first block goes on here, and what stands in front was read
abbrev pub invariant-loop-at : goal.invariant-loop-at
invariant-loop-at g l = record {
  keeps : KeepsSnapshot (g.Z.Frozen.snapshot l.fn.z) (g.Z.Frozen.snapshot l.z);
  uncounted : (g.Z.Frozen.snapshot l.z).refused ≡ (g.Z.Frozen.snapshot l.fn.z).refused;
  aside : g.Z.Frozen.aside l.z ≡ g.Z.Frozen.aside l.fn.z;
  went : g.Z.Frozen.went l.fn.z l.z;
  so_far : (chain : List Entry) → IsChainFrom (g.Z.Frozen.snapshot l.fn.z).mem l.first chain
      → IsChainSoFar (g.Z.Frozen.snapshot l.fn.z) chain l.at l.fn.pairs.items l.pairs.items;
  left : HasChain (g.Z.Frozen.snapshot l.fn.z).mem l.at l.left;
}

abbrev pub decreases-loop-at : goal.decreases-loop-at
decreases-loop-at g l = l.left
