use Rattle.std.proofs.Common.{◌≡◌, List}
use Rattle.vm_base.specs.SnapshotState.{KeepsSnapshot}
use Rattle.store_meaning.specs.HashLayout.{Entry}
use Rattle.page_hash.specs.Chains.{AreChainsOf}
use Rattle.page_hash.proofs.ListedParts.{IsPartSoFar}
use Rattle.page_hash.proofs.gathering.add_page.Given as goal

-- the buckets so far were read
abbrev pub invariant-loop-bucket : goal.invariant-loop-bucket
invariant-loop-bucket g l = record {
  keeps : KeepsSnapshot (g.Z.Frozen.snapshot l.fn.z) (g.Z.Frozen.snapshot l.z);
  uncounted : (g.Z.Frozen.snapshot l.z).refused ≡ (g.Z.Frozen.snapshot l.fn.z).refused;
  aside : g.Z.Frozen.aside l.z ≡ g.Z.Frozen.aside l.fn.z;
  went : g.Z.Frozen.went l.fn.z l.z;
  so_far : (chains : List (List Entry)) → AreChainsOf (g.Z.Frozen.snapshot l.fn.z).mem l.page 512 chains
      → IsPartSoFar (g.Z.Frozen.snapshot l.fn.z) l.page chains l.bucket l.fn.pairs.items l.pairs.items;
}
