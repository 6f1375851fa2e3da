use Rattle.std.proofs.Common.{◌≡◌, ◌*◌, []}
use Rattle.vm_base.specs.SnapshotState.{KeepsSnapshot}
use Rattle.store_meaning.specs.HashLayout.{Store, Pairs, IsStore}
use Rattle.page_hash.proofs.ListedParts.{IsPartSoFar}
use Rattle.page_hash.proofs.gathering.gathered.Given as goal

-- the pages so far were read
abbrev pub invariant-loop-page : goal.invariant-loop-page
invariant-loop-page g l = record {
  keeps : KeepsSnapshot (g.Z.Frozen.snapshot l.fn.z) (g.Z.Frozen.snapshot l.z);
  uncounted : (g.Z.Frozen.snapshot l.z).refused ≡ (g.Z.Frozen.snapshot l.fn.z).refused;
  aside : g.Z.Frozen.aside l.z ≡ g.Z.Frozen.aside l.fn.z;
  went : g.Z.Frozen.went l.fn.z l.z;
  so_far : (store : Store) (of : Pairs) → IsStore (g.Z.Frozen.snapshot l.fn.z).mem store of
      → IsPartSoFar (g.Z.Frozen.snapshot l.fn.z) store.table.array store.table.chains (512 * l.page) [] l.pairs.items;
}
