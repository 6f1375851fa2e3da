-- A memory that is only read, as a snapshot.
use Rattle.std.specs.Prelude.{true}
use Rattle.std.specs.FinMap.{empty}
use Rattle.vm_base.specs.FlatMemory.{FlatMemory}
use Rattle.vm_base.specs.SnapshotState.{SnapshotState}

-- all of the memory is there, so no cell waits to be copied and none is lost
abbrev pub snapshot_of : FlatMemory → SnapshotState
snapshot_of memory = record {
  mem = memory;
  found = empty;
  refused = 0;
  todo = 0;
  passed = true;
  whole = true;
}
