-- The bytes so far are read, and no cell of their range is lost.
use Rattle.std.proofs.Common.{◌-◌, ◌≤◌, length, take, Ok}
use Rattle.page_tables.specs.Sides.{Sides}
use Rattle.page_tables.specs.Standing.{TablesStandFor}
use Rattle.page_tables.specs.Accesses.{IsSnapshotRead}
use Rattle.page_tables.proofs.tables.PageTables.snap_read.Given as goal

abbrev pub invariant-loop-done : goal.invariant-loop-done
invariant-loop-done l = record {
  within : l.done ≤ length l.fn.buf;
  read : (sides : Sides) → TablesStandFor l.self sides → IsSnapshotRead sides l.number l.addr l.done (Ok tt) (take l.done l.buf);
}

abbrev pub decreases-loop-done : goal.decreases-loop-done
decreases-loop-done l = length l.fn.buf - l.done
