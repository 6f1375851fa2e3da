-- The bytes so far are those of the range.
use Rattle.std.proofs.Common.{◌≡◌, ◌-◌, ◌≤◌, length, take}
use Rattle.vm_base.specs.FlatMemory.{bytes_at}
use Rattle.page_tables.specs.Sides.{Sides}
use Rattle.page_tables.specs.Standing.{TablesStandFor}
use Rattle.page_tables.proofs.tables.PageTables.read.Given as goal

abbrev pub invariant-loop-done : goal.invariant-loop-done
invariant-loop-done l = record {
  within : l.done ≤ length l.fn.buf;
  read : (sides : Sides) → TablesStandFor l.self sides → take l.done l.buf ≡ bytes_at sides.pages l.addr l.done;
}

abbrev pub decreases-loop-done : goal.decreases-loop-done
decreases-loop-done l = length l.fn.buf - l.done
