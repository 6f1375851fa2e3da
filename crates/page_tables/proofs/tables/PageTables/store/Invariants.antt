-- The tables stand for the sides with the bytes so far, and nothing else has changed.
use Rattle.std.proofs.Common.{◌≡◌, ◌-◌, ◌≤◌, length, take}
use Rattle.vm_base.specs.FlatStep.{with_bytes}
use Rattle.page_tables.specs.Sides.{Sides}
use Rattle.page_tables.specs.Standing.{TablesStandFor, slot_count}
use Rattle.page_tables.specs.Held.{frames_of, HoldAlike}
use Rattle.page_tables.specs.Permissions.{KeepsWriting}
use Rattle.page_tables.proofs.tables.PageTables.store.Given as goal

abbrev pub invariant-loop-done : goal.invariant-loop-done
invariant-loop-done l = record {
  within : l.done ≤ length l.bytes;
  stored : (sides : Sides) → TablesStandFor l.fn.self sides → TablesStandFor l.self (record sides { pages = with_bytes sides.pages l.addr (take l.done l.bytes) });
  held : frames_of l.self ≡ frames_of l.fn.self;
  cells : HoldAlike l.fn.self.slots.items l.self.slots.items;
  writable : KeepsWriting l.fn.self l.self;
  snapshot : l.self.snapshot ≡ l.fn.self.snapshot;
  slots : slot_count l.self ≡ slot_count l.fn.self;
}

abbrev pub decreases-loop-done : goal.decreases-loop-done
decreases-loop-done l = length l.bytes - l.done
