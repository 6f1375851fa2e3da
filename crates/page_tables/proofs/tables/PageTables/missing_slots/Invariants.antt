use Rattle.std.proofs.Common.{◌≡◌, ◌-◌, ◌≤◌}
use Rattle.page_tables.specs.Sides.{Sides}
use Rattle.page_tables.specs.Standing.{TablesStandFor}
use Rattle.page_tables.specs.Ranges.{missing_in}
use Rattle.page_tables.proofs.tables.PageTables.missing_slots.Given as goal

abbrev pub invariant-loop-cell : goal.invariant-loop-cell
invariant-loop-cell l = record {
  from : l.fn.low ≤ l.cell;
  few : l.missing ≤ l.cell - l.fn.low;
  missing : (sides : Sides) → TablesStandFor l.fn.self sides → l.missing ≡ missing_in sides.leaves l.fn.low (l.cell - l.fn.low);
}
