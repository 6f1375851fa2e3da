-- The cells below the next one are passed.
use Rattle.std.proofs.Common.{◌≡◌, ◌+◌, ◌-◌, ◌/◌, ◌≤◌, ◌^◌}
use Rattle.page_tables.proofs.Permissions.{ArePassed}
use Rattle.page_tables.proofs.tables.PageTables.protect.Given as goal

abbrev pub invariant-loop-cell : goal.invariant-loop-cell
invariant-loop-cell g l = record {
  ends : l.end ≡ l.fn.first + l.fn.count;
  reached : l.fn.first / 512 ≤ l.next;
  within : l.next ≤ 2 ^ 27;
  passed : ArePassed l.fn.perm l.fn.first l.fn.count l.next l.fn.self l.self;
  allot : l.allot ≡ l.fn.allot;
}

abbrev pub decreases-loop-cell : goal.decreases-loop-cell
decreases-loop-cell g l = 2 ^ 27 - l.next
