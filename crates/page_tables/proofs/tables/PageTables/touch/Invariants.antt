use Rattle.std.proofs.Common.{◌≡◌, ◌+◌, ◌-◌, ◌≤◌, None}
use Rattle.std.specs.Prelude.{vec_capacity}
use Rattle.page_tables.specs.Standing.{slot_count}
use Rattle.page_tables.specs.Held.{frames_of}
use Rattle.page_tables.specs.Permissions.{LetsWrite}
use Rattle.page_tables.specs.Ranges.{HasTouched}
use Rattle.page_tables.proofs.tables.PageTables.touch.Given as goal

abbrev pub invariant-loop-page : goal.invariant-loop-page
invariant-loop-page g l = record {
  touched : HasTouched g.A.Allot.goes (g.A.Allot.state l.fn.allot) (g.A.Allot.state l.allot) l.fn.first l.fn.count (l.page - l.fn.first) l.added.items l.fn.self l.self (slot_count l.fn.self);
  from : l.fn.first ≤ l.page;
  held : g.A.Allot.out (g.A.Allot.state l.allot) + frames_of l.fn.self ≡ g.A.Allot.out (g.A.Allot.state l.fn.allot) + frames_of l.self;
  untold : g.A.Allot.grants l.allot ≡ None;
  snapshot : l.self.snapshot ≡ l.fn.self.snapshot;
  slots : slot_count l.self ≡ slot_count l.fn.self;
  writable : LetsWrite l.fn.first (l.page - l.fn.first) l.fn.self l.self;
  capacity : vec_capacity l.added ≡ vec_capacity l.fn.added;
}
