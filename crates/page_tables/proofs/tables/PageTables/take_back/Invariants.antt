use Rattle.std.proofs.Common.{◌≡◌, None, take, drop}
use Rattle.page_tables.specs.Permissions.{StopsWritingAt}
use Rattle.page_tables.proofs.TakenBack.{IsTakenBack}
use Rattle.page_tables.proofs.tables.PageTables.take_back.Given as goal

abbrev pub invariant-loop-page : goal.invariant-loop-page
invariant-loop-page g l = record {
  taken : IsTakenBack g.A.Allot.goes g.A.Allot.refused g.A.Allot.out (g.A.Allot.state l.fn.allot) (g.A.Allot.state l.allot)
      (take l.page-index l.fn.added) (drop l.page-index l.fn.added) l.fn.self l.self;
  writable : StopsWritingAt (take l.page-index l.fn.added) l.fn.self l.self;
  untold : g.A.Allot.grants l.allot ≡ None;
}
