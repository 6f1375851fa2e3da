use Rattle.std.proofs.Common.{◌≡◌, ◌+◌, ◌*◌, None}
use Rattle.std.specs.Prelude.{count_by, is_some}
use Rattle.leaf_cell.specs.Inside.{table_places}
use Rattle.leaf_cell.specs.Releasing.{Releasing}
use Rattle.leaf_cell.proofs.release.release_pages.Given as goal

abbrev pub invariant-loop-block : goal.invariant-loop-block
invariant-loop-block g l = record {
  released : Releasing g.A.Allot.goes (g.A.Allot.state l.initial.allot) (g.A.Allot.state l.allot) l.table.places (table_places l.other) l.initial.frames l.frames 0 (8 * l.block);
  out : g.A.Allot.out (g.A.Allot.state l.allot) + count_by is_some l.initial.frames ≡ g.A.Allot.out (g.A.Allot.state l.initial.allot) + count_by is_some l.frames;
  untold : g.A.Allot.grants l.allot ≡ None;
  unrefused : g.A.Allot.refused (g.A.Allot.state l.allot) ≡ g.A.Allot.refused (g.A.Allot.state l.initial.allot);
}
