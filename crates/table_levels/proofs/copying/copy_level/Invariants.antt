-- The tables so far are copied, and the other places free.
use Rattle.std.proofs.Common.{◌≡◌, ◌+◌, take, replicate}
use Rattle.vm_base.specs.Deals.{LeadsAlong}
use Rattle.table_levels.specs.Requests.{granted}
use Rattle.table_levels.specs.Walks.{tables_at}
use Rattle.table_levels.proofs.Copied.{CopiesFirst}
use Rattle.table_levels.proofs.copying.copy_level.Given as goal

abbrev pub invariant-loop-i : goal.invariant-loop-i
invariant-loop-i g l =
    let allot = g.A.Allot in
    let old = allot.state l.fn.allot in
    let now = allot.state l.allot in
    let taken = tables_at (take l.i l.tables) in
    record {
      first : CopiesFirst l.places.items l.tables l.i;
      granted : LeadsAlong allot.goes old (granted (replicate taken l.want)) now;
      out : allot.out now ≡ allot.out old + taken;
      unrefused : allot.refused now ≡ allot.refused old;
      copied : l.copied ≡ taken;
      untold : allot.grants l.allot ≡ allot.grants l.fn.allot;
    }
