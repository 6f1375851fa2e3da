-- The places so far are free, and their tables given back.
use Rattle.std.proofs.Common.{◌≡◌, ◌+◌, take}
use Rattle.vm_base.specs.Deals.{LeadsAlong}
use Rattle.table_levels.specs.Requests.{returned}
use Rattle.table_levels.specs.Walks.{tables_at}
use Rattle.table_levels.proofs.Giving.{freed}
use Rattle.table_levels.proofs.frames.give_all.Given as goal

abbrev pub invariant-loop-i : goal.invariant-loop-i
invariant-loop-i g l =
    let allot = g.A.Allot in
    let old = allot.state l.fn.allot in
    let now = allot.state l.allot in
    let places = l.fn.places.items in
    record {
      freed : l.places.items ≡ freed l.i places;
      given : LeadsAlong allot.goes old (returned (tables_at (take l.i places))) now;
      out : allot.out now + tables_at (take l.i places) ≡ allot.out old;
      unrefused : allot.refused now ≡ allot.refused old;
      count : l.given ≡ tables_at (take l.i places);
      untold : allot.grants l.allot ≡ allot.grants l.fn.allot;
    }
