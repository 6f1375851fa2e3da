use Rattle.std.proofs.Common.{◌≡◌, ◌+◌, None}
use Rattle.leaf_cell.specs.CellView.{without_snapshot}
use Rattle.page_tables.specs.Held.{frames_in, shares_in}
use Rattle.page_tables.specs.Forking.{Becomes, dropped_state, same_bits}
use Rattle.page_tables.specs.Returning.{Returning}
use Rattle.page_tables.proofs.Changing.{ChangedBelow}
use Rattle.page_tables.proofs.fork.drop_cells.Given as goal

abbrev pub invariant-loop-i : goal.invariant-loop-i
invariant-loop-i g l = record {
  changed : ChangedBelow (Becomes (without_snapshot l.number) (dropped_state l.number)) l.i l.fn.slots.items l.slots.items;
  bits : ChangedBelow (λ slot it. it.cell.writable ≡ same_bits slot) l.i l.fn.slots.items l.slots.items;
  returned : Returning g.A.Allot.goes (g.A.Allot.state l.fn.allot) (g.A.Allot.state l.allot) l.fn.slots.items l.slots.items;
  unrefused : g.A.Allot.refused (g.A.Allot.state l.allot) ≡ g.A.Allot.refused (g.A.Allot.state l.fn.allot);
  held : g.A.Allot.out (g.A.Allot.state l.allot) + frames_in l.fn.slots.items ≡ g.A.Allot.out (g.A.Allot.state l.fn.allot) + frames_in l.slots.items;
  even : frames_in l.fn.slots.items + shares_in l.slots.items ≡ shares_in l.fn.slots.items + frames_in l.slots.items;
  untold : g.A.Allot.grants l.allot ≡ None;
}
