use Rattle.std.proofs.Common.{◌≡◌, ◌+◌, None, take, replicate}
use Rattle.vm_base.specs.declared.frame_request.Want.TheVariants as want
use Rattle.vm_base.specs.Deals.{LeadsAlong}
use Rattle.table_levels.specs.Requests.{granted}
use Rattle.page_tables.specs.Held.{frames_in, shares_in}
use Rattle.page_tables.specs.Forking.{Becomes, forked_count, forked_leaves, forked_state, forked_bits}
use Rattle.page_tables.proofs.Changing.{ChangedBelow}
use Rattle.page_tables.proofs.fork.fork_cells.Given as goal

abbrev pub invariant-loop-i : goal.invariant-loop-i
invariant-loop-i g l = record {
  changed : ChangedBelow (Becomes (forked_leaves l.number) (forked_state l.number)) l.i l.fn.slots.items l.slots.items;
  bits : ChangedBelow (λ slot it. it.cell.writable ≡ forked_bits slot) l.i l.fn.slots.items l.slots.items;
  granted_so_far : LeadsAlong g.A.Allot.goes (g.A.Allot.state l.fn.allot) (granted (replicate (forked_count (take l.i l.fn.slots.items)) want.Leaf)) (g.A.Allot.state l.allot);
  shares : shares_in l.slots.items ≡ shares_in l.fn.slots.items + forked_count (take l.i l.fn.slots.items);
  unrefused : g.A.Allot.refused (g.A.Allot.state l.allot) ≡ g.A.Allot.refused (g.A.Allot.state l.fn.allot);
  held : g.A.Allot.out (g.A.Allot.state l.allot) + frames_in l.fn.slots.items ≡ g.A.Allot.out (g.A.Allot.state l.fn.allot) + frames_in l.slots.items;
  even : frames_in l.fn.slots.items + shares_in l.slots.items ≡ shares_in l.fn.slots.items + frames_in l.slots.items;
  untold : g.A.Allot.grants l.allot ≡ None;
}
