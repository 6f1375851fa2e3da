use Rattle.std.proofs.Common.{◌≡◌}
use Rattle.page_tables.specs.Forking.{owner_if_used}
use Rattle.page_tables.proofs.Changing.{ChangedBelow}
use Rattle.page_tables.proofs.fork.free_unused.Given as goal

abbrev pub invariant-loop-i : goal.invariant-loop-i
invariant-loop-i l = ChangedBelow (λ slot it. (it.cell ≡ slot.cell) × (it.owner ≡ owner_if_used slot)) l.i l.fn.slots.items l.slots.items
