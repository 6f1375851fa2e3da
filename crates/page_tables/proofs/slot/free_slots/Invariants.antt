use Rattle.std.proofs.Common.{◌≡◌, replicate}
use Rattle.page_tables.specs.Standing.{free_slot}
use Rattle.page_tables.proofs.slot.free_slots.Given as goal

abbrev pub invariant-loop : goal.invariant-loop
invariant-loop l = l.slots.items ≡ replicate l.counter free_slot
