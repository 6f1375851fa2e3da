-- The slots so far have no page.
use Rattle.std.proofs.Common.{◌≡◌, None, replicate}
use Rattle.plain_kernel.proofs.pages.free_slots.Given as goal

abbrev pub invariant-loop : goal.invariant-loop
invariant-loop l = l.slots.items ≡ replicate l.counter None
