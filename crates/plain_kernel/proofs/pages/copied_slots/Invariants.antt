-- The copies so far are the front of the slots.
use Rattle.std.proofs.Common.{◌≡◌, take}
use Rattle.plain_kernel.proofs.pages.copied_slots.Given as goal

abbrev pub invariant-loop-slot : goal.invariant-loop-slot
invariant-loop-slot l = l.copies.items ≡ take l.slot-index l.slots
