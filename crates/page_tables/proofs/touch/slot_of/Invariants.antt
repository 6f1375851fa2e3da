use Rattle.std.proofs.Common.{◌≡◌, ◌≢◌, ◌<◌, ℕ, Some}
use Rattle.std.specs.List.{slice_get}
use Rattle.page_tables.specs.declared.slot.Slot.{Slot}
use Rattle.page_tables.proofs.touch.slot_of.Given as goal

abbrev pub invariant-loop-i : goal.invariant-loop-i
invariant-loop-i l = (s : ℕ) (slot : Slot) → s < l.i → slice_get l.fn.slots s ≡ Some slot → slot.owner ≢ l.fn.owner
