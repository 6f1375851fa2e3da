use Rattle.std.proofs.Common.{◌≡◌, ◌≤◌, ◌+◌, take}
use Rattle.std.specs.Prelude.{count_by, is_some}
use Rattle.page_tables.proofs.vacancy.has_free.Given as goal

abbrev pub invariant-loop-slot : goal.invariant-loop-slot
invariant-loop-slot l = record {
  counted : l.free + count_by (λ slot. is_some slot.owner) (take l.slot-index l.fn.slots) ≡ l.slot-index;
  few : l.free ≤ l.wanted;
}
