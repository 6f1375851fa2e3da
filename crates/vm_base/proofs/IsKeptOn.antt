-- What calls on a memory keep, one after another.
use Rattle.std.proofs.Common.{ℕ, List, ◌∙◌, inl, inr, arith}
use Rattle.vm_base.specs.MemoryState.{MemoryState, IsKept, IsListed}

pub IsKept-on : (one two three : MemoryState) (first second cells : List ℕ) → IsKept one two first → IsKept two three second
    → ((cell : ℕ) → IsListed cell first → IsListed cell cells) → ((cell : ℕ) → IsListed cell second → IsListed cell cells) → IsKept one three cells
IsKept-on one two three first second cells a b here there = record {
  before = a.before;
  after = b.after;
  room = b.room ∙ a.room;
  slots = b.slots ∙ a.slots;
  used = λ cell is. elim (b.used cell is) [
    | inl old ↦ elim (a.used cell old) [ inl older ↦ inl older | inr new ↦ inr (here cell new) ]
    | inr new ↦ inr (there cell new)
  ];
  enough = b.enough ∙ a.enough;
  counted = omega (arith, a.counted, b.counted);
  grown = omega (arith, a.grown, b.grown);
}
