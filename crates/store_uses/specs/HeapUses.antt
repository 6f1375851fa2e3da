-- What a caller of a heap leaves where a touch is refused.
use Rattle.std.specs.Prelude.{ℕ, ◌⊎◌}
use Rattle.vm_base.specs.declared.faults.Fault.{Fault}
use Rattle.vm_base.specs.MemoryState.{MemoryState}
use Rattle.vm_base.specs.MemoryCalls.{Touches, TouchFails}

-- of two touches the first was refused, or it was made and the second one refused
abbrev pub FailsOfTwo : MemoryState → MemoryState → ℕ → ℕ → ℕ → ℕ → Fault → Type 0
FailsOfTwo old new first n second m fault =
    TouchFails old new first n fault
    ⊎ ((between : MemoryState)
    × (Touches old between first n × TouchFails between new second m fault))
