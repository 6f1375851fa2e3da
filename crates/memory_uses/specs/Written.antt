-- What a write leaves, alone and behind a fork.
use Rattle.std.specs.Prelude.{◌≡◌, ℕ, ◌⊎◌, List, [], length, Result, Ok}
use Rattle.vm_base.specs.declared.faults.Fault.{Fault}
use Rattle.vm_base.specs.declared.faults.ForkFault.{ForkFault}
use Rattle.vm_base.specs.Places.{cells_of_range}
use Rattle.vm_base.specs.FlatMemory.{FlatMemory}
use Rattle.vm_base.specs.FlatStep.{write_of}
use Rattle.vm_base.specs.MemoryState.{MemoryState, IsKept, KeepsReady}
use Rattle.vm_base.specs.MemoryCalls.{Reaches, IsReady, TouchFails, is_out_of_slots, if_slots, faulted}
use Rattle.vm_base.specs.ProcessState.{Children, ForkFails, LeavesMemory, LeavesAtReap}

-- the memory that a write leaves where each of its frames is granted, or the fault
abbrev pub write_answer : MemoryState → ℕ → List ℕ → Result FlatMemory Fault
write_answer state address bytes = if_slots (is_out_of_slots state address (length bytes)) (faulted (write_of state.mem address bytes))

-- the range was touched, and the bytes are stored there
pub record Writes (old new : MemoryState) (address : ℕ) (bytes : List ℕ) : Type 0 where
  pub mem : write_answer old address bytes ≡ Ok new.mem
  pub most : Reaches old new address (length bytes)
  pub ready : IsReady new address (length bytes)
  pub keeps : KeepsReady old new

-- the bytes were written, or the touch of their range was refused
abbrev pub WritesOrFails : MemoryState → MemoryState → ℕ → List ℕ → Type 0
WritesOrFails old new address bytes = Writes old new address bytes ⊎ ((fault : Fault) × TouchFails old new address (length bytes) fault)

-- the bytes were written at two addresses, one after the other
pub record WritesTwice (old new : MemoryState) (address second : ℕ) (bytes : List ℕ) : Type 0 where
  pub between : MemoryState
  pub first : Writes old between address bytes
  pub again : Writes between new second bytes

-- the first write was refused, or it was made and the second one refused
abbrev pub FailsTwice : MemoryState → MemoryState → ℕ → ℕ → List ℕ → Fault → Type 0
FailsTwice old new address second bytes fault =
    TouchFails old new address (length bytes) fault
    ⊎ ((between : MemoryState)
    × (Writes old between address bytes × TouchFails between new second (length bytes) fault))

-- behind a fork, which refused no request, the bytes were written, or the touch of their range was refused
pub record ForksAndWrites (old new : MemoryState) (address : ℕ) (bytes : List ℕ) : Type 0 where
  pub forked : MemoryState
  pub fork : LeavesMemory old forked
  pub kept : IsKept old forked []
  pub refused : forked.refused ≡ old.refused
  pub write : WritesOrFails forked new address bytes

-- behind a fork, which refused no request, another fork was refused
pub record RefusesFork (children : Children) (old new : MemoryState) (fault : ForkFault) : Type 0 where
  pub forked : MemoryState
  pub fork : LeavesMemory old forked
  pub kept : IsKept old forked []
  pub refused : forked.refused ≡ old.refused
  pub fails : ForkFails children forked new fault

-- behind a write, or a refused one, a child was reaped
pub record WritesAndReaps (old new : MemoryState) (address : ℕ) (bytes : List ℕ) : Type 0 where
  pub written : MemoryState
  pub write : WritesOrFails old written address bytes
  pub reap : LeavesAtReap written new
  pub kept : IsKept old new (cells_of_range address (length bytes))
