-- The outcomes of what a memory on plain pages answers.
use Rattle.std.specs.Prelude.{ℕ, List, Result, Ok, Err}
use Rattle.vm_base.specs.declared.no_memory.NoMemory.{NoMemory as WantOfMemory}
use Rattle.plain_kernel.specs.declared.memory.MemoryFault.{MemoryFault}
use Rattle.plain_kernel.specs.declared.memory.MemoryFault.TheVariants.{NoArea as no_area, NoWrite as no_write, NoMemory as no_memory}
use Rattle.plain_kernel.specs.declared.outcome.Outcome.{Outcome}
use Rattle.plain_kernel.specs.declared.outcome.Outcome.TheVariants.{Done, Bytes, NoArea, NoWrite}

-- the outcome of a refusal
abbrev pub fault_outcome_of : MemoryFault → Result Outcome WantOfMemory
fault_outcome_of (no_area page) = Ok (NoArea page)
fault_outcome_of (no_write page) = Ok (NoWrite page)
fault_outcome_of no_memory = Err (record {})

-- the outcome of a read
abbrev pub bytes_outcome_of : Result (List ℕ) MemoryFault → Result Outcome WantOfMemory
bytes_outcome_of (Ok bytes) = Ok (Bytes bytes)
bytes_outcome_of (Err fault) = fault_outcome_of fault

-- the outcome of a write
abbrev pub done_outcome_of : Result (Unit {0}) MemoryFault → Result Outcome WantOfMemory
done_outcome_of (Ok done) = Ok Done
done_outcome_of (Err fault) = fault_outcome_of fault
