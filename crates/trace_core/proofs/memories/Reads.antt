-- What a read of a kernel answers, as whoever has it sees it as a memory.
use Rattle.std.proofs.Common.{◌≡◌, ℕ, List, Result, ◌∙◌, ap}
use Rattle.std.specs.Coded.{Coded, Coded-set, coded_ℕ, coded_list, coded_result}
use Rattle.std.proofs.Math.Logic.{∥∥₁_elim}
use Rattle.vm_base.specs.declared.faults.Fault.{Fault}
use Rattle.vm_base.specs.FlatMemory.{FlatMemory}
use Rattle.vm_base.specs.FlatStep.{Refusal, read_of}
use Rattle.vm_base.specs.MemoryCalls.{faulted, read_answer}
use Rattle.trace_core.specs.KernelState.{Machine, KernelState}
use Rattle.trace_core.specs.KernelStanding.{KernelParts, KernelStands}
use Rattle.trace_core.specs.KernelSeen.{KernelNotes, IsKernelNoted, parent_of}
use Rattle.trace_core.proofs.memories.ClauseProps.{fault_code}
use Rattle.trace_core.proofs.memories.AreaViews.{stands-parent}

-- what a read answers
abbrev bytes_code : Coded (Result (List ℕ) Fault)
bytes_code = coded_result (coded_list coded_ℕ) fault_code

-- it is what the memory of each state answers for which the parts stand
pub read-seen : (parts : KernelParts) (notes : KernelNotes) → ∥ IsKernelNoted parts notes ∥₁ → (address n : ℕ) (answer : Result (List ℕ) Refusal)
    → ((machine : Machine) (state : KernelState) → KernelStands parts machine state → read_of state.world.parent address n ≡ answer) → read_answer (parent_of parts) address n ≡ faulted answer
read-seen parts notes known address n answer reads = ∥∥₁_elim known (Coded-set bytes_code (read_answer (parent_of parts) address n) (faulted answer)) (λ it.
    ap (λ (memory : FlatMemory). faulted (read_of memory address n)) (stands-parent parts it.0 it.1.0 it.1.1.stands) ∙ ap faulted (reads it.0 it.1.0 it.1.1.stands))
