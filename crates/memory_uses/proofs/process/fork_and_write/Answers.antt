use Rattle.std.proofs.Common.{rules, ℕ, List, length, Result, Ok, Err, IfErr, OnOk, ◌⊎◌, inl, inr}
use Rattle.vm_base.specs.declared.faults.Fault.{Fault}
use Rattle.vm_base.specs.MemoryState.{MemoryState}
use Rattle.vm_base.specs.MemoryCalls.{TouchFails}
use Rattle.memory_uses.specs.Written.{Writes}
use Rattle.memory_uses.proofs.process.fork_and_write.Goals as goal

-- a write was made, or its touch was refused
written_or_refused : (answer : Result (Unit {0}) Fault) (old new : MemoryState) (address : ℕ) (bytes : List ℕ)
    → OnOk answer (Writes old new address bytes) → IfErr answer (λ fault. TouchFails old new address (length bytes) fault)
    → Writes old new address bytes ⊎ ((fault : Fault) × TouchFails old new address (length bytes) fault)
written_or_refused (Ok done) old new address bytes written refused = inl written
written_or_refused (Err fault) old new address bytes written refused = inr (fault, refused)

pub returns-clause-written : goal.returns-clause-written
returns-clause-written g c =
    let write = c.write_at-written in
    record {
      forked = g.P.Memory.state c.fork.new.self;
      fork = search rules;
      kept = search rules;
      refused = search rules;
      write = written_or_refused write.result _ _ _ _ write.ensures.ready write.ensures.cause;
    }
