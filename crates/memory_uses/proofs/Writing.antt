-- What one write and two writes leave.
use Rattle.std.proofs.Common.{ℕ, List, length, Ok, Err, Result, OnOk, IfErr, inl, inr}
use Rattle.vm_base.specs.declared.faults.Fault.{Fault}
use Rattle.vm_base.specs.declared.faults.CopyFault.{CopyFault}
use Rattle.vm_base.specs.MemoryState.{MemoryState}
use Rattle.vm_base.specs.MemoryCalls.{TouchFails}
use Rattle.vm_base.specs.SnapshotState.{SnapshotState, FailsNest}
use Rattle.memory_uses.specs.Written.{Writes, WritesOrFails, WritesTwice, FailsTwice}
use Rattle.memory_uses.specs.Copied.{NotCopied}

pub written_or_refused : (result : Result (Unit {0}) Fault) (old new : MemoryState) (address : ℕ) (bytes : List ℕ)
    → OnOk result (Writes old new address bytes) → IfErr result (λ fault. TouchFails old new address (length bytes) fault)
    → WritesOrFails old new address bytes
written_or_refused (Ok done) old new address bytes writes fails = inl writes
written_or_refused (Err fault) old new address bytes writes fails = inr (fault, fails)

pub written_twice : (result : Result (Unit {0}) Fault) (old between new : MemoryState) (address second : ℕ) (bytes : List ℕ)
    → Writes old between address bytes → OnOk result (Writes between new second bytes)
    → OnOk result (WritesTwice old new address second bytes)
written_twice (Ok done) old between new address second bytes first again = record { between = between; first = first; again = again }
written_twice (Err fault) old between new address second bytes first again = tt

pub fails_second : (result : Result (Unit {0}) Fault) (old between new : MemoryState) (address second : ℕ) (bytes : List ℕ)
    → Writes old between address bytes → IfErr result (λ fault. TouchFails between new second (length bytes) fault)
    → IfErr result (λ fault. FailsTwice old new address second bytes fault)
fails_second (Ok done) old between new address second bytes first fails = tt
fails_second (Err fault) old between new address second bytes first fails = inr (between, (first, fails))

-- a fault of copying through is one of a copy
pub fails_copying : (result : Result ℕ CopyFault) (old new : SnapshotState) (born refused : ℕ)
    → IfErr result (λ fault. NotCopied old new born refused fault) → IfErr result (λ fault. FailsNest old new fault)
fails_copying (Ok copies) old new born refused fails = tt
fails_copying (Err fault) old new born refused fails = fails.0
