-- What copying a child answers behind other calls on its process.
use Rattle.std.specs.Prelude.{◌≡◌, ℕ, ◌+◌, ◌≤◌, IsTrue, length, Result, IfOk, IfErr}
use Rattle.std.specs.FinMap.{empty}
use Rattle.vm_base.specs.declared.faults.CopyFault.{CopyFault}
use Rattle.vm_base.specs.declared.faults.CopyFault.TheVariants.{Refused, Lost}
use Rattle.vm_base.specs.declared.faults.SnapFault.{SnapFault}
use Rattle.vm_base.specs.declared.faults.SnapFault.TheVariants.{NoArea, Lost as ReadLost}
use Rattle.vm_base.specs.declared.faults.ForkFault.{ForkFault}
use Rattle.vm_base.specs.declared.faults.ForkFault.TheVariants.{NoFrame, TooMany, NumbersSpent}
use Rattle.vm_base.specs.declared.faults.Step.{Step}
use Rattle.vm_base.specs.Counts.{next_count}
use Rattle.vm_base.specs.Places.{distinct}
use Rattle.vm_base.specs.FlatMemory.{cells_of}
use Rattle.vm_base.specs.SnapshotState.{SnapshotState, GoesOn, Quiet, StepsNest, CopyFails, FailsNest}

-- a call on the process, which may have lost cells of its child, and behind it one that copies a cell of the child
pub record CopiesBehind (old new : SnapshotState) (answer : Result Step CopyFault) : Type 0 where
  pub behind : SnapshotState
  pub goes_on : GoesOn old behind
  pub step : IfOk answer (λ step. StepsNest behind new step)
  pub fault : IfErr answer (λ fault. FailsNest behind new fault)

-- no cell waits to be copied and none is lost; the cells copied were no more than were due, and no more than the memory has
pub record IsAllCopied (old new : SnapshotState) (copies : ℕ) : Type 0 where
  pub quiet : Quiet old new
  pub whole : IsTrue new.whole
  pub none_lost : new.found ≡ empty
  pub due : copies + new.todo ≤ old.todo
  pub cells : copies ≤ length (distinct (cells_of old.mem))

-- a call on the process, which may have lost cells of its child, and behind it the child was copied
-- through, or copying ended at a refused frame or a lost cell
pub record CopiesAllBehind (old new : SnapshotState) (answer : Result ℕ CopyFault) : Type 0 where
  pub behind : SnapshotState
  pub goes_on : GoesOn old behind
  pub copied : IfOk answer (λ copies. IsAllCopied behind new copies)
  pub fault : IfErr answer (λ fault. FailsNest behind new fault)

-- a cell that is told as lost was lost since the fork
abbrev pub IsLostSince : ℕ → ℕ → CopyFault → Type 0
IsLostSince born refused (Refused at) = Unit {0}
IsLostSince born refused (Lost at) = (next_count born ≤ at) × (at ≤ refused)

-- copying ended at a refused frame, or at the lowest cell that was lost since the fork
abbrev pub NotCopied : SnapshotState → SnapshotState → ℕ → ℕ → CopyFault → Type 0
NotCopied old new born refused fault = FailsNest old new fault × IsLostSince born refused fault

-- a copy was not refused, but met a lost cell
abbrev pub IsCopyLost : CopyFault → Type 0
IsCopyLost (Refused at) = ⊥
IsCopyLost (Lost at) = Unit {0}

-- a cell that a read tells as lost was lost since the fork
abbrev pub IsReadSince : ℕ → ℕ → SnapFault → Type 0
IsReadSince born refused (NoArea page) = Unit {0}
IsReadSince born refused (ReadLost at) = (next_count born ≤ at) × (at ≤ refused)

-- a read met no lost cell, but a page in no area
abbrev pub IsOutsideRead : SnapFault → Type 0
IsOutsideRead (NoArea page) = Unit {0}
IsOutsideRead (ReadLost at) = ⊥

-- as many children live as may
abbrev pub IsTooMany : ForkFault → Type 0
IsTooMany (NoFrame at) = ⊥
IsTooMany TooMany = Unit {0}
IsTooMany NumbersSpent = ⊥

-- copying ended at a fault, and what was told of the snapshot then went on
pub record FailsBefore (old new : SnapshotState) (fault : CopyFault) : Type 0 where
  pub failed : SnapshotState
  pub fails : CopyFails old failed fault
  pub goes_on : GoesOn failed new
