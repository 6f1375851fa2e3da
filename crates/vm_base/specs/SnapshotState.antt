-- What is known of a snapshot, and what reading and copying it answer and leave.
use Rattle.std.specs.Prelude.{◌≡◌, ℕ, ◌≤◌, ◌<◌, Bool, IsTrue, IsFalse, List, [], ◌∷◌, length, Option, Some, None, Result, Ok, Err}
use Rattle.std.specs.Option.{option_or}
use Rattle.std.specs.FinMap.{get, empty}
use Rattle.vm_base.specs.declared.faults.SnapFault.{SnapFault}
use Rattle.vm_base.specs.declared.faults.SnapFault.TheVariants.{NoArea, Lost}
use Rattle.vm_base.specs.declared.faults.CopyFault.{CopyFault}
use Rattle.vm_base.specs.declared.faults.CopyFault.TheVariants.{Refused, Lost as CopyLost}
use Rattle.vm_base.specs.declared.faults.Step.{Step}
use Rattle.vm_base.specs.declared.faults.Step.TheVariants.{Copied, Skipped, AllDone}
use Rattle.vm_base.specs.Counts.{next_count}
use Rattle.vm_base.specs.Places.{page_of, page_count, cells_of_range, distinct}
use Rattle.vm_base.specs.FlatMemory.{FlatMemory, bytes_at, cells_of}
use Rattle.vm_base.specs.FlatStep.{outside}
use Rattle.vm_base.specs.MemoryState.{IsListed}
use Rattle.vm_base.specs.ProcessState.{Found}

-- a snapshot
pub record SnapshotState : Type 0 where
  -- the memory at its fork
  pub mem : FlatMemory
  -- the cells that it was found to have lost, each with the count at which it was lost
  pub found : Found
  -- its refused copies
  pub refused : ℕ
  -- how many steps of copying may still come, at most
  pub todo : ℕ
  -- each cell that waits to be copied was skipped
  pub passed : Bool
  -- no cell of it waits to be copied any more
  pub whole : Bool

-- the count of the first of these cells that was found lost
abbrev pub first_found : Found → List ℕ → Option ℕ
first_found found [] = None
first_found found (cell ∷ cells) = option_or (get found cell) (first_found found cells)

-- the answer where nothing stands against it
abbrev pub unless_fault : (ℕ → SnapFault) → Option ℕ → Result (List ℕ) SnapFault → Result (List ℕ) SnapFault
unless_fault why None answer = answer
unless_fault why (Some number) answer = Err (why number)

-- the bytes of a range at the fork; or its lowest page that lay in no area then, or else its first lost cell
abbrev pub snapshot_answer : SnapshotState → ℕ → ℕ → Result (List ℕ) SnapFault
snapshot_answer snap address n =
    unless_fault NoArea (outside snap.mem.areas (page_of address) (page_count address n))
    (unless_fault Lost (first_found snap.found (cells_of_range address n)) (Ok (bytes_at snap.mem.present address n)))

-- what is told of a snapshot goes on, whoever made a call
pub record GoesOn (old new : SnapshotState) : Type 0 where
  pub mem : new.mem ≡ old.mem
  -- what was found lost stays so
  pub found : (cell at : ℕ) → get old.found cell ≡ Some at → get new.found cell ≡ Some at
  pub counted : old.refused ≤ new.refused
  pub todo : new.todo ≤ old.todo
  pub passed : IsTrue old.passed → IsTrue new.passed
  pub whole : IsTrue old.whole → IsTrue new.whole

-- what each call on a snapshot keeps
pub record KeepsSnapshot (old new : SnapshotState) : Type 0 where
  pub goes_on : GoesOn old new
  -- only cells with a page are found lost
  pub cells : (cell at : ℕ) → get new.found cell ≡ Some at → IsListed cell (cells_of new.mem)
  -- where none waits, none waits that was not skipped
  pub unskipped : IsTrue new.whole → IsTrue new.passed

-- no copy was refused and no cell was found lost
pub record Quiet (old new : SnapshotState) : Type 0 where
  pub found : new.found ≡ old.found
  pub refused : new.refused ≡ old.refused

-- a cell of the snapshot was copied, or left for later
pub record Advances (old new : SnapshotState) (cell : ℕ) : Type 0 where
  pub quiet : Quiet old new
  pub waited : IsFalse old.whole
  pub held : IsListed cell (cells_of old.mem)
  pub todo : new.todo < old.todo

-- a step that leaves a cell whose turn another has: it answers that all is done where each cell that waits was skipped, and nowhere else
abbrev pub StepsNext : SnapshotState → SnapshotState → Step → Type 0
StepsNext old new (Copied cell) = Advances old new cell × IsFalse old.passed
StepsNext old new (Skipped cell holder) = Advances old new cell × IsFalse old.passed
StepsNext old new AllDone = Quiet old new × IsTrue new.passed

-- a step that waits for a cell's turn: where it answers that all is done, none waits to be copied
abbrev pub StepsLeft : SnapshotState → SnapshotState → Step → Type 0
StepsLeft old new (Copied cell) = Advances old new cell
StepsLeft old new (Skipped cell holder) = ⊥
StepsLeft old new AllDone = Quiet old new × IsTrue new.whole

-- why a cell was not copied: a refused frame, where the count rose by one, to `at`; or a cell that is found lost
abbrev pub CopyFails : SnapshotState → SnapshotState → CopyFault → Type 0
CopyFails old new (Refused at) =
    (new.found ≡ old.found) × IsFalse old.whole × (new.refused ≡ next_count old.refused) × (at ≡ new.refused)
CopyFails old new (CopyLost at) = (new.refused ≡ old.refused) × ((cell : ℕ) × (get new.found cell ≡ Some at))

-- why the step that waits for no turn copied no cell: the same, and a frame is refused only where a cell waits that was not skipped
abbrev pub NextFails : SnapshotState → SnapshotState → CopyFault → Type 0
NextFails old new (Refused at) = CopyFails old new (Refused at) × IsFalse old.passed
NextFails old new (CopyLost at) = CopyFails old new (CopyLost at)

-- each count at which a cell was lost lies above that of the fork, or stands at the last value of a count, and within that of the process
abbrev pub IsFoundSince : ℕ → ℕ → SnapshotState → Type 0
IsFoundSince born refused snap =
    (cell at : ℕ) → get snap.found cell ≡ Some at → (next_count born ≤ at) × (at ≤ refused)

-- a step on a child that lies in a nest: none is skipped; at most one for each cell comes; and where all is done, no cell is lost
abbrev pub StepsNest : SnapshotState → SnapshotState → Step → Type 0
StepsNest old new (Copied cell) = StepsNext old new (Copied cell) × (old.todo ≤ length (distinct (cells_of old.mem)))
StepsNest old new (Skipped cell holder) = ⊥
StepsNest old new AllDone = Quiet old new × IsTrue new.whole × (new.found ≡ empty)

-- the lowest of the cells that were found lost has this count
pub record IsLowestFound (found : Found) (at : ℕ) : Type 0 where
  pub cell : ℕ
  pub lost : get found cell ≡ Some at
  pub lowest : (other : ℕ) → other < cell → get found other ≡ None

-- why a cell of a child that lies in a nest was not copied: a refused frame; or, where none waits to be copied, the lowest one that is lost
abbrev pub FailsNest : SnapshotState → SnapshotState → CopyFault → Type 0
FailsNest old new (Refused at) = NextFails old new (Refused at)
FailsNest old new (CopyLost at) = Quiet old new × IsTrue new.whole × IsLowestFound new.found at
