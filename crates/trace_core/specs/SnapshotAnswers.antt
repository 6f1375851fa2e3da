-- What a read of a snapshot answers.
use Rattle.std.specs.Prelude.{◌≡◌, ℕ, List, Result, Ok, Err}
use Rattle.vm_base.specs.TwoSides as meant
use Rattle.vm_base.specs.TwoSides.{SnapRefusal}
use Rattle.trace_core.specs.declared.snapshots.SnapshotFault.{SnapshotFault}
use Rattle.trace_core.specs.declared.snapshots.SnapshotFault.TheVariants.{NotLive, NoArea, Lost}

-- the refusal that a fault tells
abbrev pub snap_refusal : SnapshotFault → SnapRefusal
snap_refusal NotLive = meant.NotLive
snap_refusal (NoArea page) = meant.OutsideSnapshot page
snap_refusal (Lost at) = meant.CellLost at

-- the bytes that are in the buffer then, or the refusal
abbrev pub snap_read_answer : Result (Unit {0}) SnapshotFault → List ℕ → Result (List ℕ) SnapRefusal
snap_read_answer (Ok done) bytes = Ok bytes
snap_read_answer (Err fault) bytes = Err (snap_refusal fault)

-- a refusal leaves the buffer as it was, but that of a lost cell
abbrev pub KeepsUnlessLost : Result (Unit {0}) SnapshotFault → List ℕ → List ℕ → Type 0
KeepsUnlessLost (Ok done) old new = Unit {0}
KeepsUnlessLost (Err NotLive) old new = new ≡ old
KeepsUnlessLost (Err (NoArea page)) old new = new ≡ old
KeepsUnlessLost (Err (Lost at)) old new = Unit {0}
