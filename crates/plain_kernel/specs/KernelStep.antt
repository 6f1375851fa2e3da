-- What an event answers and what it leaves, on the two flat memories of parent and snapshot. No request for a frame is refused here.
use Rattle.std.specs.Prelude.{◌≡◌, ℕ, ◌+◌, ◌^◌, ◌≤◌, ◌<◌, List, [], length, Result, Ok, Err}
use Rattle.std.specs.FinMap.{len}
use Rattle.vm_base.specs.declared.fork_mode.Mode.TheVariants.{Eager}
use Rattle.vm_base.specs.FlatMemory.{FlatMemory}
use Rattle.vm_base.specs.FlatStep.{Refusal, OutsideAreas, ReadOnly, Taken, TooManyAreas, map_of, read_of, write_of}
use Rattle.vm_base.specs.TwoSides.{World, with_parent, forked, SnapRefusal, NotLive, OutsideSnapshot, CellLost, snap_read_of}
use Rattle.plain_kernel.specs.declared.event.Event.{Event}
use Rattle.plain_kernel.specs.declared.event.Event.TheVariants.{Map, Read, Write, Fork, SnapRead}
use Rattle.plain_kernel.specs.declared.outcome.Outcome.{Outcome}
use Rattle.plain_kernel.specs.declared.outcome.Outcome.TheVariants.{Done, Bytes, NoArea, NoWrite, Overlap, AreasFull, NoSnap, Lost}

-- the answer to a refusal of the parent's memory
abbrev pub refusal_outcome : Refusal → Outcome
refusal_outcome (OutsideAreas page) = NoArea page
refusal_outcome (ReadOnly page) = NoWrite page
refusal_outcome (Taken page) = Overlap page
refusal_outcome TooManyAreas = AreasFull

-- the answer of a change of the parent's memory
abbrev pub change_outcome : Result FlatMemory Refusal → Outcome
change_outcome (Ok memory) = Done
change_outcome (Err refusal) = refusal_outcome refusal

-- the answer of a read of the parent's memory
abbrev pub read_outcome : Result (List ℕ) Refusal → Outcome
read_outcome (Ok bytes) = Bytes bytes
read_outcome (Err refusal) = refusal_outcome refusal

-- the answer of a read of a snapshot
abbrev pub plain_snap_read_outcome : Result (List ℕ) SnapRefusal → Outcome
plain_snap_read_outcome (Ok bytes) = Bytes bytes
plain_snap_read_outcome (Err NotLive) = NoSnap
plain_snap_read_outcome (Err (OutsideSnapshot page)) = NoArea page
plain_snap_read_outcome (Err (CellLost at)) = Lost at

-- the answer of an event
abbrev pub outcome_of : World → Event → Outcome
outcome_of world (Map first pages perm) = change_outcome (map_of world.parent first pages perm)
outcome_of world (Read addr len) = read_outcome (read_of world.parent addr len)
outcome_of world (Write addr bytes) = change_outcome (write_of world.parent addr bytes)
outcome_of world (Fork number mode) = Done
outcome_of world (SnapRead number addr len) =
    plain_snap_read_outcome (snap_read_of world number addr len)

-- the world after a change of the parent's memory; a refused one leaves it as it is
abbrev pub changed : World → Result FlatMemory Refusal → World
changed world (Ok memory) = with_parent world memory
changed world (Err refusal) = world

-- the world after an event
abbrev pub world_after : World → Event → World
world_after world (Map first pages perm) = changed world (map_of world.parent first pages perm)
world_after world (Read addr len) = world
world_after world (Write addr bytes) = changed world (write_of world.parent addr bytes)
world_after world (Fork number mode) = forked world number
world_after world (SnapRead number addr len) = world

-- a range of bytes, above none, in the first cell
abbrev pub IsInFirstCell : ℕ → ℕ → Type 0
IsInFirstCell addr len = (0 < len) × (addr + len ≤ 2 ^ 21)

-- the events that the kernel takes in this world: in the first cell, one area, one fork
abbrev pub IsServed : World → Event → Type 0
IsServed world (Map first pages perm) = (0 < pages) × (first + pages ≤ 512) × (world.parent.areas ≡ [])
IsServed world (Read addr len) = IsInFirstCell addr len
IsServed world (Write addr bytes) = IsInFirstCell addr (length bytes)
IsServed world (Fork number mode) = (mode ≡ Eager) × (world.last < number) × (len world.snapshots ≡ 0)
IsServed world (SnapRead number addr len) = IsInFirstCell addr len
