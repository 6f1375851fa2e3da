-- What an event answers, which frames it asks for and gives back, and what it leaves.
use Rattle.std.specs.Prelude.{ℕ, ◌+◌, ◌-◌, Bool, if◌then◌else◌, nat_le, List, [], length, replicate, Option, Some, None, Result, Ok, Err, unwrap_or}
use Rattle.std.specs.FinMap.{get, insert, len, contains_key}
use Rattle.vm_base.specs.declared.fork_mode.Mode.{Mode}
use Rattle.vm_base.specs.declared.frame_request.Asker.{Asker}
use Rattle.vm_base.specs.declared.frame_request.Asker.TheVariants.{Parent, Snapshot}
use Rattle.vm_base.specs.Places.{page_of, page_count, cells_of_range}
use Rattle.vm_base.specs.FlatMemory.{FlatMemory}
use Rattle.vm_base.specs.declared.permission.Perm.{Perm}
use Rattle.vm_base.specs.FlatStep.{Refusal, OutsideAreas, ReadOnly, Taken, TooManyAreas, read_of, touch_of, stored, map_of, unmap_of, protect_of}
use Rattle.vm_base.specs.TwoSides.{World, with_parent, forked, dropped, SnapRefusal, NotLive, OutsideSnapshot, CellLost, snap_read_of}
use Rattle.vm_base.specs.Deals.{Deal}
use Rattle.kernel_meaning.specs.Requests.{Answer, opening_requests}
use Rattle.kernel_meaning.specs.CellActs.{CopyEnd, Copied as copy_made, NothingToCopy, FoundLost, CopyRefused}
use Rattle.kernel_meaning.specs.FrameLaw.{Leaves, held_frames, losses_of, lacks_slots}
use Rattle.kernel_meaning.specs.EventRequests.{Progress, FrameRefusal, opening_progress, pages_touched, snapshot_forked, snapshot_copied, copy_end_at, snapshot_dropped, pages_unmapped, pages_protected}
use Rattle.kernel_meaning.specs.RefusedRequests.{count_after}
use Rattle.trace_events.specs.declared.event.Event.{Event}
use Rattle.trace_events.specs.declared.event.Event.TheVariants.{Map, Unmap, Protect, Read, Write, Fill, Fork, Copy, Drop, SnapRead, Frames, ListAreas, Refuse}
use Rattle.trace_events.specs.declared.outcome.Outcome.{Outcome}
use Rattle.trace_events.specs.declared.outcome.Outcome.TheVariants.{Done, Bytes, Held, AreaRow, Copied, Nothing, Refused, Lost, NoArea, NoWrite, Overlap, AreasFull, CellsFull, NoFrame, TooMany, NoSnap}
use Rattle.trace_core.specs.KernelState.{Machine, KernelState}

-- how an event ends: its answer, the frames that it was granted and refused and those that it gave back, and the state that it leaves
pub record EventEnd : Type 0 where
  pub outcome : Outcome
  pub deals : List Deal
  pub after : KernelState

-- an event that makes no request and changes nothing
abbrev pub only_answers : KernelState → Outcome → EventEnd
only_answers state outcome = record { outcome = outcome; deals = []; after = state }

-- the requests of an event begin, with these answers to come
abbrev pub begun : KernelState → List Answer → Progress
begun state answers = opening_progress state.leaves (opening_requests state.made answers)

-- the leaves are as the requests left them, and the snapshots have lost the cells that these show
abbrev pub with_progress : KernelState → World → Progress → KernelState
with_progress state world progress = record state {
  world = record world { losses = losses_of progress.leaves };
  leaves = progress.leaves;
  made = progress.requests.made;
}

-- the parent's count of refused requests behind an event of its own
abbrev pub parent_counted : World → List Deal → World
parent_counted world deals = record world { refused = count_after world.refused deals }

-- a snapshot's count of refused requests
abbrev pub copies_refused : World → ℕ → ℕ
copies_refused world n = unwrap_or (get world.refused_copies n) 0

-- the same behind a copy of its own
abbrev pub snapshot_counted : World → ℕ → List Deal → World
snapshot_counted world n deals = record world {
  refused_copies = insert world.refused_copies n (count_after (copies_refused world n) deals);
}

-- an event of the parent ends behind its requests, with this world
abbrev pub parent_end : KernelState → World → Outcome → Progress → EventEnd
parent_end state world outcome progress = record {
  outcome = outcome;
  deals = progress.requests.deals;
  after = with_progress state (parent_counted world progress.requests.deals) progress;
}

-- the answer to a refusal that the areas give
abbrev pub refusal_outcome : Refusal → Outcome
refusal_outcome (OutsideAreas page) = NoArea page
refusal_outcome (ReadOnly page) = NoWrite page
refusal_outcome (Taken page) = Overlap page
refusal_outcome TooManyAreas = AreasFull

-- the answer of a read
abbrev pub read_outcome : Result (List ℕ) Refusal → Outcome
read_outcome (Ok bytes) = Bytes bytes
read_outcome (Err refusal) = refusal_outcome refusal

-- the answer of a read of a snapshot
abbrev pub snap_read_outcome : Result (List ℕ) SnapRefusal → Outcome
snap_read_outcome (Ok bytes) = Bytes bytes
snap_read_outcome (Err NotLive) = NoSnap
snap_read_outcome (Err (OutsideSnapshot page)) = NoArea page
snap_read_outcome (Err (CellLost at)) = Lost at

-- what a copy tells
abbrev pub copy_outcome : CopyEnd → Outcome
copy_outcome copy_made = Copied
copy_outcome NothingToCopy = Nothing
copy_outcome (FoundLost at) = Lost at
copy_outcome (CopyRefused at) = Refused at

-- ---- changes of areas

-- a change of the parent's areas, where they allow it, with the requests that it makes then
abbrev pub areas_changed : KernelState → Result FlatMemory Refusal → Progress → EventEnd
areas_changed state (Ok memory) progress = parent_end state (with_parent state.world memory) Done progress
areas_changed state (Err refusal) progress = only_answers state (refusal_outcome refusal)

-- an area is mapped; no page is present there yet, so nothing is requested
abbrev pub mapped : KernelState → List Answer → ℕ → ℕ → Perm → EventEnd
mapped state answers first n perm = areas_changed state (map_of state.world.parent first n perm) (begun state answers)

-- ---- writing

-- the requests of a touch were answered: the memory is the new one; or the touch is refused, and the memory as it was
abbrev pub touch_answered : KernelState → FlatMemory → Option FrameRefusal → Progress → EventEnd
touch_answered state memory None progress = parent_end state (with_parent state.world memory) Done progress
touch_answered state memory (Some refusal) progress = parent_end state state.world (NoFrame refusal.at) progress

-- a touch that the areas allow, of a range of these bytes, which leaves this memory: first its cells need slots, and then the pages are touched
abbrev pub touch_allowed : Machine → KernelState → List Answer → ℕ → ℕ → FlatMemory → EventEnd
touch_allowed machine state answers address n memory =
    let progress = pages_touched (page_of address) (page_count address n) (begun state answers) in
    if lacks_slots machine.slots state.leaves (cells_of_range address n)
    then only_answers state CellsFull
    else touch_answered state memory progress.refused progress

-- a touch of n bytes that leaves this memory, or that the areas refuse
abbrev pub touch_judged : Machine → KernelState → List Answer → ℕ → ℕ → Result FlatMemory Refusal → EventEnd
touch_judged machine state answers address n (Ok memory) = touch_allowed machine state answers address n memory
touch_judged machine state answers address n (Err refusal) = only_answers state (refusal_outcome refusal)

-- bytes are written: their range is touched, and then they are stored; what is refused stores nothing
abbrev pub written : Machine → KernelState → List Answer → ℕ → List ℕ → EventEnd
written machine state answers address bytes =
    touch_judged machine state answers address (length bytes)
    (stored (touch_of state.world.parent address (length bytes)) address bytes)

-- ---- snapshots

-- a snapshot of this number lives
abbrev pub is_live : World → ℕ → Bool
is_live world n = contains_key world.snapshots n

-- the requests of a fork were answered: the snapshot has the parent's whole memory; or it is not there
abbrev pub fork_answered : KernelState → ℕ → Option FrameRefusal → Progress → EventEnd
fork_answered state n None progress = parent_end state (forked state.world n) Done progress
fork_answered state n (Some refusal) progress = parent_end state state.world (NoFrame refusal.at) progress

-- the parent forks snapshot n, unless as many live as may
abbrev pub fork_end : Machine → KernelState → List Answer → ℕ → Mode → EventEnd
fork_end machine state answers n mode =
    let progress = snapshot_forked n mode (begun state answers) in
    if nat_le machine.limit (len state.world.snapshots)
    then only_answers state TooMany
    else fork_answered state n progress.refused progress

-- snapshot n copies at a cell, where it lives
abbrev pub copy_end_of : KernelState → List Answer → ℕ → ℕ → EventEnd
copy_end_of state answers n cell =
    let progress = snapshot_copied n cell (begun state answers) in
    if is_live state.world n
    then record {
      outcome = copy_outcome (copy_end_at n cell (begun state answers));
      deals = progress.requests.deals;
      after = with_progress state (snapshot_counted state.world n progress.requests.deals) progress;
    }
    else only_answers state NoSnap

-- snapshot n goes, where it lives
abbrev pub drop_end : KernelState → List Answer → ℕ → EventEnd
drop_end state answers n =
    if is_live state.world n
    then parent_end state (dropped state.world n) Done (snapshot_dropped n (begun state answers))
    else only_answers state NoSnap

-- ---- all events

-- how many frames are out, and how many are left
abbrev pub frames_told : Machine → Leaves → Outcome
frames_told machine leaves = Held (held_frames leaves) (machine.frames - held_frames leaves)

-- how an event ends, with these answers to its requests for frames
abbrev pub event_end : Machine → KernelState → List Answer → Event → EventEnd
event_end machine state answers (Map first n perm) = mapped state answers first n perm
event_end machine state answers (Unmap first n) =
    areas_changed state (unmap_of state.world.parent first n) (pages_unmapped first n (begun state answers))
event_end machine state answers (Protect first n perm) =
    areas_changed state (protect_of state.world.parent first n perm) (pages_protected first n (begun state answers))
event_end machine state answers (Read address n) = only_answers state (read_outcome (read_of state.world.parent address n))
event_end machine state answers (Write address bytes) = written machine state answers address bytes
event_end machine state answers (Fill address n byte) = written machine state answers address (replicate n byte)
event_end machine state answers (Fork n mode) = fork_end machine state answers n mode
event_end machine state answers (Copy n cell) = copy_end_of state answers n cell
event_end machine state answers (Drop n) = drop_end state answers n
event_end machine state answers (SnapRead n address len) =
    only_answers state (snap_read_outcome (snap_read_of state.world n address len))
event_end machine state answers Frames = only_answers state (frames_told machine state.leaves)
event_end machine state answers ListAreas = only_answers state (AreaRow state.world.parent.areas)
event_end machine state answers (Refuse nth) = only_answers (record state { named = Some (state.made + nth) }) Done

-- who makes the requests of an event: a snapshot those of its copies, and the parent all others
abbrev pub asker_of : Event → Asker
asker_of (Map first n perm) = Parent
asker_of (Unmap first n) = Parent
asker_of (Protect first n perm) = Parent
asker_of (Read address n) = Parent
asker_of (Write address bytes) = Parent
asker_of (Fill address n byte) = Parent
asker_of (Fork n mode) = Parent
asker_of (Copy n cell) = Snapshot n
asker_of (Drop n) = Parent
asker_of (SnapRead n address len) = Parent
asker_of Frames = Parent
asker_of ListAreas = Parent
asker_of (Refuse nth) = Parent

-- how often an asker was refused a frame so far
abbrev pub refused_so_far : World → Asker → ℕ
refused_so_far world Parent = world.refused
refused_so_far world (Snapshot n) = copies_refused world n
