-- What calls make of a kernel, one after another: what is told of its snapshots goes on, and each request for a frame in between was answered as it may be.
use Rattle.std.specs.Prelude.{◌≡◌, ◌⊎◌, ℕ, ◌≤◌, ◌<◌, List, [], ◌∷◌, ◌++◌, Some, None}
use Rattle.std.specs.FinMap.{get}
use Rattle.vm_base.specs.Counts.{next_count}
use Rattle.vm_base.specs.declared.frame_request.Asker.TheVariants.{Parent, Snapshot}
use Rattle.vm_base.specs.MemoryState.{IsListed}
use Rattle.vm_base.specs.SnapshotState.{GoesOn}
use Rattle.kernel_meaning.specs.FrameLaw.{held_frames}
use Rattle.kernel_meaning.specs.RefusedRequests.{Request, PolicySum}
use Rattle.kernel_meaning.specs.Stretches.{Dealing, requests_among, made_among, out_among, requested_among, IsCountedFrom}
use Rattle.trace_core.specs.Answering.{HaveLed}
use Rattle.trace_core.specs.DealtSupply.{DealtAlong}
use Rattle.trace_core.specs.KernelState.{Machine, KernelState}
use Rattle.trace_core.specs.KernelStanding.{KernelParts, KernelStands, copies_refused_in}
use Rattle.trace_core.specs.KernelSeen.{KernelNotes, live_numbers, nest_of}

-- these dealings were made between two moments of a kernel that stood for this state: they led its supply on, their requests were answered as they may be, each asker's count rose by its own refused ones, and it stands for what they left
pub record IsStretch (old new : KernelParts) (machine : Machine) (state : KernelState) (dealings : List Dealing) : Type 0 where
  pub after : KernelState
  pub dealt : DealtAlong old.supply dealings new.supply
  -- whatever the requests of the run before them, theirs may come behind
  pub led : (opening : PolicySum) (earlier : List Request) → HaveLed machine.frames opening earlier old.supply.policies
      → HaveLed machine.frames opening (earlier ++ requests_among state.named state.made (held_frames state.leaves) dealings) new.supply.policies
  pub made : after.made ≡ made_among state.made dealings
  pub named : after.named ≡ state.named
  pub out : held_frames after.leaves ≡ out_among (held_frames state.leaves) dealings
  -- the parent's count, and that of each snapshot that lives
  pub refused : IsCountedFrom Parent old.supply.refused dealings new.supply.refused
  pub kept : (n : ℕ) → n ≤ old.last → IsListed n (live_numbers new.snapshot)
      → IsCountedFrom (Snapshot n) (copies_refused_in old.snapshot) dealings (copies_refused_in new.snapshot)
  pub fresh : (n : ℕ) → old.last < n → IsListed n (live_numbers new.snapshot)
      → IsCountedFrom (Snapshot n) 0 dealings (copies_refused_in new.snapshot)
  -- no snapshot asked but one that lived, or that was forked since
  pub askers : (n : ℕ) → 0 < requested_among (Snapshot n) dealings
      → IsListed n (live_numbers old.snapshot) ⊎ ((old.last < n) × (n ≤ new.last))
  pub stands : KernelStands new machine after

-- whatever state a kernel stood for, the dealings since were such ones
abbrev pub HasDealt : KernelParts → KernelParts → Type 0
HasDealt old new = (machine : Machine) (state : KernelState) → KernelStands old machine state
    → (dealings : List Dealing) × IsStretch old new machine state dealings

-- no number was used again, and what is told of a snapshot that lived and still lives goes on
pub record KeepsChildren (old : KernelParts) (notes : KernelNotes) (new : KernelParts) (later : KernelNotes) : Type 0 where
  pub last : old.last ≤ new.last
  pub lived : (n : ℕ) → n ≤ old.last → IsListed n (live_numbers new.snapshot) → IsListed n (live_numbers old.snapshot)
  pub goes_on : (n : ℕ) → n ≤ old.last → IsListed n (live_numbers new.snapshot) → GoesOn (nest_of old notes n) (nest_of new later n)
  -- what it has lost since was lost at a count above the one before
  pub counted : old.supply.refused ≤ new.supply.refused
  pub lost : (n : ℕ) → n ≤ old.last → IsListed n (live_numbers new.snapshot) → (cell at : ℕ)
      → get (nest_of old notes n).found cell ≡ None → get (nest_of new later n).found cell ≡ Some at → next_count old.supply.refused ≤ at

-- what calls may make of a kernel
pub record KernelWent (old : KernelParts) (notes : KernelNotes) (new : KernelParts) (later : KernelNotes) : Type 0 where
  pub children : KeepsChildren old notes new later
  pub dealt : HasDealt old new

-- the number of a snapshot that lives was given out
abbrev pub AreGiven : KernelParts → Type 0
AreGiven parts = (n : ℕ) → IsListed n (live_numbers parts.snapshot) → n ≤ parts.last
