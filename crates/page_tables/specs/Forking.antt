-- What a fork makes of the cells in slots, and what a drop does.
use Rattle.std.specs.Prelude.{◌≡◌, ◌⊎◌, ◌<◌, ◌≤◌, ℕ, Bool, true, if◌then◌else◌, List, [], length, count_by, Option, Some, None, Result, Ok, Err}
use Rattle.std.specs.Ordering.{nat_cmp}
use Rattle.std.specs.FinMap.{FinMap, insert, remove}
use Rattle.std.specs.List.{slice_get}
use Rattle.vm_base.specs.declared.fork_mode.Mode.TheVariants.{Eager}
use Rattle.vm_base.specs.declared.refusals.Refused.{Refused}
use Rattle.vm_base.specs.Deals.{Deal, LeadsAlong}
use Rattle.vm_base.specs.FlatMemory.{PageMap}
use Rattle.kernel_meaning.specs.Leaves.{CellLeaves, Own, has_pages}
use Rattle.kernel_meaning.specs.CellActs.{with_fork}
use Rattle.kernel_meaning.specs.CellAccount.{CellState, CellAccount}
use Rattle.kernel_meaning.specs.FrameLaw.{Leaves, is_used}
use Rattle.kernel_meaning.specs.EventRequests.{Progress, FrameRefusal}
use Rattle.leaf_cell.specs.CellView.{without_snapshot}
use Rattle.leaf_cell.specs.Standing.{StandsFor}
use Rattle.leaf_cell.specs.Writable.{none_writable}
use Rattle.page_tables.specs.declared.slot.Slot.{Slot}
use Rattle.page_tables.specs.declared.tables.PageTables.{PageTables}
use Rattle.page_tables.specs.Sides.{Sides}
use Rattle.page_tables.specs.Courses.{Runs}
use Rattle.page_tables.specs.Standing.{TablesStandFor}

-- ---- slots one by one

-- a slot whose cell changed, and stands for the changed accounts
pub record Becomes (leaves : CellLeaves → CellLeaves) (change : CellState → CellState) (old new : Slot) : Type 0 where
  pub owner : new.owner ≡ old.owner
  pub leaves_then : new.cell.leaves ≡ leaves old.cell.leaves
  pub stands : (state : CellState) (made : ℕ) → StandsFor old.cell (record { state = state; made = made }) → StandsFor new.cell (record { state = change state; made = made })

-- every slot did so
pub record AllBecome (leaves : CellLeaves → CellLeaves) (change : CellState → CellState) (old new : List Slot) : Type 0 where
  pub size : length new ≡ length old
  pub each : (s : ℕ) (slot : Slot) → slice_get old s ≡ Some slot → (it : Slot) × ((slice_get new s ≡ Some it) × Becomes leaves change slot it)

-- the cells of the slots stand for some accounts
abbrev pub HaveAccounts : List Slot → Type 0
HaveAccounts slots = (s : ℕ) (slot : Slot) → slice_get slots s ≡ Some slot → (account : CellAccount) × StandsFor slot.cell account

-- no snapshot has a cell
abbrev pub AreAlone : List Slot → Type 0
AreAlone slots = (s : ℕ) (slot : Slot) → slice_get slots s ≡ Some slot → slot.cell.leaves.kept ≡ []

-- ---- fork

-- the parent has a page there
abbrev pub is_forked : Slot → Bool
is_forked slot = has_pages slot.cell.leaves.parent

-- how many cells a fork copies
abbrev pub forked_count : List Slot → ℕ
forked_count slots = count_by is_forked slots

-- snapshot n has the leaves of the parent, where it has some
abbrev pub forked_leaves : ℕ → CellLeaves → CellLeaves
forked_leaves n leaves = if has_pages leaves.parent then with_fork n Eager Own leaves else leaves

-- and the bytes
abbrev pub forked_state : ℕ → CellState → CellState
forked_state n state =
    if has_pages state.leaves.parent
    then record { leaves = with_fork n Eager Own state.leaves; pages = state.pages; snapshots = insert state.snapshots n state.pages }
    else state

-- which pages of the cell may be written to then: none where the parent has a page
abbrev pub forked_bits : Slot → List Bool
forked_bits slot = if is_forked slot then none_writable else slot.cell.writable

-- which they were
abbrev pub same_bits : Slot → List Bool
same_bits slot = slot.cell.writable

-- each slot has such bits now
abbrev pub HaveBits : (Slot → List Bool) → List Slot → List Slot → Type 0
HaveBits bits old new = (s : ℕ) (slot : Slot) → slice_get old s ≡ Some slot → (it : Slot) × ((slice_get new s ≡ Some it) × (it.cell.writable ≡ bits slot))

-- the slots before one have the bits of a fork, and the others those that they had: that slot has a page of the parent, or it is the first
pub record HaveBitsBefore (old new : List Slot) : Type 0 where
  pub slot : ℕ
  pub at : (slot ≡ 0) ⊎ ((it : Slot) × ((slice_get old slot ≡ Some it) × (is_forked it ≡ true)))
  pub below : (s : ℕ) (it : Slot) → s < slot → slice_get old s ≡ Some it → (to : Slot) × ((slice_get new s ≡ Some to) × (to.cell.writable ≡ forked_bits it))
  pub above : (s : ℕ) (it : Slot) → slot ≤ s → slice_get old s ≡ Some it → (to : Slot) × ((slice_get new s ≡ Some to) × (to.cell.writable ≡ same_bits it))

-- the bits of the slots behind a fork, or behind one that was refused at a slot
abbrev pub BitsAfterFork : Result (Unit {0}) Refused → List Slot → List Slot → Type 0
BitsAfterFork (Ok done) old new = HaveBits forked_bits old new
BitsAfterFork (Err refused) old new = HaveBitsBefore old new

-- nothing became of the leaves
abbrev pub same_leaves : CellLeaves → CellLeaves
same_leaves leaves = leaves

-- nor of its bytes
abbrev pub same_state : CellState → CellState
same_state state = state

-- ---- drop

-- without snapshot n
abbrev pub dropped_state : ℕ → CellState → CellState
dropped_state n state = record { leaves = without_snapshot n state.leaves; pages = state.pages; snapshots = remove state.snapshots n }

-- the owner that a slot keeps: none where nobody has the cell
abbrev pub owner_if_used : Slot → Option ℕ
owner_if_used slot = if is_used slot.cell.leaves then slot.owner else None

-- slots whose cells nobody has have no owner
pub record AreFreed (old new : List Slot) : Type 0 where
  pub size : length new ≡ length old
  pub each : (s : ℕ) (slot : Slot) → slice_get old s ≡ Some slot → (it : Slot) × ((slice_get new s ≡ Some it) × ((it.cell ≡ slot.cell) × (it.owner ≡ owner_if_used slot)))

-- ---- both sides

-- the snapshots with their pages
abbrev pub SnapshotPages : Type 0
SnapshotPages = FinMap nat_cmp PageMap

-- the refusal of a fork, where it was refused
abbrev pub fork_refusal : Result (Unit {0}) Refused → Option FrameRefusal
fork_refusal (Ok done) = None
fork_refusal (Err refused) = Some (record { at = refused.at; page = None })

-- snapshot n is there with the parent's pages, unless it was refused
abbrev pub snapshots_with : ℕ → Option FrameRefusal → PageMap → SnapshotPages → SnapshotPages
snapshots_with n None pages snapshots = insert snapshots n pages
snapshots_with n (Some refusal) pages snapshots = snapshots

-- snapshot n is not there
abbrev pub snapshots_without : ℕ → Option FrameRefusal → PageMap → SnapshotPages → SnapshotPages
snapshots_without n refused pages snapshots = remove snapshots n

-- the tables stood for some sides; the event made these deals there, and the tables stand for what it left
pub record FollowsAt (event : Progress → Progress) (snapshots : Option FrameRefusal → PageMap → SnapshotPages → SnapshotPages)
    (new : PageTables) (deals : List Deal) (refused : Option FrameRefusal) (sides : Sides) : Type 0 where
  pub leaves : Leaves
  pub made : ℕ
  pub runs : Runs event sides.leaves sides.made deals leaves made refused
  pub stands : TablesStandFor new (record { leaves = leaves; pages = sides.pages; snapshots = snapshots refused sides.pages sides.snapshots; made = made })

-- a call ran an event of the snapshots: its deals led from one state of the allot to the other, and whatever sides the tables stood for, the event made just these deals
pub record MadeOfSnapshots {State : Type 0} (goes : State → Deal → State → Type 0) (from to : State) (event : Progress → Progress)
    (snapshots : Option FrameRefusal → PageMap → SnapshotPages → SnapshotPages)
    (old new : PageTables) (refused : Option FrameRefusal) : Type 0 where
  pub deals : List Deal
  pub led : LeadsAlong goes from deals to
  pub follows : (sides : Sides) → TablesStandFor old sides → FollowsAt event snapshots new deals refused sides
