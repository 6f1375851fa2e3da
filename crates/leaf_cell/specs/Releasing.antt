-- Frames that a table alone names are given back, page after page.
use Rattle.std.specs.Prelude.{◌≡◌, ℕ, ◌+◌, ◌<◌, ◌≤◌, ◌⊎◌, List, length, replicate, Option, Some, None, is_some, cond, count_by, slice_index_or, slice_set}
use Rattle.vm_base.specs.Deals.{Deal, Returned, LeadsAlong}
use Rattle.vm_base.specs.Frames.{FrameView}
use Rattle.kernel_meaning.specs.Leaves.{Versions, version_at, Leaf, is_own}
use Rattle.leaf_cell.specs.Inside.{IsPlaceOf}

-- one frame where there is one
abbrev pub one_if : Option FrameView → ℕ
one_if frame = cond (is_some frame) 1 0

-- each place that a table names is one of its page's own
abbrev pub AreHome : Versions → Type 0
AreHome places = (page place : ℕ) → version_at places page ≡ Some place → (page < 512) × IsPlaceOf page place

-- of the pages of a range, the frames that the own table names and the other does not are given back
pub record Releasing {State : Type 0} (goes : State → Deal → State → Type 0) (from to : State) (own other : Versions) (old new : List (Option FrameView)) (first upto : ℕ) : Type 0 where
  pub count : ℕ
  pub led : LeadsAlong goes from (replicate count Returned) to
  pub taken : count_by is_some new + count ≡ count_by is_some old
  pub room : length new ≡ length old
  pub each : (place : ℕ) → (slice_index_or new place None ≡ slice_index_or old place None) ⊎ (slice_index_or new place None ≡ None)
  pub kept : (page place : ℕ) → version_at other page ≡ Some place → slice_index_or new place None ≡ slice_index_or old place None
  pub apart : (page place : ℕ) → page < 512 → IsPlaceOf page place → (page < first) ⊎ (upto ≤ page) → slice_index_or new place None ≡ slice_index_or old place None
  pub gone : (page place : ℕ) → first ≤ page → page < upto → version_at own page ≡ Some place → (version_at other page ≡ Some place → ⊥) → slice_index_or new place None ≡ None

-- the frame at the place of a page is given back, where it has one and the other place of it is another; else nothing has changed
pub record IsReleased {State : Type 0} (goes : State → Deal → State → Type 0) (from to : State) (named other : Option ℕ) (old new : List (Option FrameView)) : Type 0 where
  pub place : ℕ
  pub number : ℕ
  pub led : LeadsAlong goes from (replicate number Returned) to
  pub taken : count_by is_some new + number ≡ count_by is_some old
  pub frames : (new ≡ old) ⊎ ((new ≡ slice_set old place None) × (named ≡ Some place) × (other ≡ Some place → ⊥))
  pub gone : (q : ℕ) → named ≡ Some q → (other ≡ Some q → ⊥) → new ≡ slice_set old q None

-- one table where the leaf is a snapshot's own
abbrev pub own_if : Leaf → ℕ
own_if leaf = cond (is_own leaf) 1 0

-- a leaf is given back: its tables, and the frames that it names and the other table does not
pub record IsLeafReleased {State : Type 0} (goes : State → Deal → State → Type 0) (from to : State) (own other : Versions) (tables : ℕ) (old new : List (Option FrameView)) : Type 0 where
  pub count : ℕ
  pub led : LeadsAlong goes from (replicate count Returned) to
  pub taken : count_by is_some new + count ≡ count_by is_some old + tables
  pub room : length new ≡ length old
  pub each : (place : ℕ) → (slice_index_or new place None ≡ slice_index_or old place None) ⊎ (slice_index_or new place None ≡ None)
  pub kept : (page place : ℕ) → version_at other page ≡ Some place → slice_index_or new place None ≡ slice_index_or old place None
  pub gone : (page place : ℕ) → version_at own page ≡ Some place → (version_at other page ≡ Some place → ⊥) → slice_index_or new place None ≡ None
