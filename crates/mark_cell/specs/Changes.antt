-- A change of a cell and the leaf copies that come before it.
use Rattle.std.specs.Prelude.{◌≡◌, ℕ, true, slice_set, Result, Ok, Err}
use Rattle.vm_base.specs.Counts.{next_count}
use Rattle.vm_base.specs.declared.refusals.Refused.{Refused}
use Rattle.leaf_cell.specs.CellView.{CellView, AreUnjoined}
use Rattle.leaf_cell.specs.Touching.{IsTouched}
use Rattle.leaf_cell.specs.Writable.{writable_at}
use Rattle.share_cell.specs.Copies.{Copies, is_joined_kept}

-- each joined leaf was copied, while the count of refused requests went from one number to another:
-- then none is joined
pub record CopiesJoined (before after : ℕ) (old new : CellView) : Type 0 where
  pub copies : Copies is_joined_kept before after old new
  pub unjoined : AreUnjoined new.leaves.kept

-- the leaf copies left a cell and a count of refused requests, and the change began from these
pub record BehindCopies (before : ℕ) (old : CellView)
    (change : ℕ → CellView → Type 0) : Type 0 where
  pub count : ℕ
  pub between : CellView
  pub copies : CopiesJoined before count old between
  pub ends : change count between

-- the parent has a page of its own, behind the leaf copies, and of the pages this one more may be
-- written to, and no other
pub record TouchedAlone (page count after : ℕ) (between new : CellView) : Type 0 where
  pub touched : IsTouched page count after between new
  pub permitted : new.writable ≡ slice_set between.writable page true
  pub allowed : writable_at new.writable page ≡ true

-- how the touch of a page ended behind the leaf copies: it is the parent's alone; or its frame was
-- refused, the count rose to the one that is told, and the copies stay
abbrev pub TouchEnds : ℕ → ℕ → CellView → Result (Unit {0}) Refused → ℕ → CellView → Type 0
TouchEnds page after new (Ok done) count between = TouchedAlone page count after between new
TouchEnds page after new (Err refused) count between =
    (new ≡ between) × (after ≡ next_count count) × (refused.at ≡ after)
