-- The copies of leaves that come before a change, and what they leave of a cell.
use Rattle.std.specs.Prelude.{◌≡◌, ◌⊎◌, ℕ, ◌<◌, ◌≤◌, ◌^◌, Bool, true, false, List, [], ◌∷◌, Option}
use Rattle.std.specs.Option.{option_and_then}
use Rattle.vm_base.specs.Counts.{Rose}
use Rattle.kernel_meaning.specs.Leaves.{Leaf, Own, Lost, Kept, is_joined, is_lost, is_shared, is_marked, has_leaf_where, kept_by}
use Rattle.kernel_meaning.specs.CellActs.{Course, numbers_where, leaves_copied}
use Rattle.leaf_cell.specs.declared.snapshot.LeafState.{LeafState}
use Rattle.leaf_cell.specs.declared.snapshot.LeafState.TheVariants as state
use Rattle.leaf_cell.specs.CellView.{CellView, parent_page, kept_page}
use Rattle.leaf_cell.specs.Touching.{IsAlone}
use Rattle.leaf_cell.specs.Writable.{writable_at}
use Rattle.share_cell.specs.declared.joining.Joining.{Joining}
use Rattle.share_cell.specs.declared.joining.Joining.TheVariants.{Shared, Marked}

-- the snapshot's leaf is the parent's, by a fork of this kind
abbrev pub is_joined_by : Joining → Kept → Bool
is_joined_by Shared kept = is_shared kept
is_joined_by Marked kept = is_marked kept

-- a leaf in this state is one that the parent's table is, by a fork of this kind
abbrev pub is_state_joined : Joining → LeafState → Bool
is_state_joined Shared state.Shared = true
is_state_joined Shared state.Absent = false
is_state_joined Shared state.Own = false
is_state_joined Shared state.Marked = false
is_state_joined Shared (state.Lost at) = false
is_state_joined Marked state.Marked = true
is_state_joined Marked state.Absent = false
is_state_joined Marked state.Own = false
is_state_joined Marked state.Shared = false
is_state_joined Marked (state.Lost at) = false

-- the leaves that pass a test are copied, in rising order of the snapshots' numbers
abbrev pub copied_where : (Kept → Bool) → Course → Course
copied_where test course = leaves_copied (numbers_where test course.cell) course

-- what became of a leaf that was to be copied, or was not: it is the snapshot's own, or it is lost
-- at a count of refused requests that was reached meanwhile; or it is as it was
abbrev pub IsLeafCopied : Bool → ℕ → ℕ → Leaf → Leaf → Type 0
IsLeafCopied false before after old new = new ≡ old
IsLeafCopied true before after old new =
    (new ≡ Own) ⊎ ((at : ℕ) × (new ≡ Lost at) × Rose before at × (at ≤ after) × (at < 2 ^ 64))

-- the same snapshots, one after another, of which the leaves that pass a test were copied
abbrev pub AreCopied : (Kept → Bool) → ℕ → ℕ → List Kept → List Kept → Type 0
AreCopied test before after [] [] = Unit {0}
AreCopied test before after [] (it ∷ news) = ⊥
AreCopied test before after (it ∷ olds) [] = ⊥
AreCopied test before after (old ∷ olds) (new ∷ news) = (new.number ≡ old.number)
    × (new.mode ≡ old.mode) × IsLeafCopied (test old) before after old.leaf new.leaf
    × AreCopied test before after olds news

-- the bytes of a page that a snapshot has, where it has the cell and the page
abbrev pub snapshot_bytes : CellView → ℕ → ℕ → Option (List ℕ)
snapshot_bytes view n p = option_and_then (λ it. kept_page view it p) (kept_by view.leaves.kept n)

-- the leaves that pass a test were copied, while the count of refused requests went from one number
-- to another: nothing that a side reads has changed, and no more pages may be stored to as they are
pub record Copies (test : Kept → Bool) (before after : ℕ) (old new : CellView) : Type 0 where
  pub parent : new.leaves.parent ≡ old.leaves.parent
  pub reads : (p : ℕ) → p < 512 → parent_page new p ≡ parent_page old p
  pub kept : (n p : ℕ) → has_leaf_where is_lost (kept_by new.leaves.kept n) ≡ false → p < 512
      → snapshot_bytes new n p ≡ snapshot_bytes old n p
  pub still : (p : ℕ) → IsAlone old.leaves p → IsAlone new.leaves p
  pub writable : (p : ℕ) → writable_at new.writable p ≡ true → writable_at old.writable p ≡ true
  pub snapshots : AreCopied test before after old.leaves.kept new.leaves.kept
  -- the count is as it was, or rose
  pub counted : (after ≡ before) ⊎ (Rose before after × (after < 2 ^ 64))

-- a leaf that passes the test of any change: it is joined
abbrev pub is_joined_kept : Kept → Bool
is_joined_kept kept = is_joined kept.leaf
