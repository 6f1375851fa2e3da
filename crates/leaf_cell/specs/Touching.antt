-- What a touch of a page leaves, and what a clear of some pages does.
use Rattle.std.specs.Prelude.{◌≡◌, ℕ, ◌+◌, ◌<◌, ◌≤◌, ◌⊎◌, Bool, true, false, List, [], ◌∷◌, Option, Some, None, is_some}
use Rattle.vm_base.specs.Counts.{next_count}
use Rattle.kernel_meaning.specs.Leaves.{version_at, without_versions, is_named, Lost, Kept, CellLeaves}
use Rattle.leaf_cell.specs.CellView.{CellView, AreUnjoined, parent_page, page_or_zeros}
pub use Rattle.kernel_meaning.specs.Leaves.{IsAlone}

-- a version, where there is one, that a snapshot's own leaf names
abbrev pub is_named_too : CellLeaves → ℕ → Option ℕ → Bool
is_named_too cell page None = false
is_named_too cell page (Some version) = is_named cell page version

-- a touch of the page needs a copy: a snapshot's own leaf names the version that the parent has
abbrev pub needs_copy : CellLeaves → ℕ → Bool
needs_copy cell page = is_named_too cell page (version_at cell.parent page)

-- a snapshot is as it was; or it has lost the cell, since a copy was needed and refused, and `after` counts that refusal
abbrev pub IsKeptOrLost : Bool → ℕ → ℕ → Kept → Kept → Type 0
IsKeptOrLost copy before after old new = (new ≡ old)
    ⊎ ((copy ≡ true) × (after ≡ next_count before) × (new.number ≡ old.number) × (new.mode ≡ old.mode) × (new.leaf ≡ Lost after))

-- the same snapshots, one after another
abbrev pub AreKeptOrLost : Bool → ℕ → ℕ → List Kept → List Kept → Type 0
AreKeptOrLost copy before after [] [] = Unit {0}
AreKeptOrLost copy before after [] (it ∷ news) = ⊥
AreKeptOrLost copy before after (it ∷ olds) [] = ⊥
AreKeptOrLost copy before after (old ∷ olds) (new ∷ news) = IsKeptOrLost copy before after old new × AreKeptOrLost copy before after olds news

-- a page was touched, while the count of refused requests went from one number to another
pub record IsTouched (page before after : ℕ) (old new : CellView) : Type 0 where
  -- the page may be stored to, and so may each page that might before
  pub alone : IsAlone new.leaves page
  pub still : (p : ℕ) → IsAlone old.leaves p → IsAlone new.leaves p
  -- no other page has come or gone, and each reads as before
  pub present : (p : ℕ) → (p ≡ page → ⊥) → is_some (version_at new.leaves.parent p) ≡ is_some (version_at old.leaves.parent p)
  pub reads : (p : ℕ) → p < 512 → page_or_zeros (parent_page new p) ≡ page_or_zeros (parent_page old p)
  -- the count rose by one at most, and only where a copy was needed
  pub counted : (after ≡ before) ⊎ ((needs_copy old.leaves page ≡ true) × (after ≡ next_count before))
  -- each snapshot is as it was, but where that copy was refused
  pub snapshots : AreKeptOrLost (needs_copy old.leaves page) before after old.leaves.kept new.leaves.kept
  -- the next touch may come
  pub unjoined : AreUnjoined new.leaves.kept

-- n pages of the parent are gone, and nothing else is
pub record IsCleared (first n : ℕ) (old new : CellView) : Type 0 where
  pub leaves : new.leaves ≡ record old.leaves { parent = without_versions old.leaves.parent first n }
  -- a page outside the range reads as before, and may be stored to where it might
  pub reads : (p : ℕ) → p < 512 → (p < first) ⊎ (first + n ≤ p) → parent_page new p ≡ parent_page old p
  pub still : (p : ℕ) → (p < first) ⊎ (first + n ≤ p) → IsAlone old.leaves p → IsAlone new.leaves p
