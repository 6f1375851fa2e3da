-- Two cells that are alike but for the names of versions: those that live at one moment correspond one to one, page by page.
use Rattle.std.specs.Prelude.{◌≡◌, ℕ, ◌+◌, ◌≤◌, ◌⊎◌, false, List, [], ◌∷◌, Some, None}
use Rattle.kernel_meaning.specs.Leaves.{Versions, version_at, is_lost, Kept, CellLeaves}
pub use Rattle.kernel_meaning.specs.Leaves.{IsNamedBy}

-- versions under other names, where the first of these pages has this number
abbrev pub renamed_from : (ℕ → ℕ → ℕ) → ℕ → Versions → Versions
renamed_from name page [] = []
renamed_from name page (None ∷ versions) = None ∷ renamed_from name (page + 1) versions
renamed_from name page (Some version ∷ versions) = Some (name page version) ∷ renamed_from name (page + 1) versions

-- the versions of a cell under other names
abbrev pub renamed : (ℕ → ℕ → ℕ) → Versions → Versions
renamed name versions = renamed_from name 0 versions

-- the same snapshot with the same leaf, and where it is not lost the same pages under other names
pub record IsKeptAlike (name : ℕ → ℕ → ℕ) (view meant : Kept) : Type 0 where
  pub number : view.number ≡ meant.number
  pub mode : view.mode ≡ meant.mode
  pub leaf : view.leaf ≡ meant.leaf
  pub versions : is_lost meant.leaf ≡ false → view.versions ≡ renamed name meant.versions

-- the same snapshots, one after another
abbrev pub AreKeptAlike : (ℕ → ℕ → ℕ) → List Kept → List Kept → Type 0
AreKeptAlike name [] [] = Unit {0}
AreKeptAlike name [] (it ∷ others) = ⊥
AreKeptAlike name (it ∷ others) [] = ⊥
AreKeptAlike name (it ∷ others) (meant ∷ rest) = IsKeptAlike name it meant × AreKeptAlike name others rest

-- the parent or a leaf that is not lost names this version of the page
abbrev pub IsLive : CellLeaves → ℕ → ℕ → Type 0
IsLive cell page version = (version_at cell.parent page ≡ Some version) ⊎ IsNamedBy page version cell.kept

-- a cell is another one under other names, which differ where the names that live there do
pub record IsRenaming (name : ℕ → ℕ → ℕ) (view meant : CellLeaves) : Type 0 where
  pub parent : view.parent ≡ renamed name meant.parent
  pub kept : AreKeptAlike name view.kept meant.kept
  pub apart : (page version other : ℕ) → IsLive meant page version → IsLive meant page other → name page version ≡ name page other → version ≡ other

-- each version that lives was made by one of so many requests
abbrev pub AreMade : ℕ → CellLeaves → Type 0
AreMade made cell = (page version : ℕ) → IsLive cell page version → version ≤ made
