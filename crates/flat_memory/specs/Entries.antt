-- Present pages as a list of entries in rising order of their numbers.
use Rattle.std.specs.Prelude.{◌≡◌, ℕ, ◌<◌, ◌≤◌, List, length, Option, Some, None, T, slice_index_or}
use Rattle.std.specs.Ordering.{nat_cmp}
use Rattle.std.specs.FinMap.{is_sorted, find}

-- the number of a page, and its bytes
abbrev pub Numbered : Type 0
Numbered = ℕ × List ℕ

-- the numbers rise
abbrev pub AreSorted : List Numbered → Type 0
AreSorted entries = T (is_sorted nat_cmp entries)

-- so many entries lie below a page, and all others at it or above
pub record IsPlace (entries : List Numbered) (page place : ℕ) : Type 0 where
  pub within : place ≤ length entries
  pub below : (k : ℕ) (d : Numbered) → k < place → (slice_index_or entries k d).0 < page
  pub above : (k : ℕ) (d : Numbered) → place ≤ k → k < length entries
      → page ≤ (slice_index_or entries k d).0

-- the entry at this place is that of the page; or else there is none
abbrev pub FoundAt : List Numbered → ℕ → Option ℕ → Type 0
FoundAt entries page None = find nat_cmp page entries ≡ None
FoundAt entries page (Some place) = (place < length entries)
    × ((d : Numbered) → find nat_cmp page entries ≡ Some (slice_index_or entries place d).1)
    × ((d : Numbered) → (slice_index_or entries place d).0 ≡ page)
