-- Leaves and versions at one cell: which page is whose, and what each snapshot has there. Pages are counted from the first of the cell.
use Rattle.std.specs.Prelude.{◌≡◌, ℕ, ◌+◌, ◌<◌, ◌⊎◌, ◌==◌, Bool, true, false, not, ◌&&◌, if◌then◌else◌, List, [], ◌∷◌, ◌++◌, map, length, take, drop, replicate, filter, count_by, flat_map, slice_index_or, slice_set, nat_lt, Option, Some, None, is_some, IsSome}
use Rattle.std.specs.List.{list_any, AllByRecursion}
use Rattle.vm_base.specs.declared.fork_mode.Mode.{Mode}
use Rattle.vm_base.specs.declared.fork_mode.Mode.TheVariants.{Eager, OnDemand, Async}

-- the version of each page of a cell, 512 of them: of a present page the number of the frame request that made it, of an absent page none
abbrev pub Versions : Type 0
Versions = List (Option ℕ)

-- no page is present
abbrev pub no_versions : Versions
no_versions = replicate 512 None

-- the version of a page, where it is present
abbrev pub version_at : Versions → ℕ → Option ℕ
version_at versions page = slice_index_or versions page None

-- a page with a new version
abbrev pub with_version : Versions → ℕ → ℕ → Versions
with_version versions page version = slice_set versions page (Some version)

-- without n pages
abbrev pub without_versions : Versions → ℕ → ℕ → Versions
without_versions versions first n = take first versions ++ replicate n None ++ drop (first + n) versions

-- one of n pages is present
abbrev pub has_present : Versions → ℕ → ℕ → Bool
has_present versions first n = list_any is_some (take n (drop first versions))

-- some page is present
abbrev pub has_pages : Versions → Bool
has_pages versions = list_any is_some versions

-- what a snapshot has at a cell of its own: a leaf table of its own; that of the parent, joined; or no leaf any more, with the parent's count of refused requests as it was lost
pub data Leaf : Type 0 where
  Own : Leaf
  Joined : Leaf
  Lost : ℕ → Leaf

-- a snapshot at a cell: its number, the mode of its fork, the pages with their versions as they were at its fork, and its leaf
pub record Kept : Type 0 where
  pub number : ℕ
  pub mode : Mode
  pub versions : Versions
  pub leaf : Leaf

-- a cell: the parent's pages with their versions, and the snapshots that have the cell, in rising order of their numbers
pub record CellLeaves : Type 0 where
  pub parent : Versions
  pub kept : List Kept

-- a cell that nobody has
abbrev pub unused_cell : CellLeaves
unused_cell = record { parent = no_versions; kept = [] }

-- a leaf table of its own
abbrev pub is_own : Leaf → Bool
is_own Own = true
is_own Joined = false
is_own (Lost at) = false

-- the parent's leaf table
abbrev pub is_joined : Leaf → Bool
is_joined Own = false
is_joined Joined = true
is_joined (Lost at) = false

-- no leaf any more
abbrev pub is_lost : Leaf → Bool
is_lost Own = false
is_lost Joined = false
is_lost (Lost at) = true

-- the mode is async
abbrev pub is_async : Mode → Bool
is_async Eager = false
is_async OnDemand = false
is_async Async = true

-- joined by an on-demand fork
abbrev pub is_shared : Kept → Bool
is_shared kept = is_joined kept.leaf && not (is_async kept.mode)

-- joined by an async fork: still to be copied
abbrev pub is_marked : Kept → Bool
is_marked kept = is_joined kept.leaf && is_async kept.mode

-- an option holds this number
abbrev pub holds_number : Option ℕ → ℕ → Bool
holds_number None number = false
holds_number (Some other) number = other == number

-- a leaf of the snapshot's own names this version of the page
abbrev pub names_version : ℕ → ℕ → Kept → Bool
names_version page version kept = is_own kept.leaf && holds_number (version_at kept.versions page) version

-- some snapshot's own leaf names it
abbrev pub is_named : CellLeaves → ℕ → ℕ → Bool
is_named cell page version = list_any (names_version page version) cell.kept

-- a leaf that is not lost names this version of the page
abbrev pub IsNamedBy : ℕ → ℕ → List Kept → Type 0
IsNamedBy page version [] = ⊥
IsNamedBy page version (it ∷ others) =
    ((is_lost it.leaf ≡ false) × (version_at it.versions page ≡ Some version)) ⊎ IsNamedBy page version others

-- the page is the parent's alone, so that it may be stored to: it is present, and no leaf that is not lost names its version
pub record IsAlone (cell : CellLeaves) (page : ℕ) : Type 0 where
  pub present : IsSome (version_at cell.parent page)
  pub unnamed : (version : ℕ) → version_at cell.parent page ≡ Some version → IsNamedBy page version cell.kept → ⊥

-- the pairs of page and version, where the first of these pages has this number
abbrev pub pairs_from : ℕ → Versions → List (ℕ × ℕ)
pairs_from page [] = []
pairs_from page (None ∷ versions) = pairs_from (page + 1) versions
pairs_from page (Some version ∷ versions) = (page, version) ∷ pairs_from (page + 1) versions

-- the pairs that a snapshot's leaf names: none where it is lost
abbrev pub pairs_of : Kept → List (ℕ × ℕ)
pairs_of kept = if is_lost kept.leaf then [] else pairs_from 0 kept.versions

-- two pairs are the same
abbrev pub is_same_pair : ℕ × ℕ → ℕ × ℕ → Bool
is_same_pair a b = (a.0 == b.0) && (a.1 == b.1)

-- the members of a list of pairs, each once
abbrev pub distinct_pairs : List (ℕ × ℕ) → List (ℕ × ℕ)
distinct_pairs [] = []
distinct_pairs (pair ∷ pairs) =
    if list_any (is_same_pair pair) pairs then distinct_pairs pairs else pair ∷ distinct_pairs pairs

-- the distinct pairs of page and version that the parent or a leaf that is not lost names: for each there is one page frame
abbrev pub named_pairs : CellLeaves → List (ℕ × ℕ)
named_pairs cell = distinct_pairs (pairs_from 0 cell.parent ++ flat_map pairs_of cell.kept)

-- the parent's leaf table, where it has a page here
abbrev pub parent_leaves : CellLeaves → ℕ
parent_leaves cell = if has_pages cell.parent then 1 else 0

-- the leaf tables that are a snapshot's own
abbrev pub own_leaves : CellLeaves → ℕ
own_leaves cell = count_by (λ kept. is_own kept.leaf) cell.kept

-- the share of a cell, in frames: the parent's leaf, the own leaves, and the distinct versions
abbrev pub share : CellLeaves → ℕ
share cell = parent_leaves cell + own_leaves cell + length (named_pairs cell)

-- what snapshot n has at the cell, where it has the cell
abbrev pub kept_by : List Kept → ℕ → Option Kept
kept_by [] n = None
kept_by (kept ∷ others) n = if kept.number == n then Some kept else kept_by others n

-- a snapshot has the cell, with a leaf that passes a test
abbrev pub has_leaf_where : (Leaf → Bool) → Option Kept → Bool
has_leaf_where test None = false
has_leaf_where test (Some kept) = test kept.leaf

-- it has not lost the cell
abbrev pub has_leaf : Option Kept → Bool
has_leaf kept = has_leaf_where (λ leaf. not (is_lost leaf)) kept

-- its leaf table is the parent's
abbrev pub has_joined : Option Kept → Bool
has_joined kept = has_leaf_where is_joined kept

-- the number of each of these snapshots is above this one
abbrev pub AreAbove : ℕ → List Kept → Type 0
AreAbove n kept = AllByRecursion (λ it. n < it.number) kept

-- snapshots are in rising order of their numbers, so that each number is there once
abbrev pub AreRising : List Kept → Type 0
AreRising [] = Unit {0}
AreRising (kept ∷ others) = AreAbove kept.number others × AreRising others

-- a snapshot at its place in rising order
abbrev pub with_kept : Kept → List Kept → List Kept
with_kept new [] = new ∷ []
with_kept new (kept ∷ others) =
    if nat_lt new.number kept.number then new ∷ kept ∷ others else kept ∷ with_kept new others

-- without snapshot n
abbrev pub without_kept : ℕ → List Kept → List Kept
without_kept n kept = filter (λ it. not (it.number == n)) kept

-- the snapshots that pass a test have this leaf, and the others the leaf that they had
abbrev pub with_leaf : (Kept → Bool) → Leaf → List Kept → List Kept
with_leaf test leaf kept = map (λ it. if test it then record it { leaf = leaf } else it) kept

-- snapshot n has lost the cell: the count at which it did
abbrev pub loss_at : Leaf → Option ℕ
loss_at Own = None
loss_at Joined = None
loss_at (Lost at) = Some at
