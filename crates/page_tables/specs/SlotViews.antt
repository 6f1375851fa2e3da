-- What slots show: whose each is, and the state of the cell that lies there. A memory's pages, the
-- cells that it uses, the pages that may be stored to and the cells that a snapshot has lost are
-- read off a list of such views, whatever keeps the cells.
use Rattle.std.specs.Prelude.{◌≡◌, ◌↔◌, ℕ, zero, suc, ◌+◌, ◌*◌, ◌%◌, ◌<◌, not, ◌&&◌, ◌||◌, nat_eq, Bool, false, if◌then◌else◌, List, [], ◌∷◌, filter, length, count_by, Option, Some, None, IsSome, is_some}
use Rattle.std.specs.Option.{option_eq, option_and_then}
use Rattle.std.specs.List.{slice_get}
use Rattle.std.specs.Ordering.{nat_cmp}
use Rattle.std.specs.FinMap.{get, find, insert, empty, keys}
use Rattle.std.specs.FinSet as set
use Rattle.vm_base.specs.Places.{cell_of}
use Rattle.vm_base.specs.FlatMemory.{Area, PageMap, area_of}
use Rattle.vm_base.specs.FlatStep.{is_read_only}
use Rattle.vm_base.specs.MemoryState.{Numbers}
use Rattle.vm_base.specs.ProcessState.{Found}
use Rattle.kernel_meaning.specs.Leaves.{CellLeaves, Kept, Leaf, Own, Joined, Lost, version_at, is_lost, is_marked, loss_at, kept_by, IsAlone}
use Rattle.kernel_meaning.specs.FrameLaw.{cell_at}
use Rattle.kernel_meaning.specs.CellAccount.{CellState}
use Rattle.page_tables.specs.Sides.{Sides}

-- a slot as it is seen: the cell that has it, if one has, and what lies there
pub record SlotView : Type 0 where
  pub owner : Option ℕ
  pub state : CellState

-- the owner of a slot, if it has one
abbrev pub owner_in : List SlotView → ℕ → Option ℕ
owner_in views s = option_and_then (λ view. view.owner) (slice_get views s)

-- ---- pages

-- a page more, where there is one
abbrev pub with_some : PageMap → ℕ → Option (List ℕ) → PageMap
with_some pages page None = pages
with_some pages page (Some bytes) = insert pages page bytes

-- n pages as they are read, from this one on, beside other pages
unfoldable pub with_read_pages : ℕ → (ℕ → Option (List ℕ)) → ℕ → PageMap → PageMap
with_read_pages first read zero pages = pages
with_read_pages first read (suc n) pages =
    with_some (with_read_pages first read n pages) (first + n) (read n)

-- the pages of an owner's cell, if there is one, beside other pages
abbrev pub with_owned_pages : Option ℕ → PageMap → PageMap → PageMap
with_owned_pages None cell pages = pages
with_owned_pages (Some c) cell pages = with_read_pages (c * 512) (get cell) 512 pages

-- the parent's pages in slots
abbrev pub pages_in : List SlotView → PageMap
pages_in [] = empty
pages_in (view ∷ views) = with_owned_pages view.owner view.state.pages (pages_in views)

-- ---- cells

-- a cell more, where a slot has one
abbrev pub with_owner : Option ℕ → Numbers → Numbers
with_owner None cells = cells
with_owner (Some c) cells = set.insert cells c

-- the cells that slots have
abbrev pub used_in : List SlotView → Numbers
used_in [] = set.empty
used_in (view ∷ views) = with_owner view.owner (used_in views)

-- ---- pages that may be stored to

-- a leaf that is not lost names this version of the page
abbrev pub is_named_by : ℕ → ℕ → List Kept → Bool
is_named_by page version [] = false
is_named_by page version (it ∷ others) =
    (not (is_lost it.leaf) && option_eq nat_eq (version_at it.versions page) (Some version))
    || is_named_by page version others

-- a version of the page that no such leaf names
abbrev pub is_unnamed : ℕ → List Kept → Option ℕ → Bool
is_unnamed page kept None = false
is_unnamed page kept (Some version) = not (is_named_by page version kept)

-- the page is the parent's alone in a cell
abbrev pub is_alone_at : CellLeaves → ℕ → Bool
is_alone_at cell page = is_unnamed page cell.kept (version_at cell.parent page)

-- the page is the parent's alone in the slot of its cell
abbrev pub is_alone_in : List SlotView → ℕ → Bool
is_alone_in [] page = false
is_alone_in (view ∷ views) page =
    if option_eq nat_eq view.owner (Some (cell_of page))
    then is_alone_at view.state.leaves (page % 512)
    else is_alone_in views page

-- the pages that may be stored to: the parent has each alone, and its area may be written
abbrev pub ready_in : List Area → List SlotView → Numbers
ready_in areas views =
    set.from_list (filter
    (λ page. is_alone_in views page && not (is_read_only (area_of areas page)))
    (keys (pages_in views)))

-- ---- cells that a snapshot has lost, and cells that wait for it

-- the count at which what a snapshot has at a cell was lost
abbrev pub lost_there : Option Kept → Option ℕ
lost_there kept = option_and_then (λ it. loss_at it.leaf) kept

-- a cell more, where its leaf is lost
abbrev pub with_leaf : ℕ → Leaf → Found → Found
with_leaf c Own found = found
with_leaf c Joined found = found
with_leaf c (Lost at) found = insert found c at

-- the same of the cell of an owner, where the snapshot has it
abbrev pub with_lost : Option ℕ → Option Kept → Found → Found
with_lost None kept found = found
with_lost (Some c) None found = found
with_lost (Some c) (Some kept) found = with_leaf c kept.leaf found

-- the cells that snapshot n has lost, each with its count
abbrev pub lost_in : ℕ → List SlotView → Found
lost_in n [] = empty
lost_in n (view ∷ views) = with_lost view.owner (kept_by view.state.leaves.kept n) (lost_in n views)

-- what a snapshot has at a cell waits to be copied by it
abbrev pub is_waiting : Option Kept → Bool
is_waiting None = false
is_waiting (Some kept) = is_marked kept

-- a cell more, where a slot has one that waits
abbrev pub with_waiting : Option ℕ → Bool → ℕ → ℕ
with_waiting None waits n = n
with_waiting (Some c) waits n = if waits then n + 1 else n

-- how many cells of snapshot n wait to be copied by it
abbrev pub waiting_in : ℕ → List SlotView → ℕ
waiting_in n [] = 0
waiting_in n (view ∷ views) =
    with_waiting view.owner (is_waiting (kept_by view.state.leaves.kept n)) (waiting_in n views)

-- ---- when slots show the two sides

-- a cell shows what the two sides have there: the parent's pages, which of them are the parent's
-- alone, and of each snapshot whether it has lost the cell or waits there
pub record IsShown (sides : Sides) (c : ℕ) (state : CellState) : Type 0 where
  pub pages : (p : ℕ) → p < 512 → get state.pages p ≡ get sides.pages (c * 512 + p)
  pub alone : (p : ℕ) → IsAlone state.leaves p ↔ IsAlone (cell_at sides.leaves c) p
  pub lost : (n : ℕ) → lost_there (kept_by state.leaves.kept n)
      ≡ lost_there (kept_by (cell_at sides.leaves c).kept n)
  pub waits : (n : ℕ) → is_waiting (kept_by state.leaves.kept n)
      ≡ is_waiting (kept_by (cell_at sides.leaves c).kept n)

-- slots show the two sides: each cell that is somebody's has one slot alone, and shows there what
-- the sides have; and where no slot is a cell's the sides have nothing
pub record AreViewsOf (sides : Sides) (views : List SlotView) : Type 0 where
  pub once : (s t c : ℕ) → owner_in views s ≡ Some c → owner_in views t ≡ Some c → s ≡ t
  pub used : (s c : ℕ) → owner_in views s ≡ Some c → IsSome (find nat_cmp c sides.leaves)
  pub owned : (c : ℕ) → IsSome (find nat_cmp c sides.leaves) → (s : ℕ) × (owner_in views s ≡ Some c)
  pub counted : count_by (λ view. is_some view.owner) views ≡ length sides.leaves
  pub shows : (s c : ℕ) (view : SlotView) → slice_get views s ≡ Some view → view.owner ≡ Some c
      → IsShown sides c view.state
  pub absent : (c p : ℕ) → p < 512 → is_some (find nat_cmp c sides.leaves) ≡ false
      → get sides.pages (c * 512 + p) ≡ None
