-- What is known of a memory under a process: what it holds, and the numbers and sets that its calls keep.
use Rattle.std.specs.Prelude.{◌≡◌, ℕ, ◌+◌, ◌≤◌, ◌<◌, IsTrue, IsFalse, IsSome, IfSome, Option, length, ◌⊎◌, List, ◌==◌}
use Rattle.std.specs.Ordering.{nat_cmp}
use Rattle.std.specs.FinMap.{get, len}
use Rattle.std.specs.FinSet as set
use Rattle.std.specs.List.{list_any}
use Rattle.vm_base.specs.Places.{cell_of, directory_frames, distinct}
use Rattle.vm_base.specs.FlatMemory.{FlatMemory, IsFlat, area_of, cells_of}
use Rattle.vm_base.specs.FlatStep.{is_read_only}

-- a finite set of numbers
abbrev pub Numbers : Type 0
Numbers = set.FinSet nat_cmp

-- the number is in the set
abbrev pub IsIn : ℕ → Numbers → Type 0
IsIn n numbers = IsTrue (set.contains numbers n)

-- the number is in the list
abbrev pub IsListed : ℕ → List ℕ → Type 0
IsListed n numbers = IsTrue (list_any (λ other. other == n) numbers)

-- a memory, and what stands beside it
pub record MemoryState : Type 0 where
  -- what it holds
  pub mem : FlatMemory
  -- its refused frame requests
  pub refused : ℕ
  -- the most present pages that it can have
  pub room : ℕ
  -- the cell slots
  pub slots : ℕ
  -- the cells that use a slot
  pub used : Numbers
  -- the pages that may be stored to
  pub ready : Numbers
  -- the most frames of its own that it has had, or that a touch has asked for
  pub most : ℕ
  -- how high that has to be before a request may be refused, where an implementation tells it
  pub enough : Option ℕ

-- the frames of a memory that shares none: its directory, a leaf table for each cell, and its present pages
abbrev pub own_of : FlatMemory → ℕ
own_of memory = directory_frames (cells_of memory) + length (distinct (cells_of memory)) + len memory.present

-- what holds of a memory at each moment
pub record IsMemory (state : MemoryState) : Type 0 where
  pub flat : IsFlat state.mem
  pub room : len state.mem.present ≤ state.room
  pub own : own_of state.mem ≤ state.most
  -- a cell with a present page uses a slot, and no more slots are used than there are
  pub used : (page : ℕ) → IsSome (get state.mem.present page) → IsIn (cell_of page) state.used
  pub slots : set.len state.used ≤ state.slots
  -- a page that may be stored to is present, and its area may be written
  pub present : (page : ℕ) → IsIn page state.ready → IsSome (get state.mem.present page)
  pub writable : (page : ℕ) → IsIn page state.ready → IsFalse (is_read_only (area_of state.mem.areas page))
  -- where enough is told, a request was refused only once that many frames were its own or asked for
  pub reached : 0 < state.refused → IfSome state.enough (λ enough. enough ≤ state.most)

-- what each call on a memory keeps; these are the cells to which it may give slots
pub record IsKept (old new : MemoryState) (cells : List ℕ) : Type 0 where
  pub before : IsMemory old
  pub after : IsMemory new
  pub room : new.room ≡ old.room
  pub slots : new.slots ≡ old.slots
  pub used : (cell : ℕ) → IsIn cell new.used → IsIn cell old.used ⊎ IsListed cell cells
  pub enough : new.enough ≡ old.enough
  pub counted : old.refused ≤ new.refused
  pub grown : old.most ≤ new.most

-- no page has left those that may be stored to
abbrev pub KeepsReady : MemoryState → MemoryState → Type 0
KeepsReady old new = (page : ℕ) → IsIn page old.ready → IsIn page new.ready
