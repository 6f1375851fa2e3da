-- The world of a parent and its snapshots. A fork copies the parent's whole memory at once, as POSIX fork does; what comes later on one side does not reach the other.
use Rattle.std.specs.Prelude.{ℕ, ◌==◌, not, ◌&&◌, List, [], ◌∷◌, Option, Some, None, if◌then◌else◌, Result, Ok, Err, filter}
use Rattle.std.specs.Ordering.{nat_cmp}
use Rattle.std.specs.Option.{option_or}
use Rattle.std.specs.FinMap.{FinMap, get, insert, remove, empty}
use Rattle.vm_base.specs.Places.{page_of, page_count, cells_of_range}
use Rattle.vm_base.specs.FlatMemory.{FlatMemory, empty_memory, bytes_at}
use Rattle.vm_base.specs.FlatStep.{outside}

-- a snapshot has lost a cell: its number, the cell, and the parent's count of refused requests after the one that lost it
pub record Loss : Type 0 where
  pub snapshot : ℕ
  pub cell : ℕ
  pub at : ℕ

-- the two sides
pub record World : Type 0 where
  -- the parent's memory
  pub parent : FlatMemory
  -- each snapshot that lives, by its number: the memory at its fork
  pub snapshots : FinMap nat_cmp FlatMemory
  -- the cells that snapshots have lost
  pub losses : List Loss
  -- the number of the last snapshot, 0 before the first
  pub last : ℕ
  -- the parent's refused requests
  pub refused : ℕ
  -- the refused requests of each snapshot that lives
  pub refused_copies : FinMap nat_cmp ℕ

-- no area, no snapshot, and nothing refused
abbrev pub opening_world : ℕ → World
opening_world last = record {
  parent = empty_memory;
  snapshots = empty;
  losses = [];
  last = last;
  refused = 0;
  refused_copies = empty;
}

-- a step of the parent leaves it with this memory, and changes nothing else
abbrev pub with_parent : World → FlatMemory → World
with_parent world memory = record world { parent = memory }

-- the fork of snapshot n copies the parent's whole memory
abbrev pub forked : World → ℕ → World
forked world n = record world {
  snapshots = insert world.snapshots n world.parent;
  last = n;
  refused_copies = insert world.refused_copies n 0;
}

-- snapshot n is gone, and what it lost with it
abbrev pub dropped : World → ℕ → World
dropped world n = record world {
  snapshots = remove world.snapshots n;
  losses = filter (λ loss. not (loss.snapshot == n)) world.losses;
  refused_copies = remove world.refused_copies n;
}

-- where snapshot n has lost the cell: the count at which it did
abbrev pub loss_of : List Loss → ℕ → ℕ → Option ℕ
loss_of [] n cell = None
loss_of (loss ∷ losses) n cell =
    (if (loss.snapshot == n) && (loss.cell == cell) then Some loss.at else loss_of losses n cell)

-- the count of the first of these cells that snapshot n has lost
abbrev pub first_loss : List Loss → ℕ → List ℕ → Option ℕ
first_loss losses n [] = None
first_loss losses n (cell ∷ cells) = option_or (loss_of losses n cell) (first_loss losses n cells)

-- why a snapshot can't be read: none of that number lives; the lowest page that lies in no area of it; or the count at which the lowest lost cell of the range was lost
pub data SnapRefusal : Type 0 where
  NotLive : SnapRefusal
  OutsideSnapshot : ℕ → SnapRefusal
  CellLost : ℕ → SnapRefusal

-- what a read gives where there is nothing to refuse it
abbrev pub or_snap_refused : (ℕ → SnapRefusal) → Option ℕ → Result (List ℕ) SnapRefusal → Result (List ℕ) SnapRefusal
or_snap_refused why None answer = answer
or_snap_refused why (Some number) answer = Err (why number)

-- reading n bytes, above 0, from an address of the memory at a fork
abbrev pub kept_read_of : Option FlatMemory → List Loss → ℕ → ℕ → ℕ → Result (List ℕ) SnapRefusal
kept_read_of None losses snapshot address n = Err NotLive
kept_read_of (Some memory) losses snapshot address n =
    or_snap_refused OutsideSnapshot (outside memory.areas (page_of address) (page_count address n))
    (or_snap_refused CellLost (first_loss losses snapshot (cells_of_range address n)) (Ok (bytes_at memory.present address n)))

-- reading n bytes, above 0, from an address of a snapshot
abbrev pub snap_read_of : World → ℕ → ℕ → ℕ → Result (List ℕ) SnapRefusal
snap_read_of world snapshot address n = kept_read_of (get world.snapshots snapshot) world.losses snapshot address n
