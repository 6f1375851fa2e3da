-- A memory under a store: what calls on it need, and how its frames keep within the reach.
use Rattle.std.specs.Prelude.{◌≡◌, ◌⊎◌, ℕ, ◌+◌, ◌*◌, ◌^◌, ◌≤◌, ◌<◌, max, List, [], ◌++◌, length, map, zip, sum, count_by, ◌==◌, IsSome}
use Rattle.std.specs.List.{AllZip}
use Rattle.std.specs.FinMap.{get}
use Rattle.std.specs.FinSet as set
use Rattle.vm_base.specs.Counts.{Rose}
use Rattle.vm_base.specs.declared.faults.Fault.{Fault}
use Rattle.vm_base.specs.declared.faults.Fault.TheVariants.{NoArea, NoWrite, NoFrame, Overlap, AreasFull, CellsFull}
use Rattle.vm_base.specs.MemoryState.{MemoryState, IsKept, IsIn, IsListed}
use Rattle.store_meaning.specs.Layout.{classes, heap_at, store_cells}
use Rattle.store_meaning.specs.HeapLayout.{Heap, blocks_of}
use Rattle.store_meaning.specs.HashLayout.{Pairs, Store, IsStore, StandsForMap}
use Rattle.store_meaning.specs.Reach.{Place, Reach, reach_of}

-- a memory that a store may lie in: a slot for each cell of its regions, no other cell in use, and
-- fewer pages than its heap has
pub record MayHoldStore (state : MemoryState) : Type 0 where
  pub slots : 386 ≤ state.slots
  pub used : (cell : ℕ) → IsIn cell state.used → IsListed cell store_cells
  pub room : state.room ≤ 65536

-- a memory in which a store may begin: it has no area, no slot is in use, and it can't have more
-- pages than the heap has blocks for
pub record MayBegin (state : MemoryState) : Type 0 where
  pub empty : state.mem.areas ≡ []
  pub slots : 386 ≤ state.slots
  pub unused : set.len state.used ≡ 0
  pub room : state.room ≤ 65536

-- a frame was refused for the header's page, and the memory is as it was: the count rose to `at`,
-- and unmapping may raise it further
abbrev pub BeginFails : MemoryState → MemoryState → Fault → Type 0
BeginFails old new (NoFrame at page) =
    (new.mem ≡ old.mem) × Rose old.refused at × (at ≤ new.refused) × (page ≡ 512)
BeginFails old new (NoArea page) = ⊥
BeginFails old new (NoWrite page) = ⊥
BeginFails old new (Overlap page) = ⊥
BeginFails old new AreasFull = ⊥
BeginFails old new CellsFull = ⊥

-- blocks of the class, in use or free
abbrev pub blocks_in : Heap → ℕ → ℕ
blocks_in heap class = count_by (λ block. block.class == class) (blocks_of heap)

-- a store's layout keeps within a reach: its blocks, the heap pages that are present, and its array
pub record KeepsWithin (state : MemoryState) (store : Store) (reach : Reach) : Type 0 where
  pub blocks : AllZip (λ class peak. blocks_in store.heap class ≤ peak) classes reach.peaks
  -- zeroed pages of a refused put may lie above the top, and within this
  pub pages : (page : ℕ) → IsSome (get state.mem.present page) → heap_at ≤ 4096 * page
      → 4096 * page < heap_at + sum (map (λ both. 2 ^ both.0 * both.1) (zip classes reach.peaks))
  pub buckets : (length store.table.chains ≡ 512) ⊎ (length store.table.chains < 2 * reach.pairs)

-- the memory stands for the map, and what it has had or asked for is at most `before` or the bound
-- of the places
pub record Stands (state : MemoryState) (of : Pairs) (before : ℕ)
    (places : List Place) : Type 0 where
  pub store : Store
  pub stands : IsStore state.mem store of
  pub within : KeepsWithin state store (reach_of places)
  pub most : state.most ≤ max before (reach_of places).bound

-- for each map that the memory stood for it stands for the map behind a step; and so it does with
-- the places behind it, for each list of places
pub record Follows (old new : MemoryState) (step : Pairs → Pairs) (places : Pairs
    → List Place) : Type 0 where
  pub map : (pairs : Pairs) → StandsForMap old.mem pairs → StandsForMap new.mem (step pairs)
  pub within : (pairs : Pairs) (before : ℕ) (gone : List Place) → Stands old pairs before gone
      → Stands new (step pairs) before (gone ++ places pairs)

-- the memory stands for some map, so that calls of a store may be made on it
pub record IsStanding (state : MemoryState) : Type 0 where
  pub may : MayHoldStore state
  pub pairs : Pairs
  pub stands : StandsForMap state.mem pairs

-- what each call on a store keeps
pub record StaysStanding (old new : MemoryState) : Type 0 where
  pub standing : IsStanding new
  pub keeps : IsKept old new store_cells
