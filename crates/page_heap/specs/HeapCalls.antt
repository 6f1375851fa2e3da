-- What the calls on the heap need, answer and leave.
use Rattle.std.specs.Prelude.{◌≡◌, ℕ, ◌+◌, ◌≤◌, ◌^◌, false, true, if◌then◌else◌, List, [], ◌∷◌, Contains, IsSome, replicate}
use Rattle.std.specs.FinMap.{get}
use Rattle.byteorder.specs.Endian.{big_bytes}
use Rattle.vm_base.specs.FlatMemory.{Area, FlatMemory, bytes_at}
use Rattle.vm_base.specs.MemoryState.{MemoryState}
use Rattle.vm_base.specs.MemoryCalls.{IsReady, after_store}
use Rattle.store_meaning.specs.Layout.{class_of, classes, top_field, list_field, header_at, header_area, heap_area, word_at}
use Rattle.store_meaning.specs.HeapLayout.{Heap, IsHeap, opening_heap}
use Rattle.store_meaning.specs.Standing.{MayHoldStore}
use Rattle.page_heap.specs.declared.planned.Plan.{Plan}

-- the memory with other areas, and all else as it was
abbrev pub with_areas : MemoryState → List Area → MemoryState
with_areas state areas = record state { mem = record state.mem { areas = areas } }

-- the memory has the two areas and the header's page alone, with a heap without blocks; and the
-- header may be stored to
pub record Begins (old new : MemoryState) : Type 0 where
  pub areas : new.mem.areas ≡ header_area ∷ heap_area ∷ []
  pub heap : IsHeap new.mem opening_heap
  pub rest : bytes_at new.mem.present (header_at + 8) 4088 ≡ replicate 4088 0
  pub pages : (page : ℕ) → IsSome (get new.mem.present page) → page ≡ 512
  pub ready : IsReady new header_at 4096
  pub may : MayHoldStore new

-- the memory has a heap, and no more pages than it has blocks for
pub record HasHeap (state : MemoryState) : Type 0 where
  pub room : state.room ≤ 65536
  pub heap : Heap
  pub is : IsHeap state.mem heap

-- the plan for a class, where these are its free blocks: the first of them, or a block at the top
abbrev pub plan_by : List ℕ → ℕ → ℕ → Plan
plan_by [] top class = record { addr = top; class = class; fresh = true }
plan_by (at ∷ free) top class = record { addr = at; class = class; fresh = false }

-- the plan for a class of blocks
abbrev pub plan_for : Heap → ℕ → Plan
plan_for heap class = plan_by (heap.free class) heap.top class

-- the plan for so many bytes
abbrev pub block_plan : Heap → ℕ → Plan
block_plan heap size = plan_for heap (class_of size)

-- the memory has a heap that gives this plan now
pub record IsPlanned (state : MemoryState) (plan : Plan) : Type 0 where
  pub room : state.room ≤ 65536
  pub heap : Heap
  pub is : IsHeap state.mem heap
  pub class : Contains classes plan.class
  pub given : plan ≡ plan_for heap plan.class

-- the heap has this block in use
abbrev pub HasInUse : Heap → ℕ → ℕ → Type 0
HasInUse heap at class = Contains heap.used (record { at = at; class = class })

-- the memory has a heap with this block in use
pub record IsInUse (memory : FlatMemory) (at class : ℕ) : Type 0 where
  pub heap : Heap
  pub is : IsHeap memory heap
  pub used : HasInUse heap at class

-- what a commit stores: the new top, or the next free block as the first of its class
abbrev pub commit_store : MemoryState → Plan → MemoryState
commit_store state plan =
    if plan.fresh then after_store state top_field (big_bytes 8 (plan.addr + 2 ^ plan.class))
    else after_store state (list_field plan.class) (big_bytes 8 (word_at state.mem plan.addr))

-- what giving a block back stores: the first free block of its class in it, and then the block as
-- the first one
abbrev pub free_store : MemoryState → ℕ → ℕ → MemoryState
free_store state at class =
    after_store (after_store state at (big_bytes 8 (word_at state.mem (list_field class))))
    (list_field class) (big_bytes 8 at)
