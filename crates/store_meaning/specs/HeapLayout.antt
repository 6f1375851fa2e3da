-- The heap of a store: blocks in use and free blocks, which fill it from its first address to its
-- top.
use Rattle.std.specs.Prelude.{◌≡◌, ℕ, ◌+◌, ◌*◌, ◌-◌, ◌^◌, ◌≤◌, ◌<◌, ◌==◌, if◌then◌else◌, List, [], ◌∷◌, ◌++◌, IsSome, IsPermutation, All, map, Contains}
use Rattle.std.specs.List.{flat_map}
use Rattle.std.specs.FinMap.{get}
use Rattle.vm_base.specs.FlatMemory.{FlatMemory}
use Rattle.store_meaning.specs.Layout.{header_area, heap_area, heap_at, heap_end, header_at, top_field, list_field, word_at, classes}

-- a block: where it begins, and its class
pub record Block : Type 0 where
  pub at : ℕ
  pub class : ℕ

-- the bytes of a block
abbrev pub block_bytes : Block → ℕ
block_bytes block = 2 ^ block.class

-- blocks that lie one behind another, from one address to another
abbrev pub Fill : ℕ → List Block → ℕ → Type 0
Fill from [] to = to ≡ from
Fill from (block ∷ blocks) to = (block.at ≡ from) × Fill (from + block_bytes block) blocks to

-- the heap's top; the blocks in use, in any order; and for each class the addresses of its free
-- blocks, the one freed last in front
pub record Heap : Type 0 where
  pub top : ℕ
  pub used : List Block
  pub free : ℕ → List ℕ

-- the free blocks of a class
abbrev pub free_of : Heap → ℕ → List Block
free_of heap class = map (λ at. record { at = at; class = class }) (heap.free class)

-- all blocks, those in use and then those that are free
abbrev pub blocks_of : Heap → List Block
blocks_of heap = heap.used ++ flat_map (free_of heap) classes

-- the word at a place is the address of the first of these blocks, the first bytes of each are the
-- address of the next one, and 0 stands where none follows
abbrev pub Links : FlatMemory → ℕ → List ℕ → Type 0
Links memory place [] = word_at memory place ≡ 0
Links memory place (at ∷ blocks) = (word_at memory place ≡ at) × (0 < at) × Links memory at blocks

-- each page that the range meets is present
abbrev pub ArePresent : FlatMemory → ℕ → ℕ → Type 0
ArePresent memory address n =
    (page : ℕ) → address < (page + 1) * 4096 → page * 4096 < address + n
    → IsSome (get memory.present page)

-- the first half of the block lies in present pages
abbrev pub HalfIsPresent : FlatMemory → Block → Type 0
HalfIsPresent memory block = ArePresent memory block.at (2 ^ (block.class - 1))

-- the memory has this heap: all blocks together, each once, fill it from its first address to its
-- top
pub record IsHeap (memory : FlatMemory) (heap : Heap) : Type 0 where
  pub areas : Contains memory.areas header_area × Contains memory.areas heap_area
  pub top : word_at memory top_field ≡ heap.top
  pub lists : (class : ℕ) → Contains classes class
      → Links memory (list_field class) (heap.free class)
  pub order : List Block
  pub same : IsPermutation order (blocks_of heap)
  pub fill : Fill heap_at order heap.top
  pub classed : All (λ block. Contains classes block.class) order
  pub halves : All (HalfIsPresent memory) order
  pub header : ArePresent memory header_at 4096
  pub within : heap.top ≤ heap_end

-- the heap that begins: no block
abbrev pub opening_heap : Heap
opening_heap = record { top = heap_at; used = []; free = λ class. [] }

-- the heap with other free blocks of one class
abbrev pub with_free : Heap → ℕ → List ℕ → ℕ → List ℕ
with_free heap class blocks other = if other == class then blocks else heap.free other

-- where the next block of a class will be: where the first of these free ones is, or at the top
abbrev pub first_or_top : List ℕ → ℕ → ℕ
first_or_top [] top = top
first_or_top (at ∷ free) top = at

-- the same in a heap
abbrev pub next_at : Heap → ℕ → ℕ
next_at heap class = first_or_top (heap.free class) heap.top

-- the heap with one block of a class more in use, where these are the free ones of the class
abbrev pub with_next : Heap → ℕ → List ℕ → Heap
with_next heap class [] =
    record heap {
      top = heap.top + 2 ^ class;
      used =
          record { at = heap.top; class = class } ∷ heap.used;
    }
with_next heap class (at ∷ free) =
    record heap {
      used = record { at = at; class = class } ∷ heap.used;
      free =
          with_free heap class free;
    }

-- the heap with its next block of a class in use
abbrev pub committed : Heap → ℕ → Heap
committed heap class = with_next heap class (heap.free class)

-- these blocks without the first one at the address
abbrev pub without_block : ℕ → List Block → List Block
without_block at [] = []
without_block at (block ∷ blocks) =
    if block.at == at then blocks else block ∷ without_block at blocks

-- the heap with a block given back, in front of the free ones of its class
abbrev pub freed : Heap → ℕ → ℕ → Heap
freed heap at class = record heap {
  used = without_block at heap.used;
  free = with_free heap class (at ∷ heap.free class);
}
