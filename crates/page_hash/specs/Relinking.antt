-- Blocks of the heap that are linked anew, chain by chain.
use Rattle.std.specs.Prelude.{◌≡◌, ℕ, ◌+◌, ◌*◌, ◌%◌, ◌≤◌, ◌<◌, ◌==◌, Bool, List, [], ◌∷◌, map, reverse, filter, length, is_some, Contains, slice_index}
use Rattle.std.specs.FinMap.{get}
use Rattle.std.specs.List.{AllByRecursion}
use Rattle.byteorder.specs.Endian.{big_bytes}
use Rattle.vm_base.specs.FlatMemory.{FlatMemory, bytes_at}
use Rattle.vm_base.specs.FlatStep.{with_bytes}
use Rattle.vm_base.specs.FlatLaws.{AreApart}
use Rattle.vm_base.specs.MemoryState.{MemoryState, IsMemory, IsKept, KeepsReady}
use Rattle.store_meaning.specs.Layout.{heap_area, heap_at, heap_end, word_at, store_cells}
use Rattle.store_meaning.specs.HeapLayout.{ArePresent}
use Rattle.store_meaning.specs.HashLayout.{Entry, Holds, hash_of, pair_size}
use Rattle.store_meaning.specs.Owned.{entry_range, ArePairwiseApart}
use Rattle.store_meaning.specs.Standing.{MayHoldStore}

-- a memory in which blocks of the heap may be touched
pub record MayRelink (state : MemoryState) : Type 0 where
  pub sound : IsMemory state
  pub may : MayHoldStore state
  pub heap : Contains state.mem.areas heap_area

-- the same pages are present and may be stored to, and the areas and `most` stay
pub record KeepsPlace (old new : MemoryState) : Type 0 where
  pub areas : new.mem.areas ≡ old.mem.areas
  pub pages : (page : ℕ) → is_some (get new.mem.present page) ≡ is_some (get old.mem.present page)
  pub most : new.most ≡ old.most
  pub ready : KeepsReady old new
  pub kept : IsKept old new store_cells

-- the memory with another word
abbrev pub with_word : FlatMemory → ℕ → ℕ → FlatMemory
with_word memory address word =
    record memory { present = with_bytes memory.present address (big_bytes 8 word) }

-- the block of the entry lies in the heap, has its bytes, and its first word is present
pub record IsHeldBlock (memory : FlatMemory) (entry : Entry) : Type 0 where
  pub holds : Holds memory entry
  pub above : heap_at ≤ entry.at
  pub below : entry.at + pair_size entry.key entry.value ≤ heap_end
  pub present : ArePresent memory entry.at 8

-- so do the blocks of all these, and no two of them meet
pub record AreHeldBlocks (memory : FlatMemory) (entries : List Entry) : Type 0 where
  pub held : AllByRecursion (IsHeldBlock memory) entries
  pub apart : ArePairwiseApart (map entry_range entries)

-- the addresses of entries
abbrev pub places_of : List Entry → List ℕ
places_of entries = map (λ entry. entry.at) entries

-- the chain whose first block is at the address, or none where that is 0
abbrev pub LinksFrom : FlatMemory → ℕ → List ℕ → Type 0
LinksFrom memory first [] = first ≡ 0
LinksFrom memory first (at ∷ blocks) =
    (first ≡ at) × (0 < at) × LinksFrom memory (word_at memory at) blocks

-- a chain of a bucket, which may be linked anew: it has no more blocks than this
pub record IsChainOf (memory : FlatMemory) (first most buckets bucket : ℕ)
    (chain : List Entry) : Type 0 where
  pub linked : LinksFrom memory first (places_of chain)
  pub blocks : AreHeldBlocks memory chain
  pub few : length chain ≤ most
  pub hashed : AllByRecursion (λ entry. hash_of entry.key % buckets ≡ bucket) chain

-- ranges beside the first words of these blocks read as before
abbrev pub KeepsBeside : FlatMemory → FlatMemory → List Entry → Type 0
KeepsBeside old new entries =
    (other size : ℕ) → AllByRecursion (λ entry. AreApart entry.at 8 other size) entries
    → bytes_at new.present other size ≡ bytes_at old.present other size

-- the entry belongs into this bucket of so many
abbrev pub is_of_bucket : ℕ → ℕ → Entry → Bool
is_of_bucket count bucket entry = hash_of entry.key % count == bucket

-- those of a chain that belong into a bucket of so many, the last one in front
abbrev pub turned_for : ℕ → ℕ → List Entry → List Entry
turned_for count bucket chain = reverse (filter (is_of_bucket count bucket) chain)

-- the chain of a bucket was linked anew as two, and nothing else was changed
pub record Splits (old new : FlatMemory) (heads : List ℕ) (buckets bucket : ℕ)
    (chain : List Entry) : Type 0 where
  pub beside : KeepsBeside old new chain
  pub lower : LinksFrom new (slice_index heads 0)
      (places_of (turned_for (2 * buckets) bucket chain))
  pub upper : LinksFrom new (slice_index heads 1)
      (places_of (turned_for (2 * buckets) (bucket + buckets) chain))
