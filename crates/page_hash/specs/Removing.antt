-- What taking a pair out needs and leaves.
use Rattle.std.specs.Prelude.{◌≡◌, ℕ, ◌+◌, ◌-◌, List, [], length, Some}
use Rattle.std.specs.FinMap.{remove}
use Rattle.byteorder.specs.Endian.{big_bytes}
use Rattle.vm_base.specs.FlatMemory.{FlatMemory}
use Rattle.vm_base.specs.MemoryState.{MemoryState}
use Rattle.vm_base.specs.MemoryCalls.{IsReady, after_store}
use Rattle.store_meaning.specs.Layout.{header_at, pairs_field, class_of, word_at}
use Rattle.store_meaning.specs.HashLayout.{Pairs, Store, IsStore, chain_of}
use Rattle.store_meaning.specs.StoreSteps.{bucket_of, removed_from}
use Rattle.store_meaning.specs.Standing.{Follows}
use Rattle.page_heap.specs.HeapCalls.{free_store}
use Rattle.page_hash.specs.Walks.{bucket_at, located_in}
use Rattle.page_hash.specs.Puts.{AddsOnly}
use Rattle.page_hash.specs.declared.chain.Located.{Located}

-- the map lacks the pair, each store the block in its chain, and no page was taken
pub record Removes (old new : MemoryState) (key : List ℕ) : Type 0 where
  pub follows : Follows old new (λ pairs. remove pairs key) (λ pairs. [])
  pub store : (store : Store) (pairs : Pairs) → IsStore old.mem store pairs
      → IsStore new.mem (removed_from store key) (remove pairs key)
  pub pages : AddsOnly old new (λ page. ⊥)

-- in a store that the memory has, the key's block is this one, and this word names it
abbrev pub IsNamed : Store → List ℕ → Located → Type 0
IsNamed store key located = Some located
    ≡ located_in (bucket_at store.table key) (chain_of store.table (bucket_of store.table key)) key

-- so it is in each store that the memory has, for some key, with which its block is of this class
pub record IsNamedBlock (memory : FlatMemory) (located : Located) (class : ℕ) : Type 0 where
  pub key : List ℕ
  pub named : (store : Store) (pairs : Pairs) → IsStore memory store pairs
      → IsNamed store key located
  pub class_is : class ≡ class_of (16 + length key + located.length)

-- the words that taking a block out stores to may be stored to
pub record MayUnlink (state : MemoryState) (located : Located) : Type 0 where
  pub link : IsReady state located.link 8
  pub block : IsReady state located.at 8
  pub header : IsReady state header_at 4096

-- what taking a block out stores: the next block in the word that named it, what giving it back
-- stores, and that there is one pair less
abbrev pub unlinked : MemoryState → Located → ℕ → ℕ → MemoryState
unlinked state located class pairs = after_store
    (free_store (after_store state located.link (big_bytes 8 (word_at state.mem located.at)))
    located.at class)
    pairs_field (big_bytes 8 (pairs - 1))
