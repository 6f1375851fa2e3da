-- The hash table of a store, and when a memory stands for a finite map.
use Rattle.std.specs.Prelude.{◌≡◌, ℕ, zero, suc, ◌==◌, if◌then◌else◌, ◌+◌, ◌*◌, ◌%◌, ◌^◌, ◌≤◌, ◌<◌, bit_xor, fold, List, [], length, map, IsPermutation, All, replicate, slice_index_or}
use Rattle.std.specs.List.{flat_map}
use Rattle.std.specs.Ordering.{nat_cmp}
use Rattle.std.specs.Cmp.Lexicographic.{slice_cmp}
use Rattle.std.specs.FinMap.{FinMap, entries}
use Rattle.vm_base.specs.FlatMemory.{FlatMemory, bytes_at}
use Rattle.store_meaning.specs.Layout.{array_a, array_b, array_field, buckets_field, pairs_field, header_at, store_areas, class_of, word_at, number_at}
use Rattle.store_meaning.specs.HeapLayout.{Block, Heap, IsHeap, Links}

-- one byte of FNV-1a of 64 bits
abbrev pub hash_step : ℕ → ℕ → ℕ
hash_step hash byte = bit_xor hash byte * 1099511628211 % 2 ^ 64

-- FNV-1a of 64 bits
abbrev pub hash_of : List ℕ → ℕ
hash_of key = fold hash_step 14695981039346656037 key

-- a pair and the address of its block
pub record Entry : Type 0 where
  pub at : ℕ
  pub key : List ℕ
  pub value : List ℕ

-- the bytes of a pair's block: the address of the next block, two lengths, the key and the value
abbrev pub pair_size : List ℕ → List ℕ → ℕ
pair_size key value = 16 + length key + length value

-- the class of the block of a pair
abbrev pub pair_class : List ℕ → List ℕ → ℕ
pair_class key value = class_of (pair_size key value)

-- the block of an entry
abbrev pub entry_block : Entry → Block
entry_block entry = record { at = entry.at; class = pair_class entry.key entry.value }

-- the pair of an entry
abbrev pub entry_pair : Entry → List ℕ × List ℕ
entry_pair entry = (entry.key, entry.value)

-- the block of an entry has its lengths, its key and its value
pub record Holds (memory : FlatMemory) (entry : Entry) : Type 0 where
  pub key_length : number_at memory (entry.at + 8) 4 ≡ length entry.key
  pub value_length : number_at memory (entry.at + 12) 4 ≡ length entry.value
  pub key : bytes_at memory.present (entry.at + 16) (length entry.key) ≡ entry.key
  pub value : bytes_at memory.present (entry.at + 16 + length entry.key) (length entry.value)
      ≡ entry.value
  pub short_key : length entry.key ≤ 65536
  pub short_value : length entry.value ≤ 1048576

-- where the array lies, and the chain of each bucket, from its front
pub record Table : Type 0 where
  pub array : ℕ
  pub chains : List (List Entry)

-- the chain of a bucket
abbrev pub chain_of : Table → ℕ → List Entry
chain_of table bucket = slice_index_or table.chains bucket []

-- all entries, bucket by bucket
abbrev pub entries_of : Table → List Entry
entries_of table = flat_map (λ chain. chain) table.chains

-- the other region of arrays
abbrev pub other_array : ℕ → ℕ
other_array array = if array == array_a then array_b else array_a

-- where the array lies that was doubled so often
abbrev pub array_after : ℕ → ℕ
array_after zero = array_a
array_after (suc times) = other_array (array_after times)

-- an array of 512 buckets that was doubled so often
pub record IsDoubled (table : Table) (times : ℕ) : Type 0 where
  pub buckets : length table.chains ≡ 512 * 2 ^ times
  pub few : times ≤ 15
  pub region : table.array ≡ array_after times

-- the memory has this table, whose blocks are those in use: each chain is linked from its bucket
-- and ends, and has the keys of that bucket's hashes
pub record IsTable (memory : FlatMemory) (table : Table) : Type 0 where
  pub areas : memory.areas ≡ store_areas table.array (length table.chains)
  pub array : word_at memory array_field ≡ table.array
  pub buckets : word_at memory buckets_field ≡ length table.chains
  pub pairs : word_at memory pairs_field ≡ length (entries_of table)
  pub rest : bytes_at memory.present (header_at + 168) 3928 ≡ replicate 3928 0
  pub doubled : (times : ℕ) × IsDoubled table times
  pub linked : (bucket : ℕ) → bucket < length table.chains
      → Links memory (table.array + 8 * bucket) (map (λ entry. entry.at) (chain_of table bucket))
  pub hashed : (bucket : ℕ) → bucket < length table.chains
      → All (λ entry. hash_of entry.key % length table.chains ≡ bucket) (chain_of table bucket)
  pub held : All (Holds memory) (entries_of table)

-- a finite map from keys to values, in the order of keys by their bytes
abbrev pub Pairs : Type 0
Pairs = FinMap (slice_cmp nat_cmp) (List ℕ)

-- how a memory stands for a map: its table and its heap
pub record Store : Type 0 where
  pub table : Table
  pub heap : Heap

-- the memory stands for the map by this store: each pair stands in one block, and the blocks of the
-- table are the heap's blocks in use
pub record IsStore (memory : FlatMemory) (store : Store) (of : Pairs) : Type 0 where
  pub table : IsTable memory store.table
  pub heap : IsHeap memory store.heap
  pub used : IsPermutation store.heap.used (map entry_block (entries_of store.table))
  pub pairs : IsPermutation (map entry_pair (entries_of store.table)) (entries of)

-- the memory stands for the map
abbrev pub StandsForMap : FlatMemory → Pairs → Type 0
StandsForMap memory pairs = (store : Store) × IsStore memory store pairs
