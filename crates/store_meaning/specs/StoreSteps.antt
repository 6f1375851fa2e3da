-- What each call on a store makes of it, block for block.
use Rattle.std.specs.Prelude.{ℕ, ◌+◌, ◌*◌, ◌%◌, ◌^◌, ◌<◌, ◌==◌, not, if◌then◌else◌, List, [], ◌∷◌, ◌++◌, length, map, filter, reverse, replicate, slice_set, Option, Some, None}
use Rattle.std.specs.Str.{bytes_eq}
use Rattle.std.specs.List.{find, flat_map, range_with_len}
use Rattle.vm_base.specs.Places.{cells_of_range}
use Rattle.store_meaning.specs.Layout.{array_field, array_a}
use Rattle.store_meaning.specs.HeapLayout.{opening_heap, next_at, committed, freed}
use Rattle.store_meaning.specs.HashLayout.{other_array, Entry, Table, Store, hash_of, pair_size, pair_class, chain_of, entries_of}

-- the bucket of a key
abbrev pub bucket_of : Table → List ℕ → ℕ
bucket_of table key = hash_of key % length table.chains

-- the entry of a key among these
abbrev pub entry_in : List Entry → List ℕ → Option Entry
entry_in entries key = find (λ entry. bytes_eq entry.key key) entries

-- the entry of a key in a store
abbrev pub entry_for : Store → List ℕ → Option Entry
entry_for store key = entry_in (chain_of store.table (bucket_of store.table key)) key

-- the entries with another one in the place of that of its key
abbrev pub with_entry : Entry → List Entry → List Entry
with_entry entry entries =
    map (λ other. if bytes_eq other.key entry.key then entry else other) entries

-- the entries without that of a key
abbrev pub without_key : List ℕ → List Entry → List Entry
without_key key entries = filter (λ entry. not (bytes_eq entry.key key)) entries

-- the table with another chain in the bucket of a key
abbrev pub with_chain : Table → List ℕ → (List Entry → List Entry) → Table
with_chain table key change =
    record table {
      chains =
          slice_set table.chains (bucket_of table key)
          (change (chain_of table (bucket_of table key)));
    }

-- the store without pairs, as it begins: 512 buckets in the first region
abbrev pub opening_store : Store
opening_store = record {
  table = record { array = array_a; chains = replicate 512 [] };
  heap =
      opening_heap;
}

-- the entry of a pair in the next block of its class
abbrev pub next_entry : Store → List ℕ → List ℕ → Entry
next_entry store key value =
    record { at = next_at store.heap (pair_class key value); key = key; value = value }

-- a pair of which there was none of its key: it is in front of its chain
abbrev pub with_new : Store → List ℕ → List ℕ → Store
with_new store key value = record {
  table = with_chain store.table key (λ chain. next_entry store key value ∷ chain);
  heap = committed store.heap (pair_class key value);
}

-- another value in the block of an entry
abbrev pub with_value : Store → Entry → List ℕ → Store
with_value store entry value =
    record store {
      table =
          with_chain store.table entry.key (with_entry (record entry { value = value }));
    }

-- another value in a block of another class, which has the place of the old one in its chain; the
-- old one is free
abbrev pub with_moved : Store → Entry → List ℕ → Store
with_moved store entry value = record {
  table = with_chain store.table entry.key (with_entry (next_entry store entry.key value));
  heap = freed (committed store.heap (pair_class entry.key value)) entry.at
      (pair_class entry.key entry.value);
}

-- a pair in the place of the entry that was found for its key, or without one
abbrev pub put_by : Store → List ℕ → List ℕ → Option Entry → Store
put_by store key value None = with_new store key value
put_by store key value (Some entry) =
    if pair_class entry.key entry.value == pair_class entry.key value
    then with_value store entry value else with_moved store entry value

-- the store after a put, before its array is doubled
abbrev pub put_in : Store → List ℕ → List ℕ → Store
put_in store key value = put_by store key value (entry_for store key)

-- the store without the entry that was found for a key
abbrev pub removed_by : Store → List ℕ → Option Entry → Store
removed_by store key None = store
removed_by store key (Some entry) = record {
  table = with_chain store.table key (without_key key);
  heap = freed store.heap entry.at (pair_class entry.key entry.value);
}

-- the store after a remove
abbrev pub removed_from : Store → List ℕ → Store
removed_from store key = removed_by store key (entry_for store key)

-- the chain of a bucket among twice as many: the blocks of one old chain that belong there, each
-- put in front as it comes
abbrev pub relinked_chain : Table → ℕ → List Entry
relinked_chain table bucket = reverse
    (filter (λ entry. hash_of entry.key % (2 * length table.chains) == bucket)
    (chain_of table (bucket % length table.chains)))

-- the store with twice as many buckets, in the other region
abbrev pub doubled : Store → Store
doubled store = record store {
  table = record {
    array = other_array store.table.array;
    chains = map (relinked_chain store.table) (range_with_len 0 (2 * length store.table.chains));
  };
}

-- a doubling is due: there are more pairs than buckets, and fewer buckets than there may be
pub record IsCrowded (store : Store) : Type 0 where
  pub pairs : length store.table.chains < length (entries_of store.table)
  pub few : length store.table.chains < 2 ^ 24

-- the cells of an entry's bytes
abbrev pub entry_cells : Entry → List ℕ
entry_cells entry = cells_of_range entry.at (pair_size entry.key entry.value)

-- the cells of a bucket and of its chain, from its front
abbrev pub bucket_cells : Table → ℕ → List ℕ
bucket_cells table bucket =
    cells_of_range (table.array + 8 * bucket) 8 ++ flat_map entry_cells (chain_of table bucket)

-- the cells that listing the pairs needs, in the order in which they are read: that of the header,
-- and bucket by bucket
abbrev pub needed_cells : Store → List ℕ
needed_cells store =
    cells_of_range array_field 24 ++ flat_map (bucket_cells store.table)
    (range_with_len 0 (length store.table.chains))
