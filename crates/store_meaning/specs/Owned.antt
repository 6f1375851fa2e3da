-- The ranges of bytes that a store owns, from which alone it is read.
use Rattle.std.specs.Prelude.{◌≡◌, ⊤, ℕ, ◌+◌, ◌*◌, List, [], ◌∷◌, ◌++◌, length, map}
use Rattle.std.specs.List.{AllByRecursion, flat_map, range_with_len}
use Rattle.vm_base.specs.FlatMemory.{FlatMemory, bytes_at}
use Rattle.vm_base.specs.FlatLaws.{AreApart}
use Rattle.store_meaning.specs.Layout.{header_at, top_field, list_field, array_field, buckets_field, pairs_field, classes}
use Rattle.store_meaning.specs.HeapLayout.{Block, free_of}
use Rattle.store_meaning.specs.HashLayout.{Entry, Table, Store, pair_size, entries_of}

-- a range of bytes
pub record Range : Type 0 where
  pub at : ℕ
  pub size : ℕ

-- the range of a word
abbrev pub word_range : ℕ → Range
word_range at = record { at = at; size = 8 }

-- the table's fields in the header, and the zeros behind them
abbrev pub table_ranges : List Range
table_ranges = word_range array_field ∷ word_range buckets_field ∷ word_range pairs_field
    ∷ record { at = header_at + 168; size = 3928 } ∷ []

-- the fields of the header
abbrev pub header_ranges : List Range
header_ranges = word_range top_field ∷ map (λ class. word_range (list_field class)) classes
    ++ table_ranges

-- the words of the buckets
abbrev pub bucket_ranges : Table → List Range
bucket_ranges table =
    map (λ bucket. word_range (table.array + 8 * bucket)) (range_with_len 0 (length table.chains))

-- the bytes of a pair's block that are in use
abbrev pub entry_range : Entry → Range
entry_range entry = record { at = entry.at; size = pair_size entry.key entry.value }

-- the word of a free block
abbrev pub free_range : Block → Range
free_range block = word_range block.at

-- the ranges of all blocks
abbrev pub block_ranges : Store → List Range
block_ranges store = map entry_range (entries_of store.table)
    ++ map free_range (flat_map (free_of store.heap) classes)

-- all ranges of a store, lowest region first
abbrev pub owned : Store → List Range
owned store = header_ranges ++ bucket_ranges store.table ++ block_ranges store

-- the bytes of the ranges are the same in both memories
abbrev pub AreSameIn : FlatMemory → FlatMemory → List Range → Type 0
AreSameIn old new ranges = AllByRecursion
    (λ range. bytes_at new.present range.at range.size ≡ bytes_at old.present range.at range.size)
    ranges

-- no two of the ranges meet
abbrev pub ArePairwiseApart : List Range → Type 0
ArePairwiseApart [] = ⊤
ArePairwiseApart (range ∷ ranges) =
    AllByRecursion (λ other. AreApart range.at range.size other.at other.size) ranges
    × ArePairwiseApart ranges
