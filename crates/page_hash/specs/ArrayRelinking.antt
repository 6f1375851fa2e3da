-- An array whose chains are linked anew from another one, page by page of buckets.
use Rattle.std.specs.Prelude.{◌≡◌, ◌⊎◌, ℕ, ◌+◌, ◌-◌, ◌*◌, ◌%◌, ◌^◌, ◌≤◌, ◌<◌, List, length, take, drop, Contains}
use Rattle.std.specs.List.{AllByRecursion}
use Rattle.byteorder.specs.Endian.{big_number}
use Rattle.vm_base.specs.FlatMemory.{FlatMemory, bytes_at}
use Rattle.vm_base.specs.FlatLaws.{AreApart}
use Rattle.store_meaning.specs.Layout.{array_a, array_b, array_pages, store_area, word_at}
use Rattle.store_meaning.specs.HashLayout.{Table, hash_of, chain_of, entries_of}
use Rattle.page_hash.specs.declared.arrays.Arrays.{Arrays}
use Rattle.page_hash.specs.Relinking.{AreHeldBlocks, LinksFrom, places_of, turned_for}

-- the two arrays lie in the two regions
pub record AreArrays (arrays : Arrays) : Type 0 where
  pub regions : ((arrays.old ≡ array_a) × (arrays.new ≡ array_b))
      ⊎ ((arrays.old ≡ array_b) × (arrays.new ≡ array_a))
  pub some : 0 < arrays.buckets
  pub few : arrays.buckets ≤ 2 ^ 23
  pub pages : ℕ
  pub whole : arrays.buckets ≡ 512 * pages

-- the chains of the old array may be linked anew, from a bucket on
pub record IsOldTable (memory : FlatMemory) (arrays : Arrays) (table : Table)
    (from : ℕ) : Type 0 where
  pub regions : AreArrays arrays
  pub count : length table.chains ≡ arrays.buckets
  pub area : Contains memory.areas (store_area arrays.old (array_pages arrays.buckets))
  pub linked : (bucket : ℕ) → from ≤ bucket → bucket < arrays.buckets
      → LinksFrom memory (word_at memory (arrays.old + 8 * bucket))
      (places_of (chain_of table bucket))
  pub hashed : (bucket : ℕ) → bucket < arrays.buckets
      → AllByRecursion (λ entry. hash_of entry.key % arrays.buckets ≡ bucket)
      (chain_of table bucket)
  pub blocks : AreHeldBlocks memory (entries_of table)
  pub pairs : length (entries_of table) ≤ arrays.pairs

-- no first word of a block of these chains meets the range
abbrev pub IsBesideChains : Table → ℕ → ℕ → ℕ → ℕ → Type 0
IsBesideChains table from to other size =
    (bucket : ℕ) → from ≤ bucket → bucket < to
    → AllByRecursion (λ entry. AreApart entry.at 8 other size) (chain_of table bucket)

-- a word among bytes, by its place
abbrev pub word_of : List ℕ → ℕ → ℕ
word_of bytes place = big_number 8 (take 8 (drop (8 * place) bytes))

-- the chains of these buckets are linked anew, each as those of two buckets whose first blocks
-- stand in two buffers, and nothing else was changed
pub record SplitsPart (old new : FlatMemory) (arrays : Arrays) (table : Table) (from to : ℕ)
    (lows highs : List ℕ) : Type 0 where
  pub beside : (other size : ℕ) → IsBesideChains table from to other size
      → bytes_at new.present other size ≡ bytes_at old.present other size
  pub lower : (bucket : ℕ) → from ≤ bucket → bucket < to
      → LinksFrom new (word_of lows (bucket - from))
      (places_of (turned_for (2 * arrays.buckets) bucket (chain_of table bucket)))
  pub upper : (bucket : ℕ) → from ≤ bucket → bucket < to
      → LinksFrom new (word_of highs (bucket - from))
      (places_of (turned_for (2 * arrays.buckets) (bucket + arrays.buckets)
      (chain_of table bucket)))

-- the chains of these buckets are linked anew, each as those of two buckets, and nothing else was
-- changed
pub record RelinksPart (old new : FlatMemory) (arrays : Arrays) (table : Table)
    (from to : ℕ) : Type 0 where
  pub beside : (other size : ℕ) → IsBesideChains table from to other size
      → AreApart (arrays.new + 8 * from) (8 * (to - from)) other size
      → AreApart (arrays.new + 8 * (arrays.buckets + from)) (8 * (to - from)) other size
      → bytes_at new.present other size ≡ bytes_at old.present other size
  pub lower : (bucket : ℕ) → from ≤ bucket → bucket < to
      → LinksFrom new (word_at new (arrays.new + 8 * bucket))
      (places_of (turned_for (2 * arrays.buckets) bucket (chain_of table bucket)))
  pub upper : (bucket : ℕ) → from ≤ bucket → bucket < to
      → LinksFrom new (word_at new (arrays.new + 8 * (arrays.buckets + bucket)))
      (places_of (turned_for (2 * arrays.buckets) (bucket + arrays.buckets)
      (chain_of table bucket)))
