-- No two of the ranges that a store owns meet.
use Rattle.std.proofs.Common.{◌≡◌, ℕ, zero, suc, ◌+◌, ◌*◌, ◌^◌, ◌<◌, ◌≤◌, ◌⊎◌, eqb, List, [], ◌∷◌, ◌++◌, length, map, refl, sym, subst, arith, inl, inr, Contains, IsPermutation, unwrap_or, pow_mono}
use Rattle.std.specs.Prelude.{nat_le, true}
use Rattle.std.specs.List.{AllByRecursion, AllZip, find, flat_map, range_with_len}
use Rattle.std.proofs.lemmas.Bool.{cases_Bool, cond-true, cond-false}
use Rattle.std.proofs.lemmas.Bool.Decides.{nat_tests}
use Rattle.std.proofs.lemmas.List.Elements.{recursion_from_All}
use Rattle.std.proofs.lemmas.List.Sorted.{IsPermutation-trans, IsPermutation-middle, IsPermutation-append_left}
use Rattle.vm_base.specs.FlatMemory.{FlatMemory}
use Rattle.vm_base.specs.FlatLaws.{AreApart}
use Rattle.store_meaning.specs.Layout.{classes, class_of, array_a, array_b, heap_at, header_at, list_field}
use Rattle.store_meaning.specs.HeapLayout.{Block, Fill, block_bytes, blocks_of, free_of}
use Rattle.store_meaning.specs.HashLayout.{Entry, Table, Store, Pairs, Holds, IsStore, IsDoubled, pair_size, entry_block, entries_of, array_after}
use Rattle.store_meaning.specs.Owned.{Range, word_range, table_ranges, header_ranges, bucket_ranges, entry_range, free_range, block_ranges, owned, ArePairwiseApart}
use Rattle.store_meaning.proofs.Lists.{all_mono, all_right, all_both, map_all, all_permuted}
use Rattle.store_meaning.proofs.Blocks.{LiesIn, Fill-within}
use Rattle.store_meaning.proofs.HeapUse.{others_apart}
use Rattle.store_meaning.proofs.HeapSteps.{class_bytes}
use Rattle.store_meaning.proofs.Apart.{IsApartFrom, IsBetween, IsFrontOf, apart_append, words_apart, words_between, fronts_apart}

-- ---- the header

-- the heads of the lists of free blocks
abbrev head_ranges : List Range
head_ranges = map (λ class. word_range (list_field class)) classes

heads_between : AllByRecursion (IsBetween (header_at + 8) (header_at + 144)) head_ranges
heads_between =
    words_between list_field 17 5 (header_at + 8) (header_at + 144) (λ k low high. (omega (arith, low), omega (arith, low, high)))

table_apart : ArePairwiseApart table_ranges
table_apart = (
  (inl (omega arith), (inl (omega arith), (inl (omega arith), tt))),
  ((inl (omega arith), (inl (omega arith), tt)), ((inl (omega arith), tt), (tt, tt))),
)

table_between : AllByRecursion (IsBetween (header_at + 144) (header_at + 4096)) table_ranges
table_between =
    ((omega arith, omega arith), ((omega arith, omega arith), ((omega arith, omega arith), ((omega arith, omega arith), tt))))

behind_top : AllByRecursion (IsBetween (header_at + 8) (header_at + 4096)) (head_ranges ++ table_ranges)
behind_top = all_both (IsBetween (header_at + 8) (header_at + 4096)) head_ranges table_ranges
    (all_mono (IsBetween (header_at + 8) (header_at + 144)) (IsBetween (header_at + 8) (header_at + 4096)) head_ranges
    (λ x is. (is.0, omega (arith, is.1))) heads_between)
    (all_mono (IsBetween (header_at + 144) (header_at + 4096)) (IsBetween (header_at + 8) (header_at + 4096)) table_ranges
    (λ x is. (omega (arith, is.0), is.1)) table_between)

header_apart : ArePairwiseApart header_ranges
header_apart = apart_append (word_range header_at ∷ []) (head_ranges ++ table_ranges) (header_at + 8) (tt, tt)
    (apart_append head_ranges table_ranges (header_at + 144)
    (words_apart list_field 17 5 (λ k low. omega (arith, low))) table_apart
    (all_mono (IsBetween (header_at + 8) (header_at + 144)) (λ (x : Range). x.at + x.size ≤ header_at + 144) head_ranges
    (λ x is. is.1) heads_between)
    (all_mono (IsBetween (header_at + 144) (header_at + 4096)) (λ (x : Range). header_at + 144 ≤ x.at) table_ranges
    (λ x is. is.0) table_between))
    (omega arith, tt)
    (all_mono (IsBetween (header_at + 8) (header_at + 4096)) (λ (x : Range). header_at + 8 ≤ x.at) (head_ranges ++ table_ranges)
    (λ x is. is.0) behind_top)

header_below : AllByRecursion (λ (x : Range). x.at + x.size ≤ array_a) header_ranges
header_below = (
  omega arith,
  all_mono (IsBetween (header_at + 8) (header_at + 4096)) (λ (x : Range). x.at + x.size ≤ array_a)
      (head_ranges ++ table_ranges) (λ x is. omega (arith, is.1)) behind_top,
)

-- ---- the buckets

-- an array lies in one of the two regions
pub array_after-either : (times : ℕ) → (array_after times ≡ array_a) ⊎ (array_after times ≡ array_b)
array_after-either zero = inl refl
array_after-either (suc times) = elim (cases_Bool (eqb (array_after times) array_a)) [
  | inl first ↦ inr (cond-true (eqb (array_after times) array_a) array_b array_a first)
  | inr second ↦ inl (cond-false (eqb (array_after times) array_a) array_b array_a second)
]

-- and so between the header and the heap
pub array_between : (table : Table) (times : ℕ) → IsDoubled table times
    → (array_a ≤ table.array) × (table.array + 8 * length table.chains ≤ heap_at)
array_between table times is =
    let most : 2 ^ times ≤ 2 ^ 15 = pow_mono is.few in
    elim (array_after-either times) [
      | inl first ↦ (omega (arith, is.region, first), omega (arith, is.region, first, is.buckets, most))
      | inr second ↦ (omega (arith, is.region, second), omega (arith, is.region, second, is.buckets, most))
    ]

buckets_apart : (table : Table) → ArePairwiseApart (bucket_ranges table)
buckets_apart table = words_apart (λ bucket. table.array + 8 * bucket) (length table.chains) 0 (λ k low. omega arith)

buckets_between : (table : Table) (times : ℕ) → IsDoubled table times → AllByRecursion (IsBetween array_a heap_at) (bucket_ranges table)
buckets_between table times is =
    let ends = array_between table times is in
    words_between (λ bucket. table.array + 8 * bucket) (length table.chains) 0 array_a heap_at
    (λ k low high. (omega (arith, ends.0), omega (arith, ends.1, high)))

-- ---- the blocks

-- the bytes of a whole block
abbrev pub block_range : Block → Range
block_range block = record { at = block.at; size = block_bytes block }

-- blocks that fill a heap are apart in any order
pub blocks_apart : (order gone blocks : List Block) (from to : ℕ) → Fill from order to → IsPermutation order (gone ++ blocks)
    → ArePairwiseApart (map block_range blocks)
blocks_apart order gone [] from to fill same = tt
blocks_apart order gone (block ∷ blocks) from to fill same =
    let front = IsPermutation-trans _ _ (block ∷ (gone ++ blocks)) same (IsPermutation-middle gone block blocks) in (
      map_all (IsApartFrom (block_range block)) block_range blocks
          (all_right (λ other. AreApart block.at (block_bytes block) other.at (block_bytes other)) gone blocks
          (others_apart order (gone ++ blocks) block from to fill front)),
      blocks_apart order (block ∷ gone) blocks from to fill front,
    )

holds_from : (n first last size : ℕ) → first + n ≡ suc last → 0 < n → size ≤ 2 ^ last
    → size ≤ 2 ^ unwrap_or (find (λ c. nat_le size (2 ^ c)) (range_with_len first n)) 21
holds_from zero first last size end some less = absurd (omega (arith, some))
holds_from (suc zero) first last size end some less =
    let here : last ≡ first = omega (arith, end) in
    let holds : size ≤ 2 ^ first = subst (λ l. size ≤ 2 ^ l) here less in
    let found : nat_le size (2 ^ first) ≡ true = grind (arith, nat_tests) in
    subst (λ o. size ≤ 2 ^ unwrap_or o 21) (sym (cond-true (nat_le size (2 ^ first)) _ _ found)) holds
holds_from (suc (suc n)) first last size end some less = elim (cases_Bool (nat_le size (2 ^ first))) [
  | inl found ↦
      let holds : size ≤ 2 ^ first = grind (arith, nat_tests) in
      subst (λ o. size ≤ 2 ^ unwrap_or o 21) (sym (cond-true (nat_le size (2 ^ first)) _ _ found)) holds
  | inr missing ↦ subst (λ o. size ≤ 2 ^ unwrap_or o 21) (sym (cond-false (nat_le size (2 ^ first)) _ _ missing))
      (holds_from (suc n) (first + 1) last size (omega (arith, end)) (omega arith) less)
]

-- the least class that holds a size does hold it
pub class_of-holds : (size : ℕ) → size ≤ 2097152 → size ≤ 2 ^ class_of size
class_of-holds size less = holds_from 17 5 21 size refl (omega arith) (omega (arith, less))

-- the range of each pair and of each free block is the front of its block
fronts_of : (memory : FlatMemory) (entries : List Entry) (free : List Block) → AllByRecursion (Holds memory) entries
    → AllByRecursion (λ (block : Block). Contains classes block.class) free
    → AllZip IsFrontOf (map entry_range entries ++ map free_range free) (map block_range (map entry_block entries ++ free))
fronts_of memory [] [] held classed = tt
fronts_of memory [] (block ∷ free) held classed =
    let size = class_bytes block.class classed.0 in
    ((refl, omega (arith, size)), fronts_of memory [] free held classed.1)
fronts_of memory (entry ∷ entries) free held classed =
    let short : pair_size entry.key entry.value ≤ 2097152 = omega (arith, held.0.short_key, held.0.short_value) in
    ((refl, class_of-holds (pair_size entry.key entry.value) short), fronts_of memory entries free held.1 classed)

-- and begins where its block does
ranges_from : (low : ℕ) (entries : List Entry) (free : List Block)
    → AllByRecursion (λ (block : Block). low ≤ block.at) (map entry_block entries ++ free)
    → AllByRecursion (λ (range : Range). low ≤ range.at) (map entry_range entries ++ map free_range free)
ranges_from low [] [] above = tt
ranges_from low [] (block ∷ free) above = (above.0, ranges_from low [] free above.1)
ranges_from low (entry ∷ entries) free above = (above.0, ranges_from low entries free above.1)

-- the blocks of a heap are those of the pairs and the free ones
blocks_of-store : (memory : FlatMemory) (store : Store) (of : Pairs) (is : IsStore memory store of)
    → IsPermutation is.heap.order (map entry_block (entries_of store.table) ++ flat_map (free_of store.heap) classes)
blocks_of-store memory store of is = IsPermutation-trans is.heap.order (blocks_of store.heap) _ is.heap.same
    (IsPermutation-append_left (flat_map (free_of store.heap) classes) store.heap.used (map entry_block (entries_of store.table)) is.used)

-- ---- all of them

-- the ranges of a store are apart from each other
pub owned-apart : (memory : FlatMemory) (store : Store) (of : Pairs) → IsStore memory store of → ArePairwiseApart (owned store)
owned-apart memory store of is =
    let entries = entries_of store.table in
    let free = flat_map (free_of store.heap) classes in
    let same = blocks_of-store memory store of is in
    let classed : AllByRecursion (λ (block : Block). Contains classes block.class) (map entry_block entries ++ free) =
    all_permuted (λ (block : Block). Contains classes block.class) is.heap.order (map entry_block entries ++ free) same
    (recursion_from_All (λ (block : Block). Contains classes block.class) is.heap.order is.heap.classed) in
    let within : AllByRecursion (LiesIn heap_at store.heap.top) (map entry_block entries ++ free) =
    all_permuted (LiesIn heap_at store.heap.top) is.heap.order (map entry_block entries ++ free) same
    (Fill-within heap_at store.heap.top is.heap.order is.heap.fill) in
    let above : AllByRecursion (λ (range : Range). heap_at ≤ range.at) (block_ranges store) = ranges_from heap_at entries free
    (all_mono (LiesIn heap_at store.heap.top) (λ (block : Block). heap_at ≤ block.at) (map entry_block entries ++ free)
    (λ block lies. lies.0)
    within) in
    let blocks : ArePairwiseApart (block_ranges store) =
    fronts_apart (block_ranges store) (map block_range (map entry_block entries ++ free))
    (fronts_of memory entries free (recursion_from_All (Holds memory) entries is.table.held)
    (all_right (λ (block : Block). Contains classes block.class) (map entry_block entries) free classed))
    (blocks_apart is.heap.order [] (map entry_block entries ++ free) heap_at store.heap.top is.heap.fill same) in
    let buckets = buckets_between store.table is.table.doubled.0 is.table.doubled.1 in
    let behind : ArePairwiseApart (bucket_ranges store.table ++ block_ranges store) =
    apart_append (bucket_ranges store.table) (block_ranges store) heap_at (buckets_apart store.table) blocks
    (all_mono (IsBetween array_a heap_at) (λ (x : Range). x.at + x.size ≤ heap_at) (bucket_ranges store.table)
    (λ x lies. lies.1) buckets) above in
    apart_append header_ranges (bucket_ranges store.table ++ block_ranges store) array_a header_apart behind header_below
    (all_both (λ (y : Range). array_a ≤ y.at) (bucket_ranges store.table) (block_ranges store)
    (all_mono (IsBetween array_a heap_at) (λ (y : Range). array_a ≤ y.at) (bucket_ranges store.table) (λ y lies. lies.0) buckets)
    (all_mono (λ (y : Range). heap_at ≤ y.at) (λ (y : Range). array_a ≤ y.at) (block_ranges store) (λ y lies. omega (arith, lies)) above))
