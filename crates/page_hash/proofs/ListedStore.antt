-- The pairs of a store of a snapshot, bucket by bucket.
use Rattle.std.proofs.Common.{◌≡◌, ℕ, suc, ◌+◌, ◌-◌, ◌*◌, ◌/◌, ◌%◌, ◌^◌, ◌<◌, ◌≤◌, List, [], ◌∷◌, ◌++◌, length, take, drop, get_or, refl, sym, ◌∙◌, ap, ap₂, subst, append_assoc, append-nil, arith, inl, inr, length-append, Contains}
use Rattle.std.specs.List.{flat_map, AllByRecursion, range_with_len}
use Rattle.std.proofs.Math.Seq.{get_or-append_seam, take-length}
use Rattle.std.proofs.lemmas.List.{length-take-le, length-drop, take-append-drop}
use Rattle.byteorder.specs.Endian.{big_number}
use Rattle.vm_base.specs.Places.{cells_of_range}
use Rattle.vm_base.specs.FlatMemory.{FlatMemory, bytes_at}
use Rattle.vm_base.specs.SnapshotState.{SnapshotState, GoesOn}
use Rattle.vm_base.proofs.FlatBytes.{length-bytes_at}
use Rattle.store_meaning.specs.Layout.{array_field, buckets_field, pairs_field, array_pages, store_area, word_at}
use Rattle.store_meaning.specs.HashLayout.{Entry, Table, Store, Pairs, IsStore, chain_of}
use Rattle.store_meaning.specs.StoreSteps.{entry_cells, bucket_cells, needed_cells}
use Rattle.store_meaning.proofs.Lists.{all_left, all_right}
use Rattle.page_hash.specs.declared.found.PairsFault.{PairsFault}
use Rattle.page_hash.specs.declared.found.PairsFault.TheVariants.{Lost, NoMemory}
use Rattle.page_hash.specs.declared.gathering.Pair.{Pair}
use Rattle.page_hash.specs.HashCalls.{IsOfArea}
use Rattle.page_hash.specs.Walks.{IsChainFrom}
use Rattle.page_hash.specs.Listing.{AreNotLost, StopsAmong, PairsFail}
use Rattle.page_hash.specs.Chains.{AreLinkedFrom, AreChainsOf, HasChains, part_cells, IsPartRead}
use Rattle.page_hash.proofs.FrontReads.{number_in}
use Rattle.page_hash.proofs.Pieces.{word_in}
use Rattle.page_hash.proofs.StoreReads.{array_region, bucket_count}
use Rattle.page_hash.proofs.WalkLemmas.{bucket_chain}
use Rattle.page_hash.proofs.FrozenReads.{not_lost_before}
use Rattle.page_hash.proofs.ListedChains.{none_kept, both_kept, stops_inside, stops_later}
use Rattle.page_hash.proofs.ListedParts.{linked_take, linked_drop}

-- the chains of a store are linked from its buckets
linked_each : (memory : FlatMemory) (at : ℕ) (chains : List (List Entry))
    → ((bucket : ℕ) → bucket < length chains → IsChainFrom memory (word_at memory (at + 8 * bucket)) (get_or chains bucket []))
    → AreLinkedFrom memory at chains
linked_each memory at [] each = tt
linked_each memory at (chain ∷ chains) each =
    let first : at + 8 * 0 ≡ at = omega arith in (
      subst (λ a. IsChainFrom memory (word_at memory a) chain) first (each 0 (omega arith)),
      linked_each memory (at + 8) chains (λ bucket inside.
          let place : at + 8 * suc bucket ≡ at + 8 + 8 * bucket = omega arith in
          subst (λ a. IsChainFrom memory (word_at memory a) (get_or chains bucket [])) place (each (suc bucket) (omega (arith, inside)))),
    )

pub store_linked : (memory : FlatMemory) (store : Store) (of : Pairs) → IsStore memory store of
    → AreLinkedFrom memory store.table.array store.table.chains
store_linked memory store of is =
    linked_each memory store.table.array store.table.chains (λ bucket inside. bucket_chain memory store of bucket is inside)

-- no chain is longer than all of them
chains_few : (most : ℕ) (chains : List (List Entry)) → length (flat_map (λ chain. chain) chains) ≤ most
    → AllByRecursion (λ chain. length chain ≤ most) chains
chains_few most [] few = tt
chains_few most (chain ∷ chains) few =
    let both = length-append chain (flat_map (λ c. c) chains) in
    (omega (arith, few, both), chains_few most chains (omega (arith, few, both)))

all_take : {X : Type 0} (P : X → Type 0) (n : ℕ) (xs : List X) → AllByRecursion P xs → AllByRecursion P (take n xs)
all_take P n xs all = all_left P (take n xs) (drop n xs) (subst (AllByRecursion P) (sym (take-append-drop n xs)) all)

all_drop : {X : Type 0} (P : X → Type 0) (n : ℕ) (xs : List X) → AllByRecursion P xs → AllByRecursion P (drop n xs)
all_drop P n xs all = all_right P (take n xs) (drop n xs) (subst (AllByRecursion P) (sym (take-append-drop n xs)) all)

-- what a read of the header's fields says
pub header_words : (memory : FlatMemory) (fields : List ℕ) → fields ≡ bytes_at memory.present array_field 24
    → (big_number 8 fields ≡ word_at memory array_field) × (big_number 8 (take 16 (drop 8 fields)) ≡ word_at memory buckets_field)
    × (big_number 8 (take 8 (drop 16 fields)) ≡ word_at memory pairs_field)
header_words memory fields read =
    let long : length fields ≡ 24 = ap length read ∙ length-bytes_at memory.present array_field 24 in
    let whole : take 24 fields ≡ bytes_at memory.present array_field 24 =
    ap (λ n. take n fields) (sym long) ∙ take-length fields ∙ read in (
      number_in memory.present array_field 24 0 8 fields (omega (arith, long)) whole (omega arith),
      word_in memory.present array_field 24 8 16 fields read (omega arith) (omega arith),
      word_in memory.present array_field 24 16 8 fields read (omega arith) (omega arith),
    )

-- a page of the array
pub record IsArrayPage (memory : FlatMemory) (place most : ℕ) : Type 0 where
  pub area : IsOfArea memory place 4096
  pub aligned : place % 4096 ≡ 0
  pub low : place + 4096 ≤ 2 ^ 48
  pub has : HasChains memory place 512 most

pub array_page : (memory : FlatMemory) (store : Store) (of : Pairs) (array buckets most page : ℕ) → IsStore memory store of
    → array ≡ word_at memory array_field → buckets ≡ word_at memory buckets_field → most ≡ word_at memory pairs_field
    → page < buckets / 512 → IsArrayPage memory (array + 4096 * page) most
array_page memory store of array buckets most page is first many all inside =
    let chains = store.table.chains in
    let here : array ≡ store.table.array = first ∙ is.table.array in
    let n : buckets ≡ length chains = many ∙ is.table.buckets in
    let count = bucket_count memory store.table is.table in
    let fits : 512 * page + 512 ≤ length chains = omega (arith, n, inside) in
    let few : page < 32768 = omega (arith, fits, count.1) in
    let place : store.table.array + 8 * (512 * page) ≡ array + 4096 * page = omega (arith, here) in
    let room : 512 ≤ length (drop (512 * page) chains) = omega (arith, length-drop (512 * page) chains, fits) in record {
      area = record {
        area = store_area store.table.array (array_pages (length chains));
        listed = subst (λ areas. Contains areas (store_area store.table.array (array_pages (length chains)))) (sym is.table.areas)
            (1, omega arith, refl);
        has = elim (array_region memory store.table is.table) [
          | inl low ↦ (omega (arith, here, low, fits), omega (arith, here, low, fits))
          | inr high ↦ (omega (arith, here, high, fits), omega (arith, here, high, fits))
        ];
      };
      aligned = elim (array_region memory store.table is.table) [
        | inl low ↦ omega (arith, here, low)
        | inr high ↦ omega (arith, here, high)
      ];
      low = elim (array_region memory store.table is.table) [
        | inl low ↦ omega (arith, here, low, few)
        | inr high ↦ omega (arith, here, high, few)
      ];
      has = record {
        chains = take 512 (drop (512 * page) chains);
        are = record {
          many = length-take-le 512 (drop (512 * page) chains) room;
          linked = linked_take memory 512 (array + 4096 * page) (drop (512 * page) chains)
              (subst (λ a. AreLinkedFrom memory a (drop (512 * page) chains)) place
              (linked_drop memory (512 * page) store.table.array chains (store_linked memory store of is)));
        };
        few = all_take (λ chain. length chain ≤ most) 512 (drop (512 * page) chains)
            (all_drop (λ chain. length chain ≤ most) (512 * page) chains
            (chains_few most chains (omega (arith, all, is.table.pairs))));
      };
    }

-- where the page begins
pub array_here : (memory : FlatMemory) (store : Store) (of : Pairs) (array page : ℕ) → IsStore memory store of
    → array ≡ word_at memory array_field → array + 4096 * page ≡ store.table.array + 8 * (512 * page)
array_here memory store of array page is first = omega (arith, first, is.table.array)

-- how many buckets the pages so far have
pub pages_fit : (memory : FlatMemory) (store : Store) (of : Pairs) (buckets page : ℕ) → IsStore memory store of
    → buckets ≡ word_at memory buckets_field → page < buckets / 512 → 512 * page + 512 ≤ length store.table.chains
pages_fit memory store of buckets page is many inside = omega (arith, many, is.table.buckets, inside)

pub pages_all : (memory : FlatMemory) (store : Store) (of : Pairs) (buckets page : ℕ) → IsStore memory store of
    → buckets ≡ word_at memory buckets_field → page ≡ buckets / 512 → 512 * page ≡ length store.table.chains
pages_all memory store of buckets page is many end =
    omega (arith, many, is.table.buckets, end, is.table.doubled.1.buckets)

-- the page of an array was read, and each call before it found no more
pub page_read : (old mid : SnapshotState) (place other : ℕ) (before after : List Pair) → GoesOn old mid → place ≡ other
    → ((chains : List (List Entry)) → AreChainsOf mid.mem place 512 chains → IsPartRead mid place chains before after)
    → (next : List (List Entry)) → AreChainsOf old.mem other 512 next → IsPartRead old other next before after
page_read old mid place other before after goes same read next are =
    let there = subst (λ a. AreChainsOf old.mem a 512 next) (sym same) are in
    let told = read next (subst (λ memory. AreChainsOf memory place 512 next) (sym goes.mem) there) in
    subst (λ a. IsPartRead old a next before after) same
    (record { pairs = told.pairs; kept = not_lost_before old mid (part_cells place next) goes told.kept })

pub page_missed : (old mid new : SnapshotState) (place other : ℕ) (fault : PairsFault) → GoesOn old mid → place ≡ other
    → ((chains : List (List Entry)) → AreChainsOf mid.mem place 512 chains → StopsAmong mid new (part_cells place chains) fault)
    → (next : List (List Entry)) → AreChainsOf old.mem other 512 next → StopsAmong old new (part_cells other next) fault
page_missed old mid new place other fault goes same stops next are =
    let there = subst (λ a. AreChainsOf old.mem a 512 next) (sym same) are in
    let told = stops next (subst (λ memory. AreChainsOf memory place 512 next) (sym goes.mem) there) in
    subst (λ a. StopsAmong old new (part_cells a next) fault) same (stops_later old mid new (part_cells place next) fault goes told)

-- the cells of all buckets
cells_each : (table : Table) (first : ℕ) (front rest : List (List Entry)) → table.chains ≡ front ++ rest → length front ≡ first
    → flat_map (bucket_cells table) (range_with_len first (length rest)) ≡ part_cells (table.array + 8 * first) rest
cells_each table first front [] parts many = refl
cells_each table first front (chain ∷ rest) parts many =
    let here : chain_of table first ≡ chain =
    ap₂ (λ l k. get_or l k []) parts (sym many) ∙ get_or-append_seam front chain rest [] in
    let place : table.array + 8 * (first + 1) ≡ table.array + 8 * first + 8 = omega arith in
    let more = cells_each table (first + 1) (front ++ chain ∷ []) rest (parts ∙ sym (append_assoc front (chain ∷ []) rest))
    (omega (arith, length-append front (chain ∷ []), many)) in
    ap₂ (λ c l. (cells_of_range (table.array + 8 * first) 8 ++ flat_map entry_cells c) ++ l) here
    (more ∙ ap (λ a. part_cells a rest) place)

pub needed_is : (store : Store)
    → needed_cells store ≡ cells_of_range array_field 24 ++ part_cells store.table.array store.table.chains
needed_is store =
    let first : store.table.array + 8 * 0 ≡ store.table.array = omega arith in
    ap (λ l. cells_of_range array_field 24 ++ l)
    (cells_each store.table 0 [] store.table.chains refl refl ∙ ap (λ a. part_cells a store.table.chains) first)

-- none of the cells that are needed was lost
pub all_kept : (old : SnapshotState) (store : Store) → AreNotLost old (cells_of_range array_field 24)
    → AreNotLost old (part_cells store.table.array store.table.chains) → AreNotLost old (needed_cells store)
all_kept old store header rest =
    subst (AreNotLost old) (sym (needed_is store))
    (both_kept old (cells_of_range array_field 24) (part_cells store.table.array store.table.chains) header rest)

-- the header was not read
pub header_missed : (old new : SnapshotState) (fault : PairsFault) → StopsAmong old new (cells_of_range array_field 24) fault
    → PairsFail old new fault
header_missed old new NoMemory stops = tt
header_missed old new (Lost at) stops = λ store of is.
    subst (λ cells. StopsAmong old new cells (Lost at)) (sym (needed_is store))
    (stops_inside old new [] (cells_of_range array_field 24) (part_cells store.table.array store.table.chains) (Lost at) (none_kept old)
    stops)

-- a bucket or a block was not read
pub rest_missed : (old new : SnapshotState) (fault : PairsFault) → AreNotLost old (cells_of_range array_field 24)
    → ((store : Store) (of : Pairs) → IsStore old.mem store of
    → StopsAmong old new (part_cells store.table.array store.table.chains) fault)
    → PairsFail old new fault
rest_missed old new NoMemory header stops = tt
rest_missed old new (Lost at) header stops = λ store of is.
    subst (λ cells. StopsAmong old new cells (Lost at)) (sym (needed_is store))
    (subst (λ l. StopsAmong old new (cells_of_range array_field 24 ++ l) (Lost at))
    (append-nil (part_cells store.table.array store.table.chains))
    (stops_inside old new (cells_of_range array_field 24) (part_cells store.table.array store.table.chains) [] (Lost at) header
    (stops store of is)))
