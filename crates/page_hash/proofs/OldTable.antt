-- A store whose doubling is due has an old table: its blocks lie apart, and their first words are present.
use Rattle.std.proofs.Common.{◌≡◌, ℕ, ◌+◌, ◌*◌, ◌%◌, ◌<◌, List, [], ◌∷◌, length, map, sym, ap, subst, arith, Contains}
use Rattle.std.specs.List.{AllByRecursion, flat_map}
use Rattle.std.proofs.lemmas.List.Elements.{recursion_from_All}
use Rattle.byteorder.specs.Endian.{big_number}
use Rattle.vm_base.specs.FlatMemory.{FlatMemory, bytes_at}
use Rattle.store_meaning.specs.Layout.{classes, heap_at, store_area, array_pages, word_at}
use Rattle.store_meaning.specs.HeapLayout.{Block, Links, HalfIsPresent, blocks_of, free_of}
use Rattle.store_meaning.specs.HashLayout.{Entry, Store, Pairs, IsStore, Holds, hash_of, pair_size, entry_block, chain_of, entries_of}
use Rattle.store_meaning.specs.Owned.{entry_range, free_range, header_ranges, bucket_ranges, block_ranges}
use Rattle.store_meaning.proofs.Lists.{all_left, all_map, all_mono, all_permuted}
use Rattle.store_meaning.proofs.Blocks.{LiesIn}
use Rattle.store_meaning.proofs.HeapSteps.{KeepsPages, blocks_within}
use Rattle.store_meaning.proofs.OwnedApart.{owned-apart, class_of-holds}
use Rattle.page_heap.proofs.Plans.{half_class}
use Rattle.page_hash.specs.declared.arrays.Arrays.{Arrays}
use Rattle.page_hash.specs.Relinking.{IsHeldBlock, AreHeldBlocks, LinksFrom, places_of}
use Rattle.page_hash.specs.ArrayRelinking.{IsOldTable}
use Rattle.page_hash.specs.Doubling.{IsDue}
use Rattle.page_hash.proofs.ChainTurns.{LinksFrom-kept, held_kept, both_hold}
use Rattle.page_hash.proofs.ChainsApart.{pairwise_left, pairwise_right}
use Rattle.page_hash.proofs.AddingArray.{due_facts, due_arrays}

-- a chain of a place is one from the word there
pub links_from : (memory : FlatMemory) (place : ℕ) (blocks : List ℕ) → Links memory place blocks
    → LinksFrom memory (word_at memory place) blocks
links_from memory place [] linked = linked
links_from memory place (at ∷ blocks) linked = (linked.0, linked.1, links_from memory at blocks linked.2)

-- and the other way round
pub links_to : (memory : FlatMemory) (place : ℕ) (blocks : List ℕ) → LinksFrom memory (word_at memory place) blocks
    → Links memory place blocks
links_to memory place [] linked = linked
links_to memory place (at ∷ blocks) linked = (linked.0, linked.1, links_to memory at blocks linked.2)

-- what holds of all blocks of a heap holds of those of the entries
of_entries : (memory : FlatMemory) (store : Store) (of : Pairs) (P : Block → Type 0) → (is : IsStore memory store of)
    → AllByRecursion P is.heap.order → AllByRecursion (λ entry. P (entry_block entry)) (entries_of store.table)
of_entries memory store of P is all =
    all_map P entry_block (entries_of store.table)
    (all_permuted P store.heap.used (map entry_block (entries_of store.table)) is.used
    (all_left P store.heap.used _ (all_permuted P is.heap.order (blocks_of store.heap) is.heap.same all)))

three_hold : {X : Type 0} (P Q R S : X → Type 0) (xs : List X) → ((x : X) → P x → Q x → R x → S x) → AllByRecursion P xs
    → AllByRecursion Q xs
    → AllByRecursion R xs → AllByRecursion S xs
three_hold P Q R S [] more ps qs rs = tt
three_hold P Q R S (x ∷ xs) more ps qs rs = (more x ps.0 qs.0 rs.0, three_hold P Q R S xs more ps.1 qs.1 rs.1)

-- the blocks of a store are held
pub store_blocks : (memory : FlatMemory) (store : Store) (of : Pairs) → IsStore memory store of
    → AreHeldBlocks memory (entries_of store.table)
store_blocks memory store of is =
    let entries = entries_of store.table in
    let half : Block → Type 0 = λ block. HalfIsPresent memory block × Contains classes block.class in
    let lies = all_map (LiesIn heap_at store.heap.top) entry_block entries
    (all_permuted (LiesIn heap_at store.heap.top) store.heap.used (map entry_block entries) is.used
    (all_left (LiesIn heap_at store.heap.top) store.heap.used _ (blocks_within memory store.heap is.heap))) in
    let halves = of_entries memory store of half is
    (both_hold (HalfIsPresent memory) (λ (block : Block). Contains classes block.class) half is.heap.order (λ block h c. (h, c))
    (recursion_from_All (HalfIsPresent memory) is.heap.order is.heap.halves)
    (recursion_from_All (λ (block : Block). Contains classes block.class) is.heap.order is.heap.classed)) in
    record {
      held = three_hold (λ (entry : Entry). LiesIn heap_at store.heap.top (entry_block entry)) (λ (entry : Entry). half (entry_block entry))
          (Holds memory) (IsHeldBlock memory) entries
          (λ entry lie halved holds.
          let fits = class_of-holds (pair_size entry.key entry.value) (omega (arith, holds.short_key, holds.short_value)) in
          record {
            holds = holds;
            above = lie.0;
            below = omega (arith, lie.1, fits, is.heap.within);
            present = λ page low high. halved.0 page low (omega (arith, high, half_class (entry_block entry).class halved.1));
          })
          lies halves (recursion_from_All (Holds memory) entries is.table.held);
      apart = pairwise_left (map entry_range entries) (map free_range (flat_map (free_of store.heap) classes))
          (pairwise_right (bucket_ranges store.table) (block_ranges store)
          (pairwise_right header_ranges _ (owned-apart memory store of is)));
    }

-- so the table may be linked anew where the new array is there and all reads as before
pub old_table : (old new : FlatMemory) (arrays : Arrays) (store : Store) (pairs : Pairs) → IsDue old arrays store pairs
    → Contains new.areas (store_area arrays.old (array_pages arrays.buckets)) → KeepsPages old new
    → ((other size : ℕ) → bytes_at new.present other size ≡ bytes_at old.present other size) → IsOldTable new arrays store.table 0
old_table old new arrays store pairs due area keeps same =
    let facts = due_facts old arrays store pairs due in
    let blocks = store_blocks old store pairs due.is in
    let word : (at : ℕ) → word_at new at ≡ word_at old at = λ at. ap (big_number 8) (same at 8) in
    record {
      regions = due_arrays arrays facts;
      count = sym due.buckets;
      area = area;
      linked = λ bucket low high.
          let inside : bucket < length store.table.chains = omega (arith, high, due.buckets) in
          subst (λ a. LinksFrom new (word_at new (a + 8 * bucket)) (places_of (chain_of store.table bucket))) (sym due.old)
          (subst (λ w. LinksFrom new w (places_of (chain_of store.table bucket))) (sym (word (store.table.array + 8 * bucket)))
          (LinksFrom-kept old new (word_at old (store.table.array + 8 * bucket)) (places_of (chain_of store.table bucket))
          (all_words (places_of (chain_of store.table bucket)))
          (links_from old (store.table.array + 8 * bucket) (places_of (chain_of store.table bucket)) (due.is.table.linked bucket inside))));
      hashed = λ bucket high.
          let inside : bucket < length store.table.chains = omega (arith, high, due.buckets) in
          subst (λ n. AllByRecursion (λ (entry : Entry). hash_of entry.key % n ≡ bucket) (chain_of store.table bucket)) (sym due.buckets)
          (recursion_from_All (λ (entry : Entry). hash_of entry.key % length store.table.chains ≡ bucket) (chain_of store.table bucket)
          (due.is.table.hashed bucket inside));
      blocks = record {
        held = all_mono (IsHeldBlock old) (IsHeldBlock new) (entries_of store.table)
            (λ entry held. held_kept old new entry
            (same (entry.at + 8) (8 + length entry.key + length entry.value)) keeps held) blocks.held;
        apart = blocks.apart;
      };
      pairs = omega (arith, due.counted);
    }
  where
    all_words : (places : List ℕ) → AllByRecursion (λ at. word_at new at ≡ word_at old at) places
    all_words [] = tt
    all_words (at ∷ places) = (ap (big_number 8) (same at 8), all_words places)
