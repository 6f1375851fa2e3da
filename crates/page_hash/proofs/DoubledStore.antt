-- The store behind a doubling: all chains are linked anew, the header names the new array, and the old one is gone.
use Rattle.std.proofs.Common.{◌≡◌, ℕ, suc, ◌+◌, ◌-◌, ◌*◌, ◌/◌, ◌%◌, ◌^◌, ◌<◌, ◌≤◌, ◌⊎◌, Bool, true, List, [], ◌∷◌, ◌++◌, length, map, take, drop, reverse, Option, Some, None, unwrap_or, IsSome, is_some, refl, sym, ◌∙◌, ap, ap₂, subst, arith, inl, inr, Contains, All, IsPermutation, pow_mono}
use Rattle.std.specs.List.{AllByRecursion, flat_map, filter, range_with_len}
use Rattle.std.specs.FinMap.{get}
use Rattle.std.proofs.lemmas.Bool.{cases_lt, cases_Bool, cond-true, cond-false, eqb-true}
use Rattle.std.proofs.lemmas.List.{length-map}
use Rattle.std.proofs.lemmas.List.Elements.{recursion_from_All, All-from_recursion}
use Rattle.std.proofs.lemmas.List.FromFn.{get_or-map-range_with_len, length-range_with_len}
use Rattle.std.proofs.lemmas.List.Sorted.{IsPermutation-sym, IsPermutation-trans, IsPermutation-map, IsPermutation-reverse, length_permutation}
use Rattle.byteorder.specs.Endian.{big_bytes, big_number}
use Rattle.vm_base.specs.FlatMemory.{FlatMemory, bytes_at}
use Rattle.vm_base.specs.FlatStep.{with_bytes}
use Rattle.vm_base.specs.FlatLaws.{AreApart, AreFullPages, unmapped}
use Rattle.vm_base.proofs.FlatLaws.{bytes_at-with_bytes, bytes_at-with_bytes_apart, bytes_at-unmapped, get-unmapped_beyond, is_some-with_bytes}
use Rattle.store_meaning.specs.Layout.{classes, header_at, heap_at, array_a, array_field, list_field, top_field, header_area, heap_area, store_area, array_pages, word_at}
use Rattle.store_meaning.specs.HeapLayout.{Block, Links, HalfIsPresent, free_of}
use Rattle.store_meaning.specs.HashLayout.{Entry, Store, Pairs, IsStore, Holds, hash_of, entry_block, entry_pair, chain_of, entries_of, other_array}
use Rattle.store_meaning.specs.StoreSteps.{doubled, relinked_chain}
use Rattle.store_meaning.specs.Owned.{entry_range, free_range, header_ranges, bucket_ranges, block_ranges}
use Rattle.store_meaning.proofs.Lists.{all_mono, all_map, map_all, all_among, all_permuted, class_within}
use Rattle.store_meaning.proofs.Words.{number-of_bytes}
use Rattle.store_meaning.proofs.Blocks.{LiesIn, Fill-within}
use Rattle.store_meaning.proofs.Chains.{Links-kept}
use Rattle.store_meaning.proofs.HeapSteps.{KeepsPages, free_within}
use Rattle.store_meaning.proofs.Apart.{IsApartFrom}
use Rattle.store_meaning.proofs.OwnedApart.{owned-apart}
use Rattle.page_hash.specs.declared.arrays.Arrays.{Arrays}
use Rattle.page_hash.specs.Relinking.{IsHeldBlock, AreHeldBlocks, LinksFrom, places_of, is_of_bucket, turned_for}
use Rattle.page_hash.specs.ArrayRelinking.{RelinksPart}
use Rattle.page_hash.specs.Doubling.{IsDue, new_area}
use Rattle.page_hash.proofs.MapEntries.{chain_part}
use Rattle.page_hash.proofs.Cleared.{part_at}
use Rattle.page_hash.proofs.ChainTurns.{LinksFrom-kept, both_hold}
use Rattle.page_hash.proofs.ChainsApart.{pairwise_right, pairwise_across}
use Rattle.page_hash.proofs.PartRelinks.{arrays_low, low_beside, turned_for_all}
use Rattle.page_hash.proofs.AddingArray.{due_facts, due_arrays}
use Rattle.page_hash.proofs.OldTable.{links_to}
use Rattle.page_hash.proofs.DoubledEntries.{relinked_low, relinked_high, doubled_entries}

-- the bytes of the header's three fields
abbrev pub fields_of : Arrays → List ℕ
fields_of arrays = big_bytes 8 arrays.new ++ big_bytes 8 (2 * arrays.buckets) ++ big_bytes 8 arrays.pairs

-- what a doubling went through: with both arrays, relinked, and with the new one alone
pub record DoublingSteps (s0 s1 s2 s3 : FlatMemory) (arrays : Arrays) (store : Store) (pairs : Pairs) : Type 0 where
  pub due : IsDue s0 arrays store pairs
  pub same : (other size : ℕ) → bytes_at s1.present other size ≡ bytes_at s0.present other size
  pub added : KeepsPages s0 s1
  pub part : RelinksPart s1 s2 arrays store.table 0 arrays.buckets
  pub held : AreHeldBlocks s1 (entries_of store.table)
  pub blocks : AreHeldBlocks s2 (entries_of store.table)
  pub kept : KeepsPages s1 s2
  pub full : AreFullPages s2.present array_field 24
  pub areas : s3.areas ≡ header_area ∷ new_area arrays ∷ heap_area ∷ []
  pub present : s3.present ≡ unmapped (with_bytes s2.present array_field (fields_of arrays)) (arrays.old / 4096) (arrays.buckets / 512)

-- ---- what reads as before

-- behind the relinking all but the fields and the old array reads as before
last_frame : (s0 s1 s2 s3 : FlatMemory) (arrays : Arrays) (store : Store) (pairs : Pairs) → DoublingSteps s0 s1 s2 s3 arrays store pairs
    → (other size : ℕ) → AreApart array_field 24 other size → AreApart (arrays.old / 4096 * 4096) (arrays.buckets / 512 * 4096) other size
    → bytes_at s3.present other size ≡ bytes_at s2.present other size
last_frame s0 s1 s2 s3 arrays store pairs steps other size fields old =
    ap (λ p. bytes_at p other size) steps.present
    ∙ bytes_at-unmapped (with_bytes s2.present array_field (fields_of arrays)) (arrays.old / 4096) (arrays.buckets / 512) other size old
    ∙ bytes_at-with_bytes_apart s2.present array_field (fields_of arrays) other size fields

-- where the old array lies
old_low : (s0 s1 s2 s3 : FlatMemory) (arrays : Arrays) (store : Store) (pairs : Pairs) → DoublingSteps s0 s1 s2 s3 arrays store pairs
    → (array_a ≤ arrays.old / 4096 * 4096) × (arrays.old / 4096 * 4096 + arrays.buckets / 512 * 4096 ≤ heap_at)
old_low s0 s1 s2 s3 arrays store pairs steps =
    let facts = due_facts s0 arrays store pairs steps.due in
    elim facts.regions [
      | inl up ↦ (omega (arith, up.0), omega (arith, up.0, facts.whole, facts.few))
      | inr down ↦ (omega (arith, down.0), omega (arith, down.0, facts.whole, facts.few))
    ]

-- a part of the header beside the fields reads as before
header_same : (s0 s1 s2 s3 : FlatMemory) (arrays : Arrays) (store : Store) (pairs : Pairs) → DoublingSteps s0 s1 s2 s3 arrays store pairs
    → (other size : ℕ) → other + size ≤ header_at + 4096 → AreApart array_field 24 other size
    → bytes_at s3.present other size ≡ bytes_at s0.present other size
header_same s0 s1 s2 s3 arrays store pairs steps other size low fields =
    let low_arrays = arrays_low arrays (due_arrays arrays (due_facts s0 arrays store pairs steps.due)) in
    last_frame s0 s1 s2 s3 arrays store pairs steps other size fields
    (inr (omega (arith, low, (old_low s0 s1 s2 s3 arrays store pairs steps).0)))
    ∙ steps.part.beside other size (low_beside s1 store.table 0 arrays.buckets other size steps.held (omega (arith, low)))
    (inr (omega (arith, low, low_arrays.1.1))) (inr (omega (arith, low, low_arrays.1.1)))
    ∙ steps.same other size

-- the first word of a free block reads as before
free_same : (s0 s1 s2 s3 : FlatMemory) (arrays : Arrays) (store : Store) (pairs : Pairs) → DoublingSteps s0 s1 s2 s3 arrays store pairs
    → (class : ℕ) → Contains classes class → AllByRecursion (λ at. word_at s3 at ≡ word_at s0 at) (store.heap.free class)
free_same s0 s1 s2 s3 arrays store pairs steps class in_classes =
    let is = steps.due.is in
    let entries = entries_of store.table in
    let within = class_within class in_classes in
    let low_arrays = arrays_low arrays (due_arrays arrays (due_facts s0 arrays store pairs steps.due)) in
    let across = pairwise_across (map entry_range entries) (map free_range (flat_map (free_of store.heap) classes))
    (pairwise_right (bucket_ranges store.table) (block_ranges store) (pairwise_right header_ranges _ (owned-apart s0 store pairs is))) in
    let each : AllByRecursion (λ (entry : Entry). AllByRecursion (λ at. IsApartFrom (entry_range entry) (record { at = at; size = 8 }))
    (store.heap.free class)) entries =
    all_mono _ _ entries
    (λ entry all. all_map (λ (b : Block). IsApartFrom (entry_range entry) (free_range b)) (λ at. record { at = at; class = class })
    (store.heap.free class)
    (all_among (λ (b : Block). IsApartFrom (entry_range entry) (free_range b)) (free_of store.heap) 17 5 class within.0
    (omega (arith, within.1)) (all_map (IsApartFrom (entry_range entry)) free_range (flat_map (free_of store.heap) classes) all)))
    (all_map (λ r. AllByRecursion (IsApartFrom r) (map free_range (flat_map (free_of store.heap) classes))) entry_range entries across) in
    both_hold (λ at. AllByRecursion (λ (entry : Entry). IsApartFrom (entry_range entry) (record { at = at; size = 8 })) entries)
    (λ at. (heap_at ≤ at) × (at + 2 ^ class ≤ store.heap.top)) (λ at. word_at s3 at ≡ word_at s0 at) (store.heap.free class)
    (λ at clear lies.
    ap (big_number 8)
    (last_frame s0 s1 s2 s3 arrays store pairs steps at 8 (inl (omega (arith, lies.0)))
    (inl (omega (arith, lies.0, (old_low s0 s1 s2 s3 arrays store pairs steps).1)))
    ∙ steps.part.beside at 8
    (λ bucket low high. all_mono (λ (entry : Entry). IsApartFrom (entry_range entry) (record { at = at; size = 8 }))
    (λ (entry : Entry). AreApart entry.at 8 at 8) (chain_of store.table bucket) (λ entry. front_clear entry at)
    (chain_part (λ (entry : Entry). IsApartFrom (entry_range entry) (record { at = at; size = 8 })) store.table.chains bucket clear))
    (inl (omega (arith, lies.0, low_arrays.1.3))) (inl (omega (arith, lies.0, low_arrays.1.3)))
    ∙ steps.same at 8))
    (round entries (store.heap.free class) each) (free_within s0 store.heap class is.heap in_classes)
  where
    front_clear : (entry : Entry) (at : ℕ) → IsApartFrom (entry_range entry) (record { at = at; size = 8 }) → AreApart entry.at 8 at 8
    front_clear entry at (inl below) = inl (omega (arith, below))
    front_clear entry at (inr above) = inr above

    round : (es : List Entry) (ats : List ℕ)
        → AllByRecursion (λ (entry : Entry). AllByRecursion (λ at. IsApartFrom (entry_range entry) (record { at = at; size = 8 })) ats) es
        → AllByRecursion (λ at. AllByRecursion (λ (entry : Entry). IsApartFrom (entry_range entry) (record { at = at; size = 8 })) es) ats
    round es [] all = tt
    round es (at ∷ ats) all = (
      all_mono _ (λ (entry : Entry). IsApartFrom (entry_range entry) (record { at = at; size = 8 })) es (λ entry two. two.0) all,
      round es ats (all_mono _
          (λ (entry : Entry). AllByRecursion (λ a. IsApartFrom (entry_range entry) (record { at = a; size = 8 })) ats) es
          (λ entry two. two.1) all),
    )

-- ---- the table

-- the field at a place
field_is : (s0 s1 s2 s3 : FlatMemory) (arrays : Arrays) (store : Store) (pairs : Pairs) → DoublingSteps s0 s1 s2 s3 arrays store pairs
    → (k word : ℕ) → k + 8 ≤ 24 → take 8 (drop k (fields_of arrays)) ≡ big_bytes 8 word → word < 2 ^ 64
    → word_at s3 (array_field + k) ≡ word
field_is s0 s1 s2 s3 arrays store pairs steps k word inside bytes small =
    ap (big_number 8)
    (ap (λ p. bytes_at p (array_field + k) 8) steps.present
    ∙ bytes_at-unmapped (with_bytes s2.present array_field (fields_of arrays)) (arrays.old / 4096) (arrays.buckets / 512)
    (array_field + k) 8
    (inr (omega (arith, inside, (old_low s0 s1 s2 s3 arrays store pairs steps).0)))
    ∙ part_at (with_bytes s2.present array_field (fields_of arrays)) array_field 24 k 8 (fields_of arrays)
    (bytes_at-with_bytes s2.present array_field (fields_of arrays) steps.full) inside
    ∙ bytes)
    ∙ number-of_bytes word small

-- the chain of each bucket is linked in the new array
linked_now : (s0 s1 s2 s3 : FlatMemory) (arrays : Arrays) (store : Store) (pairs : Pairs) → DoublingSteps s0 s1 s2 s3 arrays store pairs
    → (bucket : ℕ) → bucket < 2 * length store.table.chains
    → Links s3 (other_array store.table.array + 8 * bucket) (places_of (relinked_chain store.table bucket))
linked_now s0 s1 s2 s3 arrays store pairs steps bucket inside =
    subst (λ a. Links s3 (a + 8 * bucket) (places_of (relinked_chain store.table bucket))) steps.due.new
    (links_to s3 (arrays.new + 8 * bucket) (places_of (relinked_chain store.table bucket)) (elim (cases_lt bucket n) [
      | inl low ↦
          subst (λ l. LinksFrom s3 (word_at s3 (arrays.new + 8 * bucket)) (places_of l)) (sym (relinked_low store.table bucket low))
          (kept bucket bucket (2 * n) bucket low inside
          (subst (λ m. LinksFrom s2 (word_at s2 (arrays.new + 8 * bucket))
          (places_of (turned_for (2 * m) bucket (chain_of store.table bucket))))
          count (steps.part.lower bucket (omega arith) (omega (arith, low, count)))))
      | inr high ↦
          let b : ℕ = bucket - n in
          let at : n + b ≡ bucket = omega (arith, high) in
          let low : b < n = omega (arith, high, inside) in
          let sum : b + n ≡ n + b = omega arith in
          subst (λ q. LinksFrom s3 (word_at s3 (arrays.new + 8 * q)) (places_of (relinked_chain store.table q))) at
          (subst (λ l. LinksFrom s3 (word_at s3 (arrays.new + 8 * (n + b))) (places_of l)) (sym (relinked_high store.table b low))
          (kept b (n + b) (2 * n) (n + b) low (omega (arith, low))
          (subst (λ q. LinksFrom s2 (word_at s2 (arrays.new + 8 * (n + b))) (places_of (turned_for (2 * n) q (chain_of store.table b)))) sum
          (subst (λ m. LinksFrom s2 (word_at s2 (arrays.new + 8 * (m + b)))
          (places_of (turned_for (2 * m) (b + m) (chain_of store.table b))))
          count (steps.part.upper b (omega arith) (omega (arith, low, count)))))))
    ]))
  where
    n : ℕ
    n = length store.table.chains

    count : arrays.buckets ≡ n
    count = steps.due.buckets

    -- neither the word of a bucket nor those of blocks are stored to behind the relinking
    kept : (from place into_count into : ℕ) → from < n → place < 2 * n
        → LinksFrom s2 (word_at s2 (arrays.new + 8 * place)) (places_of (turned_for into_count into (chain_of store.table from)))
        → LinksFrom s3 (word_at s3 (arrays.new + 8 * place)) (places_of (turned_for into_count into (chain_of store.table from)))
    kept from place into_count into low inside_all linked =
        let facts = due_facts s0 arrays store pairs steps.due in
        let low_arrays = arrays_low arrays (due_arrays arrays facts) in
        let old = old_low s0 s1 s2 s3 arrays store pairs steps in
        let apart : AreApart (arrays.old / 4096 * 4096) (arrays.buckets / 512 * 4096) (arrays.new + 8 * place) 8 =
        elim facts.regions [
          | inl up ↦ inl (omega (arith, up.0, up.1, facts.whole, facts.few))
          | inr down ↦ inr (omega (arith, down.0, down.1, facts.whole, facts.few, inside_all, count))
        ] in
        let word : word_at s3 (arrays.new + 8 * place) ≡ word_at s2 (arrays.new + 8 * place) =
        ap (big_number 8) (last_frame s0 s1 s2 s3 arrays store pairs steps (arrays.new + 8 * place) 8
        (inl (omega (arith, low_arrays.1.1))) apart) in
        subst (λ w. LinksFrom s3 w (places_of (turned_for into_count into (chain_of store.table from)))) (sym word)
        (LinksFrom-kept s2 s3 (word_at s2 (arrays.new + 8 * place)) (places_of (turned_for into_count into (chain_of store.table from)))
        (map_all (λ at. word_at s3 at ≡ word_at s2 at) (λ (entry : Entry). entry.at)
        (turned_for into_count into (chain_of store.table from))
        (turned_for_all (λ (entry : Entry). word_at s3 entry.at ≡ word_at s2 entry.at) into_count into (chain_of store.table from)
        (all_mono (IsHeldBlock s2) (λ (entry : Entry). word_at s3 entry.at ≡ word_at s2 entry.at) (chain_of store.table from)
        (λ entry held. ap (big_number 8) (last_frame s0 s1 s2 s3 arrays store pairs steps entry.at 8 (inl (omega (arith, held.above)))
        (inl (omega (arith, held.above, old.1)))))
        (chain_part (IsHeldBlock s2) store.table.chains from steps.blocks.held)))) linked)

-- what passes a test has passed it
filter_passes : (test : Entry → Bool) (entries : List Entry) → AllByRecursion (λ entry. test entry ≡ true) (filter test entries)
filter_passes test [] = tt
filter_passes test (entry ∷ entries) = elim (cases_Bool (test entry)) [
  | inl passes ↦ subst (AllByRecursion (λ e. test e ≡ true))
      (sym (cond-true (test entry) (entry ∷ filter test entries) (filter test entries) passes))
      (passes, filter_passes test entries)
  | inr fails ↦ subst (AllByRecursion (λ e. test e ≡ true))
      (sym (cond-false (test entry) (entry ∷ filter test entries) (filter test entries) fails))
      (filter_passes test entries)
]

-- a block holds its pair where its bytes are the same
holds_now : (old new : FlatMemory) (entry : Entry)
    → ((other size : ℕ) → entry.at ≤ other → bytes_at new.present other size ≡ bytes_at old.present other size) → Holds old entry
    → Holds new entry
holds_now old new entry same holds = record {
  key_length = ap (big_number 4) (same (entry.at + 8) 4 (omega arith)) ∙ holds.key_length;
  value_length = ap (big_number 4) (same (entry.at + 12) 4 (omega arith)) ∙ holds.value_length;
  key = same (entry.at + 16) (length entry.key) (omega arith) ∙ holds.key;
  value = same (entry.at + 16 + length entry.key) (length entry.value) (omega arith) ∙ holds.value;
  short_key = holds.short_key;
  short_value = holds.short_value;
}

-- ---- the whole

pub doubled_is : (s0 s1 s2 s3 : FlatMemory) (arrays : Arrays) (store : Store) (pairs : Pairs) → DoublingSteps s0 s1 s2 s3 arrays store pairs
    → IsStore s3 (doubled store) pairs
doubled_is s0 s1 s2 s3 arrays store pairs steps =
    let is = steps.due.is in
    let facts = due_facts s0 arrays store pairs steps.due in
    let n : ℕ = length store.table.chains in
    let some : 0 < n = omega (arith, steps.due.buckets, facts.whole, facts.some) in
    let old = old_low s0 s1 s2 s3 arrays store pairs steps in
    let size : length (map (relinked_chain store.table) (range_with_len 0 (2 * n))) ≡ 2 * n =
    length-map (range_with_len 0 (2 * n)) (relinked_chain store.table) ∙ length-range_with_len 0 (2 * n) in
    let chain : (bucket : ℕ) → bucket < 2 * n → chain_of (doubled store).table bucket ≡ relinked_chain store.table bucket =
    λ bucket inside. get_or-map-range_with_len (relinked_chain store.table) 0 (2 * n) bucket bucket [] (omega (arith, inside))
    (omega arith) in
    let same_entries : IsPermutation (entries_of (doubled store).table) (entries_of store.table) =
    doubled_entries store.table some (λ bucket low. recursion_from_All (λ (entry : Entry). hash_of entry.key % n ≡ bucket)
    (chain_of store.table bucket) (is.table.hashed bucket low)) in
    let back = IsPermutation-sym _ _ same_entries in
    let top : (other : ℕ) → other + 8 ≤ array_field → word_at s3 other ≡ word_at s0 other =
    λ other low. ap (big_number 8) (header_same s0 s1 s2 s3 arrays store pairs steps other 8 (omega (arith, low)) (inr low)) in
    let pages : (page : ℕ) → (page < 524288) ⊎ (2097152 ≤ page) → IsSome (get s0.present page) → IsSome (get s3.present page) =
    λ page out there.
    ap (λ p. is_some (get p page)) steps.present
    ∙ ap is_some (get-unmapped_beyond (with_bytes s2.present array_field (fields_of arrays)) (arrays.old / 4096) (arrays.buckets / 512) page
    (elim out [ inl low ↦ inl (omega (arith, low, old.0)) | inr high ↦ inr (omega (arith, high, old.1)) ]))
    ∙ is_some-with_bytes s2.present array_field (fields_of arrays)
    (λ q inside. full_is_some (get s2.present q) (steps.full q inside)) page
    ∙ steps.kept page (steps.added page there) in
    let small : (2 * arrays.buckets < 2 ^ 64) × (arrays.new < 2 ^ 64) =
    (omega (arith, facts.whole, facts.few), elim facts.regions [ inl up ↦ omega (arith, up.1) | inr down ↦ omega (arith, down.1) ]) in
    let held_behind : AllByRecursion (Holds s3) (entries_of store.table) =
    all_mono (IsHeldBlock s2) (Holds s3) (entries_of store.table)
    (λ entry held. holds_now s2 s3 entry
    (λ other m low. last_frame s0 s1 s2 s3 arrays store pairs steps other m (inl (omega (arith, held.above, low)))
    (inl (omega (arith, held.above, low, old.1)))) held.holds) steps.blocks.held in
    record {
      table = record {
        areas = steps.areas
            ∙ ap₂ (λ a p. header_area ∷ store_area a p ∷ heap_area ∷ []) steps.due.new
            (pages_are (length (map (relinked_chain store.table) (range_with_len 0 (2 * n)))) facts.part
            (size ∙ ap (λ m. 2 * m) (sym steps.due.buckets)) facts.whole);
        array = field_is s0 s1 s2 s3 arrays store pairs steps 0 arrays.new (omega arith) refl small.1 ∙ steps.due.new;
        buckets = field_is s0 s1 s2 s3 arrays store pairs steps 8 (2 * arrays.buckets) (omega arith) refl small.0
            ∙ ap (λ m. 2 * m) steps.due.buckets ∙ sym size;
        pairs = field_is s0 s1 s2 s3 arrays store pairs steps 16 arrays.pairs (omega arith) refl steps.due.small
            ∙ steps.due.counted ∙ length_permutation (entries_of (doubled store).table) (entries_of store.table) same_entries;
        rest = header_same s0 s1 s2 s3 arrays store pairs steps (header_at + 168) 3928 (omega arith) (inl (omega arith)) ∙ is.table.rest;
        doubled = (
          suc is.table.doubled.0,
          record {
            buckets = size ∙ ap (λ m. 2 * m) is.table.doubled.1.buckets ∙ omega arith;
            few = few_more is.table.doubled.0 is.table.doubled.1.buckets is.table.doubled.1.few;
            region = ap other_array is.table.doubled.1.region;
          },
        );
        linked = λ bucket inside.
            let low : bucket < 2 * n = omega (arith, inside, size) in
            subst (λ l. Links s3 (other_array store.table.array + 8 * bucket) (places_of l)) (sym (chain bucket low))
            (linked_now s0 s1 s2 s3 arrays store pairs steps bucket low);
        hashed = λ bucket inside.
            let low : bucket < 2 * n = omega (arith, inside, size) in
            subst (λ m. All (λ entry. hash_of entry.key % m ≡ bucket) (chain_of (doubled store).table bucket)) (sym size)
            (subst (All (λ entry. hash_of entry.key % (2 * n) ≡ bucket)) (sym (chain bucket low))
            (All-from_recursion (λ (entry : Entry). hash_of entry.key % (2 * n) ≡ bucket) (relinked_chain store.table bucket)
            (hashed_chain bucket)));
        held = All-from_recursion (Holds s3) (entries_of (doubled store).table)
            (all_permuted (Holds s3) (entries_of store.table) (entries_of (doubled store).table) back held_behind);
      };
      heap = record {
        areas = subst (λ a. Contains a header_area × Contains a heap_area) (sym steps.areas)
            ((0, omega arith, refl), (2, omega arith, refl));
        top = top top_field (omega arith) ∙ is.heap.top;
        lists = λ class in_classes. Links-kept s0 s3 (list_field class) (store.heap.free class)
            (top (list_field class) (omega (arith, (class_within class in_classes).0, (class_within class in_classes).1)))
            (free_same s0 s1 s2 s3 arrays store pairs steps class in_classes) (is.heap.lists class in_classes);
        order = is.heap.order;
        same = is.heap.same;
        fill = is.heap.fill;
        classed = is.heap.classed;
        halves = All-from_recursion (HalfIsPresent s3) is.heap.order
            (both_hold (HalfIsPresent s0) (LiesIn heap_at store.heap.top) (HalfIsPresent s3) is.heap.order
            (λ block half lies page low high. pages page (inr (omega (arith, low, lies.0))) (half page low high))
            (recursion_from_All (HalfIsPresent s0) is.heap.order is.heap.halves)
            (Fill-within heap_at store.heap.top is.heap.order is.heap.fill));
        header = λ page low high. pages page (inl (omega (arith, high))) (is.heap.header page low high);
        within = is.heap.within;
      };
      used = IsPermutation-trans _ _ _ is.used
          (IsPermutation-map entry_block (entries_of store.table) (entries_of (doubled store).table) back);
      pairs = IsPermutation-trans _ _ _
          (IsPermutation-map entry_pair (entries_of (doubled store).table) (entries_of store.table) same_entries) is.pairs;
    }
  where
    full_is_some : (page : Option (List ℕ)) → length (unwrap_or page []) ≡ 4096 → IsSome page
    full_is_some None full = absurd (omega (arith, full))
    full_is_some (Some bytes) full = refl

    pages_are : (m part : ℕ) → m ≡ 2 * arrays.buckets → arrays.buckets ≡ 512 * part → arrays.buckets / 256 ≡ array_pages m
    pages_are m part is whole = omega (arith, is, whole)

    few_more : (times : ℕ) → length store.table.chains ≡ 512 * 2 ^ times → times ≤ 15 → suc times ≤ 15
    few_more times buckets few = elim (cases_lt times 15) [
      | inl below ↦ omega (arith, below)
      | inr above ↦
          let large : 2 ^ 15 ≤ 2 ^ times = pow_mono above in
          absurd (omega (arith, large, buckets, steps.due.crowded.few))
    ]

    hashed_chain : (bucket : ℕ) → AllByRecursion (λ (entry : Entry). hash_of entry.key % (2 * length store.table.chains) ≡ bucket)
        (relinked_chain store.table bucket)
    hashed_chain bucket =
        let test = is_of_bucket (2 * length store.table.chains) bucket in
        let chosen = chain_of store.table (bucket % length store.table.chains) in
        all_mono (λ entry. test entry ≡ true) (λ (entry : Entry). hash_of entry.key % (2 * length store.table.chains) ≡ bucket)
        (relinked_chain store.table bucket)
        (λ entry is. eqb-true (hash_of entry.key % (2 * length store.table.chains)) bucket is)
        (all_permuted (λ entry. test entry ≡ true) (filter test chosen) (reverse (filter test chosen))
        (IsPermutation-reverse (filter test chosen))
        (filter_passes test chosen))
