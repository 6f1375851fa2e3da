-- The stores that make an empty table, and what stands behind them.
use Rattle.std.proofs.Common.{◌≡◌, ℕ, zero, suc, ◌+◌, ◌*◌, ◌%◌, ◌≤◌, max, List, [], ◌∷◌, length, map, replicate, get_or, Ok, Option, Some, None, IsSome, is_some, refl, sym, ◌∙◌, ap, subst, arith, inl, inr, IsPermutation, All}
use Rattle.std.specs.FinMap.{get, entries, empty, len-entries, len-empty, get-empty}
use Rattle.std.specs.Ordering.{nat_cmp}
use Rattle.std.specs.Cmp.Lexicographic.{slice_cmp}
use Rattle.std.specs.Prelude.{unwrap_or}
use Rattle.std.specs.List.{AllZip}
use Rattle.std.proofs.lemmas.List.{nil_from_length}
use Rattle.std.proofs.lemmas.List.Elements.{All-nil, All-from_recursion}
use Rattle.std.proofs.lemmas.List.Sorted.{IsPermutation-refl}
use Rattle.byteorder.specs.Endian.{big_bytes, big_number}
use Rattle.vm_base.specs.declared.permission.Perm.TheVariants.{ReadWrite}
use Rattle.vm_base.specs.FlatMemory.{Area, PageMap, FlatMemory, bytes_at}
use Rattle.vm_base.specs.FlatStep.{Taken, or_refused, at_most_128, joined, with_area, map_of, taken, with_bytes}
use Rattle.vm_base.specs.FlatLaws.{AreFullPages, AreApart}
use Rattle.vm_base.specs.MemoryState.{MemoryState, IsMemory}
use Rattle.vm_base.specs.MemoryCalls.{after_store}
use Rattle.vm_base.proofs.FlatAreas.{taken-apart}
use Rattle.vm_base.proofs.FlatLaws.{bytes_at-none, is_some-with_bytes, bytes_at-with_bytes_apart, full_from_ready}
use Rattle.store_meaning.specs.Layout.{header_at, header_area, heap_area, store_area, array_a, array_field, buckets_field, pairs_field, top_field, list_field, word_at, classes}
use Rattle.store_meaning.specs.HeapLayout.{IsHeap, Links, opening_heap}
use Rattle.store_meaning.specs.HashLayout.{Entry, IsStore, IsTable, hash_of}
use Rattle.store_meaning.specs.StoreSteps.{opening_store}
use Rattle.store_meaning.specs.Reach.{reach_of}
use Rattle.store_meaning.specs.Standing.{blocks_in}
use Rattle.store_meaning.proofs.Lists.{class_within}
use Rattle.store_meaning.proofs.Words.{storing, word_at-stored, word_at-apart}
use Rattle.store_meaning.proofs.HeapSteps.{KeepsPages, heap_kept, storing_keeps, storing_full}
use Rattle.store_meaning.proofs.StoreKept.{part_same}
use Rattle.page_heap.specs.HeapCalls.{Begins, with_areas}
use Rattle.page_heap.proofs.Flat.{ready_field}
use Rattle.page_hash.specs.HashCalls.{BeginsStore}

-- the areas of a table that begins
abbrev pub three_areas : List Area
three_areas = header_area ∷ store_area array_a 1 ∷ heap_area ∷ []

-- the array's area is mapped beside the other two
pub map_array : (memory : FlatMemory) → memory.areas ≡ header_area ∷ heap_area ∷ []
    → map_of memory 524288 1 ReadWrite ≡ Ok (record memory { areas = three_areas })
map_array memory two =
    ap (λ a. or_refused Taken (taken a 524288 1) (at_most_128 (record memory { areas = joined (with_area (store_area array_a 1) a) }))) two
    ∙ ap (λ t. or_refused Taken t
    (at_most_128 (record memory { areas = joined (with_area (store_area array_a 1) (header_area ∷ heap_area ∷ [])) })))
    (taken-apart (header_area ∷ heap_area ∷ []) 524288 1
    (All-from_recursion (λ (area : Area). AreApart area.first area.pages 524288 1) (header_area ∷ heap_area ∷ [])
    (inl (omega arith), (inr (omega arith), tt))))

-- the state behind the mapping, and behind the stores of both fields
abbrev pub mapped : MemoryState → MemoryState
mapped state = with_areas state three_areas

abbrev pub fielded : MemoryState → MemoryState
fielded state =
    after_store (after_store (mapped state) array_field (big_bytes 8 array_a)) buckets_field (big_bytes 8 512)

-- a part of a range of zeros
zeros_part : (present : PageMap) (address n other size : ℕ) → bytes_at present address n ≡ replicate n 0 → address ≤ other
    → other + size ≤ address + n → bytes_at present other size ≡ replicate size 0
zeros_part present address n other size zeros low high =
    part_same empty present address n other size
    (zeros ∙ sym (bytes_at-none empty address n (λ page inside. get-empty nat_cmp page))) low high
    ∙ bytes_at-none empty other size (λ page inside. get-empty nat_cmp page)

none_from : {X : Type 0} (o : Option X) → (IsSome o → ⊥) → o ≡ None
none_from None never = refl
none_from (Some x) never = absurd (never refl)

nothing_in : (n bucket : ℕ) → get_or (replicate {A = List Entry} n []) bucket [] ≡ []
nothing_in zero bucket = refl
nothing_in (suc n) zero = refl
nothing_in (suc n) (suc bucket) = nothing_in n bucket

full_is_some : (page : Option (List ℕ)) → length (unwrap_or page []) ≡ 4096 → IsSome page
full_is_some None full = absurd (omega (arith, full))
full_is_some (Some bytes) full = refl

-- a stored word makes no page present and takes none away
same_pages : (present : PageMap) (address word : ℕ) → AreFullPages present address 8 → (page : ℕ)
    → is_some (get (with_bytes present address (big_bytes 8 word)) page) ≡ is_some (get present page)
same_pages present address word full page =
    is_some-with_bytes present address (big_bytes 8 word) (λ q inside. full_is_some (get present q) (full q inside)) page

entries_empty : entries (empty {X = List ℕ} {R = slice_cmp nat_cmp}) ≡ []
entries_empty =
    nil_from_length (entries (empty {X = List ℕ} {R = slice_cmp nat_cmp}))
    (sym (len-entries (empty {X = List ℕ} {R = slice_cmp nat_cmp})) ∙ len-empty (slice_cmp nat_cmp) (List ℕ))

-- no class has a block
opening_blocks : (cs : List ℕ) → AllZip (λ class peak. blocks_in opening_heap class ≤ peak) cs (map (λ class. 0) cs)
opening_blocks [] = tt
opening_blocks (c ∷ cs) = let none : blocks_in opening_heap c ≡ 0 = refl in (omega (arith, none), opening_blocks cs)

opening_bound : (reach_of []).bound ≡ 13
opening_bound = refl

-- the heap began, and the fields were stored: the empty store stands
pub table_begins : (old state : MemoryState) → Begins old state → IsMemory state → state.most ≡ max old.most 5
    → BeginsStore old (fielded state)
table_begins old state begun sound most =
    let m2 : FlatMemory = (mapped state).mem in
    let m3 : FlatMemory = storing m2 array_field array_a in
    let m4 : FlatMemory = storing m3 buckets_field 512 in
    let full_a : AreFullPages m2.present array_field 8 =
    full_from_ready state array_field 8 sound (ready_field state array_field (omega arith) (omega arith) begun.ready) in
    let full_2 : AreFullPages m2.present buckets_field 8 =
    full_from_ready state buckets_field 8 sound (ready_field state buckets_field (omega arith) (omega arith) begun.ready) in
    let full_b : AreFullPages m3.present buckets_field 8 = storing_full m2 array_field array_a buckets_field 8 full_a full_2 in
    let apart : (other n : ℕ) → AreApart array_field 8 other n → AreApart buckets_field 8 other n
    → bytes_at m4.present other n ≡ bytes_at state.mem.present other n =
    λ other n one two. bytes_at-with_bytes_apart m3.present buckets_field (big_bytes 8 512) other n two
    ∙ bytes_at-with_bytes_apart m2.present array_field (big_bytes 8 array_a) other n one in
    let before : (other : ℕ) → other + 8 ≤ array_field → word_at m4 other ≡ word_at m2 other =
    λ other low. ap (big_number 8) (apart other 8 (inr low) (inr (omega (arith, low)))) in
    let keeps : KeepsPages m2 m4 =
    λ page there. storing_keeps m3 buckets_field 512 full_b page (storing_keeps m2 array_field array_a full_a page there) in
    let only : (page : ℕ) → IsSome (get m4.present page) → page ≡ 512 =
    λ page there. begun.pages page
    (sym (same_pages m2.present array_field array_a full_a page) ∙ sym (same_pages m3.present buckets_field 512 full_b page) ∙ there) in
    let zero_bucket : (bucket : ℕ) → word_at m4 (array_a + 8 * bucket) ≡ 0 = λ bucket.
    ap (big_number 8)
    (apart (array_a + 8 * bucket) 8 (inl (omega arith)) (inl (omega arith))
    ∙ bytes_at-none state.mem.present (array_a + 8 * bucket) 8
    (λ page inside. none_from (get state.mem.present page)
    (λ there. omega (arith, begun.pages page there, inside.0)))) in
    let heap_mapped : IsHeap m2 opening_heap = record {
      areas = ((0, omega arith, refl), (2, omega arith, refl));
      top = begun.heap.top;
      lists = begun.heap.lists;
      order = begun.heap.order;
      same = begun.heap.same;
      fill = begun.heap.fill;
      classed = begun.heap.classed;
      halves = begun.heap.halves;
      header = begun.heap.header;
      within = begun.heap.within;
    } in
    let heap : IsHeap m4 opening_heap =
    heap_kept m2 m4 opening_heap heap_mapped refl (before top_field (omega arith))
    (λ class in_classes. before (list_field class) (omega (arith, (class_within class in_classes).0, (class_within class in_classes).1)))
    (λ class in_classes. tt) keeps in
    let table : IsTable m4 opening_store.table = record {
      areas = refl;
      array = word_at-apart m3 buckets_field 512 array_field (inr (omega arith))
          ∙ word_at-stored m2 array_field array_a full_a (omega arith);
      buckets = word_at-stored m3 buckets_field 512 full_b (omega arith);
      pairs = ap (big_number 8)
          (apart pairs_field 8 (inl (omega arith)) (inl (omega arith))
          ∙ zeros_part state.mem.present (header_at + 8) 4088 pairs_field 8 begun.rest (omega arith) (omega arith));
      rest = apart (header_at + 168) 3928 (inl (omega arith)) (inl (omega arith))
          ∙ zeros_part state.mem.present (header_at + 8) 4088 (header_at + 168) 3928 begun.rest (omega arith) (omega arith);
      doubled = (0, record { buckets = refl; few = omega arith; region = refl });
      linked = λ bucket inside. subst (λ (chain : List Entry). Links m4 (array_a + 8 * bucket) (map (λ entry. entry.at) chain))
          (sym (nothing_in 512 bucket)) (zero_bucket bucket);
      hashed = λ bucket inside.
          subst (λ (chain : List Entry). All (λ entry. hash_of entry.key % length opening_store.table.chains ≡ bucket) chain)
          (sym (nothing_in 512 bucket)) (All-nil _);
      held = All-nil _;
    } in
    let is : IsStore m4 opening_store empty = record {
      table = table;
      heap = heap;
      used = IsPermutation-refl [];
      pairs = subst (IsPermutation []) (sym entries_empty) (IsPermutation-refl []);
    } in
    record {
      may = record { slots = begun.may.slots; used = begun.may.used; room = begun.may.room };
      store = is;
      stands = record {
        store = opening_store;
        stands = is;
        within = record {
          blocks = opening_blocks classes;
          pages = λ page there high. absurd (omega (arith, only page there, high));
          buckets = inl refl;
        };
        most = omega (arith, most, opening_bound);
      };
    }
