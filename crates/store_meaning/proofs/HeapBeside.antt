-- Which ranges of a memory lie beside a heap and beside a table's entries, so that a store to them leaves the rest.
use Rattle.std.proofs.Common.{◌≡◌, ℕ, ◌+◌, ◌^◌, ◌≤◌, ◌⊎◌, ◌*◌, length, length-append, Bool, true, eqb, ◌&&◌, List, [], ◌∷◌, ◌++◌, map, refl, sym, ◌∙◌, ap, ap₂, subst, arith, inl, inr, IsPermutation, Contains, Decides}
use Rattle.std.specs.Prelude.{◌==◌, if◌then◌else◌}
use Rattle.std.specs.List.{AllByRecursion, flat_map}
use Rattle.std.proofs.lemmas.Bool.{cases_eq, cond-true, cond-false, eq-eqb, ne_eqb, and_parts, false≢true}
use Rattle.std.proofs.lemmas.List.Elements.{recursion_from_All}
use Rattle.std.proofs.lemmas.List.Sorted.{IsPermutation-sym, IsPermutation-trans, IsPermutation-middle, IsPermutation-append_left, IsPermutation-append_right, IsPermutation-map, sum_by-IsPermutation, Contains-permutation}
use Rattle.byteorder.specs.Endian.{big_number}
use Rattle.vm_base.specs.FlatMemory.{FlatMemory}
use Rattle.vm_base.specs.FlatLaws.{AreApart}
use Rattle.store_meaning.specs.Layout.{header_at, heap_at, top_field, list_field, classes, word_at}
use Rattle.store_meaning.specs.HeapLayout.{Block, Heap, IsHeap, blocks_of, block_bytes, free_of, without_block, first_or_top, next_at, with_next, committed, freed}
use Rattle.store_meaning.specs.HashLayout.{Entry, Store, Pairs, Holds, IsStore, pair_size, entry_block, entries_of}
use Rattle.store_meaning.specs.Standing.{blocks_in}
use Rattle.store_meaning.specs.Owned.{Range, ArePairwiseApart}
use Rattle.store_meaning.proofs.Lists.{all_mono, all_left, all_right, all_map, all_among, all_contained, all_permuted, flat_map-more, class_within}
use Rattle.store_meaning.proofs.Blocks.{LiesIn, fill_rises}
use Rattle.store_meaning.proofs.Apart.{IsApartFrom}
use Rattle.store_meaning.proofs.HeapUse.{others_apart}
use Rattle.store_meaning.proofs.HeapSteps.{KeepsPages, blocks_within, free_within, class_bytes, heap_kept}
use Rattle.store_meaning.proofs.GivingBack.{used_front, all_front}
use Rattle.store_meaning.proofs.OwnedApart.{array_between, blocks_apart, block_range, class_of-holds}
use Rattle.store_meaning.proofs.StoreKept.{both_hold}
use Rattle.store_meaning.proofs.Cancelling.{cancelled}
use Rattle.store_meaning.proofs.TableSteps.{Spot, chains_with, others, link_of, link_at, link_among, entries_at, AreSameBeside, IsAside, turned, entries_above, blocks_by}

-- ---- beside a heap

-- the range has no byte that a heap is read from: it lies between the heap's fields and the heap, or in the heap and in no free block
abbrev pub IsBesideHeap : Heap → Range → Type 0
IsBesideHeap heap range = ((header_at + 144 ≤ range.at) × (range.at + range.size ≤ heap_at))
    ⊎ ((heap_at ≤ range.at)
    × AllByRecursion (λ (block : Block). AreApart range.at range.size block.at (block_bytes block)) (flat_map (free_of heap) classes))

low_off : (heap : Heap) (place : ℕ) (range : Range) → place + 8 ≤ header_at + 144 → IsBesideHeap heap range
    → AreApart range.at range.size place 8
low_off heap place range low (inl between) = inr (omega (arith, low, between.0))
low_off heap place range low (inr above) = inr (omega (arith, low, above.0))

free_off : (heap : Heap) (range : Range)
    → AllByRecursion (λ (block : Block). heap_at ≤ block.at) (flat_map (free_of heap) classes) → IsBesideHeap heap range
    → AllByRecursion (λ (block : Block). AreApart range.at range.size block.at (block_bytes block)) (flat_map (free_of heap) classes)
free_off heap range above (inl between) =
    all_mono (λ (block : Block). heap_at ≤ block.at)
    (λ (block : Block). AreApart range.at range.size block.at (block_bytes block)) (flat_map (free_of heap) classes)
    (λ block up. inl (omega (arith, up, between.1))) above
free_off heap range above (inr blocks) = blocks.1

word_of : (at size place class : ℕ) → 32 ≤ 2 ^ class → AreApart at size place (2 ^ class) → AreApart at size place 8
word_of at size place class some (inl low) = inl low
word_of at size place class some (inr high) = inr (omega (arith, high, some))

-- a heap is the same behind stores to ranges beside it
pub heap_beside : (old new : FlatMemory) (heap : Heap) (stored : List Range) → IsHeap old heap → new.areas ≡ old.areas
    → KeepsPages old new → AreSameBeside old new stored → AllByRecursion (IsBesideHeap heap) stored → IsHeap new heap
heap_beside old new heap stored is areas keeps same beside =
    let free = flat_map (free_of heap) classes in
    let above : AllByRecursion (λ (block : Block). heap_at ≤ block.at) free =
    all_mono (LiesIn heap_at heap.top) (λ (block : Block). heap_at ≤ block.at) free (λ block lies. lies.0)
    (all_right (LiesIn heap_at heap.top) heap.used free (blocks_within old heap is)) in
    let Off : Block → Type 0 =
    λ block. AllByRecursion (λ (r : Range). AreApart r.at r.size block.at (block_bytes block)) stored in
    let offs : AllByRecursion Off free = turned
    (λ (r : Range) (block : Block). AreApart r.at r.size block.at (block_bytes block)) stored free
    (all_mono (IsBesideHeap heap)
    (λ (r : Range). AllByRecursion (λ (block : Block). AreApart r.at r.size block.at (block_bytes block)) free) stored
    (λ r one. free_off heap r above one) beside) in
    let low : (place : ℕ) → place + 8 ≤ header_at + 144 → word_at new place ≡ word_at old place =
    λ place below. ap (big_number 8) (same place 8 (all_mono (IsBesideHeap heap) (λ (r : Range). AreApart r.at r.size place 8) stored
    (λ r one. low_off heap place r below one) beside)) in
    heap_kept old new heap is areas (low top_field (omega arith))
    (λ class in_classes. low (list_field class) (omega (arith, (class_within class in_classes).0, (class_within class in_classes).1)))
    (λ class in_classes. all_mono (λ at. Off (record { at = at; class = class })) (λ at. word_at new at ≡ word_at old at)
    (heap.free class)
    (λ at off. ap (big_number 8) (same at 8
    (all_mono (λ (r : Range). AreApart r.at r.size at (2 ^ class)) (λ (r : Range). AreApart r.at r.size at 8) stored
    (λ r one. word_of r.at r.size at class (class_bytes class in_classes) one) off)))
    (all_map Off (λ at. record { at = at; class = class }) (heap.free class)
    (all_among Off (free_of heap) 17 5 class (class_within class in_classes).0 (omega (arith, (class_within class in_classes).1)) offs)))
    keeps

part_of : (at size other few place n : ℕ) → AreApart at size place n → at ≤ other → other + few ≤ at + size → AreApart other few place n
part_of at size other few place n (inl low) from to = inl (omega (arith, low, to))
part_of at size other few place n (inr high) from to = inr (omega (arith, high, from))

-- a range in a block in use is beside the heap
pub in_use_beside : (memory : FlatMemory) (heap : Heap) (block : Block) (range : Range) → IsHeap memory heap → Contains heap.used block
    → block.at ≤ range.at → range.at + range.size ≤ block.at + block_bytes block → IsBesideHeap heap range
in_use_beside memory heap block range is used from to =
    let free = flat_map (free_of heap) classes in
    let lies : LiesIn heap_at heap.top block = all_contained (LiesIn heap_at heap.top) heap.used block used
    (all_left (LiesIn heap_at heap.top) heap.used free (blocks_within memory heap is)) in
    inr (
      omega (arith, lies.0, from),
      all_mono (λ (other : Block). AreApart block.at (block_bytes block) other.at (block_bytes other))
          (λ (other : Block). AreApart range.at range.size other.at (block_bytes other)) free
          (λ other off. part_of block.at (block_bytes block) range.at range.size other.at (block_bytes other) off from to)
          (all_right _ (without_block block.at heap.used) free
          (others_apart is.order (without_block block.at heap.used ++ free) block heap_at heap.top is.fill
          (all_front memory heap block is used))),
    )

-- ---- beside a table's entries

-- an entry's bytes are the front of its block
entry_part : (memory : FlatMemory) (at size : ℕ) (entry : Entry) → Holds memory entry
    → AreApart at size entry.at (block_bytes (entry_block entry)) → AreApart at size entry.at (pair_size entry.key entry.value)
entry_part memory at size entry holds off = by off (class_of-holds (pair_size entry.key entry.value)
    (omega (arith, holds.short_key, holds.short_value)))
  where
    by : AreApart at size entry.at (block_bytes (entry_block entry))
        → pair_size entry.key entry.value ≤ block_bytes (entry_block entry)
        → AreApart at size entry.at (pair_size entry.key entry.value)
    by (inl low) fits = inl low
    by (inr high) fits = inr (omega (arith, high, fits))

-- what lies in a block that is apart from those of the entries is aside
block_aside : (memory : FlatMemory) (at size : ℕ) (rest : List Entry) (range : Range) → heap_at ≤ at → at ≤ range.at
    → range.at + range.size ≤ at + size → AllByRecursion (Holds memory) rest
    → AllByRecursion (λ (entry : Entry). AreApart at size entry.at (block_bytes (entry_block entry))) rest → IsAside rest range
block_aside memory at size rest range up from to held offs = inr (inr (
  omega (arith, up, from),
  both_hold (Holds memory) (λ (entry : Entry). AreApart at size entry.at (block_bytes (entry_block entry)))
      (λ (entry : Entry). AreApart range.at range.size entry.at (pair_size entry.key entry.value)) rest
      (λ entry holds off. part_of at size range.at range.size entry.at (pair_size entry.key entry.value)
      (entry_part memory at size entry holds off) from to) held offs,
))

-- the entries at a place in front of all others
abbrev AreEntries : Store → Spot → List Entry → Type 0
AreEntries store spot middle = store.table.chains ≡ chains_with spot middle

in_order : (store : Store) (spot : Spot) (middle : List Entry) → AreEntries store spot middle
    → IsPermutation (entries_of store.table) (middle ++ others spot)
in_order store spot middle chains =
    subst (λ (c : List (List Entry)). IsPermutation (flat_map (λ (chain : List Entry). chain) c) (middle ++ others spot)) (sym chains)
    (entries_at spot middle)

held_in_order : (memory : FlatMemory) (store : Store) (of : Pairs) (spot : Spot) (middle : List Entry) → IsStore memory store of
    → AreEntries store spot middle → AllByRecursion (Holds memory) (middle ++ others spot)
held_in_order memory store of spot middle is chains =
    all_permuted (Holds memory) (entries_of store.table) (middle ++ others spot) (in_order store spot middle chains)
    (recursion_from_All (Holds memory) (entries_of store.table) is.table.held)

-- a range in the block of the entry at a place is aside
pub aside_of_middle : (memory : FlatMemory) (store : Store) (of : Pairs) (spot : Spot) (entry : Entry) (range : Range)
    → IsStore memory store of → store.table.chains ≡ chains_with spot (entry ∷ []) → entry.at ≤ range.at
    → range.at + range.size ≤ entry.at + block_bytes (entry_block entry) → IsAside (others spot) range
aside_of_middle memory store of spot entry range is chains from to =
    let rest = others spot in
    let order = in_order store spot (entry ∷ []) chains in
    let apart : ArePairwiseApart (map block_range (map entry_block (entry ∷ rest))) =
    blocks_apart is.heap.order (flat_map (free_of store.heap) classes) (map entry_block (entry ∷ rest)) heap_at store.heap.top is.heap.fill
    (blocks_by memory store of (entry ∷ rest) is order) in
    block_aside memory entry.at (block_bytes (entry_block entry)) rest range (entries_above memory store of (entry ∷ rest) is order).0
    from to (held_in_order memory store of spot (entry ∷ []) is chains).1
    (all_map (λ (b : Block). AreApart entry.at (block_bytes (entry_block entry)) b.at (block_bytes b)) entry_block rest
    (all_map (IsApartFrom (block_range (entry_block entry))) block_range (map entry_block rest) apart.0))

blocks_crossed : (front back : List Block) → ArePairwiseApart (map block_range (front ++ back))
    → AllByRecursion (λ (one : Block). AllByRecursion
    (λ (other : Block). AreApart one.at (block_bytes one) other.at (block_bytes other)) back) front
blocks_crossed [] back apart = tt
blocks_crossed (block ∷ front) back apart = (
  all_right (λ (other : Block). AreApart block.at (block_bytes block) other.at (block_bytes other)) front back
      (all_map (IsApartFrom (block_range block)) block_range (front ++ back) apart.0),
  blocks_crossed front back apart.1,
)

-- the next block of a class lies apart from the blocks of all entries
pub next_off : (memory : FlatMemory) (store : Store) (of : Pairs) (rest : List Entry) (class : ℕ) (free : List ℕ) → IsStore memory store of
    → IsPermutation (entries_of store.table) rest → Contains classes class → store.heap.free class ≡ free
    → (heap_at ≤ first_or_top free store.heap.top)
    × AllByRecursion (λ (entry : Entry). AreApart (first_or_top free store.heap.top) (2 ^ class) entry.at (block_bytes (entry_block entry)))
    rest
next_off memory store of rest class [] is order in_classes front =
    let lies : AllByRecursion (λ (entry : Entry). LiesIn heap_at store.heap.top (entry_block entry)) rest =
    all_permuted (λ (entry : Entry). LiesIn heap_at store.heap.top (entry_block entry)) (entries_of store.table) rest order
    (all_map (LiesIn heap_at store.heap.top) entry_block (entries_of store.table)
    (all_permuted (LiesIn heap_at store.heap.top) store.heap.used (map entry_block (entries_of store.table)) is.used
    (all_left (LiesIn heap_at store.heap.top) store.heap.used (flat_map (free_of store.heap) classes)
    (blocks_within memory store.heap is.heap)))) in (
      fill_rises heap_at store.heap.top is.heap.order is.heap.fill,
      all_mono (λ (entry : Entry). LiesIn heap_at store.heap.top (entry_block entry))
          (λ (entry : Entry). AreApart store.heap.top (2 ^ class) entry.at (block_bytes (entry_block entry))) rest
          (λ entry lie. inr lie.1) lies,
    )
next_off memory store of rest class (at ∷ free) is order in_classes front =
    let all = flat_map (free_of store.heap) classes in
    let size = class_within class in_classes in
    let Off : Block → Type 0 = λ (one : Block). AllByRecursion
    (λ (other : Block). AreApart one.at (block_bytes one) other.at (block_bytes other)) (map entry_block rest) in
    let apart : ArePairwiseApart (map block_range (all ++ map entry_block rest)) =
    blocks_apart is.heap.order [] (all ++ map entry_block rest) heap_at store.heap.top is.heap.fill
    (blocks_by memory store of rest is order) in
    let offs : AllByRecursion (λ a. Off (record { at = a; class = class })) (store.heap.free class) =
    all_map Off (λ a. record { at = a; class = class }) (store.heap.free class)
    (all_among Off (free_of store.heap) 17 5 class size.0 (omega (arith, size.1))
    (blocks_crossed all (map entry_block rest) apart)) in (
      (subst (AllByRecursion (λ a. (heap_at ≤ a) × (a + 2 ^ class ≤ store.heap.top))) front
          (free_within memory store.heap class is.heap in_classes)).0.0,
      all_map (λ (other : Block). AreApart at (2 ^ class) other.at (block_bytes other)) entry_block rest
          (subst (AllByRecursion (λ a. Off (record { at = a; class = class }))) front offs).0,
    )

-- a range in the next block of a class is aside
pub aside_of_next : (memory : FlatMemory) (store : Store) (of : Pairs) (spot : Spot) (middle : List Entry) (class : ℕ) (range : Range)
    → IsStore memory store of → store.table.chains ≡ chains_with spot middle → Contains classes class
    → next_at store.heap class ≤ range.at
    → range.at + range.size ≤ next_at store.heap class + 2 ^ class → IsAside (others spot) range
aside_of_next memory store of spot middle class range is chains in_classes from to =
    let rest = others spot in
    let off = next_off memory store of (middle ++ rest) class (store.heap.free class) is
    (in_order store spot middle chains) in_classes refl in
    block_aside memory (next_at store.heap class) (2 ^ class) rest range off.0 from to
    (all_right (Holds memory) middle rest (held_in_order memory store of spot middle is chains))
    (all_right (λ (entry : Entry). AreApart (next_at store.heap class) (2 ^ class) entry.at (block_bytes (entry_block entry))) middle rest
    off.1)

-- a link lies apart from what is aside of the entries in front of it, in the heap
link_aside : (place at size : ℕ) (front rest : List Entry) → place + 8 ≤ heap_at → heap_at ≤ at
    → IsAside (front ++ rest) (record { at = at; size = size }) → AreApart (link_of place front) 8 at size
link_aside place at size front rest low up (inl head) = absurd (omega (arith, head, up))
link_aside place at size front rest low up (inr (inl same)) = absurd (omega (arith, ap (λ (r : Range). r.at) same, up))
link_aside place at size front rest low up (inr (inr heap)) =
    link_among (λ a. AreApart a 8 at size) place front (inl (omega (arith, low, up)))
    (all_mono (λ (entry : Entry). AreApart at size entry.at (pair_size entry.key entry.value))
    (λ (entry : Entry). AreApart entry.at 8 at size) front
    (λ entry off. word_front at size entry.at (pair_size entry.key entry.value) off (omega arith))
    (all_left (λ (entry : Entry). AreApart at size entry.at (pair_size entry.key entry.value)) front rest heap.1))
  where
    word_front : (from many other few : ℕ) → AreApart from many other few → 8 ≤ few → AreApart other 8 from many
    word_front from many other few (inl below) some = inr below
    word_front from many other few (inr above) some = inl (omega (arith, above, some))

-- the bucket of a place lies in front of the heap
pub place_low : (memory : FlatMemory) (store : Store) (of : Pairs) (spot : Spot) (middle : List Entry) → IsStore memory store of
    → store.table.chains ≡ chains_with spot middle → store.table.array + 8 * length spot.before + 8 ≤ heap_at
place_low memory store of spot middle is chains =
    let ends = array_between store.table is.table.doubled.0 is.table.doubled.1 in
    let many = ap (λ (c : List (List Entry)). length c) chains
    ∙ length-append spot.before ((spot.front ++ (middle ++ spot.back)) ∷ spot.behind) in
    omega (arith, ends.1, many)

-- the link lies apart from the block of the entry at its place
pub link_off_middle : (memory : FlatMemory) (store : Store) (of : Pairs) (spot : Spot) (entry : Entry) → IsStore memory store of
    → store.table.chains ≡ chains_with spot (entry ∷ [])
    → AreApart (link_at store.table.array spot) 8 entry.at (block_bytes (entry_block entry))
link_off_middle memory store of spot entry is chains =
    link_aside (store.table.array + 8 * length spot.before) entry.at (block_bytes (entry_block entry)) spot.front _
    (place_low memory store of spot (entry ∷ []) is chains)
    (entries_above memory store of (entry ∷ others spot) is (in_order store spot (entry ∷ []) chains)).0
    (aside_of_middle memory store of spot entry (record { at = entry.at; size = block_bytes (entry_block entry) }) is chains
    (omega arith) (omega arith))

-- and from the next block of a class
pub link_off_next : (memory : FlatMemory) (store : Store) (of : Pairs) (spot : Spot) (middle : List Entry) (class : ℕ)
    → IsStore memory store of → store.table.chains ≡ chains_with spot middle → Contains classes class
    → AreApart (link_at store.table.array spot) 8 (next_at store.heap class) (2 ^ class)
link_off_next memory store of spot middle class is chains in_classes =
    link_aside (store.table.array + 8 * length spot.before) (next_at store.heap class) (2 ^ class) spot.front _
    (place_low memory store of spot middle is chains)
    (next_off memory store of (middle ++ others spot) class (store.heap.free class) is
    (in_order store spot middle chains) in_classes refl).0
    (aside_of_next memory store of spot middle class (record { at = next_at store.heap class; size = 2 ^ class }) is chains in_classes
    (omega arith) (omega arith))

-- ---- blocks in use

abbrev same_block : Block → Block → Bool
same_block one other = eqb one.at other.at && eqb one.class other.class

-- the block of the entry at a place is in use
pub used_in_store : (memory : FlatMemory) (store : Store) (of : Pairs) (spot : Spot) (entry : Entry) → IsStore memory store of
    → store.table.chains ≡ chains_with spot (entry ∷ [])
    → IsPermutation store.heap.used (entry_block entry ∷ map entry_block (others spot))
used_in_store memory store of spot entry is chains =
    IsPermutation-trans _ _ _ is.used
    (IsPermutation-map entry_block (entries_of store.table) (entry ∷ others spot) (in_order store spot (entry ∷ []) chains))

number_from : (a b : ℕ) → eqb a b ≡ true → a ≡ b
number_from a b is = elim (cases_eq a b) [ inl same ↦ same | inr apart ↦ absurd (false≢true (sym (ne_eqb a b apart) ∙ is)) ]

same_block-decides : (one other : Block) → Decides (same_block one other) (one ≡ other)
same_block-decides one other = (
  λ is. let parts = and_parts (eqb one.at other.at) (eqb one.class other.class) is in
      ap₂ (λ a c. record { at = a; class = c }) (number_from one.at other.at parts.0) (number_from one.class other.class parts.1),
  λ same. subst (λ b. same_block one b ≡ true) same
      (ap₂ (λ a c. a && c) (eq-eqb one.at one.at refl) (eq-eqb one.class one.class refl)),
)

-- a heap that gives back a block in use has the other ones in use
pub freed_used : (memory : FlatMemory) (heap : Heap) (block : Block) (rest : List Block) → IsHeap memory heap
    → IsPermutation heap.used (block ∷ rest) → IsPermutation (freed heap block.at block.class).used rest
freed_used memory heap block rest is used =
    let here : Contains heap.used block = Contains-permutation (block ∷ rest) heap.used block (IsPermutation-sym _ _ used)
    (0, omega arith, refl) in
    cancelled same_block same_block-decides block (without_block block.at heap.used) rest
    (IsPermutation-trans _ _ _ (IsPermutation-sym _ _ (used_front memory heap block is here)) used)

next_used : (heap : Heap) (class : ℕ) (free : List ℕ)
    → (with_next heap class free).used ≡ record { at = first_or_top free heap.top; class = class } ∷ heap.used
next_used heap class [] = refl
next_used heap class (at ∷ free) = refl

-- a heap that takes its next block of a class has it in use besides
pub committed_used : (heap : Heap) (class : ℕ)
    → (committed heap class).used ≡ record { at = next_at heap class; class = class } ∷ heap.used
committed_used heap class = next_used heap class (heap.free class)

-- ---- what a heap and a reach count

-- giving a block back leaves the blocks that there are
pub freed_blocks : (memory : FlatMemory) (heap : Heap) (block : Block) → IsHeap memory heap → Contains heap.used block
    → Contains classes block.class → IsPermutation (blocks_of heap) (blocks_of (freed heap block.at block.class))
freed_blocks memory heap block is used in_classes =
    let left = without_block block.at heap.used in
    let free = flat_map (free_of heap) classes in
    let after = flat_map (free_of (freed heap block.at block.class)) classes in
    let size = class_within block.class in_classes in
    let behind : IsPermutation (block ∷ free) after =
    flat_map-more (free_of (freed heap block.at block.class)) (free_of heap) block 17 5 block.class size.0 (omega (arith, size.1))
    (ap (map (λ a. record { at = a; class = block.class }))
    (cond-true (eqb block.class block.class) (block.at ∷ heap.free block.class) (heap.free block.class)
    (eq-eqb block.class block.class refl)))
    (λ q other. ap (map (λ a. record { at = a; class = q }))
    (cond-false (eqb q block.class) (block.at ∷ heap.free block.class) (heap.free q) (ne_eqb q block.class other))) in
    IsPermutation-trans _ _ _ (IsPermutation-append_left free heap.used (block ∷ left) (used_front memory heap block is used))
    (IsPermutation-trans _ _ _ (IsPermutation-sym _ _ (IsPermutation-middle left block free))
    (IsPermutation-append_right left (block ∷ free) after behind))

-- so no class has more of them
pub freed_count : (memory : FlatMemory) (heap : Heap) (block : Block) (class : ℕ) → IsHeap memory heap → Contains heap.used block
    → Contains classes block.class → blocks_in (freed heap block.at block.class) class ≡ blocks_in heap class
freed_count memory heap block class is used in_classes =
    sum_by-IsPermutation (λ (b : Block). if b.class == class then 1 else 0) (blocks_of heap) (blocks_of (freed heap block.at block.class))
    (freed_blocks memory heap block is used in_classes)
