-- What one change of a chain makes of a store: other entries in the place of one or of none.
use Rattle.std.proofs.Common.{◌≡◌, ℕ, zero, suc, ◌+◌, ◌*◌, ◌%◌, ◌<◌, ◌≤◌, ◌⊎◌, List, [], ◌∷◌, ◌++◌, length, map, get_or, refl, sym, ◌∙◌, ap, subst, arith, inl, inr, IsPermutation, All, length-append}
use Rattle.std.specs.Prelude.{⊤}
use Rattle.std.specs.List.{AllByRecursion, AllZip, flat_map}
use Rattle.std.specs.FinMap.{entries}
use Rattle.std.proofs.lemmas.Bool.{cases_eq}
use Rattle.std.proofs.lemmas.List.{append_assoc}
use Rattle.std.proofs.lemmas.Grind.{flat_map-append}
use Rattle.std.proofs.lemmas.List.Elements.{recursion_from_All, All-from_recursion}
use Rattle.std.proofs.lemmas.List.Sorted.{IsPermutation-trans, IsPermutation-sym, IsPermutation-append_left, IsPermutation-append_right, IsPermutation-append_comm, IsPermutation-map, length_permutation}
use Rattle.byteorder.specs.Endian.{big_number}
use Rattle.vm_base.specs.FlatMemory.{FlatMemory, bytes_at}
use Rattle.vm_base.specs.FlatLaws.{AreApart}
use Rattle.store_meaning.specs.Layout.{header_at, array_a, heap_at, array_field, buckets_field, pairs_field, classes, store_areas, word_at}
use Rattle.store_meaning.specs.HeapLayout.{Heap, IsHeap, Links, free_of}
use Rattle.store_meaning.specs.HashLayout.{Entry, Store, Pairs, Holds, IsStore, hash_of, pair_size, entry_block, entry_pair, entries_of}
use Rattle.store_meaning.specs.Owned.{Range, word_range, entry_range, ArePairwiseApart}
use Rattle.store_meaning.proofs.Lists.{all_mono, all_left, all_right, all_both, all_map, map_all, all_permuted}
use Rattle.store_meaning.proofs.Chains.{Links-kept, Links-moved}
use Rattle.store_meaning.proofs.Blocks.{LiesIn}
use Rattle.store_meaning.proofs.HeapSteps.{blocks_within}
use Rattle.store_meaning.proofs.Apart.{IsApartFrom, IsFrontOf, fronts_apart}
use Rattle.store_meaning.proofs.OwnedApart.{array_between, blocks_apart, block_range, class_of-holds}
use Rattle.store_meaning.proofs.StoreKept.{part_same, chain_among, both_hold}

-- ---- a place in a chain

-- the chains before that of a place, what stands in front of the place and behind it in its chain, and the chains behind
pub record Spot : Type 0 where
  pub before : List (List Entry)
  pub front : List Entry
  pub back : List Entry
  pub behind : List (List Entry)

abbrev flat : List (List Entry) → List Entry
flat chains = flat_map (λ chain. chain) chains

-- the chains with these entries at the place
abbrev pub chains_with : Spot → List Entry → List (List Entry)
chains_with spot middle = spot.before ++ (spot.front ++ (middle ++ spot.back)) ∷ spot.behind

-- all entries but those at the place
abbrev pub others : Spot → List Entry
others spot = spot.front ++ (spot.back ++ (flat spot.before ++ flat spot.behind))

-- the word that links what stands behind these entries, where a place links them
abbrev pub link_of : ℕ → List Entry → ℕ
link_of place [] = place
link_of place (entry ∷ entries) = link_of entry.at entries

-- the word that links what stands at the place
abbrev pub link_at : ℕ → Spot → ℕ
link_at array spot = link_of (array + 8 * length spot.before) spot.front

-- the words from a place on lead along these blocks to an address
abbrev pub Leads : FlatMemory → ℕ → List ℕ → ℕ → Type 0
Leads memory place [] to = word_at memory place ≡ to
Leads memory place (at ∷ blocks) to = (word_at memory place ≡ at) × (0 < at) × Leads memory at blocks to

-- each range apart from these has the bytes that it had
abbrev pub AreSameBeside : FlatMemory → FlatMemory → List Range → Type 0
AreSameBeside old new stored =
    (address n : ℕ) → AllByRecursion (λ (range : Range). AreApart range.at range.size address n) stored
    → bytes_at new.present address n ≡ bytes_at old.present address n

-- the range is no part of a table with these entries, but for the number of pairs: it lies in the heap's fields of the header,
-- or in the heap and apart from the entries' blocks
abbrev pub IsAside : List Entry → Range → Type 0
IsAside rest range = (range.at + range.size ≤ header_at + 144)
    ⊎ ((range ≡ word_range pairs_field)
    ⊎ ((heap_at ≤ range.at)
    × AllByRecursion (λ (entry : Entry). AreApart range.at range.size entry.at (pair_size entry.key entry.value)) rest))

-- ---- the entries

between : {X : Type 0} (xs ms ys : List X) → IsPermutation (xs ++ (ms ++ ys)) (ms ++ (xs ++ ys))
between xs ms ys =
    subst (λ l. IsPermutation l (ms ++ (xs ++ ys))) (append_assoc xs ms ys)
    (subst (IsPermutation ((xs ++ ms) ++ ys)) (append_assoc ms xs ys)
    (IsPermutation-append_left ys (xs ++ ms) (ms ++ xs) (IsPermutation-append_comm xs ms)))

-- all entries, those at the place in front
pub entries_at : (spot : Spot) (middle : List Entry) → IsPermutation (flat (chains_with spot middle)) (middle ++ others spot)
entries_at spot middle =
    let b = flat spot.before in
    let h = flat spot.behind in
    let f = spot.front in
    let k = spot.back in
    let whole : flat (chains_with spot middle) ≡ b ++ (f ++ (middle ++ (k ++ h))) =
    flat_map-append (λ (c : List Entry). c) spot.before ((f ++ (middle ++ k)) ∷ spot.behind)
    ∙ ap (λ l. b ++ l) (append_assoc f (middle ++ k) h ∙ ap (λ l. f ++ l) (append_assoc middle k h)) in
    subst (λ l. IsPermutation l (middle ++ others spot)) (sym whole)
    (IsPermutation-trans _ _ _ (IsPermutation-append_right b _ _ (between f middle (k ++ h)))
    (IsPermutation-trans _ _ _ (between b middle (f ++ (k ++ h)))
    (IsPermutation-trans _ _ _ (IsPermutation-append_right middle _ _ (between b f (k ++ h)))
    (IsPermutation-append_right middle _ _ (IsPermutation-append_right f _ _ (between b k h))))))

chain_here : (before : List (List Entry)) (chain : List Entry) (behind : List (List Entry))
    → get_or (before ++ chain ∷ behind) (length before) [] ≡ chain
chain_here [] chain behind = refl
chain_here (first ∷ before) chain behind = chain_here before chain behind

chain_there : (before : List (List Entry)) (one two : List Entry) (behind : List (List Entry)) (bucket : ℕ)
    → (bucket ≡ length before → ⊥) → get_or (before ++ one ∷ behind) bucket [] ≡ get_or (before ++ two ∷ behind) bucket []
chain_there [] one two behind zero apart = absurd (apart refl)
chain_there [] one two behind (suc bucket) apart = refl
chain_there (first ∷ before) one two behind zero apart = refl
chain_there (first ∷ before) one two behind (suc bucket) apart =
    chain_there before one two behind bucket (λ same. apart (ap suc same))

-- another chain has entries that are not in that of the place
there_all : (P : Entry → Type 0) (before : List (List Entry)) (chain : List Entry) (behind : List (List Entry)) (bucket : ℕ)
    → (bucket ≡ length before → ⊥) → AllByRecursion P (flat before) → AllByRecursion P (flat behind)
    → AllByRecursion P (get_or (before ++ chain ∷ behind) bucket [])
there_all P [] chain behind zero apart one two = absurd (apart refl)
there_all P [] chain behind (suc bucket) apart one two = chain_among P behind bucket two
there_all P (first ∷ before) chain behind zero apart one two = all_left P first (flat before) one
there_all P (first ∷ before) chain behind (suc bucket) apart one two =
    there_all P before chain behind bucket (λ same. apart (ap suc same)) (all_right P first (flat before) one) two

as_many : (before : List (List Entry)) (one two : List Entry) (behind : List (List Entry))
    → length (before ++ one ∷ behind) ≡ length (before ++ two ∷ behind)
as_many before one two behind = length-append before (one ∷ behind) ∙ sym (length-append before (two ∷ behind))

-- ---- the links

-- what holds of a place and of each block in front holds of the link
pub link_among : (P : ℕ → Type 0) (place : ℕ) (front : List Entry) → P place → AllByRecursion (λ (entry : Entry). P entry.at) front
    → P (link_of place front)
link_among P place [] here all = here
link_among P place (entry ∷ front) here all = link_among P entry.at front all.0 all.1

-- the words in front of the link are the same
abbrev AreKept : FlatMemory → FlatMemory → ℕ → List Entry → Type 0
AreKept old new place [] = ⊤
AreKept old new place (entry ∷ front) = (word_at new place ≡ word_at old place) × AreKept old new entry.at front

-- the addresses of entries
abbrev pub addresses : List Entry → List ℕ
addresses entries = map (λ (entry : Entry). entry.at) entries

links_changed : (old new : FlatMemory) (place : ℕ) (front middle other back : List Entry) → AreKept old new place front
    → Leads new (link_of place front) (addresses other) (word_at old (link_of (link_of place front) middle))
    → AllByRecursion (λ (entry : Entry). word_at new entry.at ≡ word_at old entry.at) back
    → Links old place (addresses (front ++ (middle ++ back))) → Links new place (addresses (front ++ (other ++ back)))
links_changed old new place (entry ∷ front) middle other back kept leads same linked =
    (kept.0 ∙ linked.0, linked.1, links_changed old new entry.at front middle other back kept.1 leads same linked.2)
links_changed old new place [] middle other back kept leads same linked = led (link_of place middle) place other leads
    (passed place middle linked)
  where
    passed : (from : ℕ) (gone : List Entry) → Links old from (addresses (gone ++ back)) → Links old (link_of from gone) (addresses back)
    passed from [] linked = linked
    passed from (entry ∷ gone) linked = passed entry.at gone linked.2

    led : (from to : ℕ) (more : List Entry) → Leads new to (addresses more) (word_at old from) → Links old from (addresses back)
        → Links new to (addresses (more ++ back))
    led from to [] leads linked =
        Links-moved old new from to (addresses back) leads
        (map_all (λ at. word_at new at ≡ word_at old at) (λ (entry : Entry). entry.at) back same) linked
    led from to (entry ∷ more) leads linked = (leads.0, leads.1, led from entry.at more leads.2 linked)

-- ---- what lies apart

-- the bytes of an entry's block that are in use lie apart from those of another one
abbrev AreOff : Entry → Entry → Type 0
AreOff one other = AreApart one.at (pair_size one.key one.value) other.at (pair_size other.key other.value)

-- facts on pairs of two lists, by the elements of the other one
pub turned : {X Y : Type 0} (Q : X → Y → Type 0) (xs : List X) (ys : List Y) → AllByRecursion (λ x. AllByRecursion (Q x) ys) xs
    → AllByRecursion (λ y. AllByRecursion (λ x. Q x y) xs) ys
turned Q xs [] all = tt
turned Q xs (y ∷ ys) all = (
  all_mono (λ x. AllByRecursion (Q x) (y ∷ ys)) (λ x. Q x y) xs (λ x one. one.0) all,
  turned Q xs ys (all_mono (λ x. AllByRecursion (Q x) (y ∷ ys)) (λ x. AllByRecursion (Q x) ys) xs (λ x one. one.1) all),
)

entries_right : (front back : List Entry) → ArePairwiseApart (map entry_range (front ++ back)) → ArePairwiseApart (map entry_range back)
entries_right [] back apart = apart
entries_right (entry ∷ front) back apart = entries_right front back apart.1

off_all : (entry : Entry) (rest : List Entry) → AllByRecursion (IsApartFrom (entry_range entry)) (map entry_range rest)
    → AllByRecursion (AreOff entry) rest
off_all entry rest all = all_map (IsApartFrom (entry_range entry)) entry_range rest all

-- entries in front lie apart from those behind
crossed : (front back : List Entry) → ArePairwiseApart (map entry_range (front ++ back))
    → AllByRecursion (λ one. AllByRecursion (AreOff one) back) front
crossed [] back apart = tt
crossed (entry ∷ front) back apart =
    (all_right (AreOff entry) front back (off_all entry (front ++ back) apart.0), crossed front back apart.1)

within : (at size address n other few : ℕ) → AreApart at size address n → address ≤ other → other + few ≤ address + n
    → AreApart at size other few
within at size address n other few (inl low) from to = inl (omega (arith, low, from))
within at size address n other few (inr high) from to = inr (omega (arith, high, to))

word_off : (one other : Entry) → AreOff one other → AreApart one.at 8 other.at (pair_size other.key other.value)
word_off one other (inl low) = inl (omega (arith, low))
word_off one other (inr high) = inr (omega (arith, high))

word_back : (one other : Entry) (address n : ℕ) → AreOff one other → one.at ≤ address
    → address + n ≤ one.at + pair_size one.key one.value → AreApart other.at 8 address n
word_back one other address n (inl low) from to = inr (omega (arith, low, to))
word_back one other address n (inr high) from to = inl (omega (arith, high, from))

-- the link lies apart from each entry that is not in front of it
link_off : (place : ℕ) (front tail : List Entry) → place + 8 ≤ heap_at → AllByRecursion (λ (entry : Entry). heap_at ≤ entry.at) tail
    → ArePairwiseApart (map entry_range (front ++ tail))
    → AllByRecursion (λ (entry : Entry). AreApart (link_of place front) 8 entry.at (pair_size entry.key entry.value)) tail
link_off place front tail low above apart =
    both_hold (λ (entry : Entry). heap_at ≤ entry.at) (λ entry. AllByRecursion (λ one. AreOff one entry) front)
    (λ (entry : Entry). AreApart (link_of place front) 8 entry.at (pair_size entry.key entry.value)) tail
    (λ entry up offs. link_among (λ a. AreApart a 8 entry.at (pair_size entry.key entry.value)) place front (inl (omega (arith, low, up)))
    (all_mono (λ one. AreOff one entry) (λ (one : Entry). AreApart one.at 8 entry.at (pair_size entry.key entry.value)) front
    (λ one off. word_off one entry off) offs))
    above (turned AreOff front tail (crossed front tail apart))

-- and apart from what stands behind the first word of each entry in front
link_beside : (place : ℕ) (front tail : List Entry) → ArePairwiseApart (map entry_range (front ++ tail))
    → AllByRecursion (λ (entry : Entry). AreApart (link_of place front) 8 (entry.at + 8) (8 + length entry.key + length entry.value)) front
link_beside place [] tail apart = tt
link_beside place (entry ∷ front) tail apart = (
  link_among (λ a. AreApart a 8 (entry.at + 8) (8 + length entry.key + length entry.value)) entry.at front (inl (omega arith))
      (all_mono (AreOff entry)
      (λ (other : Entry). AreApart other.at 8 (entry.at + 8) (8 + length entry.key + length entry.value)) front
      (λ other off. word_back entry other (entry.at + 8) (8 + length entry.key + length entry.value) off (omega arith) (omega arith))
      (all_left (AreOff entry) front tail (off_all entry (front ++ tail) apart.0))),
  link_beside entry.at front tail apart.1,
)

-- the bytes within an entry's block, apart from the link, are the same
abbrev CanKeep : FlatMemory → FlatMemory → ℕ → Entry → Type 0
CanKeep old new link entry =
    (address n : ℕ) → entry.at ≤ address → address + n ≤ entry.at + pair_size entry.key entry.value → AreApart link 8 address n
    → bytes_at new.present address n ≡ bytes_at old.present address n

-- so the words in front of the link are
front_kept : (old new : FlatMemory) (place : ℕ) (front tail : List Entry) → ArePairwiseApart (map entry_range (front ++ tail))
    → AllByRecursion (λ (entry : Entry). AreApart entry.at 8 place 8) front
    → (AreApart (link_of place front) 8 place 8 → word_at new place ≡ word_at old place)
    → AllByRecursion (CanKeep old new (link_of place front)) front → AreKept old new place front
front_kept old new place [] tail apart beside first keep = tt
front_kept old new place (entry ∷ front) tail apart beside first keep = (
  first (link_among (λ a. AreApart a 8 place 8) entry.at front beside.0 beside.1),
  front_kept old new entry.at front tail apart.1
      (all_mono (AreOff entry) (λ (other : Entry). AreApart other.at 8 entry.at 8) front
      (λ other off. word_back entry other entry.at 8 off (omega arith) (omega arith))
      (all_left (AreOff entry) front tail (off_all entry (front ++ tail) apart.0)))
      (λ away. ap (big_number 8) (keep.0 entry.at 8 (omega arith) (omega arith) away)) keep.1,
)

-- an entry is held by the bytes behind its first word
held_behind : (old new : FlatMemory) (entry : Entry)
    → bytes_at new.present (entry.at + 8) (8 + length entry.key + length entry.value)
    ≡ bytes_at old.present (entry.at + 8) (8 + length entry.key + length entry.value)
    → Holds old entry → Holds new entry
held_behind old new entry same holds =
    let part : (other n : ℕ) → entry.at + 8 ≤ other → other + n ≤ entry.at + 16 + length entry.key + length entry.value
    → bytes_at new.present other n ≡ bytes_at old.present other n =
    λ other n low high. part_same old.present new.present (entry.at + 8) (8 + length entry.key + length entry.value) other n same low
    (omega (arith, high)) in
    record {
      key_length = ap (big_number 4) (part (entry.at + 8) 4 (omega arith) (omega arith)) ∙ holds.key_length;
      value_length = ap (big_number 4) (part (entry.at + 12) 4 (omega arith) (omega arith)) ∙ holds.value_length;
      key = part (entry.at + 16) (length entry.key) (omega arith) (omega arith) ∙ holds.key;
      value = part (entry.at + 16 + length entry.key) (length entry.value) (omega arith) (omega arith) ∙ holds.value;
      short_key = holds.short_key;
      short_value = holds.short_value;
    }

-- a range that is aside lies apart from each of the entries
aside_off : (rest : List Entry) (range : Range) → AllByRecursion (λ (entry : Entry). heap_at ≤ entry.at) rest → IsAside rest range
    → AllByRecursion (λ (entry : Entry). AreApart range.at range.size entry.at (pair_size entry.key entry.value)) rest
aside_off rest range above (inl head) =
    all_mono (λ (entry : Entry). heap_at ≤ entry.at)
    (λ (entry : Entry). AreApart range.at range.size entry.at (pair_size entry.key entry.value)) rest
    (λ entry up. inl (omega (arith, head, up))) above
aside_off rest range above (inr (inl same)) =
    all_mono (λ (entry : Entry). heap_at ≤ entry.at)
    (λ (entry : Entry). AreApart range.at range.size entry.at (pair_size entry.key entry.value)) rest
    (λ entry up. subst (λ (r : Range). AreApart r.at r.size entry.at (pair_size entry.key entry.value)) (sym same)
    (inl (omega (arith, up)))) above
aside_off rest range above (inr (inr heap)) = heap.1

-- and from what lies in front of the heap and is no field of the heap's
aside_low : (rest : List Entry) (address n : ℕ) (range : Range) → header_at + 144 ≤ address → address + n ≤ heap_at
    → AreApart pairs_field 8 address n → IsAside rest range → AreApart range.at range.size address n
aside_low rest address n range low high apart (inl head) = inl (omega (arith, head, low))
aside_low rest address n range low high apart (inr (inl same)) =
    subst (λ (r : Range). AreApart r.at r.size address n) (sym same) apart
aside_low rest address n range low high apart (inr (inr heap)) = inr (omega (arith, heap.0, high))

-- ---- the store

-- a store by its array, a place in its chains and its heap
abbrev pub store_with : ℕ → Spot → List Entry → Heap → Store
store_with array spot middle heap = record { table = record { array = array; chains = chains_with spot middle }; heap = heap }

fronts_of : (memory : FlatMemory) (rest : List Entry) → AllByRecursion (Holds memory) rest
    → AllZip IsFrontOf (map entry_range rest) (map block_range (map entry_block rest))
fronts_of memory [] held = tt
fronts_of memory (entry ∷ rest) held =
    let short : pair_size entry.key entry.value ≤ 2097152 = omega (arith, held.0.short_key, held.0.short_value) in
    ((refl, class_of-holds (pair_size entry.key entry.value) short), fronts_of memory rest held.1)

-- the entries of a store lie in the heap, in any order
pub entries_above : (memory : FlatMemory) (store : Store) (of : Pairs) (rest : List Entry) → IsStore memory store of
    → IsPermutation (entries_of store.table) rest → AllByRecursion (λ (entry : Entry). heap_at ≤ entry.at) rest
entries_above memory store of rest is same =
    all_permuted (λ (entry : Entry). heap_at ≤ entry.at) (entries_of store.table) rest same
    (all_mono (λ (entry : Entry). LiesIn heap_at store.heap.top (entry_block entry)) (λ (entry : Entry). heap_at ≤ entry.at)
    (entries_of store.table) (λ entry lies. lies.0)
    (all_map (LiesIn heap_at store.heap.top) entry_block (entries_of store.table)
    (all_permuted (LiesIn heap_at store.heap.top) store.heap.used (map entry_block (entries_of store.table)) is.used
    (all_left (LiesIn heap_at store.heap.top) store.heap.used (flat_map (free_of store.heap) classes)
    (blocks_within memory store.heap is.heap)))))

-- the blocks of a heap: the free ones, and those of the entries in any order
pub blocks_by : (memory : FlatMemory) (store : Store) (of : Pairs) (rest : List Entry) (is : IsStore memory store of)
    → IsPermutation (entries_of store.table) rest
    → IsPermutation is.heap.order (flat_map (free_of store.heap) classes ++ map entry_block rest)
blocks_by memory store of rest is same =
    let free = flat_map (free_of store.heap) classes in
    IsPermutation-trans _ _ _ is.heap.same
    (IsPermutation-trans _ _ _ (IsPermutation-append_comm store.heap.used free)
    (IsPermutation-trans _ _ _ (IsPermutation-append_right free store.heap.used (map entry_block (entries_of store.table)) is.used)
    (IsPermutation-append_right free (map entry_block (entries_of store.table)) (map entry_block rest)
    (IsPermutation-map entry_block (entries_of store.table) rest same))))

-- and lie apart from each other
pub entries_apart : (memory : FlatMemory) (store : Store) (of : Pairs) (rest : List Entry) → IsStore memory store of
    → IsPermutation (entries_of store.table) rest → ArePairwiseApart (map entry_range rest)
entries_apart memory store of rest is same =
    fronts_apart (map entry_range rest) (map block_range (map entry_block rest))
    (fronts_of memory rest
    (all_permuted (Holds memory) (entries_of store.table) rest same
    (recursion_from_All (Holds memory) (entries_of store.table) is.table.held)))
    (blocks_apart is.heap.order (flat_map (free_of store.heap) classes) (map entry_block rest) heap_at store.heap.top is.heap.fill
    (blocks_by memory store of rest is same))

words_off : (array one two : ℕ) → (one ≡ two → ⊥) → AreApart (array + 8 * two) 8 (array + 8 * one) 8
words_off array one two apart = grind arith

-- other entries at a place of a chain, in a memory of which one knows the link, what was stored and that all else is the same
changed : (old new : FlatMemory) (array : ℕ) (spot : Spot) (middle other : List Entry) (gone heap : Heap) (of to : Pairs)
    (aside : List Range) → IsStore old (store_with array spot middle gone) of → new.areas ≡ old.areas
    → AreSameBeside old new (word_range (link_at array spot) ∷ aside) → AllByRecursion (IsAside (others spot)) aside
    → Leads new (link_at array spot) (addresses other) (word_at old (link_of (link_at array spot) middle))
    → word_at new pairs_field ≡ length (other ++ others spot) → AllByRecursion (Holds new) other
    → AllByRecursion (λ (entry : Entry). hash_of entry.key % length (chains_with spot middle) ≡ length spot.before) other
    → IsHeap new heap → IsPermutation heap.used (map entry_block (other ++ others spot))
    → IsPermutation (map entry_pair (other ++ others spot)) (entries to)
    → IsStore new (store_with array spot other heap) to
changed old new array spot middle other gone heap of to aside is areas same asides leads pairs held_other hashed_other heap_is used
    ends_pairs =
    let before = spot.before in
    let front = spot.front in
    let behind = spot.behind in
    let rest = others spot in
    let tail = spot.back ++ (flat before ++ flat behind) in
    let place = array + 8 * length before in
    let link = link_of place front in
    let was = front ++ (middle ++ spot.back) in
    let will = front ++ (other ++ spot.back) in
    let store = store_with array spot middle gone in
    let chains = chains_with spot middle in
    let chains_then = chains_with spot other in
    let table = is.table in
    let ends = array_between store.table table.doubled.0 table.doubled.1 in
    let order = entries_at spot middle in
    let then = IsPermutation-sym _ _ (entries_at spot other) in
    let above = all_right (λ (entry : Entry). heap_at ≤ entry.at) middle rest (entries_above old store of (middle ++ rest) is order) in
    let apart = entries_right middle rest (entries_apart old store of (middle ++ rest) is order) in
    let held = all_right (Holds old) middle rest
    (all_permuted (Holds old) (flat chains) (middle ++ rest) order (recursion_from_All (Holds old) (flat chains) table.held)) in
    let inside : length before < length chains = omega (arith, length-append before (was ∷ behind)) in
    let low : place + 8 ≤ heap_at = omega (arith, ends.1, inside) in
    let above_front = all_left (λ (entry : Entry). heap_at ≤ entry.at) front tail above in
    let link_up : array_a ≤ link = link_among (λ a. array_a ≤ a) place front (omega (arith, ends.0))
    (all_mono (λ (entry : Entry). heap_at ≤ entry.at) (λ (entry : Entry). array_a ≤ entry.at) front (λ entry up. omega (arith, up))
    above_front) in
    let low_same : (address n : ℕ) → header_at + 144 ≤ address → address + n ≤ heap_at → AreApart pairs_field 8 address n
    → AreApart link 8 address n → bytes_at new.present address n ≡ bytes_at old.present address n =
    λ address n from to off away. same address n (
      away,
      all_mono (IsAside rest) (λ (r : Range). AreApart r.at r.size address n) aside
          (λ r one. aside_low rest address n r from to off one) asides,
    ) in
    let header_same : (address n : ℕ) → header_at + 144 ≤ address → address + n ≤ array_a → AreApart pairs_field 8 address n
    → bytes_at new.present address n ≡ bytes_at old.present address n =
    λ address n from to off. low_same address n from (omega (arith, to)) off (inr (omega (arith, to, link_up))) in
    let word_same : (p : ℕ) → array_a ≤ p → p + 8 ≤ heap_at → AreApart link 8 p 8 → word_at new p ≡ word_at old p =
    λ p from to away. ap (big_number 8) (low_same p 8 (omega (arith, from)) to (inl (omega (arith, from))) away) in
    let keep : AllByRecursion (CanKeep old new link) rest =
    all_mono
    (λ (entry : Entry). AllByRecursion (λ (r : Range). AreApart r.at r.size entry.at (pair_size entry.key entry.value)) aside)
    (CanKeep old new link) rest
    (λ entry offs address n from to away. same address n (
      away,
      all_mono (λ (r : Range). AreApart r.at r.size entry.at (pair_size entry.key entry.value))
          (λ (r : Range). AreApart r.at r.size address n) aside
          (λ r off. within r.at r.size entry.at (pair_size entry.key entry.value) address n off from to) offs,
    ))
    (turned (λ (r : Range) (entry : Entry). AreApart r.at r.size entry.at (pair_size entry.key entry.value)) aside rest
    (all_mono (IsAside rest)
    (λ (r : Range). AllByRecursion (λ (entry : Entry). AreApart r.at r.size entry.at (pair_size entry.key entry.value)) rest)
    aside (λ r one. aside_off rest r above one) asides)) in
    let keep_front = all_left (CanKeep old new link) front tail keep in
    let keep_tail = all_right (CanKeep old new link) front tail keep in
    let off_tail = link_off place front tail low (all_right (λ (entry : Entry). heap_at ≤ entry.at) front tail above) apart in
    let Off : Entry → Type 0 = λ entry. AreApart link 8 entry.at (pair_size entry.key entry.value) in
    let Beside : Entry → Type 0 = λ entry. AreApart link 8 (entry.at + 8) (8 + length entry.key + length entry.value) in
    let Word : Entry → Type 0 = λ entry. word_at new entry.at ≡ word_at old entry.at in
    let Body : Entry → Type 0 = λ entry. bytes_at new.present (entry.at + 8) (8 + length entry.key + length entry.value)
    ≡ bytes_at old.present (entry.at + 8) (8 + length entry.key + length entry.value) in
    let words_tail : AllByRecursion Word tail = both_hold Off (CanKeep old new link) Word tail
    (λ entry off can. ap (big_number 8) (can entry.at 8 (omega arith) (omega arith)
    (within link 8 entry.at (pair_size entry.key entry.value) entry.at 8 off (omega arith) (omega arith)))) off_tail keep_tail in
    let bodies_tail : AllByRecursion Body tail = both_hold Off (CanKeep old new link) Body tail
    (λ entry off can. can (entry.at + 8) (8 + length entry.key + length entry.value) (omega arith) (omega arith)
    (within link 8 entry.at (pair_size entry.key entry.value) (entry.at + 8) (8 + length entry.key + length entry.value) off
    (omega arith) (omega arith))) off_tail keep_tail in
    let bodies_front : AllByRecursion Body front = both_hold Beside (CanKeep old new link) Body front
    (λ entry off can. can (entry.at + 8) (8 + length entry.key + length entry.value) (omega arith) (omega arith) off)
    (link_beside place front tail apart) keep_front in
    let held_rest : AllByRecursion (Holds new) rest = both_hold Body (Holds old) (Holds new) rest (held_behind old new)
    (all_both Body front tail bodies_front bodies_tail) held in
    let kept : AreKept old new place front = front_kept old new place front tail apart
    (all_mono (λ (entry : Entry). heap_at ≤ entry.at) (λ (entry : Entry). AreApart entry.at 8 place 8) front
    (λ entry up. inr (omega (arith, up, low))) above_front)
    (λ away. word_same place (omega (arith, ends.0)) low away) keep_front in
    let linked_here : Links new place (addresses will) = links_changed old new place front middle other spot.back kept leads
    (all_left Word spot.back (flat before ++ flat behind) words_tail)
    (subst (λ c. Links old place (addresses c)) (chain_here before was behind) (table.linked (length before) inside)) in
    let words_away = all_right Word spot.back (flat before ++ flat behind) words_tail in
    let count : length chains_then ≡ length chains = as_many before will was behind in
    let HashedAt : ℕ → ℕ → Entry → Type 0 = λ n bucket entry. hash_of entry.key % n ≡ bucket in
    let hashed_was : AllByRecursion (HashedAt (length chains) (length before)) was =
    subst (AllByRecursion (HashedAt (length chains) (length before))) (chain_here before was behind)
    (recursion_from_All _ _ (table.hashed (length before) inside)) in
    let Hashed = HashedAt (length chains) (length before) in
    let hashed_here : AllByRecursion Hashed will = all_both Hashed front (other ++ spot.back)
    (all_left Hashed front (middle ++ spot.back) hashed_was)
    (all_both Hashed other spot.back hashed_other
    (all_right Hashed middle spot.back (all_right Hashed front (middle ++ spot.back) hashed_was))) in
    record {
      table = record {
        areas = areas ∙ table.areas ∙ ap (store_areas array) (sym count);
        array = ap (big_number 8) (header_same array_field 8 (omega arith) (omega arith) (inr (omega arith))) ∙ table.array;
        buckets =
            ap (big_number 8) (header_same buckets_field 8 (omega arith) (omega arith) (inr (omega arith))) ∙ table.buckets ∙ sym count;
        pairs = pairs ∙ length_permutation (flat chains_then) (other ++ rest) (entries_at spot other);
        rest = header_same (header_at + 168) 3928 (omega arith) (omega arith) (inl (omega arith)) ∙ table.rest;
        doubled = (
          table.doubled.0,
          record {
            buckets = count ∙ table.doubled.1.buckets;
            few = table.doubled.1.few;
            region = table.doubled.1.region;
          },
        );
        linked = λ bucket under. elim (cases_eq bucket (length before)) [
          | inl here ↦ subst (λ b. Links new (array + 8 * b) (addresses (get_or chains_then b []))) (sym here)
              (subst (λ c. Links new place (addresses c)) (sym (chain_here before will behind)) linked_here)
          | inr away ↦ Links-kept old new (array + 8 * bucket) (addresses (get_or chains_then bucket []))
              (word_same (array + 8 * bucket) (omega (arith, ends.0)) (omega (arith, ends.1, under, count))
              (link_among (λ a. AreApart a 8 (array + 8 * bucket) 8) place front (words_off array bucket (length before) away)
              (all_mono (λ (entry : Entry). heap_at ≤ entry.at) (λ (entry : Entry). AreApart entry.at 8 (array + 8 * bucket) 8) front
              (λ entry up. inr (omega (arith, up, ends.1, under, count))) above_front)))
              (map_all (λ at. word_at new at ≡ word_at old at) (λ (entry : Entry). entry.at) (get_or chains_then bucket [])
              (there_all Word before will behind bucket away (all_left Word (flat before) (flat behind) words_away)
              (all_right Word (flat before) (flat behind) words_away)))
              (subst (λ c. Links old (array + 8 * bucket) (addresses c)) (chain_there before was will behind bucket away)
              (table.linked bucket (omega (arith, under, count))))
        ];
        hashed = λ bucket under. subst (λ n. All (HashedAt n bucket) (get_or chains_then bucket [])) (sym count)
            (elim (cases_eq bucket (length before)) [
              | inl here ↦ subst (λ b. All (HashedAt (length chains) b) (get_or chains_then b [])) (sym here)
                  (subst (All Hashed) (sym (chain_here before will behind)) (All-from_recursion Hashed will hashed_here))
              | inr away ↦ subst (All (HashedAt (length chains) bucket)) (chain_there before was will behind bucket away)
                  (table.hashed bucket (omega (arith, under, count)))
            ]);
        held = All-from_recursion (Holds new) (flat chains_then)
            (all_permuted (Holds new) (other ++ rest) (flat chains_then) then (all_both (Holds new) other rest held_other held_rest));
      };
      heap = heap_is;
      used = IsPermutation-trans heap.used (map entry_block (other ++ rest)) (map entry_block (flat chains_then)) used
          (IsPermutation-map entry_block (other ++ rest) (flat chains_then) then);
      pairs = IsPermutation-trans (map entry_pair (flat chains_then)) (map entry_pair (other ++ rest)) (entries to)
          (IsPermutation-map entry_pair (flat chains_then) (other ++ rest) (entries_at spot other)) ends_pairs;
    }

-- the same of a store whose chains are given by an equation
pub changes : (old new : FlatMemory) (store : Store) (of to : Pairs) (spot : Spot) (middle other : List Entry) (heap : Heap)
    (aside : List Range) → IsStore old store of → store.table.chains ≡ chains_with spot middle → new.areas ≡ old.areas
    → AreSameBeside old new (word_range (link_at store.table.array spot) ∷ aside) → AllByRecursion (IsAside (others spot)) aside
    → Leads new (link_at store.table.array spot) (addresses other)
    (word_at old (link_of (link_at store.table.array spot) middle))
    → word_at new pairs_field ≡ length (other ++ others spot) → AllByRecursion (Holds new) other
    → AllByRecursion (λ (entry : Entry). hash_of entry.key % length store.table.chains ≡ length spot.before) other
    → IsHeap new heap → IsPermutation heap.used (map entry_block (other ++ others spot))
    → IsPermutation (map entry_pair (other ++ others spot)) (entries to)
    → IsStore new (store_with store.table.array spot other heap) to
changes old new store of to spot middle other heap aside is chains areas same asides leads pairs held hashed heap_is used ends =
    changed old new store.table.array spot middle other store.heap heap of to aside
    (subst (λ c. IsStore old (record { table = record { array = store.table.array; chains = c }; heap = store.heap }) of) chains is)
    areas same asides leads pairs held
    (subst (λ (c : List (List Entry)). AllByRecursion (λ (entry : Entry). hash_of entry.key % length c ≡ length spot.before) other)
    chains hashed)
    heap_is used ends
