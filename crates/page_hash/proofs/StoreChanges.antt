-- What a remove and each kind of put make of a store: one entry less, one more in front, and another one in the place of one.
use Rattle.std.proofs.Common.{◌≡◌, ℕ, zero, suc, ◌+◌, ◌*◌, ◌%◌, ◌^◌, ◌<◌, ◌≤◌, false, cond, not, List, [], ◌∷◌, ◌++◌, length, map, get_or, set, Some, None, is_some, refl, sym, ◌∙◌, ap, ap₂, subst, arith, inl, inr, IsPermutation, Contains, pow_pos, mod-lt}
use Rattle.std.specs.Prelude.{unwrap_or}
use Rattle.std.specs.Option.{option_map}
use Rattle.std.specs.Str.{bytes_eq}
use Rattle.std.specs.List.{AllByRecursion, flat_map}
use Rattle.std.specs.FinMap.{entries, insert, remove}
use Rattle.std.proofs.lemmas.Bool.{cases_Bool, cond-true, cond-false, false≢true}
use Rattle.std.proofs.lemmas.List.Elements.{recursion_from_All}
use Rattle.std.proofs.lemmas.List.Sorted.{IsPermutation-refl, IsPermutation-sym, IsPermutation-trans, IsPermutation-cons, IsPermutation-middle, IsPermutation-map, IsPermutation-append_left, Contains-permutation, length_permutation}
use Rattle.std.proofs.lemmas.Slice.Eq.{bytes_eq-Decides}
use Rattle.byteorder.specs.Endian.{big_number}
use Rattle.vm_base.specs.FlatMemory.{FlatMemory}
use Rattle.vm_base.specs.FlatLaws.{AreApart}
use Rattle.store_meaning.specs.Layout.{header_at, pairs_field, list_field, classes, word_at}
use Rattle.store_meaning.specs.HeapLayout.{Block, IsHeap, Links, block_bytes, free_of, next_at, committed, freed}
use Rattle.store_meaning.specs.HashLayout.{Entry, Store, Pairs, Holds, IsStore, hash_of, pair_size, pair_class, entry_block, entry_pair, chain_of, entries_of}
use Rattle.store_meaning.specs.StoreSteps.{bucket_of, entry_in, entry_for, with_entry, without_key, with_chain, next_entry, with_new, with_value, with_moved, removed_by}
use Rattle.store_meaning.specs.Owned.{Range, word_range, entry_range}
use Rattle.store_meaning.proofs.Lists.{all_left, all_right, all_map, all_permuted, class_within}
use Rattle.store_meaning.proofs.HeapSteps.{KeepsPages, class_bytes}
use Rattle.store_meaning.proofs.OwnedApart.{class_of-holds}
use Rattle.store_meaning.proofs.TableSteps.{Spot, chains_with, others, entries_at, entries_above, link_at, link_of, AreSameBeside, IsAside, addresses, changes}
use Rattle.store_meaning.proofs.HeapBeside.{heap_beside, in_use_beside, aside_of_middle, aside_of_next, next_off, link_off_middle, used_in_store, freed_used, committed_used}
use Rattle.page_hash.proofs.MapEntries.{get_entry}
use Rattle.page_hash.proofs.MapSteps.{insert_new, removed_one, replaced_one, other_keys}

-- ---- the place of an entry

-- no entry has the key
abbrev pub Lack : List ℕ → List Entry → Type 0
Lack key = AllByRecursion (λ (entry : Entry). entry.key ≡ key → ⊥)

-- the entry is that of the key, and this is its place
pub record IsSpot (store : Store) (key : List ℕ) (entry : Entry) (spot : Spot) : Type 0 where
  pub chains : store.table.chains ≡ chains_with spot (entry ∷ [])
  pub bucket : length spot.before ≡ bucket_of store.table key
  pub inside : length spot.before < length store.table.chains
  pub named : entry.key ≡ key
  pub front : Lack key spot.front
  pub back : Lack key spot.back

not_key : (key : List ℕ) (entry : Entry) → (entry.key ≡ key → ⊥) → bytes_eq entry.key key ≡ false
not_key key entry apart = elim (cases_Bool (bytes_eq entry.key key)) [
  | inl here ↦ absurd (apart ((bytes_eq-Decides entry.key key).0 here))
  | inr past ↦ past
]

-- the entry that is found stands behind others of other keys
pub found_split : (key : List ℕ) (chain : List Entry) (entry : Entry) → entry_in chain key ≡ Some entry
    → (front : List Entry) × ((back : List Entry) × ((chain ≡ front ++ entry ∷ back) × ((entry.key ≡ key) × Lack key front)))
found_split key [] entry found = absurd (false≢true (ap is_some found))
found_split key (first ∷ chain) entry found = elim (cases_Bool (bytes_eq first.key key)) [
  | inl here ↦
      let same : first ≡ entry =
      ap (λ o. unwrap_or o first) (sym (cond-true (bytes_eq first.key key) (Some first) (entry_in chain key) here) ∙ found) in
      ([], (chain, (ap (λ e. e ∷ chain) same, (subst (λ (e : Entry). e.key ≡ key) same ((bytes_eq-Decides first.key key).0 here), tt))))
  | inr past ↦
      let later = found_split key chain entry
      (sym (cond-false (bytes_eq first.key key) (Some first) (entry_in chain key) past) ∙ found) in (
        first ∷ later.0,
        (
          later.1.0,
          (
            ap (λ l. first ∷ l) later.1.1.0,
            (
              later.1.1.1.0,
              ((λ same. false≢true (sym past ∙ (bytes_eq-Decides first.key key).1 same)), later.1.1.1.1),
            ),
          ),
        ),
      )
]

-- the chains around that of a bucket
pub chains_split : (chains : List (List Entry)) (bucket : ℕ) → bucket < length chains
    → (before : List (List Entry)) × ((behind : List (List Entry))
    × ((chains ≡ before ++ get_or chains bucket [] ∷ behind) × (length before ≡ bucket)))
chains_split [] bucket inside = absurd (omega (arith, inside))
chains_split (chain ∷ chains) zero inside = ([], (chains, (refl, refl)))
chains_split (chain ∷ chains) (suc bucket) inside =
    let later = chains_split chains bucket (omega (arith, inside)) in
    (chain ∷ later.0, (later.1.0, (ap (λ l. chain ∷ l) later.1.1.0, ap suc later.1.1.1)))

set_here : (before : List (List Entry)) (one two : List Entry) (behind : List (List Entry))
    → set (before ++ one ∷ behind) (length before) two ≡ before ++ two ∷ behind
set_here [] one two behind = refl
set_here (first ∷ before) one two behind = ap (λ l. first ∷ l) (set_here before one two behind)

-- the chain between them is read at its place
pub read_here : (before : List (List Entry)) (one : List Entry) (behind : List (List Entry))
    → get_or (before ++ one ∷ behind) (length before) [] ≡ one
read_here [] one behind = refl
read_here (first ∷ before) one behind = read_here before one behind

-- a bucket is one of the table
pub bucket_inside : (memory : FlatMemory) (store : Store) (of : Pairs) (key : List ℕ) → IsStore memory store of
    → bucket_of store.table key < length store.table.chains
bucket_inside memory store of key is =
    let doubled = is.table.doubled.1 in
    mod-lt (hash_of key) (omega (arith, doubled.buckets, pow_pos is.table.doubled.0))

-- the place of the entry of a key
pub find_spot : (memory : FlatMemory) (store : Store) (of : Pairs) (key : List ℕ) (entry : Entry) → IsStore memory store of
    → entry_for store key ≡ Some entry → (spot : Spot) × IsSpot store key entry spot
find_spot memory store of key entry is found =
    let bucket = bucket_of store.table key in
    let inside = bucket_inside memory store of key is in
    let around = chains_split store.table.chains bucket inside in
    let chain = found_split key (chain_of store.table bucket) entry found in
    let spot : Spot = record { before = around.0; front = chain.0; back = chain.1.0; behind = around.1.0 } in
    let chains : store.table.chains ≡ chains_with spot (entry ∷ []) =
    around.1.1.0 ∙ ap (λ c. around.0 ++ c ∷ around.1.0) chain.1.1.0 in
    let order : IsPermutation (entries_of store.table) (entry ∷ others spot) =
    subst (λ (c : List (List Entry)). IsPermutation (flat_map (λ (l : List Entry). l) c) (entry ∷ others spot)) (sym chains)
    (entries_at spot (entry ∷ [])) in
    let pairs : IsPermutation ((entry.key, entry.value) ∷ map entry_pair (others spot)) (entries of) =
    IsPermutation-trans _ _ _ (IsPermutation-sym _ _ (IsPermutation-map entry_pair (entries_of store.table) (entry ∷ others spot) order))
    is.pairs in
    let lack : Lack key (others spot) =
    all_map (λ (p : List ℕ × List ℕ). p.0 ≡ key → ⊥) entry_pair (others spot)
    (subst (λ k. AllByRecursion (λ (p : List ℕ × List ℕ). p.0 ≡ k → ⊥) (map entry_pair (others spot))) chain.1.1.1.0
    (other_keys of entry.key entry.value (map entry_pair (others spot)) pairs)) in (
      spot,
      record {
        chains = chains;
        bucket = around.1.1.1;
        inside = omega (arith, inside, around.1.1.1);
        named = chain.1.1.1.0;
        front = chain.1.1.1.1;
        back = all_left (λ (e : Entry). e.key ≡ key → ⊥) spot.back _ (all_right (λ (e : Entry). e.key ≡ key → ⊥) spot.front _ lack);
      },
    )

-- ---- the chains of each step

-- a table with another chain at the place
pub with_chain-at : (store : Store) (key : List ℕ) (entry : Entry) (spot : Spot) (change : List Entry → List Entry)
    → IsSpot store key entry spot
    → (with_chain store.table key change).chains ≡ spot.before ++ change (spot.front ++ entry ∷ spot.back) ∷ spot.behind
with_chain-at store key entry spot change is =
    let chain = spot.front ++ entry ∷ spot.back in
    ap (λ b. set store.table.chains b (change (get_or store.table.chains b []))) (sym is.bucket)
    ∙ ap (λ c. set c (length spot.before) (change (get_or c (length spot.before) []))) is.chains
    ∙ ap (λ c. set (spot.before ++ chain ∷ spot.behind) (length spot.before) (change c)) (read_here spot.before chain spot.behind)
    ∙ set_here spot.before chain (change chain) spot.behind

kept_entries : (entry : Entry) (rest : List Entry) → Lack entry.key rest → with_entry entry rest ≡ rest
kept_entries entry [] lack = refl
kept_entries entry (first ∷ rest) lack =
    ap₂ (λ e l. e ∷ l) (cond-false (bytes_eq first.key entry.key) entry first (not_key entry.key first lack.0))
    (kept_entries entry rest lack.1)

-- another entry in the place of that of its key
pub with_entry-at : (entry other : Entry) (front back : List Entry) → entry.key ≡ other.key → Lack other.key front → Lack other.key back
    → with_entry other (front ++ entry ∷ back) ≡ front ++ other ∷ back
with_entry-at entry other [] back same ahead behind =
    ap₂ (λ e l. e ∷ l) (cond-true (bytes_eq entry.key other.key) other entry ((bytes_eq-Decides entry.key other.key).1 same))
    (kept_entries other back behind)
with_entry-at entry other (first ∷ front) back same ahead behind =
    ap₂ (λ e l. e ∷ l) (cond-false (bytes_eq first.key other.key) other first (not_key other.key first ahead.0))
    (with_entry-at entry other front back same ahead.1 behind)

kept_without : (key : List ℕ) (rest : List Entry) → Lack key rest → without_key key rest ≡ rest
kept_without key [] lack = refl
kept_without key (first ∷ rest) lack =
    ap (λ b. cond (not b) (first ∷ without_key key rest) (without_key key rest)) (not_key key first lack.0)
    ∙ ap (λ l. first ∷ l) (kept_without key rest lack.1)

-- the entry of a key taken out
pub without_key-at : (key : List ℕ) (entry : Entry) (front back : List Entry) → entry.key ≡ key → Lack key front → Lack key back
    → without_key key (front ++ entry ∷ back) ≡ front ++ back
without_key-at key entry [] back same ahead behind =
    ap (λ b. cond (not b) (entry ∷ without_key key back) (without_key key back)) ((bytes_eq-Decides entry.key key).1 same)
    ∙ kept_without key back behind
without_key-at key entry (first ∷ front) back same ahead behind =
    ap (λ b. cond (not b) (first ∷ without_key key (front ++ entry ∷ back)) (without_key key (front ++ entry ∷ back)))
    (not_key key first ahead.0)
    ∙ ap (λ l. first ∷ l) (without_key-at key entry front back same ahead.1 behind)

-- ---- what a step leaves

-- the entries beside that of the place
pub pairs_beside : (memory : FlatMemory) (store : Store) (of : Pairs) (spot : Spot) (middle : List Entry) → IsStore memory store of
    → store.table.chains ≡ chains_with spot middle → IsPermutation (map entry_pair (middle ++ others spot)) (entries of)
pairs_beside memory store of spot middle is chains =
    IsPermutation-trans _ _ _ (IsPermutation-sym _ _ (IsPermutation-map entry_pair (entries_of store.table) (middle ++ others spot)
    (subst (λ (c : List (List Entry)). IsPermutation (flat_map (λ (l : List Entry). l) c) (middle ++ others spot)) (sym chains)
    (entries_at spot middle)))) is.pairs

-- how many there are
pub count_beside : (memory : FlatMemory) (store : Store) (of : Pairs) (spot : Spot) (middle : List Entry) → IsStore memory store of
    → store.table.chains ≡ chains_with spot middle → word_at memory pairs_field ≡ length (middle ++ others spot)
count_beside memory store of spot middle is chains =
    is.table.pairs ∙ ap (λ (c : List (List Entry)). length (flat_map (λ (l : List Entry). l) c)) chains
    ∙ sym (length_permutation _ _ (entries_at spot middle))

-- the key's hash belongs to the place's bucket
pub hashed_at : (store : Store) (key : List ℕ) (entry : Entry) (spot : Spot) → IsSpot store key entry spot
    → hash_of key % length store.table.chains ≡ length spot.before
hashed_at store key entry spot is = sym is.bucket

in_header : (rest : List Entry) (class : ℕ) → Contains classes class → IsAside rest (word_range (list_field class))
in_header rest class in_classes = inl (omega (arith, (class_within class in_classes).0, (class_within class in_classes).1))

-- the class of an entry's block is one of the classes
pub class_of-entry : (memory : FlatMemory) (store : Store) (of : Pairs) (spot : Spot) (entry : Entry) → IsStore memory store of
    → store.table.chains ≡ chains_with spot (entry ∷ []) → Contains classes (pair_class entry.key entry.value)
class_of-entry memory store of spot entry is chains =
    (all_permuted (λ (b : Block). Contains classes b.class) is.heap.order (entry_block entry ∷ (map entry_block (others spot) ++ free))
    (IsPermutation-trans _ _ _ is.heap.same (IsPermutation-append_left free store.heap.used _
    (used_in_store memory store of spot entry is chains)))
    (recursion_from_All (λ (b : Block). Contains classes b.class) is.heap.order is.heap.classed)).0
  where
    free : List Block
    free = flat_map (free_of store.heap) classes

class_some : (class : ℕ) → Contains classes class → 8 ≤ 2 ^ class
class_some class in_classes = omega (arith, class_bytes class in_classes)

-- the entry of a key is taken out: the link names the next block, the block is given back, and there is one pair less
pub removes : (old new : FlatMemory) (store : Store) (of : Pairs) (key : List ℕ) (entry : Entry) (spot : Spot)
    → IsStore old store of → IsSpot store key entry spot → new.areas ≡ old.areas
    → AreSameBeside old new (word_range (link_at store.table.array spot) ∷ word_range entry.at
    ∷ word_range (list_field (pair_class entry.key entry.value)) ∷ word_range pairs_field ∷ [])
    → word_at new (link_at store.table.array spot) ≡ word_at old entry.at
    → word_at new pairs_field + 1 ≡ word_at old pairs_field
    → IsHeap new (freed store.heap entry.at (pair_class entry.key entry.value))
    → IsStore new (removed_by store key (Some entry)) (remove of key)
removes old new store of key entry spot is at areas same link count heap =
    let class = pair_class entry.key entry.value in
    let in_classes = class_of-entry old store of spot entry is at.chains in
    let pairs = pairs_beside old store of spot (entry ∷ []) is at.chains in
    let result : (with_chain store.table key (without_key key)).chains ≡ chains_with spot [] =
    with_chain-at store key entry spot (without_key key) at
    ∙ ap (λ c. spot.before ++ c ∷ spot.behind) (without_key-at key entry spot.front spot.back at.named at.front at.back) in
    subst (λ (c : List (List Entry)). IsStore new (record {
      table = record { array = store.table.array; chains = c };
      heap = freed store.heap entry.at class;
    }) (remove of key)) (sym result)
    (changes old new store of (remove of key) spot (entry ∷ []) [] (freed store.heap entry.at class)
    (word_range entry.at ∷ word_range (list_field class) ∷ word_range pairs_field ∷ []) is at.chains areas same (
      aside_of_middle old store of spot entry (word_range entry.at) is at.chains (omega arith)
          (omega (arith, class_some class in_classes)),
      (in_header (others spot) class in_classes, (inr (inl refl), tt)),
    )
    link (omega (arith, count, count_beside old store of spot (entry ∷ []) is at.chains)) tt tt heap
    (freed_used old store.heap (entry_block entry) (map entry_block (others spot)) is.heap
    (used_in_store old store of spot entry is at.chains))
    (subst (λ k. IsPermutation (map entry_pair (others spot)) (entries (remove of k))) at.named
    (removed_one of entry.key entry.value (map entry_pair (others spot)) pairs)))

-- the block of a pair has room for it
pub class_room : (memory : FlatMemory) (entry : Entry) → Holds memory entry
    → pair_size entry.key entry.value ≤ 2 ^ pair_class entry.key entry.value
class_room memory entry holds =
    class_of-holds (pair_size entry.key entry.value) (omega (arith, holds.short_key, holds.short_value))

-- another block in the place of the one of a key: the link names it, it names the one behind, and the old one is given back
pub moves : (old middle new : FlatMemory) (store : Store) (of : Pairs) (key value : List ℕ) (entry : Entry) (spot : Spot) (top : ℕ)
    → IsStore old store of → IsSpot store key entry spot → new.areas ≡ old.areas → top + 8 ≤ header_at + 144
    → Contains classes (pair_class entry.key value)
    → AreSameBeside old new (word_range (link_at store.table.array spot) ∷ word_range top
    ∷ entry_range (next_entry store entry.key value) ∷ word_range entry.at
    ∷ word_range (list_field (pair_class entry.key entry.value)) ∷ [])
    → word_at new (link_at store.table.array spot) ≡ next_at store.heap (pair_class entry.key value)
    → word_at new (next_at store.heap (pair_class entry.key value)) ≡ word_at old entry.at
    → word_at new pairs_field ≡ word_at old pairs_field → Holds new (next_entry store entry.key value)
    → IsHeap middle (committed store.heap (pair_class entry.key value))
    → IsHeap new (freed (committed store.heap (pair_class entry.key value)) entry.at (pair_class entry.key entry.value))
    → IsStore new (with_moved store entry value) (insert of key value)
moves old middle new store of key value entry spot top is at areas below in_next same link next count holds taken heap =
    let class = pair_class entry.key entry.value in
    let class_then = pair_class entry.key value in
    let other = next_entry store entry.key value in
    let in_classes = class_of-entry old store of spot entry is at.chains in
    let pairs = pairs_beside old store of spot (entry ∷ []) is at.chains in
    let up = (next_off old store of (entries_of store.table) class_then (store.heap.free class_then) is
    (IsPermutation-refl _) in_next refl).0 in
    let front = subst (λ k. Lack k spot.front) (sym at.named) at.front in
    let back = subst (λ k. Lack k spot.back) (sym at.named) at.back in
    let at_key : IsSpot store entry.key entry spot = record {
      chains = at.chains;
      bucket = at.bucket ∙ ap (bucket_of store.table) (sym at.named);
      inside = at.inside;
      named = refl;
      front = front;
      back = back;
    } in
    let result : (with_chain store.table entry.key (with_entry other)).chains ≡ chains_with spot (other ∷ []) =
    with_chain-at store entry.key entry spot (with_entry other) at_key
    ∙ ap (λ c. spot.before ++ c ∷ spot.behind) (with_entry-at entry other spot.front spot.back refl front back) in
    let blocks : IsPermutation (committed store.heap class_then).used
    (entry_block entry ∷ entry_block other ∷ map entry_block (others spot)) =
    subst (λ l. IsPermutation l (entry_block entry ∷ entry_block other ∷ map entry_block (others spot)))
    (sym (committed_used store.heap class_then))
    (IsPermutation-trans _ _ _ (IsPermutation-cons (entry_block other) store.heap.used (entry_block entry ∷ map entry_block (others spot))
    (used_in_store old store of spot entry is at.chains))
    (IsPermutation-middle (entry_block other ∷ []) (entry_block entry) (map entry_block (others spot)))) in
    subst (λ (c : List (List Entry)). IsStore new (record {
      table = record { array = store.table.array; chains = c };
      heap = freed (committed store.heap class_then) entry.at class;
    }) (insert of key value)) (sym result)
    (changes old new store of (insert of key value) spot (entry ∷ []) (other ∷ []) (freed (committed store.heap class_then) entry.at class)
    (word_range top ∷ entry_range other ∷ word_range entry.at ∷ word_range (list_field class) ∷ []) is at.chains areas same (
      inl (omega (arith, below)),
      (
        aside_of_next old store of spot (entry ∷ []) class_then (entry_range other) is at.chains in_next (omega arith)
            (omega (arith, class_room new other holds)),
        (
          aside_of_middle old store of spot entry (word_range entry.at) is at.chains (omega arith)
              (omega (arith, class_some class in_classes)),
          (in_header (others spot) class in_classes, tt),
        ),
      ),
    )
    (link, omega (arith, up), next) (count ∙ count_beside old store of spot (entry ∷ []) is at.chains) (holds, tt)
    (hashed_at store entry.key entry spot at_key, tt) heap
    (freed_used middle (committed store.heap class_then) (entry_block entry)
    (entry_block other ∷ map entry_block (others spot)) taken blocks)
    (subst (λ k. IsPermutation ((entry.key, value) ∷ map entry_pair (others spot)) (entries (insert of k value))) at.named
    (replaced_one of entry.key entry.value value (map entry_pair (others spot)) pairs)))

-- the word of a link is the first block behind it
pub named_by : (memory : FlatMemory) (place : ℕ) (front : List Entry) (entry : Entry) (back : List Entry)
    → Links memory place (addresses (front ++ entry ∷ back)) → word_at memory (link_of place front) ≡ entry.at
named_by memory place [] entry back linked = linked.0
named_by memory place (first ∷ front) entry back linked = named_by memory first.at front entry back linked.2

-- another value in the block of a key
pub puts_in_place : (old new : FlatMemory) (store : Store) (of : Pairs) (key value : List ℕ) (entry : Entry) (spot : Spot)
    → IsStore old store of → IsSpot store key entry spot → new.areas ≡ old.areas → KeepsPages old new
    → AreSameBeside old new (record { at = entry.at; size = pair_size entry.key value } ∷ [])
    → pair_class entry.key entry.value ≡ pair_class entry.key value → word_at new entry.at ≡ word_at old entry.at
    → Holds new (record entry { value = value }) → IsStore new (with_value store entry value) (insert of key value)
puts_in_place old new store of key value entry spot is at areas keeps same class next holds =
    let other : Entry = record entry { value = value } in
    let range : Range = record { at = entry.at; size = pair_size entry.key value } in
    let pairs = pairs_beside old store of spot (entry ∷ []) is at.chains in
    let up = (entries_above old store of (entry ∷ others spot) is
    (subst (λ (c : List (List Entry)). IsPermutation (flat_map (λ (l : List Entry). l) c) (entry ∷ others spot)) (sym at.chains)
    (entries_at spot (entry ∷ [])))).0 in
    let room : pair_size entry.key value ≤ block_bytes (entry_block entry) =
    subst (λ c. pair_size entry.key value ≤ 2 ^ c) (sym class) (class_room new other holds) in
    let away = link_off_middle old store of spot entry is at.chains in
    let front = subst (λ k. Lack k spot.front) (sym at.named) at.front in
    let back = subst (λ k. Lack k spot.back) (sym at.named) at.back in
    let at_key : IsSpot store entry.key entry spot = record {
      chains = at.chains;
      bucket = at.bucket ∙ ap (bucket_of store.table) (sym at.named);
      inside = at.inside;
      named = refl;
      front = front;
      back = back;
    } in
    let result : (with_chain store.table entry.key (with_entry other)).chains ≡ chains_with spot (other ∷ []) =
    with_chain-at store entry.key entry spot (with_entry other) at_key
    ∙ ap (λ c. spot.before ++ c ∷ spot.behind) (with_entry-at entry other spot.front spot.back refl front back) in
    let linked : word_at old (link_at store.table.array spot) ≡ entry.at = named_by old (store.table.array + 8 * length spot.before)
    spot.front entry spot.back
    (subst (λ c. Links old (store.table.array + 8 * length spot.before) (addresses c))
    (ap (λ (c : List (List Entry)). get_or c (length spot.before) []) at.chains ∙ read_here spot.before _ spot.behind)
    (is.table.linked (length spot.before) at.inside)) in
    let link : word_at new (link_at store.table.array spot) ≡ entry.at =
    ap (big_number 8) (same (link_at store.table.array spot) 8 (shrunk entry.at _ _ _ 8 away room, tt)) ∙ linked in
    let used : Contains store.heap.used (entry_block entry) = Contains-permutation (entry_block entry ∷ map entry_block (others spot))
    store.heap.used (entry_block entry) (IsPermutation-sym _ _ (used_in_store old store of spot entry is at.chains))
    (0, omega arith, refl) in
    let count : word_at new pairs_field ≡ word_at old pairs_field =
    ap (big_number 8) (same pairs_field 8 (inr (omega (arith, up)), tt)) in
    subst (λ (c : List (List Entry)). IsStore new (record {
      table = record { array = store.table.array; chains = c };
      heap = store.heap;
    }) (insert of key value)) (sym result)
    (changes old new store of (insert of key value) spot (entry ∷ []) (other ∷ []) store.heap (range ∷ []) is at.chains areas
    (λ address n all. same address n all.1)
    (aside_of_middle old store of spot entry range is at.chains (omega arith) (omega (arith, room)), tt)
    (link, omega (arith, up), next) (count ∙ count_beside old store of spot (entry ∷ []) is at.chains) (holds, tt)
    (hashed_at store entry.key entry spot at_key, tt)
    (heap_beside old new store.heap (range ∷ []) is.heap areas keeps same
    (in_use_beside old store.heap (entry_block entry) range is.heap used (omega arith) (omega (arith, room)), tt))
    (subst (λ c. IsPermutation store.heap.used (record { at = entry.at; class = c } ∷ map entry_block (others spot))) class
    (used_in_store old store of spot entry is at.chains))
    (subst (λ k. IsPermutation ((entry.key, value) ∷ map entry_pair (others spot)) (entries (insert of k value))) at.named
    (replaced_one of entry.key entry.value value (map entry_pair (others spot)) pairs)))
  where
    shrunk : (at link many few n : ℕ) → AreApart link n at many → few ≤ many → AreApart at few link n
    shrunk at link many few n (inl low) less = inr low
    shrunk at link many few n (inr high) less = inl (omega (arith, high, less))

-- ---- a new pair

-- a pair in front of the chain of its key, which had none
pub puts_new : (old new : FlatMemory) (store : Store) (of : Pairs) (key value : List ℕ) (top : ℕ) → IsStore old store of
    → entry_for store key ≡ None → new.areas ≡ old.areas → top + 8 ≤ header_at + 144 → Contains classes (pair_class key value)
    → AreSameBeside old new (word_range (store.table.array + 8 * bucket_of store.table key) ∷ word_range top
    ∷ entry_range (next_entry store key value) ∷ word_range pairs_field ∷ [])
    → word_at new (store.table.array + 8 * bucket_of store.table key) ≡ next_at store.heap (pair_class key value)
    → word_at new (next_at store.heap (pair_class key value)) ≡ word_at old (store.table.array + 8 * bucket_of store.table key)
    → word_at new pairs_field ≡ word_at old pairs_field + 1 → Holds new (next_entry store key value)
    → IsHeap new (committed store.heap (pair_class key value)) → IsStore new (with_new store key value) (insert of key value)
puts_new old new store of key value top is none areas below in_next same link next count holds heap =
    let class = pair_class key value in
    let other = next_entry store key value in
    let around = chains_split store.table.chains (bucket_of store.table key) (bucket_inside old store of key is) in
    let chain = chain_of store.table (bucket_of store.table key) in
    let spot : Spot = record { before = around.0; front = []; back = chain; behind = around.1.0 } in
    let chains : store.table.chains ≡ chains_with spot [] = around.1.1.0 in
    let bucket : length around.0 ≡ bucket_of store.table key = around.1.1.1 in
    let place : store.table.array + 8 * bucket_of store.table key ≡ store.table.array + 8 * length around.0 =
    ap (λ b. store.table.array + 8 * b) (sym bucket) in
    let up = (next_off old store of (entries_of store.table) class (store.heap.free class) is (IsPermutation-refl _) in_next refl).0 in
    let result : (with_chain store.table key (λ c. other ∷ c)).chains ≡ chains_with spot (other ∷ []) =
    ap (λ b. set store.table.chains b (other ∷ get_or store.table.chains b [])) (sym bucket)
    ∙ ap (λ c. set c (length around.0) (other ∷ get_or c (length around.0) [])) chains
    ∙ ap (λ c. set (around.0 ++ chain ∷ around.1.0) (length around.0) (other ∷ c)) (read_here around.0 chain around.1.0)
    ∙ set_here around.0 chain (other ∷ chain) around.1.0 in
    subst (λ (c : List (List Entry)). IsStore new (record {
      table = record { array = store.table.array; chains = c };
      heap = committed store.heap class;
    }) (insert of key value)) (sym result)
    (changes old new store of (insert of key value) spot [] (other ∷ []) (committed store.heap class)
    (word_range top ∷ entry_range other ∷ word_range pairs_field ∷ []) is chains areas
    (subst (λ p. AreSameBeside old new (word_range p ∷ word_range top ∷ entry_range other ∷ word_range pairs_field ∷ [])) place same) (
      inl (omega (arith, below)),
      (
        aside_of_next old store of spot [] class (entry_range other) is chains in_next (omega arith)
            (omega (arith, class_room new other holds)),
        (inr (inl refl), tt),
      ),
    ) (
      subst (λ p. word_at new p ≡ next_at store.heap class) place link,
      omega (arith, up),
      subst (λ p. word_at new (next_at store.heap class) ≡ word_at old p) place next,
    )
    (omega (arith, count, count_beside old store of spot [] is chains)) (holds, tt)
    (sym bucket, tt) heap
    (subst (λ l. IsPermutation l (entry_block other ∷ map entry_block (others spot))) (sym (committed_used store.heap class))
    (IsPermutation-cons (entry_block other) store.heap.used (map entry_block (others spot))
    (IsPermutation-trans _ _ _ is.used (IsPermutation-map entry_block (entries_of store.table) (others spot)
    (subst (λ (c : List (List Entry)). IsPermutation (flat_map (λ (l : List Entry). l) c) (others spot)) (sym chains)
    (entries_at spot []))))))
    (insert_new of key value (map entry_pair (others spot))
    (get_entry old store of key is ∙ ap (option_map (λ (e : Entry). e.value)) none)
    (pairs_beside old store of spot [] is chains)))
