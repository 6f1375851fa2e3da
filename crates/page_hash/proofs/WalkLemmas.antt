-- Chains of a store, from a bucket's word on.
use Rattle.std.proofs.Common.{◌≡◌, ℕ, zero, suc, ◌+◌, ◌*◌, ◌^◌, ◌<◌, ◌≤◌, true, List, [], ◌∷◌, length, map, Option, Some, None, refl, sym, ◌∙◌, ap, subst, arith, inl, inr}
use Rattle.std.specs.Prelude.{nat_le, unwrap_or}
use Rattle.std.specs.Option.{option_map}
use Rattle.std.specs.List.{AllByRecursion, find, range_with_len}
use Rattle.std.specs.FinMap.{get}
use Rattle.std.proofs.lemmas.Bool.{cases_Bool, cond-true, cond-false}
use Rattle.std.proofs.lemmas.Bool.Decides.{nat_tests}
use Rattle.std.proofs.lemmas.List.Elements.{recursion_from_All}
use Rattle.vm_base.specs.FlatMemory.{FlatMemory, bytes_at}
use Rattle.store_meaning.specs.Layout.{heap_at, heap_end, pairs_field, word_at}
use Rattle.store_meaning.specs.HeapLayout.{Links}
use Rattle.store_meaning.specs.HashLayout.{Entry, Holds, Store, Pairs, IsStore, pair_size, entry_block, chain_of, entries_of}
use Rattle.store_meaning.specs.StoreSteps.{bucket_of, entry_for}
use Rattle.store_meaning.proofs.Lists.{all_left, all_map, all_permuted}
use Rattle.store_meaning.proofs.Blocks.{LiesIn}
use Rattle.store_meaning.proofs.HeapSteps.{blocks_within}
use Rattle.page_hash.specs.declared.chain.Located.{Located}
use Rattle.page_hash.specs.declared.search.Search.{Search}
use Rattle.page_hash.specs.Lookups.{FoundFor}
use Rattle.page_hash.specs.Walks.{IsBlockOf, IsChainFrom, HasChain, IsSearch, bucket_at, located_in}
use Rattle.page_hash.proofs.ChainSteps.{is_located, entry_in-located, entry_in-lost}
use Rattle.page_hash.proofs.MapEntries.{chain_part, chain_few, entry_in-some, get_entry}

le_from : (a b : ℕ) → nat_le a b ≡ true → a ≤ b
le_from a b is = grind (arith, nat_tests)

-- the least class that holds a size has room for it
class_holds : (size n first : ℕ) → size ≤ 2 ^ 21
    → size ≤ 2 ^ unwrap_or (find (λ class. nat_le size (2 ^ class)) (range_with_len first n)) 21
class_holds size zero first less = less
class_holds size (suc n) first less = elim (cases_Bool (nat_le size (2 ^ first))) [
  | inl holds ↦ subst (λ o. size ≤ 2 ^ unwrap_or o 21) (sym (cond-true (nat_le size (2 ^ first)) _ _ holds))
      (le_from size (2 ^ first) holds)
  | inr lacks ↦ subst (λ o. size ≤ 2 ^ unwrap_or o 21) (sym (cond-false (nat_le size (2 ^ first)) _ _ lacks))
      (class_holds size n (first + 1) less)
]

both_hold : {X : Type 0} (P Q R : X → Type 0) (xs : List X) → ((x : X) → P x → Q x → R x) → AllByRecursion P xs → AllByRecursion Q xs
    → AllByRecursion R xs
both_hold P Q R [] more ps qs = tt
both_hold P Q R (x ∷ xs) more ps qs = (more x ps.0 qs.0, both_hold P Q R xs more ps.1 qs.1)

-- the block of each entry lies in the heap
pub entries_lie : (memory : FlatMemory) (store : Store) (of : Pairs) → IsStore memory store of
    → AllByRecursion (λ entry. IsBlockOf memory entry.at entry) (entries_of store.table)
entries_lie memory store of is =
    let lies = LiesIn heap_at store.heap.top in
    let used = all_left lies store.heap.used _ (blocks_within memory store.heap is.heap) in
    let each =
    all_map lies entry_block (entries_of store.table)
    (all_permuted lies store.heap.used (map entry_block (entries_of store.table)) is.used used) in
    both_hold (λ (entry : Entry). lies (entry_block entry)) (Holds memory) (λ (entry : Entry). IsBlockOf memory entry.at entry)
    (entries_of store.table)
    (λ entry lie holds.
    let fits = class_holds (pair_size entry.key entry.value) 17 5 (omega (arith, holds.short_key, holds.short_value)) in
    record { here = refl; holds = holds; above = lie.0; below = omega (arith, lie.1, fits, is.heap.within) })
    each (recursion_from_All (Holds memory) (entries_of store.table) is.table.held)

-- a chain that a place links is one from the word at the place on
pub links_chain : (memory : FlatMemory) (place : ℕ) (entries : List Entry) → Links memory place (map (λ (entry : Entry). entry.at) entries)
    → AllByRecursion (λ (entry : Entry). IsBlockOf memory entry.at entry) entries → IsChainFrom memory (word_at memory place) entries
links_chain memory place [] linked all = linked
links_chain memory place (entry ∷ entries) linked all =
    subst (λ at. (0 < at) × IsBlockOf memory at entry × IsChainFrom memory (word_at memory at) entries) (sym linked.0)
    (linked.1, all.0, links_chain memory entry.at entries linked.2 all.1)

pub bucket_chain : (memory : FlatMemory) (store : Store) (of : Pairs) (bucket : ℕ) → IsStore memory store of
    → bucket < length store.table.chains
    → IsChainFrom memory (word_at memory (store.table.array + 8 * bucket)) (chain_of store.table bucket)
bucket_chain memory store of bucket is inside =
    links_chain memory (store.table.array + 8 * bucket) (chain_of store.table bucket) (is.table.linked bucket inside)
    (chain_part (λ (entry : Entry). IsBlockOf memory entry.at entry) store.table.chains bucket (entries_lie memory store of is))

-- it has no more blocks than there are pairs
pub has_chain : (memory : FlatMemory) (store : Store) (of : Pairs) (bucket : ℕ) → IsStore memory store of
    → bucket < length store.table.chains
    → HasChain memory (word_at memory (store.table.array + 8 * bucket)) (word_at memory pairs_field)
has_chain memory store of bucket is inside = record {
  chain = chain_of store.table bucket;
  is = bucket_chain memory store of bucket is inside;
  few = omega (arith, chain_few store.table.chains bucket, is.table.pairs);
}

-- what stands in the chain of a key's bucket, for the key that was located there
pub record IsFoundBlock (memory : FlatMemory) (store : Store) (of : Pairs) (key : List ℕ) (located : Located) : Type 0 where
  pub within : (heap_at ≤ located.at) × (located.at + 16 + length key + located.length ≤ heap_end)
  pub found : FoundFor memory (Some (record { addr = located.at + 16 + length key; length = located.length })) (get of key)

pub found_block : (memory : FlatMemory) (store : Store) (of : Pairs) (key : List ℕ) (located : Located) → IsStore memory store of
    → located_in (bucket_at store.table key) (chain_of store.table (bucket_of store.table key)) key ≡ Some located
    → IsFoundBlock memory store of key located
found_block memory store of key located is found =
    let chain = chain_of store.table (bucket_of store.table key) in
    let told = is_located (bucket_at store.table key) chain key located found in
    let here : entry_for store key ≡ Some told.entry = entry_in-located (bucket_at store.table key) chain key located told in
    let lies = (entry_in-some (λ (entry : Entry). IsBlockOf memory entry.at entry) key chain told.entry here
    (chain_part (λ (entry : Entry). IsBlockOf memory entry.at entry) store.table.chains (bucket_of store.table key)
    (entries_lie memory store of is))).0 in
    let value : get of key ≡ Some told.entry.value =
    get_entry memory store of key is ∙ ap (option_map (λ (entry : Entry). entry.value)) here in
    let at : located.at ≡ told.entry.at = ap (λ (l : Located). l.at) told.is in
    let size : located.length ≡ length told.entry.value = ap (λ (l : Located). l.length) told.is in
    let long : length key ≡ length told.entry.key = ap length (sym told.has) in record {
      within = (omega (arith, at, lies.above), omega (arith, at, size, long, lies.below));
      found = subst (FoundFor memory (Some (record { addr = located.at + 16 + length key; length = located.length }))) (sym value) (
        size,
        ap (λ a. bytes_at memory.present a located.length) (ap (λ a. a + 16 + length key) at ∙ ap (λ n. told.entry.at + 16 + n) long)
            ∙ ap (bytes_at memory.present (told.entry.at + 16 + length told.entry.key)) size ∙ lies.holds.value,
      );
    }

-- where none was located the map has none
pub found_none : (memory : FlatMemory) (store : Store) (of : Pairs) (key : List ℕ) → IsStore memory store of
    → located_in (bucket_at store.table key) (chain_of store.table (bucket_of store.table key)) key ≡ None → get of key ≡ None
found_none memory store of key is none =
    get_entry memory store of key is
    ∙ ap (option_map (λ (entry : Entry). entry.value))
    (entry_in-lost (bucket_at store.table key) (chain_of store.table (bucket_of store.table key)) key none)

-- the same where a search told it
pub searched : (memory : FlatMemory) (store : Store) (key : List ℕ) (search : Search) (located : Option Located)
    → IsSearch memory store key search → search.located ≡ located
    → located_in (bucket_at store.table key) (chain_of store.table (bucket_of store.table key)) key ≡ located
searched memory store key search located is told =
    sym (ap (λ b. located_in b (chain_of store.table (bucket_of store.table key)) key) is.bucket) ∙ sym is.located ∙ told
