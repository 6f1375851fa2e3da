-- A pair is taken out, for each map and each store that the memory stands for by it.
use Rattle.std.proofs.Common.{◌≡◌, ℕ, ◌+◌, ◌-◌, ◌⊎◌, max, ◌^◌, ◌<◌, ◌≤◌, List, [], ◌∷◌, length, length-set, append-nil, Option, Some, None, is_some, IsSome, refl, sym, ◌∙◌, ap, subst, arith, inl, Contains}
use Rattle.std.specs.Prelude.{true, false, unwrap_or, ◌*◌}
use Rattle.std.specs.Option.{option_map}
use Rattle.std.specs.List.{AllZip}
use Rattle.std.specs.FinMap.{get, remove, contains_key}
use Rattle.std.proofs.lemmas.Bool.{false≢true}
use Rattle.byteorder.specs.Endian.{big_bytes}
use Rattle.vm_base.specs.FlatMemory.{FlatMemory}
use Rattle.vm_base.specs.FlatLaws.{AreFullPages}
use Rattle.vm_base.specs.MemoryState.{MemoryState, IsMemory, IsKept}
use Rattle.vm_base.proofs.FlatLaws.{is_some-with_bytes, full_from_ready}
use Rattle.store_meaning.specs.Layout.{header_at, pairs_field, list_field, classes, class_of, word_at, store_cells}
use Rattle.store_meaning.specs.HeapLayout.{Heap}
use Rattle.store_meaning.specs.HashLayout.{Entry, Store, Pairs, IsStore, pair_class, chain_of}
use Rattle.store_meaning.specs.StoreSteps.{bucket_of, entry_for, without_key, removed_by, removed_from}
use Rattle.store_meaning.specs.Reach.{Place, Reach, reach_of}
use Rattle.store_meaning.specs.Standing.{KeepsWithin, Stands, IsStanding, StaysStanding, blocks_in}
use Rattle.store_meaning.proofs.Lists.{class_within}
use Rattle.store_meaning.proofs.Words.{storing}
use Rattle.store_meaning.proofs.HeapSteps.{storing_full}
use Rattle.store_meaning.proofs.HeapBeside.{freed_count}
use Rattle.store_meaning.proofs.TableSteps.{others}
use Rattle.page_heap.proofs.Flat.{ready_field}
use Rattle.page_hash.specs.Walks.{bucket_at, located_in, IsSearch}
use Rattle.page_hash.specs.declared.search.Search.{Search}
use Rattle.page_hash.specs.Removing.{Removes, IsNamed, MayUnlink, unlinked}
use Rattle.page_hash.specs.declared.chain.Located.{Located}
use Rattle.page_hash.proofs.MapEntries.{get_entry}
use Rattle.page_hash.proofs.MapSteps.{remove_none}
use Rattle.page_hash.proofs.Cleared.{may_kept}
use Rattle.page_hash.proofs.StoreChanges.{find_spot, class_of-entry}
use Rattle.page_hash.proofs.Unlinking.{taken_out, entry_named, located_behind, chain_at, in_order, entries_used, class_named, unlinked_store}

-- ---- pages and blocks

-- the same pages are present
abbrev pub HasSamePages : FlatMemory → FlatMemory → Type 0
HasSamePages old new = (page : ℕ) → is_some (get new.present page) ≡ is_some (get old.present page)

storing_pages : (memory : FlatMemory) (address word : ℕ) → AreFullPages memory.present address 8
    → HasSamePages memory (storing memory address word)
storing_pages memory address word full =
    is_some-with_bytes memory.present address (big_bytes 8 word) (λ q inside. is_there (get memory.present q) (full q inside))
  where
    is_there : (page : Option (List ℕ)) → length (unwrap_or page []) ≡ 4096 → IsSome page
    is_there None full = absurd (omega (arith, full))
    is_there (Some bytes) full = refl

taken_pages : (memory : FlatMemory) (link at class pairs : ℕ) → AreFullPages memory.present link 8 → AreFullPages memory.present at 8
    → AreFullPages memory.present (list_field class) 8 → AreFullPages memory.present pairs_field 8
    → HasSamePages memory (taken_out memory link at class pairs)
taken_pages memory link at class pairs full_link full_block full_head full_pairs page =
    let head = list_field class in
    let next = word_at memory at in
    let one = storing memory link next in
    let first = word_at one head in
    let two = storing one at first in
    let three = storing two head at in
    let full_one : (other : ℕ) → AreFullPages memory.present other 8 → AreFullPages one.present other 8 =
    λ other full. storing_full memory link next other 8 full_link full in
    let full_two : (other : ℕ) → AreFullPages memory.present other 8 → AreFullPages two.present other 8 =
    λ other full. storing_full one at first other 8 (full_one at full_block) (full_one other full) in
    storing_pages three pairs_field (pairs - 1) (storing_full two head at pairs_field 8 (full_two head full_head)
    (full_two pairs_field full_pairs)) page
    ∙ storing_pages two head at (full_two head full_head) page
    ∙ storing_pages one at first (full_one at full_block) page ∙ storing_pages memory link next full_link page

-- what is stored takes no page and gives none
pub unlinked_pages : (state : MemoryState) (store : Store) (of : Pairs) (key : List ℕ) (located : Located) (class pairs : ℕ)
    → IsMemory state → IsStore state.mem store of → IsNamed store key located
    → class ≡ class_of (16 + length key + located.length) → MayUnlink state located
    → HasSamePages state.mem (unlinked state located class pairs).mem
unlinked_pages state store of key located class pairs sound is named class_is may =
    let facts = entry_named state.mem store of key located is named in
    let in_classes = subst (Contains classes) (sym (class_named store key located class facts class_is))
    (class_of-entry state.mem store of facts.spot facts.entry is facts.place.chains) in
    let size = class_within class in_classes in
    let full : (field : ℕ) → header_at ≤ field → field + 8 ≤ header_at + 4096 → AreFullPages state.mem.present field 8 =
    λ field low high. full_from_ready state field 8 sound (ready_field state field low high may.header) in
    taken_pages state.mem located.link located.at class pairs (full_from_ready state located.link 8 sound may.link)
    (full_from_ready state located.at 8 sound may.block) (full (list_field class) (omega (arith, size.0)) (omega (arith, size.1)))
    (full pairs_field (omega arith) (omega arith))

as_many : (one two : Heap) (cs ps : List ℕ) → ((class : ℕ) → blocks_in two class ≡ blocks_in one class)
    → AllZip (λ c p. blocks_in one c ≤ p) cs ps → AllZip (λ c p. blocks_in two c ≤ p) cs ps
as_many one two [] [] same all = all
as_many one two [] (p ∷ ps) same all = all
as_many one two (c ∷ cs) [] same all = all
as_many one two (c ∷ cs) (p ∷ ps) same all = (omega (arith, all.0, same c), as_many one two cs ps same all.1)

-- so the store without the pair keeps within the same reach
pub still_within : (old new : MemoryState) (store : Store) (of : Pairs) (key : List ℕ) (located : Located) (reach : Reach)
    → IsStore old.mem store of → IsNamed store key located → HasSamePages old.mem new.mem → KeepsWithin old store reach
    → KeepsWithin new (removed_from store key) reach
still_within old new store of key located reach is named pages within =
    let facts = entry_named old.mem store of key located is named in
    let entry = facts.entry in
    let order = in_order store facts.spot entry facts.place.chains in
    let after = removed_by store key (Some entry) in
    let keeps : KeepsWithin new after reach = record {
      blocks = as_many store.heap after.heap classes reach.peaks
          (λ class. freed_count old.mem store.heap (record { at = entry.at; class = pair_class entry.key entry.value }) class is.heap
          (entries_used old.mem store of (entry ∷ others facts.spot) is order).0
          (class_of-entry old.mem store of facts.spot entry is facts.place.chains))
          within.blocks;
      pages = λ page there up. within.pages page (sym (pages page) ∙ there) up;
      buckets = subst (λ n. (n ≡ 512) ⊎ (n < 2 * reach.pairs))
          (sym (length-set store.table.chains (bucket_of store.table key)
          (without_key key (chain_of store.table (bucket_of store.table key)))))
          within.buckets;
    } in
    subst (λ o. KeepsWithin new (removed_by store key o) reach) (sym facts.found) keeps

-- ---- the pair is taken out

pub removes_pair : (old middle new : MemoryState) (key : List ℕ) (located : Located) (class pairs : ℕ) → IsStanding old
    → middle.mem ≡ old.mem → middle.most ≡ old.most → IsMemory middle
    → ((store : Store) (of : Pairs) → IsStore old.mem store of → IsNamed store key located)
    → class ≡ class_of (16 + length key + located.length) → MayUnlink middle located → pairs ≡ word_at old.mem pairs_field
    → pairs < 2 ^ 64 → new ≡ unlinked middle located class pairs → Removes old new key
removes_pair old middle new key located class pairs stands mem most sound named class_is may counted small stored =
    let moved : (store : Store) (of : Pairs) → IsStore old.mem store of → IsStore middle.mem store of =
    λ store of is. subst (λ m. IsStore m store of) (sym mem) is in
    let left : (store : Store) (of : Pairs) → IsStore old.mem store of
    → IsStore new.mem (removed_from store key) (remove of key) =
    λ store of is. subst (λ (s : MemoryState). IsStore s.mem (removed_from store key) (remove of key)) (sym stored)
    (unlinked_store middle store of key located class pairs sound (moved store of is) (named store of is) class_is may
    (counted ∙ ap (λ m. word_at m pairs_field) (sym mem)) small) in
    let store = stands.stands.0 in
    let is = stands.stands.1 in
    let pages : HasSamePages old.mem new.mem =
    subst (λ m. HasSamePages m new.mem) mem
    (subst (λ (s : MemoryState). HasSamePages middle.mem s.mem) (sym stored)
    (unlinked_pages middle store stands.pairs key located class pairs sound (moved store stands.pairs is)
    (named store stands.pairs is) class_is may)) in
    let same_most : new.most ≡ old.most = ap (λ (s : MemoryState). s.most) stored ∙ most in
    record {
      follows = record {
        map = λ of standing. (removed_from standing.0 key, left standing.0 of standing.1);
        within = λ of before gone standing. record {
          store = removed_from standing.store key;
          stands = left standing.store of standing.stands;
          within = subst (λ g. KeepsWithin new (removed_from standing.store key) (reach_of g)) (sym (append-nil gone))
              (still_within old new standing.store of key located (reach_of gone) standing.stands
              (named standing.store of standing.stands) pages standing.within);
          most = subst (λ (g : List Place). new.most ≤ max before (reach_of g).bound) (sym (append-nil gone))
              (omega (arith, same_most, standing.most));
        };
      };
      store = left;
      pages = λ page there absent. false≢true (sym absent ∙ sym (pages page) ∙ there);
    }

-- the map has the pair of a block that is named
pub named_there : (memory : FlatMemory) (store : Store) (of : Pairs) (key : List ℕ) (located : Located) → IsStore memory store of
    → IsNamed store key located → true ≡ contains_key of key
named_there memory store of key located is named =
    let facts = entry_named memory store of key located is named in
    sym (ap is_some (get_entry memory store of key is ∙ ap (option_map (λ (e : Entry). e.value)) facts.found))

-- ---- there is none

-- where no block is named, no entry has the key
pub none_named : (memory : FlatMemory) (store : Store) (of : Pairs) (key : List ℕ) → IsStore memory store of
    → None ≡ located_in (bucket_at store.table key) (chain_of store.table (bucket_of store.table key)) key
    → entry_for store key ≡ None
none_named memory store of key is none = by (entry_for store key) refl
  where
    by : (found : Option Entry) → entry_for store key ≡ found → entry_for store key ≡ None
    by None found = found
    by (Some entry) found =
        let spot = find_spot memory store of key entry is found in
        absurd (false≢true (ap is_some (none
        ∙ ap (λ (c : List Entry). located_in (bucket_at store.table key) c key) (chain_at store key entry spot.0 spot.1)
        ∙ located_behind (bucket_at store.table key) key spot.0.front entry spot.0.back spot.1.front spot.1.named)))

pub none_there : (memory : FlatMemory) (store : Store) (of : Pairs) (key : List ℕ) → IsStore memory store of
    → None ≡ located_in (bucket_at store.table key) (chain_of store.table (bucket_of store.table key)) key → get of key ≡ None
none_there memory store of key is none =
    get_entry memory store of key is ∙ ap (option_map (λ (e : Entry). e.value)) (none_named memory store of key is none)

-- so taking it out changes nothing
pub removes_none : (old new : MemoryState) (key : List ℕ) → new ≡ old
    → ((store : Store) (of : Pairs) → IsStore old.mem store of
    → None ≡ located_in (bucket_at store.table key) (chain_of store.table (bucket_of store.table key)) key)
    → Removes old new key
removes_none old new key same none =
    let map_same : (store : Store) (of : Pairs) → IsStore old.mem store of → remove of key ≡ of =
    λ store of is. remove_none of key (none_there old.mem store of key is (none store of is)) in
    let left : (store : Store) (of : Pairs) → IsStore old.mem store of → IsStore old.mem (removed_from store key) (remove of key) =
    λ store of is. subst (λ o. IsStore old.mem (removed_by store key o) (remove of key))
    (sym (none_named old.mem store of key is (none store of is)))
    (subst (IsStore old.mem store) (sym (map_same store of is)) is) in
    subst (λ s. Removes old s key) (sym same) (record {
      follows = record {
        map = λ of standing. (removed_from standing.0 key, left standing.0 of standing.1);
        within = λ of before gone standing.
            subst (Stands old (remove of key) before) (sym (append-nil gone))
            (subst (λ m. Stands old m before gone) (sym (map_same standing.store of standing.stands)) standing);
      };
      store = left;
      pages = λ page there absent. false≢true (sym absent ∙ there);
    })

-- calls of a store may be made on it still
pub removes_stays : (old new : MemoryState) (key : List ℕ) → IsStanding old → IsKept old new store_cells → Removes old new key
    → StaysStanding old new
removes_stays old new key stands kept removes = record {
  standing = record {
    may = may_kept old new kept stands.may;
    pairs = remove stands.pairs key;
    stands = removes.follows.map stands.pairs stands.stands;
  };
  keeps = kept;
}

-- ---- what a search says

-- the block that a search answers is named
pub searched_some : (memory : FlatMemory) (key : List ℕ) (search : Search) (located : Located) → Some located ≡ search.located
    → ((store : Store) (of : Pairs) → IsStore memory store of → IsSearch memory store key search)
    → (store : Store) (of : Pairs) → IsStore memory store of → IsNamed store key located
searched_some memory key search located some says store of is =
    let one = says store of is in
    some ∙ one.located ∙ ap (λ b. located_in b (chain_of store.table (bucket_of store.table key)) key) one.bucket

-- and where it answers none, none is
pub searched_none : (memory : FlatMemory) (key : List ℕ) (search : Search) → None ≡ search.located
    → ((store : Store) (of : Pairs) → IsStore memory store of → IsSearch memory store key search)
    → (store : Store) (of : Pairs) → IsStore memory store of
    → None ≡ located_in (bucket_at store.table key) (chain_of store.table (bucket_of store.table key)) key
searched_none memory key search none says store of is =
    let one = says store of is in
    none ∙ one.located ∙ ap (λ b. located_in b (chain_of store.table (bucket_of store.table key)) key) one.bucket

-- it tells how many pairs are counted
pub searched_pairs : (memory : FlatMemory) (key : List ℕ) (search : Search) (store : Store) (of : Pairs) → IsStore memory store of
    → IsSearch memory store key search → search.head.pairs ≡ word_at memory pairs_field
searched_pairs memory key search store of is one = one.head.pairs ∙ sym is.table.pairs

-- the map has no pair of the key
pub none_contained : (memory : FlatMemory) (store : Store) (of : Pairs) (key : List ℕ) → IsStore memory store of
    → None ≡ located_in (bucket_at store.table key) (chain_of store.table (bucket_of store.table key)) key
    → false ≡ contains_key of key
none_contained memory store of key is none = sym (ap is_some (none_there memory store of key is none))

-- where nothing was called, all is kept
pub kept_none : (state : MemoryState) → IsMemory state → IsKept state state store_cells
kept_none state sound = record {
  before = sound;
  after = sound;
  room = refl;
  slots = refl;
  used = λ cell there. inl there;
  enough = refl;
  counted = omega arith;
  grown = omega arith;
}
