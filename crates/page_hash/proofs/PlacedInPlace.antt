-- A put in the block that its key has: what its touch and its stores leave.
use Rattle.std.proofs.Common.{◌≡◌, ℕ, ◌+◌, ◌^◌, ◌≤◌, eqb, List, [], ◌∷◌, ◌++◌, length, map, Some, IsSome, sym, ◌∙◌, ap, subst, arith, inl, inr}
use Rattle.std.specs.FinMap.{get, insert}
use Rattle.std.specs.List.{AllZip}
use Rattle.std.proofs.lemmas.Bool.{cond-true, eq-eqb}
use Rattle.std.proofs.lemmas.List.Elements.{recursion_from_All}
use Rattle.byteorder.specs.Endian.{big_number}
use Rattle.vm_base.specs.FlatMemory.{FlatMemory}
use Rattle.vm_base.specs.MemoryState.{MemoryState, IsMemory}
use Rattle.vm_base.specs.MemoryCalls.{IsInRange}
use Rattle.store_meaning.specs.Layout.{classes, heap_at, number_at}
use Rattle.store_meaning.specs.HeapLayout.{ArePresent}
use Rattle.store_meaning.specs.HashLayout.{Entry, Store, Pairs, Holds, IsStore, pair_size, pair_class, entry_block, entries_of, chain_of}
use Rattle.store_meaning.specs.StoreSteps.{bucket_of, entry_for, put_by, put_in, with_value}
use Rattle.store_meaning.specs.Reach.{Place, At, reach_of}
use Rattle.store_meaning.specs.Standing.{Stands, blocks_in}
use Rattle.store_meaning.proofs.Lists.{all_left, all_map, all_permuted}
use Rattle.store_meaning.proofs.Blocks.{LiesIn}
use Rattle.store_meaning.proofs.HeapSteps.{blocks_within}
use Rattle.store_meaning.proofs.OwnedApart.{class_of-holds}
use Rattle.store_meaning.proofs.StoreKept.{both_hold}
use Rattle.page_hash.specs.declared.chain.Located.{Located}
use Rattle.page_hash.specs.PairStores.{value_stored}
use Rattle.page_hash.specs.Touching.{IsOfStore, MakesPresent, LacksStorePage}
use Rattle.page_hash.specs.Puts.{FitsPair, Places, PlaceFails, IsFoundInPlace, put_at}
use Rattle.page_hash.proofs.MapEntries.{chain_part, entry_in-some}
use Rattle.page_hash.proofs.NextReach.{top_within}
use Rattle.page_hash.proofs.StoreChanges.{find_spot, puts_in_place}
use Rattle.page_hash.proofs.PutRanges.{heap_range}
use Rattle.page_hash.proofs.Touched.{meets_range, absent_not}
use Rattle.page_hash.proofs.PutStanding.{IsAllowed, keeps_more, keeps_touched, keeps_lacking, allowed_block, alike_present, alike_same, store_alike, touched_page}
use Rattle.page_hash.proofs.StoreParts.{HasValue, has_value, apart_part, keeps_then, length_most, value_pages}
use Rattle.page_hash.proofs.PutAnswers.{places_by, fails_by}

-- the block of an entry that was found lies in the heap, and has the entry
pub entry_lies : (memory : FlatMemory) (store : Store) (of : Pairs) (key : List ℕ) (entry : Entry) → IsStore memory store of
    → entry_for store key ≡ Some entry → LiesIn heap_at store.heap.top (entry_block entry) × Holds memory entry
entry_lies memory store of key entry is found =
    let lies = LiesIn heap_at store.heap.top in
    let each =
    all_map lies entry_block (entries_of store.table)
    (all_permuted lies store.heap.used (map entry_block (entries_of store.table)) is.used
    (all_left lies store.heap.used _ (blocks_within memory store.heap is.heap))) in
    let Both : Entry → Type 0 = λ e. lies (entry_block e) × Holds memory e in
    (entry_in-some Both key (chain_of store.table (bucket_of store.table key)) entry found
    (chain_part Both store.table.chains (bucket_of store.table key)
    (both_hold (λ (e : Entry). lies (entry_block e)) (Holds memory) Both (entries_of store.table) (λ e lie holds. (lie, holds))
    each (recursion_from_All (Holds memory) (entries_of store.table) is.table.held)))).0

-- where it is of the class, the new bytes have room in it
pub room_in_place : (memory : FlatMemory) (store : Store) (of : Pairs) (key value : List ℕ) (entry : Entry) → IsStore memory store of
    → FitsPair key value → entry_for store key ≡ Some entry → pair_class entry.key entry.value ≡ pair_class key value
    → (heap_at ≤ entry.at) × (entry.at + pair_size key value ≤ store.heap.top)
room_in_place memory store of key value entry is fits found class =
    let lies = (entry_lies memory store of key entry is found).0 in
    let holds : pair_size key value ≤ 2 ^ pair_class key value =
    class_of-holds (pair_size key value) (omega (arith, fits.0, fits.1)) in
    let same : 2 ^ pair_class entry.key entry.value ≡ 2 ^ pair_class key value = ap (λ c. 2 ^ c) class in
    (lies.0, omega (arith, lies.1, holds, same))

-- the range of that touch
pub range_in_place : (memory : FlatMemory) (store : Store) (of : Pairs) (key value : List ℕ) (located : Located) → IsStore memory store of
    → FitsPair key value → IsFoundInPlace store key value located
    → IsOfStore memory located.at (16 + length key + length value)
range_in_place memory store of key value located is fits found =
    let room = room_in_place memory store of key value found.0 is fits found.1.0 found.1.4 in
    heap_range memory store of located.at (16 + length key + length value) is (omega (arith, found.1.1, room.0))
    (omega (arith, found.1.1, room.1, is.heap.within)) (omega (arith, fits.0, fits.1))

-- that is where the block of the put stands
at_in_place : (store : Store) (key value : List ℕ) (located : Located) (found : IsFoundInPlace store key value located)
    → put_at store key value (entry_for store key) ≡ located.at
at_in_place store key value located found =
    ap (put_at store key value) found.1.0
    ∙ cond-true (eqb (pair_class found.0.key found.0.value) (pair_class key value)) _ _
    (eq-eqb (pair_class found.0.key found.0.value) (pair_class key value) found.1.4)
    ∙ sym found.1.1

-- and the store has another value in it
put_in_place : (store : Store) (key value : List ℕ) (located : Located) (found : IsFoundInPlace store key value located)
    → put_in store key value ≡ with_value store found.0 value
put_in_place store key value located found =
    let same : pair_class found.0.key found.0.value ≡ pair_class found.0.key value =
    found.1.4 ∙ ap (λ k. pair_class k value) (sym found.1.3) in
    ap (put_by store key value) found.1.0
    ∙ cond-true (eqb (pair_class found.0.key found.0.value) (pair_class found.0.key value)) _ _
    (eq-eqb (pair_class found.0.key found.0.value) (pair_class found.0.key value) same)

-- each store has the new value
puts_value : (old ready : MemoryState) (key value : List ℕ) (located : Located) (store : Store) (of : Pairs) → IsMemory ready
    → FitsPair key value → MakesPresent old ready located.at (16 + length key + length value)
    → IsFoundInPlace store key value located → IsStore old.mem store of
    → IsStore (value_stored ready located.at located.length (length key) value).mem (put_in store key value) (insert of key value)
puts_value old ready key value located store of sound fits makes found is =
    let entry = found.0 in
    let new = (value_stored ready located.at located.length (length key) value).mem in
    let then = store_alike old.mem ready.mem store of (alike_present old ready _ _ makes) is in
    let held = (entry_lies ready.mem store of key entry then found.1.0).1 in
    let was : number_at ready.mem (located.at + 12) 4 ≡ located.length =
    ap (λ a. number_at ready.mem (a + 12) 4) found.1.1 ∙ held.value_length ∙ sym found.1.2 in
    let has_there : HasValue ready.mem new located.at (length key) value =
    has_value ready located.at located.length (length key) value sound makes.ready (omega (arith, fits.1)) was in
    let has_key : HasValue ready.mem new entry.at (length key) value =
    subst (λ a. HasValue ready.mem new a (length key) value) found.1.1 has_there in
    let has : HasValue ready.mem new entry.at (length entry.key) value =
    subst (λ k. HasValue ready.mem new entry.at (length k) value) (sym found.1.3) has_key in
    let spot = find_spot ready.mem store of key entry then found.1.0 in
    let class : pair_class entry.key entry.value ≡ pair_class entry.key value =
    found.1.4 ∙ ap (λ k. pair_class k value) (sym found.1.3) in
    subst (λ s. IsStore new s (insert of key value)) (sym (put_in_place store key value located found))
    (puts_in_place ready.mem new store of key value entry spot.0 then spot.1 has.stores.areas
    (keeps_then ready.mem new _ _ has.stores)
    (λ address n all. has.stores.beside address n
    (apart_part entry.at (pair_size entry.key value) (entry.at + 12) (4 + length entry.key + length value) address n all.0
    (omega arith) (omega arith)))
    class (ap (big_number 8) (has.front entry.at 8 (omega arith))) (record {
      key_length = ap (big_number 4) (has.front (entry.at + 8) 4 (omega arith)) ∙ held.key_length;
      value_length = has.value_length;
      key = has.key ∙ held.key;
      value = has.value;
      short_key = held.short_key;
      short_value = fits.1;
    }))

-- the range is allowed
allowed_in_place : (old : MemoryState) (key value : List ℕ) (located : Located) (of : Pairs) (before : ℕ) (gone : List Place)
    → FitsPair key value → (stands : Stands old of before gone) → IsFoundInPlace stands.store key value located
    → IsAllowed located.at (16 + length key + length value) (gone ++ At (insert of key value) ∷ [])
allowed_in_place old key value located of before gone fits stands found =
    let keeps = keeps_more old of (insert of key value) before gone stands in
    let room = room_in_place old.mem stands.store of key value found.0 stands.stands fits found.1.0 found.1.4 in
    let top = top_within old.mem stands.store.heap (reach_of (gone ++ At (insert of key value) ∷ [])).peaks stands.stands.heap
    keeps.within.blocks in
    allowed_block located.at (16 + length key + length value) stands.store.heap.top (gone ++ At (insert of key value) ∷ [])
    (omega (arith, found.1.1, room.1)) top

-- the put was made
pub placed_in_place : (old ready : MemoryState) (key value : List ℕ) (located : Located) → IsMemory ready → FitsPair key value
    → MakesPresent old ready located.at (16 + length key + length value)
    → ((store : Store) (of : Pairs) → IsStore old.mem store of → IsFoundInPlace store key value located)
    → Places old (value_stored ready located.at located.length (length key) value) key value
placed_in_place old ready key value located sound fits makes found =
    let new = value_stored ready located.at located.length (length key) value in
    places_by old ready new key value
    (λ store of is. puts_value old ready key value located store of sound fits makes (found store of is) is)
    (λ of before gone stands. keeps_touched old ready located.at (16 + length key + length value) stands.store of before _ sound makes
    (allowed_in_place old key value located of before gone fits stands (found stands.store of stands.stands))
    (keeps_more old of (insert of key value) before gone stands))
    (λ of before gone stands.
    subst (λ (s : Store). AllZip (λ class peak. blocks_in s.heap class ≤ peak) classes
    (reach_of (gone ++ At (insert of key value) ∷ [])).peaks)
    (sym (put_in_place stands.store key value located (found stands.store of stands.stands)))
    (keeps_more old of (insert of key value) before gone stands).within.blocks)
    (value_pages ready located.at located.length (length key) value sound makes.ready)
    (length_most ready located.at located.length (length value))
    (λ store of is page there absent. elim (touched_page old.mem located.at (16 + length key + length value) page
    (subst (λ m. IsSome (get m.present page)) makes.mem there)) [
      | inl before ↦ absurd (absent_not (get old.mem.present page) absent before)
      | inr inside ↦ inl (subst (λ a. IsInRange page a (pair_size key value))
          (sym (at_in_place store key value located (found store of is))) inside)
    ])

-- the put was refused
pub failed_in_place : (old new : MemoryState) (key value : List ℕ) (located : Located) (at : ℕ) → IsMemory old → FitsPair key value
    → LacksStorePage old new located.at (16 + length key + length value) at
    → ((store : Store) (of : Pairs) → IsStore old.mem store of → IsFoundInPlace store key value located)
    → PlaceFails old new key value at
failed_in_place old new key value located at sound fits lacks found =
    let size = 16 + length key + length value in
    fails_by old new key value at lacks.rose lacks.told (alike_same old.mem new.mem lacks.mem)
    (λ of before gone stands. keeps_lacking old new located.at size at stands.store of before _ sound lacks
    (range_in_place old.mem stands.store of key value located stands.stands fits (found stands.store of stands.stands))
    (allowed_in_place old key value located of before gone fits stands (found stands.store of stands.stands))
    (keeps_more old of (insert of key value) before gone stands))
    (λ store of is there.
    let meets = meets_range located.at size lacks.page lacks.range in
    absent_not (get old.mem.present lacks.page) lacks.absent
    (subst (λ m. IsSome (get m.present lacks.page)) lacks.mem
    (subst (λ a. ArePresent new.mem a (pair_size key value)) (at_in_place store key value located (found store of is)) there.block
    lacks.page meets.0 meets.1)))
    (λ store of is page there absent. absurd (absent_not (get old.mem.present page) absent
    (subst (λ m. IsSome (get m.present page)) lacks.mem there)))
