-- The stores of a pair that gets a block of another class, one after another, make the store with that block in the old one's place.
use Rattle.std.proofs.Common.{◌≡◌, ℕ, suc, ◌+◌, ◌^◌, ◌≤◌, List, [], ◌∷◌, refl, sym, ◌∙◌, ap, subst, arith, inl, inr, Contains}
use Rattle.std.specs.FinMap.{insert}
use Rattle.std.specs.List.{AllByRecursion, flat_map}
use Rattle.std.proofs.lemmas.List.Sorted.{IsPermutation-sym}
use Rattle.byteorder.specs.Endian.{big_number}
use Rattle.vm_base.specs.FlatMemory.{FlatMemory}
use Rattle.vm_base.specs.FlatLaws.{AreApart}
use Rattle.store_meaning.specs.Layout.{classes, header_at, heap_at, pairs_field, list_field, word_at}
use Rattle.store_meaning.specs.HeapLayout.{Block, Heap, IsHeap, next_at, with_next, committed, freed, block_bytes, free_of}
use Rattle.store_meaning.specs.HashLayout.{Entry, Store, Pairs, Holds, IsStore, pair_size, pair_class, entry_block}
use Rattle.store_meaning.specs.StoreSteps.{with_moved, next_entry}
use Rattle.store_meaning.specs.Owned.{Range, word_range}
use Rattle.store_meaning.proofs.Lists.{all_permuted, class_within}
use Rattle.store_meaning.proofs.HeapSteps.{class_bytes}
use Rattle.store_meaning.proofs.OwnedApart.{class_of-holds}
use Rattle.store_meaning.proofs.TableSteps.{Spot, link_at, others, entries_above}
use Rattle.store_meaning.proofs.HeapBeside.{IsBesideHeap, heap_beside, in_use_beside, committed_used, next_off, link_off_middle, link_off_next}
use Rattle.page_hash.specs.Puts.{FitsPair}
use Rattle.page_hash.proofs.NextReach.{free_front}
use Rattle.page_hash.proofs.StoreChanges.{IsSpot, class_of-entry, moves}
use Rattle.page_hash.proofs.StoreParts.{StoresIn, keeps_then, apart_part}
use Rattle.page_hash.proofs.NewParts.{HoldsPair}
use Rattle.page_hash.proofs.NewSteps.{class_is_listed, holds_then, next_above, next_in_use}
use Rattle.page_hash.proofs.Unlinking.{in_order, entries_used, link_beside, link_up}

-- what is beside a heap is so still behind a take
pub beside_committed : (heap : Heap) (class : ℕ) (range : Range) → Contains classes class → IsBesideHeap heap range
    → IsBesideHeap (committed heap class) range
beside_committed heap class range in_classes (inl between) = inl between
beside_committed heap class range in_classes (inr above) = inr (above.0, by (heap.free class) refl)
  where
    by : (free : List ℕ) → heap.free class ≡ free
        → AllByRecursion (λ (block : Block). AreApart range.at range.size block.at (block_bytes block))
        (flat_map (free_of (with_next heap class free)) classes)
    by [] none = above.1
    by (at ∷ free) front =
        (all_permuted (λ (block : Block). AreApart range.at range.size block.at (block_bytes block)) (flat_map (free_of heap) classes)
        (record { at = at; class = class } ∷ flat_map (free_of (with_next heap class (at ∷ free))) classes)
        (IsPermutation-sym _ _ (free_front heap class at free in_classes front)) above.1).1

contains_behind : {X : Type 0} (x y : X) (xs : List X) → Contains xs y → Contains (x ∷ xs) y
contains_behind x y xs (k, inside, is) = (suc k, omega (arith, inside), is)

-- a block in use is so still
pub still_in_use : (heap : Heap) (class : ℕ) (block : Block) → Contains heap.used block → Contains (committed heap class).used block
still_in_use heap class block used =
    subst (λ l. Contains l block) (sym (committed_used heap class)) (contains_behind _ block heap.used used)

-- the entry's block is in use
pub entry_in_use : (memory : FlatMemory) (store : Store) (of : Pairs) (key : List ℕ) (entry : Entry) (spot : Spot) → IsStore memory store of
    → IsSpot store key entry spot → Contains store.heap.used (entry_block entry)
entry_in_use memory store of key entry spot is at =
    (entries_used memory store of (entry ∷ others spot) is (in_order store spot entry at.chains)).0

-- the heap with the new block, behind the stores of the pair and of the link
pub linked_heap : (m1 m2 m3 m0 : FlatMemory) (store : Store) (of : Pairs) (key value : List ℕ) (entry : Entry) (spot : Spot)
    → IsStore m0 store of → IsSpot store key entry spot → FitsPair entry.key value
    → StoresIn m1 m2 (next_at store.heap (pair_class entry.key value)) (pair_size entry.key value)
    → StoresIn m2 m3 (link_at store.table.array spot) 8 → IsHeap m1 (committed store.heap (pair_class entry.key value))
    → IsHeap m3 (committed store.heap (pair_class entry.key value))
linked_heap m1 m2 m3 m0 store of key value entry spot is at fits s2 s3 heap =
    let class = pair_class entry.key value in
    let next = next_at store.heap class in
    let size = pair_size entry.key value in
    let link = link_at store.table.array spot in
    let room : size ≤ 2 ^ class = class_of-holds size (omega (arith, fits.0, fits.1)) in
    let block : Block = record { at = next; class = class } in
    let range : Range = record { at = next; size = size } in
    heap_beside m1 m3 (committed store.heap class) (range ∷ word_range link ∷ []) heap (s3.areas ∙ s2.areas)
    (λ page there. keeps_then m2 m3 link 8 s3 page (keeps_then m1 m2 next size s2 page there))
    (λ address n all. s3.beside address n all.1.0 ∙ s2.beside address n all.0) (
      in_use_beside m1 (committed store.heap class) block range heap (next_in_use store.heap class) (omega arith) (omega (arith, room)),
      (
        beside_committed store.heap class (word_range link) (class_is_listed size) (link_beside m0 store of spot entry is at.chains),
        tt,
      ),
    )

swapped : (one n two m : ℕ) → AreApart one n two m → AreApart two m one n
swapped one n two m (inl low) = inr low
swapped one n two m (inr high) = inl high

narrower : (at size address many n : ℕ) → AreApart at size address many → n ≤ many → AreApart at size address n
narrower at size address many n (inl low) less = inl low
narrower at size address many n (inr high) less = inr (omega (arith, high, less))

-- the heap's word, the pair, its link, and both words of the old block: the store has the pair in its new block
pub moved_makes : (m0 m1 m2 m3 m4 m5 : FlatMemory) (store : Store) (of : Pairs) (key value : List ℕ) (entry : Entry) (spot : Spot)
    (field first : ℕ) → IsStore m0 store of → IsSpot store key entry spot → FitsPair entry.key value
    → StoresIn m0 m1 field 8 → field + 8 ≤ header_at + 144
    → StoresIn m1 m2 (next_at store.heap (pair_class entry.key value)) (pair_size entry.key value)
    → StoresIn m2 m3 (link_at store.table.array spot) 8 → StoresIn m3 m4 entry.at 8
    → StoresIn m4 m5 (list_field (pair_class entry.key entry.value)) 8
    → IsHeap m1 (committed store.heap (pair_class entry.key value))
    → IsHeap m5 (freed (committed store.heap (pair_class entry.key value)) entry.at (pair_class entry.key entry.value))
    → HoldsPair m2 (next_at store.heap (pair_class entry.key value)) first entry.key value
    → word_at m3 (link_at store.table.array spot) ≡ next_at store.heap (pair_class entry.key value)
    → first ≡ word_at m0 entry.at
    → IsStore m5 (with_moved store entry value) (insert of key value)
moved_makes m0 m1 m2 m3 m4 m5 store of key value entry spot field first is at fits s1 low s2 s3 s4 s5 taken gave pair linked first_is =
    let class = pair_class entry.key value in
    let gone = pair_class entry.key entry.value in
    let next = next_at store.heap class in
    let size = pair_size entry.key value in
    let link = link_at store.table.array spot in
    let in_next = class_is_listed size in
    let in_gone = class_of-entry m0 store of spot entry is at.chains in
    let within = class_within gone in_gone in
    let head = list_field gone in
    let room : size ≤ 2 ^ class = class_of-holds size (omega (arith, fits.0, fits.1)) in
    let some : 8 ≤ 2 ^ class = omega (arith, class_bytes class in_next) in
    let some_gone : 8 ≤ 2 ^ gone = omega (arith, class_bytes gone in_gone) in
    let above = next_above m0 store of class is in_next in
    let up = link_up m0 store of spot entry is at.chains in
    let link_entry : AreApart entry.at 8 link 8 =
    apart_part entry.at (2 ^ gone) entry.at 8 link 8
    (swapped link 8 entry.at (2 ^ gone) (link_off_middle m0 store of spot entry is at.chains))
    (omega arith) (omega (arith, some_gone)) in
    let link_next = link_off_next m0 store of spot (entry ∷ []) class is at.chains in_next in
    let entry_next : AreApart next (2 ^ class) entry.at (2 ^ gone) =
    (next_off m0 store of (entry ∷ others spot) class (store.heap.free class) is (in_order store spot entry at.chains) in_next refl).1.0 in
    let word_next : AreApart entry.at 8 next (2 ^ class) =
    apart_part entry.at (2 ^ gone) entry.at 8 next (2 ^ class) (swapped next (2 ^ class) entry.at (2 ^ gone) entry_next) (omega arith)
    (omega (arith, some_gone)) in
    let other = next_entry store entry.key value in
    let held : Holds m5 other =
    holds_then m4 m5 other head 8 s5 (inl (omega (arith, above, within.1)))
    (holds_then m3 m4 other entry.at 8 s4 (narrower entry.at 8 next (2 ^ class) size word_next room)
    (holds_then m2 m3 other link 8 s3 (narrower link 8 next (2 ^ class) size link_next room) pair.holds)) in
    moves m0 m1 m5 store of key value entry spot field is at (s5.areas ∙ s4.areas ∙ s3.areas ∙ s2.areas ∙ s1.areas) low in_next
    (λ address n all. s5.beside address n all.1.1.1.1.0 ∙ s4.beside address n all.1.1.1.0 ∙ s3.beside address n all.0
    ∙ s2.beside address n all.1.1.0 ∙ s1.beside address n all.1.0)
    (ap (big_number 8) (s5.beside link 8 (inl (omega (arith, up, within.1))) ∙ s4.beside link 8 link_entry) ∙ linked)
    (ap (big_number 8) (s5.beside next 8 (inl (omega (arith, above, within.1)))
    ∙ s4.beside next 8 (narrower entry.at 8 next (2 ^ class) 8 word_next some)
    ∙ s3.beside next 8 (narrower link 8 next (2 ^ class) 8 link_next some))
    ∙ pair.next_is ∙ first_is)
    (ap (big_number 8) (s5.beside pairs_field 8 (inl (omega (arith, within.0, within.1)))
    ∙ s4.beside pairs_field 8 (inr (omega (arith, (entries_up m0 store of key entry spot is at))))
    ∙ s3.beside pairs_field 8 (inr (omega (arith, up))) ∙ s2.beside pairs_field 8 (inr (omega (arith, above)))
    ∙ s1.beside pairs_field 8 (inl (omega (arith, low)))))
    held taken gave
  where
    entries_up : (memory : FlatMemory) (s : Store) (o : Pairs) (k : List ℕ) (e : Entry) (p : Spot) → IsStore memory s o → IsSpot s k e p
        → heap_at ≤ e.at
    entries_up memory s o k e p i a = (entries_above memory s o (e ∷ others p) i (in_order s p e a.chains)).0
