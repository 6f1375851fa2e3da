-- The stores of a pair of a new key, one after another, make the store with the pair in front of its chain.
use Rattle.std.proofs.Common.{◌≡◌, ℕ, zero, suc, ◌+◌, ◌^◌, ◌<◌, ◌≤◌, List, [], ◌∷◌, length, refl, sym, ◌∙◌, ap, subst, arith, inl, inr, Contains, unwrap_or}
use Rattle.std.specs.Prelude.{None, nat_le}
use Rattle.std.specs.FinMap.{insert}
use Rattle.std.specs.List.{find, range_with_len}
use Rattle.std.proofs.lemmas.Bool.{cases_Bool, cond-true, cond-false}
use Rattle.std.proofs.lemmas.List.Sorted.{IsPermutation-refl}
use Rattle.byteorder.specs.Endian.{big_number}
use Rattle.vm_base.specs.FlatMemory.{FlatMemory, bytes_at}
use Rattle.vm_base.specs.FlatLaws.{AreApart}
use Rattle.store_meaning.specs.Layout.{classes, class_of, header_at, array_a, heap_at, pairs_field, word_at}
use Rattle.store_meaning.specs.HeapLayout.{Block, Heap, IsHeap, next_at, committed}
use Rattle.store_meaning.specs.HashLayout.{Entry, Store, Pairs, Holds, IsStore, pair_size, pair_class, entries_of}
use Rattle.store_meaning.specs.StoreSteps.{entry_for, with_new, next_entry}
use Rattle.store_meaning.specs.Owned.{Range, word_range, entry_range}
use Rattle.store_meaning.proofs.HeapSteps.{KeepsPages}
use Rattle.store_meaning.proofs.OwnedApart.{array_between, class_of-holds}
use Rattle.store_meaning.proofs.HeapBeside.{heap_beside, in_use_beside, committed_used, next_off}
use Rattle.page_heap.proofs.Plans.{class_listed}
use Rattle.page_hash.specs.Walks.{bucket_at}
use Rattle.page_hash.specs.Puts.{FitsPair}
use Rattle.page_hash.proofs.StoreChanges.{bucket_inside, puts_new}
use Rattle.page_hash.proofs.StoreParts.{StoresIn, keeps_then}
use Rattle.page_hash.proofs.NewParts.{HoldsPair}

-- ---- the class of a size

bounds_from : (size n first : ℕ) → 5 ≤ first → first + n ≡ 22
    → (5 ≤ unwrap_or (find (λ c. nat_le size (2 ^ c)) (range_with_len first n)) 21)
    × (unwrap_or (find (λ c. nat_le size (2 ^ c)) (range_with_len first n)) 21 < 22)
bounds_from size zero first low end = (omega arith, omega arith)
bounds_from size (suc n) first low end = elim (cases_Bool (nat_le size (2 ^ first))) [
  | inl found ↦
      subst (λ o. (5 ≤ unwrap_or o 21) × (unwrap_or o 21 < 22)) (sym (cond-true (nat_le size (2 ^ first)) _ _ found))
      (low, omega (arith, end))
  | inr missing ↦
      subst (λ o. (5 ≤ unwrap_or o 21) × (unwrap_or o 21 < 22)) (sym (cond-false (nat_le size (2 ^ first)) _ _ missing))
      (bounds_from size n (first + 1) (omega (arith, low)) (omega (arith, end)))
]

-- the class of a size is one of the classes
pub class_is_listed : (size : ℕ) → Contains classes (class_of size)
class_is_listed size =
    let bounds = bounds_from size 17 5 (omega arith) refl in class_listed (class_of size) bounds.0 bounds.1

-- ---- what stays of an entry

-- an entry is held where the bytes of its block are the same
pub holds_then : (old new : FlatMemory) (entry : Entry) (address n : ℕ) → StoresIn old new address n
    → AreApart address n entry.at (pair_size entry.key entry.value) → Holds old entry → Holds new entry
holds_then old new entry address n stores apart holds =
    let part : (other size : ℕ) → entry.at ≤ other → other + size ≤ entry.at + pair_size entry.key entry.value
    → bytes_at new.present other size ≡ bytes_at old.present other size =
    λ other size low high. stores.beside other size (smaller other size low high apart) in
    record {
      key_length = ap (big_number 4) (part (entry.at + 8) 4 (omega arith) (omega arith)) ∙ holds.key_length;
      value_length = ap (big_number 4) (part (entry.at + 12) 4 (omega arith) (omega arith)) ∙ holds.value_length;
      key = part (entry.at + 16) (length entry.key) (omega arith) (omega arith) ∙ holds.key;
      value = part (entry.at + 16 + length entry.key) (length entry.value) (omega arith) (omega arith) ∙ holds.value;
      short_key = holds.short_key;
      short_value = holds.short_value;
    }
  where
    smaller : (other size : ℕ) → entry.at ≤ other → other + size ≤ entry.at + pair_size entry.key entry.value
        → AreApart address n entry.at (pair_size entry.key entry.value) → AreApart address n other size
    smaller other size low high (inl below) = inl (omega (arith, below, low))
    smaller other size low high (inr above) = inr (omega (arith, above, high))

-- ---- the stores

-- where the buckets of a store lie
pub bucket_between : (memory : FlatMemory) (store : Store) (of : Pairs) (key : List ℕ) → IsStore memory store of
    → (array_a ≤ bucket_at store.table key) × (bucket_at store.table key + 8 ≤ heap_at)
bucket_between memory store of key is =
    let ends = array_between store.table is.table.doubled.0 is.table.doubled.1 in
    let inside = bucket_inside memory store of key is in
    (omega (arith, ends.0), omega (arith, ends.1, inside))

-- the next block lies in the heap
pub next_above : (memory : FlatMemory) (store : Store) (of : Pairs) (class : ℕ) → IsStore memory store of → Contains classes class
    → heap_at ≤ next_at store.heap class
next_above memory store of class is in_classes =
    (next_off memory store of (entries_of store.table) class (store.heap.free class) is (IsPermutation-refl _) in_classes refl).0

-- the block that was taken is in use
pub next_in_use : (heap : Heap) (class : ℕ) → Contains (committed heap class).used (record { at = next_at heap class; class = class })
next_in_use heap class =
    subst (λ l. Contains l (record { at = next_at heap class; class = class })) (sym (committed_used heap class)) (0, omega arith, refl)

-- the heap's word, the pair, its bucket and the count: the store has the pair
pub new_makes : (m0 m1 m2 m3 m4 : FlatMemory) (store : Store) (of : Pairs) (key value : List ℕ) (field first pairs : ℕ)
    → IsStore m0 store of → entry_for store key ≡ None → FitsPair key value
    → StoresIn m0 m1 field 8 → field + 8 ≤ header_at + 144
    → StoresIn m1 m2 (next_at store.heap (pair_class key value)) (pair_size key value)
    → StoresIn m2 m3 (bucket_at store.table key) 8 → StoresIn m3 m4 pairs_field 8
    → IsHeap m1 (committed store.heap (pair_class key value))
    → HoldsPair m2 (next_at store.heap (pair_class key value)) first key value
    → word_at m3 (bucket_at store.table key) ≡ next_at store.heap (pair_class key value)
    → word_at m4 pairs_field ≡ pairs + 1 → first ≡ word_at m0 (bucket_at store.table key) → pairs ≡ length (entries_of store.table)
    → IsStore m4 (with_new store key value) (insert of key value)
new_makes m0 m1 m2 m3 m4 store of key value field first pairs is none fits s1 low s2 s3 s4 heap pair link count first_is pairs_is =
    let class = pair_class key value in
    let at = next_at store.heap class in
    let size = pair_size key value in
    let bucket = bucket_at store.table key in
    let in_next = class_is_listed size in
    let between = bucket_between m0 store of key is in
    let above = next_above m0 store of class is in_next in
    let room : size ≤ 2 ^ class = class_of-holds size (omega (arith, fits.0, fits.1)) in
    let entry = next_entry store key value in
    let range : Range = entry_range entry in
    let block : Block = record { at = at; class = class } in
    let keeps : KeepsPages m1 m4 =
    λ page there. keeps_then m3 m4 pairs_field 8 s4 page (keeps_then m2 m3 bucket 8 s3 page (keeps_then m1 m2 at size s2 page there)) in
    let heap_then : IsHeap m4 (committed store.heap class) =
    heap_beside m1 m4 (committed store.heap class) (range ∷ word_range bucket ∷ word_range pairs_field ∷ []) heap
    (s4.areas ∙ s3.areas ∙ s2.areas) keeps
    (λ address n all. s4.beside address n all.1.1.0 ∙ s3.beside address n all.1.0 ∙ s2.beside address n all.0) (
      in_use_beside m1 (committed store.heap class) block range heap (next_in_use store.heap class) (omega arith) (omega (arith, room)),
      (inl (omega (arith, between.0), omega (arith, between.1)), (inl (omega arith, omega arith), tt)),
    ) in
    let held : Holds m4 entry =
    holds_then m3 m4 entry pairs_field 8 s4 (inl (omega (arith, above)))
    (holds_then m2 m3 entry bucket 8 s3 (inl (omega (arith, above, between.1))) pair.holds) in
    puts_new m0 m4 store of key value field is none (s4.areas ∙ s3.areas ∙ s2.areas ∙ s1.areas) low in_next
    (λ address n all. s4.beside address n all.1.1.1.0 ∙ s3.beside address n all.0 ∙ s2.beside address n all.1.1.0
    ∙ s1.beside address n all.1.0)
    (ap (big_number 8) (s4.beside bucket 8 (inl (omega (arith, between.0)))) ∙ link)
    (ap (big_number 8) (s4.beside at 8 (inl (omega (arith, above))) ∙ s3.beside at 8 (inl (omega (arith, above, between.1))))
    ∙ pair.next_is ∙ first_is)
    (count ∙ ap (λ n. n + 1) (pairs_is ∙ sym is.table.pairs)) held heap_then
