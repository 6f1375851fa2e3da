-- The blocks of a heap, with its next one, keep within a reach that has the place of the pair in it.
use Rattle.std.proofs.Common.{◌≡◌, ℕ, zero, suc, ◌+◌, ◌*◌, ◌^◌, ◌<◌, ◌≤◌, max, eqb, List, [], ◌∷◌, ◌++◌, map, zip, sum, count_by, cond, refl, sym, ◌∙◌, ap, ap₂, subst, arith, inl, inr, Contains, IsPermutation, mul-le-mul_left, ◌==◌, Bool, true, false}
use Rattle.std.proofs.Math.Nat.{mul-suc}
use Rattle.std.specs.List.{AllByRecursion, AllZip, flat_map, range_with_len}
use Rattle.std.specs.FinMap.{get, insert, entries}
use Rattle.std.specs.Prelude.{None}
use Rattle.std.proofs.lemmas.Bool.{cases_eq, cond-true, cond-false, eq-eqb, ne_eqb}
use Rattle.std.proofs.lemmas.List.Elements.{recursion_from_All}
use Rattle.std.proofs.lemmas.List.Sums.{sum_by-cons, sum_by-append}
use Rattle.std.proofs.lemmas.List.Sorted.{IsPermutation-trans, IsPermutation-sym, IsPermutation-cons, IsPermutation-middle, IsPermutation-append_left, IsPermutation-append_right, IsPermutation-to_front, sum_by-IsPermutation}
use Rattle.vm_base.specs.FlatMemory.{FlatMemory}
use Rattle.vm_base.specs.MemoryState.{MemoryState}
use Rattle.store_meaning.specs.Layout.{classes, heap_at}
use Rattle.store_meaning.specs.HeapLayout.{Block, Heap, IsHeap, Fill, block_bytes, blocks_of, free_of, first_or_top, next_at, with_next, committed, freed, without_block}
use Rattle.store_meaning.specs.HashLayout.{Entry, Store, Pairs, IsStore, pair_class, entry_block, entry_pair, entries_of}
use Rattle.store_meaning.specs.Reach.{Reach, At, reach_step, count_of}
use Rattle.store_meaning.specs.Standing.{KeepsWithin, blocks_in}
use Rattle.store_meaning.proofs.Lists.{all_both, flat_map-more, class_within}
use Rattle.store_meaning.proofs.Blocks.{Fill-more}
use Rattle.store_meaning.proofs.HeapSteps.{free_within}
use Rattle.store_meaning.proofs.GivingBack.{used_front}
use Rattle.page_hash.proofs.MapSteps.{insert_new, replaced_one}

-- ---- bytes of blocks, class by class

-- the bytes of so many blocks of each class
abbrev pub bytes_of : List ℕ → List ℕ → ℕ
bytes_of cs ps = sum (map (λ both. 2 ^ both.0 * both.1) (zip cs ps))

-- the bytes of blocks of each class, counted by a function
abbrev weigh : (ℕ → ℕ) → List ℕ → ℕ
weigh f [] = 0
weigh f (c ∷ cs) = 2 ^ c * f c + weigh f cs

-- at most as many as a list tells have no more bytes
weigh_within : (f : ℕ → ℕ) (cs ps : List ℕ) → AllZip (λ c p. f c ≤ p) cs ps → weigh f cs ≤ bytes_of cs ps
weigh_within f [] [] all = omega arith
weigh_within f [] (p ∷ ps) all = absurd all
weigh_within f (c ∷ cs) [] all = absurd all
weigh_within f (c ∷ cs) (p ∷ ps) all =
    let here : 2 ^ c * f c ≤ 2 ^ c * p = mul-le-mul_left (2 ^ c) all.0 in
    let rest = weigh_within f cs ps all.1 in
    let whole = sum_by-cons (λ x. x) (2 ^ c * p) (map (λ both. 2 ^ both.0 * both.1) (zip cs ps)) in
    omega (arith, here, rest, whole)

weigh_same : (f g : ℕ → ℕ) (n first : ℕ) → ((q : ℕ) → first ≤ q → f q ≡ g q) → weigh f (range_with_len first n)
    ≡ weigh g (range_with_len first n)
weigh_same f g zero first same = refl
weigh_same f g (suc n) first same =
    ap₂ (λ a b. 2 ^ first * a + b) (same first (omega arith)) (weigh_same f g n (first + 1) (λ q low. same q (omega (arith, low))))

-- one more of a class weighs its bytes more
weigh_more : (f g : ℕ → ℕ) (n first k : ℕ) → first ≤ k → k < first + n → g k ≡ suc (f k) → ((q : ℕ) → (q ≡ k → ⊥) → g q ≡ f q)
    → weigh g (range_with_len first n) ≡ 2 ^ k + weigh f (range_with_len first n)
weigh_more f g zero first k low high more same = absurd (omega (arith, low, high))
weigh_more f g (suc n) first k low high more same = elim (cases_eq first k) [
  | inl here ↦
      let rest = weigh_same g f n (first + 1) (λ q above. same q (λ is. omega (arith, is, above, here))) in
      let front : g first ≡ suc (f first) = subst (λ q. g q ≡ suc (f q)) (sym here) more in
      let size : 2 ^ first ≡ 2 ^ k = ap (λ q. 2 ^ q) here in
      let times : 2 ^ first * suc (f first) ≡ 2 ^ first + 2 ^ first * f first = mul-suc (2 ^ first) (f first) ∙ omega arith in
      let here_now : 2 ^ first * g first ≡ 2 ^ k + 2 ^ first * f first = ap (λ x. 2 ^ first * x) front ∙ times
      ∙ ap (λ x. x + 2 ^ first * f first) size in
      omega (arith, rest, here_now)
  | inr apart ↦
      let rest = weigh_more f g n (first + 1) k (omega (arith, low, apart)) (omega (arith, high)) more same in
      let front : 2 ^ first * g first ≡ 2 ^ first * f first = ap (λ x. 2 ^ first * x) (same first apart) in
      omega (arith, rest, front)
]

abbrev pub point : Bool → ℕ
point b = cond b 1 0

one_if : (b : Bool) → b ≡ true → point b ≡ 1
one_if b is = cond-true b 1 0 is

none_if : (b : Bool) → b ≡ false → point b ≡ 0
none_if b is = cond-false b 1 0 is

-- how many of the blocks have the class
abbrev pub in_class : ℕ → List Block → ℕ
in_class class blocks = count_by (λ (block : Block). block.class == class) blocks

in_class-here : (block : Block) (blocks : List Block) → in_class block.class (block ∷ blocks) ≡ suc (in_class block.class blocks)
in_class-here block blocks =
    let one = one_if (eqb block.class block.class) (eq-eqb block.class block.class refl) in
    let both = sum_by-cons (λ (b : Block). point (eqb b.class block.class)) block blocks in
    omega (arith, one, both)

in_class-apart : (class : ℕ) (block : Block) (blocks : List Block) → (class ≡ block.class → ⊥)
    → in_class class (block ∷ blocks) ≡ in_class class blocks
in_class-apart class block blocks apart =
    let none =
    none_if (eqb block.class class) (ne_eqb block.class class (λ same. apart (sym same))) in
    let both = sum_by-cons (λ (b : Block). point (eqb b.class class)) block blocks in
    omega (arith, none, both)

in_class-permuted : (class : ℕ) (one two : List Block) → IsPermutation one two → in_class class two ≡ in_class class one
in_class-permuted class one two same = sum_by-IsPermutation (λ (b : Block). point (eqb b.class class)) one two same

-- all bytes of blocks
abbrev pub all_bytes : List Block → ℕ
all_bytes [] = 0
all_bytes (block ∷ blocks) = block_bytes block + all_bytes blocks

weigh_none : (n first : ℕ) → weigh (λ class. in_class class []) (range_with_len first n) ≡ 0
weigh_none zero first = refl
weigh_none (suc n) first = let rest = weigh_none n (first + 1) in omega (arith, rest)

weigh_blocks : (blocks : List Block) → AllByRecursion (λ (block : Block). Contains classes block.class) blocks
    → weigh (λ class. in_class class blocks) classes ≡ all_bytes blocks
weigh_blocks [] classed = weigh_none 17 5
weigh_blocks (block ∷ blocks) classed =
    let within = class_within block.class classed.0 in
    weigh_more (λ class. in_class class blocks) (λ class. in_class class (block ∷ blocks)) 17 5 block.class within.0
    (omega (arith, within.1)) (in_class-here block blocks) (λ q apart. in_class-apart q block blocks apart)
    ∙ ap (λ x. block_bytes block + x) (weigh_blocks blocks classed.1)

pub fill_bytes : (from to : ℕ) (blocks : List Block) → Fill from blocks to → to ≡ from + all_bytes blocks
fill_bytes from to [] fill = omega (arith, fill)
fill_bytes from to (block ∷ blocks) fill =
    let rest = fill_bytes (from + block_bytes block) to blocks fill.1 in omega (arith, rest)

-- blocks that fill a heap, no more of each class than a list tells, have no more bytes than the list
pub filled_within : (order : List Block) (from to : ℕ) (ps : List ℕ) → Fill from order to
    → AllByRecursion (λ (block : Block). Contains classes block.class) order
    → AllZip (λ class p. in_class class order ≤ p) classes ps → to ≤ from + bytes_of classes ps
filled_within order from to ps fill classed all =
    let whole = fill_bytes from to order fill in
    let weighed = weigh_blocks order classed in
    let less = weigh_within (λ class. in_class class order) classes ps all in
    omega (arith, whole, weighed, less)

-- a test of each class and its peak, for another one
pub zip_mono : (f g : ℕ → ℕ) (cs ps : List ℕ) → ((c p : ℕ) → f c ≤ p → g c ≤ p) → AllZip (λ c p. f c ≤ p) cs ps
    → AllZip (λ c p. g c ≤ p) cs ps
zip_mono f g [] [] more all = tt
zip_mono f g [] (p ∷ ps) more all = absurd all
zip_mono f g (c ∷ cs) [] more all = absurd all
zip_mono f g (c ∷ cs) (p ∷ ps) more all = (more c p all.0, zip_mono f g cs ps more all.1)

-- the top of a heap within peaks
pub top_within : (memory : FlatMemory) (heap : Heap) (ps : List ℕ) → IsHeap memory heap
    → AllZip (λ class p. blocks_in heap class ≤ p) classes ps → heap.top ≤ heap_at + bytes_of classes ps
top_within memory heap ps is all =
    filled_within is.order heap_at heap.top ps is.fill
    (recursion_from_All (λ (block : Block). Contains classes block.class) is.order is.classed)
    (zip_mono (blocks_in heap) (λ class. in_class class is.order) classes ps
    (λ c p less. omega (arith, less, in_class-permuted c is.order (blocks_of heap) is.same)) all)

-- ---- the blocks behind a take and behind a giving back

-- the free blocks of a class from the first one on
pub free_front : (heap : Heap) (class at : ℕ) (free : List ℕ) → Contains classes class → heap.free class ≡ at ∷ free
    → IsPermutation (record { at = at; class = class } ∷ flat_map (free_of (with_next heap class (at ∷ free))) classes)
    (flat_map (free_of heap) classes)
free_front heap class at free in_classes front =
    let within = class_within class in_classes in
    flat_map-more (free_of heap) (free_of (with_next heap class (at ∷ free))) (record { at = at; class = class }) 17 5 class within.0
    (omega (arith, within.1))
    (ap (map (λ a. record { at = a; class = class })) front
    ∙ ap (λ l. record { at = at; class = class } ∷ map (λ a. record { at = a; class = class }) l)
    (sym (cond-true (eqb class class) free (heap.free class) (eq-eqb class class refl))))
    (λ q other. ap (map (λ a. record { at = a; class = q }))
    (sym (cond-false (eqb q class) free (heap.free q) (ne_eqb q class other))))

-- taking a free block leaves as many of each class
taken_same : (heap : Heap) (class at : ℕ) (free : List ℕ) (other : ℕ) → Contains classes class → heap.free class ≡ at ∷ free
    → blocks_in (with_next heap class (at ∷ free)) other ≡ blocks_in heap other
taken_same heap class at free other in_classes front =
    let block : Block = record { at = at; class = class } in
    let then = flat_map (free_of (with_next heap class (at ∷ free))) classes in
    in_class-permuted other (blocks_of heap) (block ∷ (heap.used ++ then))
    (IsPermutation-trans _ _ _
    (IsPermutation-append_right heap.used _ _ (IsPermutation-sym _ _ (free_front heap class at free in_classes front)))
    (IsPermutation-middle heap.used block then))

-- giving a block back does too
pub freed_same : (memory : FlatMemory) (heap : Heap) (block : Block) (other : ℕ) → IsHeap memory heap → Contains heap.used block
    → Contains classes block.class → blocks_in (freed heap block.at block.class) other ≡ blocks_in heap other
freed_same memory heap block other is used in_classes =
    let class = block.class in
    let at = block.at in
    let within = class_within class in_classes in
    let gone = without_block at heap.used in
    let free = flat_map (free_of heap) classes in
    let then = flat_map (free_of (freed heap at class)) classes in
    let more : IsPermutation (block ∷ free) then =
    flat_map-more (free_of (freed heap at class)) (free_of heap) block 17 5 class within.0 (omega (arith, within.1))
    (ap (map (λ a. record { at = a; class = class }))
    (cond-true (eqb class class) (at ∷ heap.free class) (heap.free class) (eq-eqb class class refl)))
    (λ q apart. ap (map (λ a. record { at = a; class = q }))
    (cond-false (eqb q class) (at ∷ heap.free class) (heap.free q) (ne_eqb q class apart))) in
    in_class-permuted other (blocks_of heap) (gone ++ then)
    (IsPermutation-trans _ _ _ (IsPermutation-append_left free heap.used (block ∷ gone) (used_front memory heap block is used))
    (IsPermutation-trans _ _ _ (IsPermutation-sym _ _ (IsPermutation-middle gone block free))
    (IsPermutation-append_right gone _ _ more)))

-- ---- the blocks in use and the pairs

class_counts : (es : List Entry) (class : ℕ)
    → in_class class (map entry_block es) ≡ count_by (λ (pair : List ℕ × List ℕ). pair_class pair.0 pair.1 == class) (map entry_pair es)
class_counts [] class = refl
class_counts (e ∷ es) class =
    let one = sum_by-cons (λ (b : Block). point (eqb b.class class)) (entry_block e) (map entry_block es) in
    let two = sum_by-cons (λ (pair : List ℕ × List ℕ). point (eqb (pair_class pair.0 pair.1) class)) (entry_pair e) (map entry_pair es) in
    let rest = class_counts es class in
    one ∙ ap (λ x. point (eqb (pair_class e.key e.value) class) + x) rest ∙ sym two

-- as many blocks of a class are in use as pairs have that class
pub used_counted : (memory : FlatMemory) (store : Store) (of : Pairs) (class : ℕ) → IsStore memory store of
    → in_class class store.heap.used ≡ count_of of class
used_counted memory store of class is =
    sym (in_class-permuted class store.heap.used (map entry_block (entries_of store.table)) is.used)
    ∙ class_counts (entries_of store.table) class
    ∙ sym (sum_by-IsPermutation (λ (pair : List ℕ × List ℕ). point (eqb (pair_class pair.0 pair.1) class))
    (map entry_pair (entries_of store.table)) (entries of) is.pairs)

none_free : (heap : Heap) (class n first : ℕ) → heap.free class ≡ [] → in_class class (flat_map (free_of heap) (range_with_len first n)) ≡ 0
none_free heap class zero first none = refl
none_free heap class (suc n) first none =
    let parts = sum_by-append (λ (b : Block). point (eqb b.class class)) (free_of heap first)
    (flat_map (free_of heap) (range_with_len (first + 1) n)) in
    let here : in_class class (free_of heap first) ≡ 0 = elim (cases_eq first class) [
      | inl same ↦ ap (λ l. in_class class (map (λ a. record { at = a; class = first }) l)) (ap heap.free same ∙ none)
      | inr apart ↦ others_free first (heap.free first) apart
    ] in
    let rest = none_free heap class n (first + 1) none in
    omega (arith, parts, here, rest)
  where
    others_free : (q : ℕ) (free : List ℕ) → (q ≡ class → ⊥) → in_class class (map (λ a. record { at = a; class = q }) free) ≡ 0
    others_free q [] apart = refl
    others_free q (a ∷ free) apart =
        in_class-apart class (record { at = a; class = q }) (map (λ b. record { at = b; class = q }) free) (λ same. apart (sym same))
        ∙ others_free q free apart

-- where no block of a class is free there are as many as pairs have it
class_all_used : (memory : FlatMemory) (store : Store) (of : Pairs) (class : ℕ) → IsStore memory store of → store.heap.free class ≡ []
    → blocks_in store.heap class ≡ count_of of class
class_all_used memory store of class is none =
    let parts = sum_by-append (λ (b : Block). point (eqb b.class class)) store.heap.used (flat_map (free_of store.heap) classes) in
    let free = none_free store.heap class 17 5 none in
    let used = used_counted memory store of class is in
    omega (arith, parts, free, used)

-- ---- within the reach

-- with one more pair of the class the next block keeps within the peaks that have that pair counted
pub committed_within : (memory : FlatMemory) (store : Store) (of to : Pairs) (class : ℕ) (ps : List ℕ) → IsStore memory store of
    → Contains classes class → count_of to class ≡ suc (count_of of class)
    → AllZip (λ c p. count_of to c ≤ p) classes ps → AllZip (λ c p. blocks_in store.heap c ≤ p) classes ps
    → AllZip (λ c p. blocks_in (committed store.heap class) c ≤ p) classes ps
committed_within memory store of to class ps is in_classes more counted all = by (store.heap.free class) refl
  where
    both : (f g h : ℕ → ℕ) (cs qs : List ℕ) → ((c p : ℕ) → f c ≤ p → g c ≤ p → h c ≤ p) → AllZip (λ c p. f c ≤ p) cs qs
        → AllZip (λ c p. g c ≤ p) cs qs → AllZip (λ c p. h c ≤ p) cs qs
    both f g h [] [] each one two = tt
    both f g h [] (q ∷ qs) each one two = absurd one
    both f g h (c ∷ cs) [] each one two = absurd one
    both f g h (c ∷ cs) (q ∷ qs) each one two = (each c q one.0 two.0, both f g h cs qs each one.1 two.1)

    at_top : store.heap.free class ≡ [] → (c p : ℕ) → count_of to c ≤ p → blocks_in store.heap c ≤ p
        → blocks_in (with_next store.heap class []) c ≤ p
    at_top none c p one two = elim (cases_eq c class) [
      | inl same ↦
          let here : blocks_in (with_next store.heap class []) class ≡ suc (blocks_in store.heap class) =
          in_class-here (record { at = store.heap.top; class = class }) (blocks_of store.heap) in
          let used = class_all_used memory store of class is none in
          let few : count_of to class ≤ p = subst (λ q. count_of to q ≤ p) same one in
          subst (λ q. blocks_in (with_next store.heap class []) q ≤ p) (sym same) (omega (arith, here, used, more, few))
      | inr apart ↦
          omega (arith, two, in_class-apart c (record { at = store.heap.top; class = class }) (blocks_of store.heap) apart)
    ]

    by : (free : List ℕ) → store.heap.free class ≡ free → AllZip (λ c p. blocks_in (with_next store.heap class free) c ≤ p) classes ps
    by [] none = both (count_of to) (blocks_in store.heap) (blocks_in (with_next store.heap class [])) classes ps (at_top none) counted all
    by (at ∷ free) front = zip_mono (blocks_in store.heap) (blocks_in (with_next store.heap class (at ∷ free))) classes ps
        (λ c p less. omega (arith, less, taken_same store.heap class at free c in_classes front)) all

-- and so that block ends within their bytes
pub next_within : (memory : FlatMemory) (store : Store) (of to : Pairs) (class : ℕ) (ps : List ℕ) → IsStore memory store of
    → Contains classes class → count_of to class ≡ suc (count_of of class)
    → AllZip (λ c p. count_of to c ≤ p) classes ps → AllZip (λ c p. blocks_in store.heap c ≤ p) classes ps
    → next_at store.heap class + 2 ^ class ≤ heap_at + bytes_of classes ps
next_within memory store of to class ps is in_classes more counted all =
    by (store.heap.free class) refl (committed_within memory store of to class ps is in_classes more counted all)
  where
    heap : Heap
    heap = store.heap

    by : (free : List ℕ) → store.heap.free class ≡ free → AllZip (λ c p. blocks_in (with_next store.heap class free) c ≤ p) classes ps
        → first_or_top free store.heap.top + 2 ^ class ≤ heap_at + bytes_of classes ps
    by [] none within =
        let block : Block = record { at = heap.top; class = class } in
        filled_within (is.heap.order ++ block ∷ []) heap_at (heap.top + 2 ^ class) ps
        (Fill-more heap_at heap.top class is.heap.order is.heap.fill)
        (all_both (λ (b : Block). Contains classes b.class) is.heap.order (block ∷ [])
        (recursion_from_All (λ (b : Block). Contains classes b.class) is.heap.order is.heap.classed) (in_classes, tt))
        (zip_mono (blocks_in (with_next heap class [])) (λ c. in_class c (is.heap.order ++ block ∷ [])) classes ps
        (λ c p less. omega (
          arith,
          less,
          in_class-permuted c (is.heap.order ++ block ∷ []) (block ∷ blocks_of heap)
              (IsPermutation-trans _ _ _ (IsPermutation-to_front is.heap.order block)
              (IsPermutation-cons block is.heap.order (blocks_of heap) is.heap.same)),
        )) within)
    by (at ∷ free) front within =
        let lies = (subst (AllByRecursion (λ a. (heap_at ≤ a) × (a + 2 ^ class ≤ store.heap.top))) front
        (free_within memory store.heap class is.heap in_classes)).0 in
        omega (arith, lies.1, top_within memory store.heap ps is.heap all)

-- ---- how many pairs have a class

-- a place counts its pairs
pub place_counted : (state : MemoryState) (store : Store) (reach : Reach) (pairs : Pairs) → KeepsWithin state store reach
    → AllZip (λ c p. count_of pairs c ≤ p) classes (reach_step reach (At pairs)).peaks
place_counted state store reach pairs within = raised (blocks_in store.heap) (count_of pairs) classes reach.peaks within.blocks
  where
    raised : (g f : ℕ → ℕ) (cs ps : List ℕ) → AllZip (λ c p. g c ≤ p) cs ps
        → AllZip (λ c p. f c ≤ p) cs (map (λ both. max (f both.0) both.1) (zip cs ps))
    raised g f [] [] all = tt
    raised g f [] (p ∷ ps) all = absurd all
    raised g f (c ∷ cs) [] all = absurd all
    raised g f (c ∷ cs) (p ∷ ps) all = (omega arith, raised g f cs ps all.1)

counts_cons : (pair : List ℕ × List ℕ) (pairs : List (List ℕ × List ℕ)) (class : ℕ)
    → count_by (λ (p : List ℕ × List ℕ). pair_class p.0 p.1 == class) (pair ∷ pairs)
    ≡ point (eqb (pair_class pair.0 pair.1) class) + count_by (λ (p : List ℕ × List ℕ). pair_class p.0 p.1 == class) pairs
counts_cons pair pairs class = sum_by-cons (λ (p : List ℕ × List ℕ). point (eqb (pair_class p.0 p.1) class)) pair pairs

-- a new key's pair is one more of its class
pub count_new : (of : Pairs) (key value : List ℕ) (pairs : List (List ℕ × List ℕ)) → get of key ≡ None → IsPermutation pairs (entries of)
    → count_of (insert of key value) (pair_class key value) ≡ suc (count_of of (pair_class key value))
count_new of key value pairs none same =
    let class = pair_class key value in
    let Test : List ℕ × List ℕ → ℕ = λ (p : List ℕ × List ℕ). point (eqb (pair_class p.0 p.1) class) in
    let then = sum_by-IsPermutation Test ((key, value) ∷ pairs) (entries (insert of key value)) (insert_new of key value pairs none same) in
    let now = sum_by-IsPermutation Test pairs (entries of) same in
    let one = one_if (eqb class class) (eq-eqb class class refl) in
    let front = counts_cons (key, value) pairs class in
    omega (arith, then, now, one, front)

-- and so is a pair that had another class
pub count_moved : (of : Pairs) (key value other : List ℕ) (pairs : List (List ℕ × List ℕ))
    → IsPermutation ((key, value) ∷ pairs) (entries of) → (pair_class key value ≡ pair_class key other → ⊥)
    → count_of (insert of key other) (pair_class key other) ≡ suc (count_of of (pair_class key other))
count_moved of key value other pairs same apart =
    let class = pair_class key other in
    let Test : List ℕ × List ℕ → ℕ = λ (p : List ℕ × List ℕ). point (eqb (pair_class p.0 p.1) class) in
    let then = sum_by-IsPermutation Test ((key, other) ∷ pairs) (entries (insert of key other))
    (replaced_one of key value other pairs same) in
    let now = sum_by-IsPermutation Test ((key, value) ∷ pairs) (entries of) same in
    let one = one_if (eqb class class) (eq-eqb class class refl) in
    let none =
    none_if (eqb (pair_class key value) class) (ne_eqb (pair_class key value) class apart) in
    let front = counts_cons (key, other) pairs class in
    let was = counts_cons (key, value) pairs class in
    omega (arith, then, now, one, none, front, was)
