-- What stores of a heap's calls leave: each call's words make the heap of its step.
use Rattle.std.proofs.Common.{◌≡◌, ℕ, ◌+◌, ◌^◌, ◌<◌, ◌≤◌, ◌⊎◌, eqb, List, [], ◌∷◌, ◌++◌, length, map, refl, sym, ◌∙◌, ap, subst, arith, inl, inr, pow_pos, pow_mono, IsPermutation, Contains, All, IsSome}
use Rattle.std.specs.Prelude.{Option, Some, None, unwrap_or}
use Rattle.std.specs.List.{AllByRecursion, flat_map}
use Rattle.std.specs.FinMap.{get}
use Rattle.byteorder.specs.Endian.{big_bytes}
use Rattle.std.proofs.lemmas.Bool.{cases_eq, cond-true, cond-false, eq-eqb, ne_eqb}
use Rattle.std.proofs.lemmas.List.Elements.{All-push}
use Rattle.std.proofs.lemmas.List.Sorted.{IsPermutation-cons, IsPermutation-trans, IsPermutation-middle, IsPermutation-append_right, IsPermutation-sym, IsPermutation-to_front}
use Rattle.vm_base.specs.FlatMemory.{FlatMemory}
use Rattle.vm_base.specs.FlatLaws.{AreFullPages, AreApart}
use Rattle.vm_base.proofs.FlatLaws.{is_some-with_bytes, length-with_bytes}
use Rattle.store_meaning.specs.Layout.{classes, header_area, heap_area, heap_at, heap_end, top_field, list_field, word_at}
use Rattle.store_meaning.specs.HeapLayout.{Block, Heap, blocks_of, free_of, IsHeap, Links, HalfIsPresent, with_free, with_next}
use Rattle.store_meaning.proofs.Lists.{all_mono, all_right, all_map, all_among, all_permuted, flat_map-more, class_within}
use Rattle.store_meaning.proofs.Words.{storing, word_at-stored, word_at-apart}
use Rattle.store_meaning.proofs.Chains.{Links-kept, Links-moved}
use Rattle.store_meaning.proofs.Blocks.{LiesIn, Fill-within, Fill-more}

-- each page that was present still is
abbrev pub KeepsPages : FlatMemory → FlatMemory → Type 0
KeepsPages old new = (page : ℕ) → IsSome (get old.present page) → IsSome (get new.present page)

-- all blocks of a heap lie between its first address and its top
pub blocks_within : (memory : FlatMemory) (heap : Heap) → IsHeap memory heap → AllByRecursion (LiesIn heap_at heap.top) (blocks_of heap)
blocks_within memory heap is =
    all_permuted (LiesIn heap_at heap.top) is.order (blocks_of heap) is.same (Fill-within heap_at heap.top is.order is.fill)

-- what holds of all blocks holds of the free ones of a class
pub of_free : (P : Block → Type 0) (heap : Heap) (class : ℕ) → Contains classes class → AllByRecursion P (blocks_of heap)
    → AllByRecursion (λ at. P (record { at = at; class = class })) (heap.free class)
of_free P heap class in_classes all =
    let within = class_within class in_classes in
    all_map P (λ at. record { at = at; class = class }) (heap.free class)
    (all_among P (free_of heap) 17 5 class within.0 (omega (arith, within.1)) (all_right P heap.used (flat_map (free_of heap) classes) all))

-- the free blocks of a class lie between the ends
pub free_within : (memory : FlatMemory) (heap : Heap) (class : ℕ) → IsHeap memory heap → Contains classes class
    → AllByRecursion (λ at. (heap_at ≤ at) × (at + 2 ^ class ≤ heap.top)) (heap.free class)
free_within memory heap class is in_classes = of_free (LiesIn heap_at heap.top) heap class in_classes (blocks_within memory heap is)

-- a class's blocks have 32 bytes at least
pub class_bytes : (class : ℕ) → Contains classes class → 32 ≤ 2 ^ class
class_bytes class in_classes = let within = class_within class in_classes in pow_mono within.0

pub halves_kept : (old new : FlatMemory) (blocks : List Block) → KeepsPages old new → All (HalfIsPresent old) blocks
    → All (HalfIsPresent new) blocks
halves_kept old new blocks keeps halves k d inside page low high = keeps page (halves k d inside page low high)

-- a heap is read from the words of its top, its heads and its free blocks, and from which pages are present
pub heap_kept : (old new : FlatMemory) (heap : Heap) → IsHeap old heap → new.areas ≡ old.areas
    → word_at new top_field ≡ word_at old top_field
    → ((class : ℕ) → Contains classes class → word_at new (list_field class) ≡ word_at old (list_field class))
    → ((class : ℕ) → Contains classes class → AllByRecursion (λ at. word_at new at ≡ word_at old at) (heap.free class))
    → KeepsPages old new → IsHeap new heap
heap_kept old new heap is areas top heads free keeps = record {
  areas = subst (λ a. Contains a header_area × Contains a heap_area) (sym areas) is.areas;
  top = top ∙ is.top;
  lists = λ class in_classes. Links-kept old new (list_field class) (heap.free class) (heads class in_classes) (free class in_classes)
      (is.lists class in_classes);
  order = is.order;
  same = is.same;
  fill = is.fill;
  classed = is.classed;
  halves = halves_kept old new is.order keeps is.halves;
  header = λ page low high. keeps page (is.header page low high);
  within = is.within;
}

-- storing a word in pages that are present takes none away
pub storing_keeps : (memory : FlatMemory) (address word : ℕ) → AreFullPages memory.present address 8
    → KeepsPages memory (storing memory address word)
storing_keeps memory address word full page there =
    is_some-with_bytes memory.present address (big_bytes 8 word) (λ q inside. is_there (get memory.present q) (full q inside)) page ∙ there
  where
    is_there : (page : Option (List ℕ)) → length (unwrap_or page []) ≡ 4096 → IsSome page
    is_there None full = absurd (omega (arith, full))
    is_there (Some bytes) full = refl

-- full pages stay full
pub storing_full : (memory : FlatMemory) (address word other n : ℕ) → AreFullPages memory.present address 8
    → AreFullPages memory.present other n
    → AreFullPages (storing memory address word).present other n
storing_full memory address word other n full others page inside =
    length-with_bytes memory.present address (big_bytes 8 word) full page ∙ others page inside

-- a block is taken from the top
pub takes_top : (old : FlatMemory) (heap : Heap) (class : ℕ) → IsHeap old heap → Contains classes class
    → AreFullPages old.present top_field 8
    → HalfIsPresent old (record { at = heap.top; class = class }) → heap.top + 2 ^ class ≤ heap_end
    → IsHeap (storing old top_field (heap.top + 2 ^ class)) (with_next heap class [])
takes_top old heap class is in_classes full half room =
    let new = storing old top_field (heap.top + 2 ^ class) in
    let block : Block = record { at = heap.top; class = class } in
    let keeps = storing_keeps old top_field (heap.top + 2 ^ class) full in
    record {
      areas = is.areas;
      top = word_at-stored old top_field (heap.top + 2 ^ class) full (omega (arith, room));
      lists = λ c in_c. Links-kept old new (list_field c) (heap.free c)
          (word_at-apart old top_field (heap.top + 2 ^ class) (list_field c) (inl (omega arith)))
          (all_mono _ (λ at. word_at new at ≡ word_at old at) (heap.free c)
          (λ at lies. word_at-apart old top_field (heap.top + 2 ^ class) at (inl (omega (arith, lies.0)))) (free_within old heap c is in_c))
          (is.lists c in_c);
      order = is.order ++ block ∷ [];
      same = IsPermutation-trans _ _ _ (IsPermutation-to_front is.order block) (IsPermutation-cons block is.order (blocks_of heap) is.same);
      fill = Fill-more heap_at heap.top class is.order is.fill;
      classed = All-push (λ b. Contains classes b.class) is.order block is.classed in_classes;
      halves = halves_kept old new (is.order ++ block ∷ []) keeps (All-push (HalfIsPresent old) is.order block is.halves half);
      header = λ page low high. keeps page (is.header page low high);
      within = room;
    }

-- the heads of other classes, and of the class
pub heads_apart : (class other : ℕ) → Contains classes class → Contains classes other → (other ≡ class → ⊥)
    → AreApart (list_field class) 8 (list_field other) 8
heads_apart class other in_class in_other apart =
    let one = class_within class in_class in
    let two = class_within other in_other in
    elim (cases_order class other (λ same. apart (sym same))) [
      | inl below ↦ inl (omega (arith, one.0, two.0, below))
      | inr above ↦
          inr (omega (arith, one.0, two.0, above))
    ]
  where
    cases_order : (a b : ℕ) → (a ≡ b → ⊥) → (a < b) ⊎ (b < a)
    cases_order a b apart = grind arith

-- the first word of a chain is 0 or the address of a block, so it is small
pub first_small : (memory : FlatMemory) (place limit : ℕ) (blocks : List ℕ) → 0 < limit → Links memory place blocks
    → AllByRecursion (λ at. at < limit) blocks → word_at memory place < limit
first_small memory place limit [] some linked small = omega (arith, linked, some)
first_small memory place limit (at ∷ blocks) some linked small = omega (arith, linked.0, small.0)

-- a block is taken from the front of the free ones of its class
pub takes_free : (old : FlatMemory) (heap : Heap) (class at : ℕ) (free : List ℕ) → IsHeap old heap → Contains classes class
    → heap.free class ≡ at ∷ free
    → AreFullPages old.present (list_field class) 8
    → IsHeap (storing old (list_field class) (word_at old at)) (with_next heap class (at ∷ free))
takes_free old heap class at free is in_classes front full =
    let place = list_field class in
    let new = storing old place (word_at old at) in
    let within = class_within class in_classes in
    let keeps = storing_keeps old place (word_at old at) full in
    let linked : Links old place (at ∷ free) = subst (Links old place) front (is.lists class in_classes) in
    let lie : AllByRecursion (λ a. (heap_at ≤ a) × (a + 2 ^ class ≤ heap.top)) (at ∷ free) =
    subst (AllByRecursion (λ a. (heap_at ≤ a) × (a + 2 ^ class ≤ heap.top))) front (free_within old heap class is in_classes) in
    let small : word_at old at < 2 ^ 64 = first_small old at (2 ^ 64) free (omega arith) linked.2
    (all_mono _ (λ a. a < 2 ^ 64) free (λ a lies. omega (arith, lies.1, is.within, pow_pos class)) lie.1) in
    let block : Block = record { at = at; class = class } in
    let others : (c : ℕ) (blocks : List ℕ) → AllByRecursion (λ a. (heap_at ≤ a) × (a + 2 ^ c ≤ heap.top)) blocks
    → AllByRecursion (λ a. word_at new a ≡ word_at old a) blocks =
    λ c blocks lies. all_mono _ (λ a. word_at new a ≡ word_at old a) blocks
    (λ a lie_a. word_at-apart old place (word_at old at) a (inl (omega (arith, lie_a.0, within.0, within.1)))) lies in
    let freed_before : IsPermutation (block ∷ flat_map (λ c. map (λ a. record { at = a; class = c }) (with_free heap class free c)) classes)
    (flat_map (free_of heap) classes) =
    flat_map-more (free_of heap) (λ c. map (λ a. record { at = a; class = c }) (with_free heap class free c)) block 17 5 class within.0
    (omega (arith, within.1))
    (ap (map (λ a. record { at = a; class = class }))
    (front ∙ ap (λ l. at ∷ l) (sym (cond-true (eqb class class) free (heap.free class) (eq-eqb class class refl)))))
    (λ q apart. ap (map (λ a. record { at = a; class = q })) (sym (cond-false (eqb q class) free (heap.free q) (ne_eqb q class apart)))) in
    record {
      areas = is.areas;
      top = word_at-apart old place (word_at old at) top_field (inr (omega (arith, within.0))) ∙ is.top;
      lists = λ c in_c. elim (cases_eq c class) [
        | inl same ↦ subst (λ l. Links new (list_field c) l) (sym (cond-true (eqb c class) free (heap.free c) (eq-eqb c class same)))
            (subst (λ q. Links new (list_field q) free) (sym same)
            (Links-moved old new at place free (word_at-stored old place (word_at old at) full small) (others class free lie.1) linked.2))
        | inr apart ↦ subst (λ l. Links new (list_field c) l) (sym (cond-false (eqb c class) free (heap.free c) (ne_eqb c class apart)))
            (Links-kept old new (list_field c) (heap.free c)
            (word_at-apart old place (word_at old at) (list_field c) (heads_apart class c in_classes in_c apart))
            (others c (heap.free c) (free_within old heap c is in_c)) (is.lists c in_c))
      ];
      order = is.order;
      same = IsPermutation-trans _ _ _ is.same (IsPermutation-trans _ _ _
          (IsPermutation-append_right heap.used _ _ (IsPermutation-sym _ _ freed_before))
          (IsPermutation-middle heap.used block _));
      fill = is.fill;
      classed = is.classed;
      halves = halves_kept old new is.order keeps is.halves;
      header = λ page low high. keeps page (is.header page low high);
      within = is.within;
    }
