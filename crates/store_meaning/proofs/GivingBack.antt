-- What giving a block back leaves: its two words make the heap with the block free.
use Rattle.std.proofs.Common.{◌≡◌, ℕ, ◌+◌, ◌^◌, ◌<◌, ◌≤◌, eqb, List, [], ◌∷◌, ◌++◌, map, refl, sym, ◌∙◌, ap, subst, arith, inl, inr, pow_pos, IsPermutation, Contains}
use Rattle.std.specs.List.{AllByRecursion, flat_map}
use Rattle.std.proofs.lemmas.Bool.{cases_eq, cond-true, cond-false, eq-eqb, ne_eqb}
use Rattle.std.proofs.lemmas.List.Sorted.{IsPermutation-trans, IsPermutation-middle, IsPermutation-append_left, IsPermutation-append_right, IsPermutation-sym}
use Rattle.vm_base.specs.FlatMemory.{FlatMemory}
use Rattle.vm_base.specs.FlatLaws.{AreFullPages, AreApart}
use Rattle.store_meaning.specs.Layout.{classes, heap_at, top_field, list_field, word_at}
use Rattle.store_meaning.specs.HeapLayout.{Block, Heap, block_bytes, blocks_of, free_of, without_block, IsHeap, Links, freed}
use Rattle.store_meaning.proofs.Lists.{all_mono, all_left, all_right, all_map, all_among, all_contained, flat_map-more, class_within}
use Rattle.store_meaning.proofs.Words.{storing, word_at-stored, word_at-apart}
use Rattle.store_meaning.proofs.Chains.{Links-kept, Links-moved}
use Rattle.store_meaning.proofs.Blocks.{LiesIn, Fill-once}
use Rattle.store_meaning.proofs.HeapUse.{without_block-front, others_apart, blocks_at-permuted, blocks_at-append}
use Rattle.store_meaning.proofs.HeapSteps.{KeepsPages, blocks_within, free_within, class_bytes, halves_kept, storing_keeps, storing_full, heads_apart, first_small}

-- the blocks in use with one of them in front
pub used_front : (memory : FlatMemory) (heap : Heap) (block : Block) → IsHeap memory heap → Contains heap.used block
    → IsPermutation heap.used (block ∷ without_block block.at heap.used)
used_front memory heap block is used =
    let once = Fill-once block.at heap_at heap.top is.order is.fill in
    let all = blocks_at-permuted block.at is.order (blocks_of heap) is.same in
    let parts = blocks_at-append block.at heap.used (flat_map (free_of heap) classes) in
    without_block-front heap.used block used (omega (arith, once, all, parts))

-- all blocks, that one in front
pub all_front : (memory : FlatMemory) (heap : Heap) (block : Block) (is : IsHeap memory heap) → Contains heap.used block
    → IsPermutation is.order (block ∷ (without_block block.at heap.used ++ flat_map (free_of heap) classes))
all_front memory heap block is used =
    IsPermutation-trans _ _ _ is.same
    (IsPermutation-append_left (flat_map (free_of heap) classes) heap.used (block ∷ without_block block.at heap.used)
    (used_front memory heap block is used))

-- the memory with both words of a block that is given back
abbrev pub giving : FlatMemory → ℕ → ℕ → FlatMemory
giving memory at class = storing (storing memory at (word_at memory (list_field class))) (list_field class) at

-- a block in use is given back
pub gives_back : (old : FlatMemory) (heap : Heap) (at class : ℕ) → IsHeap old heap → Contains heap.used (record { at = at; class = class })
    → Contains classes class
    → AreFullPages old.present (list_field class) 8 → AreFullPages old.present at 8 → IsHeap (giving old at class) (freed heap at class)
gives_back old heap at class is used in_classes full_head full_block =
    let block : Block = record { at = at; class = class } in
    let place = list_field class in
    let head = word_at old place in
    let middle = storing old at head in
    let new = storing middle place at in
    let within = class_within class in_classes in
    let lies : LiesIn heap_at heap.top block = all_contained (LiesIn heap_at heap.top) heap.used block used
    (all_left (LiesIn heap_at heap.top) heap.used (flat_map (free_of heap) classes) (blocks_within old heap is)) in
    let size = class_bytes class in_classes in
    let front = all_front old heap block is used in
    let apart = all_right _ (without_block at heap.used) (flat_map (free_of heap) classes)
    (others_apart is.order (without_block at heap.used ++ flat_map (free_of heap) classes) block heap_at heap.top is.fill front) in
    let full_then = storing_full old at head place 8 full_block full_head in
    let small : head < 2 ^ 64 = first_small old place (2 ^ 64) (heap.free class) (omega arith) (is.lists class in_classes)
    (all_mono _ (λ a. a < 2 ^ 64) (heap.free class) (λ a lie. omega (arith, lie.1, is.within, pow_pos class))
    (free_within old heap class is in_classes)) in
    let outside : (other : ℕ) → AreApart at 8 other 8 → AreApart place 8 other 8 → word_at new other ≡ word_at old other =
    λ other one two. word_at-apart middle place at other two ∙ word_at-apart old at head other one in
    let in_header : (other : ℕ) → other + 8 ≤ heap_at → AreApart at 8 other 8 = λ other low. inr (omega (arith, lies.0, low)) in
    let others : (c : ℕ) → Contains classes c → AllByRecursion (λ a. word_at new a ≡ word_at old a) (heap.free c) = λ c in_c.
    both (λ a. AreApart at (2 ^ class) a (2 ^ c)) (λ a. heap_at ≤ a) (λ a. word_at new a ≡ word_at old a) (heap.free c)
    (λ a one two. outside a (elim one [
      | inl below ↦ inl (omega (arith, below, size))
      | inr above ↦
          inr (omega (arith, above, class_bytes c in_c))
    ]) (inl (omega (arith, two, within.1))))
    (all_map (λ other. AreApart at (2 ^ class) other.at (block_bytes other)) (λ a. record { at = a; class = c }) (heap.free c)
    (all_among (λ other. AreApart at (2 ^ class) other.at (block_bytes other)) (free_of heap) 17 5 c (class_within c in_c).0
    (omega (arith, (class_within c in_c).1)) apart))
    (all_mono _ (λ a. heap_at ≤ a) (heap.free c) (λ a lie. lie.0) (free_within old heap c is in_c)) in
    let keeps : KeepsPages old new =
    λ page there. storing_keeps middle place at full_then page (storing_keeps old at head full_block page there) in
    let freed_behind : IsPermutation (block ∷ flat_map (free_of heap) classes) (flat_map (free_of (freed heap at class)) classes) =
    flat_map-more (free_of (freed heap at class)) (free_of heap) block 17 5 class within.0 (omega (arith, within.1))
    (ap (map (λ a. record { at = a; class = class }))
    (cond-true (eqb class class) (at ∷ heap.free class) (heap.free class) (eq-eqb class class refl)))
    (λ q other. ap (map (λ a. record { at = a; class = q }))
    (cond-false (eqb q class) (at ∷ heap.free class) (heap.free q) (ne_eqb q class other))) in
    record {
      areas = is.areas;
      top = outside top_field (in_header top_field (omega arith)) (inr (omega (arith, within.0))) ∙ is.top;
      lists = λ c in_c. elim (cases_eq c class) [
        | inl same ↦
            subst (λ l. Links new (list_field c) l)
            (sym (cond-true (eqb c class) (at ∷ heap.free class) (heap.free c) (eq-eqb c class same)))
            (subst (λ q. Links new (list_field q) (at ∷ heap.free class)) (sym same) (
              word_at-stored middle place at full_then (omega (arith, lies.1, is.within, size)),
              omega (arith, lies.0),
              Links-moved old new place at (heap.free class)
                  (word_at-apart middle place at at (inl (omega (arith, lies.0, within.1))) ∙ word_at-stored old at head full_block small)
                  (others class in_classes) (is.lists class in_classes),
            ))
        | inr other ↦
            subst (λ l. Links new (list_field c) l)
            (sym (cond-false (eqb c class) (at ∷ heap.free class) (heap.free c) (ne_eqb c class other)))
            (Links-kept old new (list_field c) (heap.free c)
            (outside (list_field c) (in_header (list_field c) (omega (arith, (class_within c in_c).1)))
            (heads_apart class c in_classes in_c other))
            (others c in_c) (is.lists c in_c))
      ];
      order = is.order;
      same = IsPermutation-trans _ _ _ front (IsPermutation-trans _ _ _
          (IsPermutation-sym _ _ (IsPermutation-middle (without_block at heap.used) block (flat_map (free_of heap) classes)))
          (IsPermutation-append_right (without_block at heap.used) _ _ freed_behind));
      fill = is.fill;
      classed = is.classed;
      halves = halves_kept old new is.order keeps is.halves;
      header = λ page low high. keeps page (is.header page low high);
      within = is.within;
    }
  where
    both : {X : Type 0} (P Q R : X → Type 0) (xs : List X) → ((x : X) → P x → Q x → R x) → AllByRecursion P xs → AllByRecursion Q xs
        → AllByRecursion R xs
    both P Q R [] more ps qs = tt
    both P Q R (x ∷ xs) more ps qs = (more x ps.0 qs.0, both P Q R xs more ps.1 qs.1)
