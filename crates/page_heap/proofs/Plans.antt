-- Which block a heap gives next, and what taking it stores.
use Rattle.std.proofs.Common.{◌≡◌, ℕ, ◌+◌, ◌-◌, ◌^◌, ◌<◌, ◌≤◌, true, false, List, [], ◌∷◌, refl, sym, ◌∙◌, ap, subst, arith, true≢false, pow_pos, pow_mono, Contains}
use Rattle.std.specs.FinMap.{len}
use Rattle.std.specs.List.{AllByRecursion}
use Rattle.std.proofs.lemmas.List.Elements.{recursion_from_All}
use Rattle.std.proofs.lemmas.List.FromFn.{get_or-range_with_len}
use Rattle.vm_base.specs.FlatMemory.{FlatMemory}
use Rattle.vm_base.specs.FlatLaws.{AreFullPages}
use Rattle.vm_base.specs.MemoryState.{MemoryState, IsMemory}
use Rattle.vm_base.specs.MemoryCalls.{IsReady}
use Rattle.vm_base.proofs.FlatLaws.{full_from_ready}
use Rattle.store_meaning.specs.Layout.{classes, header_at, heap_at, heap_end, top_field, list_field, word_at}
use Rattle.store_meaning.specs.HeapLayout.{Block, Heap, IsHeap, Links, ArePresent, HalfIsPresent, with_next, committed, freed, blocks_of}
use Rattle.store_meaning.proofs.Lists.{all_permuted, all_left, all_contained, class_within}
use Rattle.store_meaning.proofs.HeapSteps.{of_free, free_within, blocks_within, takes_top, takes_free}
use Rattle.store_meaning.proofs.Blocks.{fill_rises}
use Rattle.store_meaning.proofs.HeapEnd.{block_fits}
use Rattle.store_meaning.proofs.GivingBack.{gives_back}
use Rattle.page_heap.specs.declared.planned.Plan.{Plan}
use Rattle.page_heap.specs.HeapCalls.{plan_by, plan_for, commit_store, free_store, HasInUse}
use Rattle.page_heap.proofs.Flat.{ready_field, in_range}

-- where a class's head is 0 no block of it is free, and where it is not it is the first free block
pub planned_top : (memory : FlatMemory) (heap : Heap) (class : ℕ) → IsHeap memory heap → Contains classes class
    → word_at memory (list_field class) ≡ 0
    → plan_for heap class ≡ record { addr = word_at memory top_field; class = class; fresh = true }
planned_top memory heap class is in_classes none = by (heap.free class) (is.lists class in_classes)
  where
    by : (free : List ℕ) → Links memory (list_field class) free → plan_by free heap.top class ≡ record {
      addr =
          word_at memory top_field;
      class = class;
      fresh = true;
    }
    by [] linked = ap (λ a. record { addr = a; class = class; fresh = true }) (sym is.top)
    by (at ∷ free) linked = absurd (omega (arith, none, linked.0, linked.1))

pub planned_free : (memory : FlatMemory) (heap : Heap) (class : ℕ) → IsHeap memory heap → Contains classes class
    → (word_at memory (list_field class) ≡ 0 → ⊥)
    → plan_for heap class ≡ record { addr = word_at memory (list_field class); class = class; fresh = false }
planned_free memory heap class is in_classes some = by (heap.free class) (is.lists class in_classes)
  where
    by : (free : List ℕ) → Links memory (list_field class) free → plan_by free heap.top class ≡ record {
      addr =
          word_at memory (list_field class);
      class = class;
      fresh = false;
    }
    by [] linked = absurd (some linked)
    by (at ∷ free) linked = ap (λ a. record { addr = a; class = class; fresh = false }) (sym linked.0)

-- all heaps that a memory has give one plan
pub same_plan : (memory : FlatMemory) (one two : Heap) (class : ℕ) → IsHeap memory one → IsHeap memory two → Contains classes class
    → plan_for one class ≡ plan_for two class
same_plan memory one two class is_one is_two in_classes =
    by (one.free class) (two.free class) (is_one.lists class in_classes) (is_two.lists class in_classes)
  where
    by : (free other : List ℕ) → Links memory (list_field class) free → Links memory (list_field class) other
        → plan_by free one.top class ≡ plan_by other two.top class
    by [] [] first second = ap (λ a. record { addr = a; class = class; fresh = true }) (sym is_one.top ∙ is_two.top)
    by [] (at ∷ other) first second = absurd (omega (arith, first, second.0, second.1))
    by (at ∷ free) [] first second = absurd (omega (arith, second, first.0, first.1))
    by (at ∷ free) (more ∷ other) first second = ap (λ a. record { addr = a; class = class; fresh = false }) (sym first.0 ∙ second.0)

-- the next block ends within the heap's area
pub plan_fits : (memory : FlatMemory) (heap : Heap) (class : ℕ) → IsHeap memory heap → Contains classes class → len memory.present ≤ 65536
    → (heap_at ≤ (plan_for heap class).addr) × ((plan_for heap class).addr + 2 ^ class ≤ heap_end)
plan_fits memory heap class is in_classes few = by (heap.free class) (free_within memory heap class is in_classes)
  where
    rises : heap_at ≤ heap.top
    rises = fill_rises heap_at heap.top is.order is.fill

    by : (free : List ℕ) → AllByRecursion (λ at. (heap_at ≤ at) × (at + 2 ^ class ≤ heap.top)) free
        → (heap_at ≤ (plan_by free heap.top class).addr) × ((plan_by free heap.top class).addr + 2 ^ class ≤ heap_end)
    by [] all = (rises, block_fits memory heap class is in_classes few)
    by (at ∷ free) all = (all.0.0, omega (arith, all.0.1, is.within))

-- the first half of a block is more than its first word
pub half_class : (class : ℕ) → Contains classes class → 8 ≤ 2 ^ (class - 1)
half_class class in_classes =
    let low : 3 ≤ class - 1 = omega (arith, (class_within class in_classes).0) in
    pow_mono low

-- a free block that a plan gives has its first word in present pages
pub plan_present : (memory : FlatMemory) (heap : Heap) (class : ℕ) → IsHeap memory heap → Contains classes class
    → (plan_for heap class).fresh ≡ false
    → ArePresent memory (plan_for heap class).addr 8
plan_present memory heap class is in_classes old = by (heap.free class) old
    (of_free (HalfIsPresent memory) heap class in_classes (all_permuted (HalfIsPresent memory) is.order (blocks_of heap) is.same
    (recursion_from_All (HalfIsPresent memory) is.order is.halves)))
  where
    first_word : (at : ℕ) → 8 ≤ 2 ^ (class - 1) → ArePresent memory at (2 ^ (class - 1)) → ArePresent memory at 8
    first_word at size there page above below = there page above (omega (arith, below, size))

    by : (free : List ℕ) → (plan_by free heap.top class).fresh ≡ false
        → AllByRecursion (λ at. HalfIsPresent memory (record { at = at; class = class })) free
        → ArePresent memory (plan_by free heap.top class).addr 8
    by [] fresh all = absurd (true≢false fresh)
    by (at ∷ free) fresh all = first_word at (half_class class in_classes) all.0

-- bytes that may be stored to are present
pub ready_present : (state : MemoryState) (address n : ℕ) → 0 < n → IsMemory state → IsReady state address n
    → ArePresent state.mem address n
ready_present state address n some sound ready page above below = sound.present page (ready page (in_range address n page some above below))

-- taking the planned block makes the heap with that block in use
pub commits : (state : MemoryState) (heap : Heap) (plan : Plan) → IsMemory state → state.room ≤ 65536 → IsHeap state.mem heap
    → Contains classes plan.class
    → plan ≡ plan_for heap plan.class → IsReady state header_at 4096 → IsReady state plan.addr (2 ^ (plan.class - 1))
    → IsHeap (commit_store state plan).mem (committed heap plan.class)
commits state heap plan sound room is in_classes given header half = by (heap.free plan.class) refl given
  where
    full : (field : ℕ) → header_at ≤ field → field + 8 ≤ header_at + 4096 → AreFullPages state.mem.present field 8
    full field low high = full_from_ready state field 8 sound (ready_field state field low high header)

    by : (free : List ℕ) → heap.free plan.class ≡ free → plan ≡ plan_by free heap.top plan.class
        → IsHeap (commit_store state plan).mem (with_next heap plan.class free)
    by [] none is_plan = subst (λ q. IsHeap (commit_store state q).mem (with_next heap plan.class [])) (sym is_plan)
        (takes_top state.mem heap plan.class is in_classes (full top_field (omega arith) (omega arith))
        (subst (λ a. ArePresent state.mem a (2 ^ (plan.class - 1))) (ap (λ q. q.addr) is_plan)
        (ready_present state plan.addr (2 ^ (plan.class - 1)) (pow_pos (plan.class - 1)) sound half))
        (block_fits state.mem heap plan.class is in_classes (omega (arith, sound.room, room))))
    by (at ∷ free) front is_plan = subst (λ q. IsHeap (commit_store state q).mem (with_next heap plan.class (at ∷ free))) (sym is_plan)
        (takes_free state.mem heap plan.class at free is in_classes front
        (full (list_field plan.class) (omega (arith, (class_within plan.class in_classes).0))
        (omega (arith, (class_within plan.class in_classes).1))))

-- a block in use has a class, and lies between the ends
pub use_within : (memory : FlatMemory) (heap : Heap) (at class : ℕ) → IsHeap memory heap → HasInUse heap at class
    → Contains classes class × ((heap_at ≤ at) × (at + 2 ^ class ≤ heap_end))
use_within memory heap at class is used =
    let classed =
    all_permuted (λ (b : Block). Contains classes b.class) is.order (blocks_of heap) is.same
    (recursion_from_All _ is.order is.classed) in
    let lies = all_contained _ heap.used (record { at = at; class = class }) used
    (all_left _ heap.used _ (blocks_within memory heap is)) in (
      all_contained (λ (b : Block). Contains classes b.class) heap.used (record { at = at; class = class }) used
          (all_left _ heap.used _ classed),
      (lies.0, omega (arith, lies.1, is.within)),
    )

-- giving a block back makes the heap with that block free
pub frees : (state : MemoryState) (heap : Heap) (at class : ℕ) → IsMemory state → IsHeap state.mem heap → HasInUse heap at class
    → IsReady state header_at 4096 → IsReady state at 8
    → IsHeap (free_store state at class).mem (freed heap at class)
frees state heap at class sound is used header block =
    let in_classes = (use_within state.mem heap at class is used).0 in
    let within = class_within class in_classes in
    gives_back state.mem heap at class is used in_classes
    (full_from_ready state (list_field class) 8 sound
    (ready_field state (list_field class) (omega (arith, within.0)) (omega (arith, within.1)) header))
    (full_from_ready state at 8 sound block)

-- each number from 5 to 21 is a class
pub class_listed : (class : ℕ) → 5 ≤ class → class < 22 → Contains classes class
class_listed class low high =
    let place : 5 + (class - 5) ≡ class = omega (arith, low) in
    (class - 5, omega (arith, low, high), get_or-range_with_len 5 17 (class - 5) class (omega (arith, low, high)) ∙ place)

-- the next block lies low, whatever the room
pub plan_below : (memory : FlatMemory) (heap : Heap) (class : ℕ) → IsHeap memory heap → Contains classes class
    → (plan_for heap class).addr ≤ heap_end
plan_below memory heap class is in_classes = by (heap.free class) (free_within memory heap class is in_classes)
  where
    by : (free : List ℕ) → AllByRecursion (λ at. (heap_at ≤ at) × (at + 2 ^ class ≤ heap.top)) free
        → (plan_by free heap.top class).addr ≤ heap_end
    by [] all = is.within
    by (at ∷ free) all = omega (arith, all.0.1, is.within)
