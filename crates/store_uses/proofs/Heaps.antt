-- Heaps under touches, and the classes and places of plans.
use Rattle.std.proofs.Common.{◌≡◌, ℕ, zero, suc, ◌+◌, ◌-◌, ◌≤◌, ◌<◌, ◌∙◌, Bool, List, [], ◌∷◌, refl, sym, ap, subst, arith, inl, inr, find, unwrap_or, Contains}
use Rattle.std.specs.Prelude.{nat_le, ◌^◌}
use Rattle.std.specs.Ordering.{nat_cmp}
use Rattle.std.specs.FinSet as set
use Rattle.flat_memory.specs.FlatSeen.{opening_flat_memory}
use Rattle.store_meaning.specs.Standing.{MayBegin}
use Rattle.std.specs.List.{AllByRecursion, range_with_len}
use Rattle.std.proofs.lemmas.Bool.{cases_Bool, cond-true, cond-false}
use Rattle.byteorder.specs.Endian.{big_number}
use Rattle.vm_base.specs.Places.{page_of, page_count}
use Rattle.vm_base.specs.MemoryState.{MemoryState}
use Rattle.vm_base.specs.MemoryCalls.{Touches, TouchFails, touched}
use Rattle.vm_base.specs.declared.faults.Fault.{Fault}
use Rattle.page_heap.specs.declared.planned.Plan.{Plan}
use Rattle.page_heap.specs.HeapCalls.{block_plan}
use Rattle.store_uses.specs.HeapUses.{FailsOfTwo}
use Rattle.store_meaning.specs.Layout.{header_at}
use Rattle.vm_base.proofs.FlatLaws.{bytes_at-with_pages}
use Rattle.vm_base.proofs.OwnFrames.{kept-with_pages}
use Rattle.memory_uses.proofs.Touched.{touches_mem}
use Rattle.store_meaning.specs.Layout.{classes, class_of, word_at, top_field, list_field}
use Rattle.store_meaning.specs.HeapLayout.{Heap, IsHeap, next_at, first_or_top}
use Rattle.store_meaning.proofs.HeapSteps.{heap_kept}
use Rattle.page_heap.specs.HeapCalls.{plan_by, plan_for}
use Rattle.page_heap.proofs.Plans.{class_listed}

all_of : {X : Type 0} (P : X → Type 0) (xs : List X) → ((x : X) → P x) → AllByRecursion P xs
all_of P [] each = tt
all_of P (x ∷ xs) each = (each x, all_of P xs each)

-- a touch changes no heap
pub heap_touched : (old new : MemoryState) (address n : ℕ) (heap : Heap) → Touches old new address n → IsHeap old.mem heap
    → IsHeap new.mem heap
heap_touched old new address n heap touch is =
    let later = touched old.mem address n in
    let word : (at : ℕ) → word_at later at ≡ word_at old.mem at =
    λ at. ap (big_number 8) (bytes_at-with_pages old.mem.present (page_of address) (page_count address n) at 8) in
    subst (λ m. IsHeap m heap) (sym (touches_mem old new address n touch))
    (heap_kept old.mem later heap is refl (word top_field) (λ class in_classes. word (list_field class))
    (λ class in_classes. all_of _ (heap.free class) word)
    (λ page there. kept-with_pages (page_count address n) old.mem.present (page_of address) page there))

found_within : (test : ℕ → Bool) (n first : ℕ) → 5 ≤ first → first + n ≤ 22
    → (5 ≤ unwrap_or (find test (range_with_len first n)) 21) × (unwrap_or (find test (range_with_len first n)) 21 < 22)
found_within test zero first low high = (omega arith, omega arith)
found_within test (suc n) first low high = elim (cases_Bool (test first)) [
  | inl found ↦
      subst (λ o. (5 ≤ unwrap_or o 21) × (unwrap_or o 21 < 22)) (sym (cond-true (test first) _ _ found)) (low, omega (arith, high))
  | inr missing ↦ subst (λ o. (5 ≤ unwrap_or o 21) × (unwrap_or o 21 < 22)) (sym (cond-false (test first) _ _ missing))
      (found_within test n (first + 1) (omega (arith, low)) (omega (arith, high)))
]

-- the class of a size is one
pub class_of-within : (size : ℕ) → (5 ≤ class_of size) × (class_of size < 22)
class_of-within size = found_within (λ class. nat_le size (2 ^ class)) 17 5 (omega arith) (omega arith)

pub class_of-listed : (size : ℕ) → Contains classes (class_of size)
class_of-listed size = class_listed (class_of size) (class_of-within size).0 (class_of-within size).1

-- a plan has its class, and lies where the next block does
pub plan_class : (heap : Heap) (class : ℕ) → (plan_for heap class).class ≡ class
plan_class heap class = by (heap.free class)
  where
    by : (free : List ℕ) → (plan_by free heap.top class).class ≡ class
    by [] = refl
    by (at ∷ free) = refl

pub plan_at : (heap : Heap) (class : ℕ) → (plan_for heap class).addr ≡ next_at heap class
plan_at heap class = by (heap.free class)
  where
    by : (free : List ℕ) → (plan_by free heap.top class).addr ≡ first_or_top free heap.top
    by [] = refl
    by (at ∷ free) = refl

-- the touch of a planned block was refused
pub fails_first_of_two : (plan : Plan) (heap : Heap) (size : ℕ) (old here new : MemoryState) (fault : Fault) (half : ℕ)
    → plan ≡ block_plan heap size → here ≡ old → TouchFails here new plan.addr half fault → half ≡ 2 ^ (plan.class - 1)
    → FailsOfTwo old new (next_at heap (class_of size)) (2 ^ (class_of size - 1)) header_at 4096 fault
fails_first_of_two plan heap size old here new fault half planned same fails whole =
    inl (subst (λ s. TouchFails s new (next_at heap (class_of size)) (2 ^ (class_of size - 1)) fault) same
    (subst (λ a. TouchFails here new a (2 ^ (class_of size - 1)) fault) (ap (λ p. p.addr) planned ∙ plan_at heap (class_of size))
    (subst (λ k. TouchFails here new plan.addr (2 ^ (k - 1)) fault) (ap (λ p. p.class) planned ∙ plan_class heap (class_of size))
    (subst (λ n. TouchFails here new plan.addr n fault) whole fails))))

-- or that of the header behind it
pub fails_second_of_two : (plan : Plan) (heap : Heap) (size : ℕ) (old here between new : MemoryState) (fault : Fault) (half : ℕ)
    → plan ≡ block_plan heap size → here ≡ old → Touches here between plan.addr half → half ≡ 2 ^ (plan.class - 1)
    → TouchFails between new header_at 4096 fault
    → FailsOfTwo old new (next_at heap (class_of size)) (2 ^ (class_of size - 1)) header_at 4096 fault
fails_second_of_two plan heap size old here between new fault half planned same touch whole fails =
    inr (
      between,
      (
        subst (λ s. Touches s between (next_at heap (class_of size)) (2 ^ (class_of size - 1))) same
            (subst (λ a. Touches here between a (2 ^ (class_of size - 1))) (ap (λ p. p.addr) planned ∙ plan_at heap (class_of size))
            (subst (λ k. Touches here between plan.addr (2 ^ (k - 1))) (ap (λ p. p.class) planned ∙ plan_class heap (class_of size))
            (subst (λ n. Touches here between plan.addr n) whole touch))),
        fails,
      ),
    )

-- a heap may begin in a flat memory that begins
pub opening_may : (pages : ℕ) → pages ≤ 65536 → MayBegin (opening_flat_memory pages)
opening_may pages few = record { empty = refl; slots = omega arith; unused = set.len-empty nat_cmp; room = few }
