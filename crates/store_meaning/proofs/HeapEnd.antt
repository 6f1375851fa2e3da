-- A heap's blocks end within its area, as long as the memory can't have more pages than 65536.
use Rattle.std.proofs.Common.{pow_mono, ◌≡◌, ℕ, zero, suc, ◌+◌, ◌-◌, ◌/◌, ◌^◌, ◌<◌, ◌≤◌, Bool, true, false, eqb, List, [], ◌∷◌, length, refl, sym, ◌∙◌, ap, subst, arith, inl, inr, Contains, IsSome, is_some}
use Rattle.std.specs.Prelude.{if◌then◌else◌}
use Rattle.std.specs.Cmp.{nat_eq_equiv}
use Rattle.std.specs.List.{AllByRecursion, IsDistinct}
use Rattle.std.specs.FinMap.{get, len, keys}
use Rattle.std.proofs.lemmas.Bool.{cases_Bool, cond-true, cond-false, eqb-true, ne_eqb, or_cases, false≢true}
use Rattle.std.proofs.lemmas.List.Elements.{recursion_from_All}
use Rattle.std.proofs.lemmas.Map.Keys.{IsDistinct-cons}
use Rattle.std.proofs.lemmas.Map.Made.{length-le_from_is_member}
use Rattle.vm_base.specs.FlatMemory.{PageMap, FlatMemory}
use Rattle.vm_base.proofs.OwnFrames.{member, member-keys, length-keys, IsDistinct-distinct}
use Rattle.store_meaning.specs.Layout.{classes, heap_at, heap_end}
use Rattle.store_meaning.specs.HeapLayout.{Heap, IsHeap}
use Rattle.store_meaning.proofs.Lists.{class_within}
use Rattle.store_meaning.proofs.Halves.{here_among, count_one, IsHalfHere, at_least_half}

-- the pages of a range that are here
abbrev pages_here : (ℕ → Bool) → ℕ → ℕ → List ℕ
pages_here here first zero = []
pages_here here first (suc n) = if here first then first ∷ pages_here here (first + 1) n else pages_here here (first + 1) n

length-pages_here : (here : ℕ → Bool) (n first : ℕ) → length (pages_here here first n) ≡ here_among here first n
length-pages_here here zero first = refl
length-pages_here here (suc n) first = elim (cases_Bool (here first)) [
  | inl found ↦
      let one : count_one (here first) ≡ 1 = ap count_one found in
      let rest = length-pages_here here n (first + 1) in
      ap length (cond-true (here first) _ _ found) ∙ omega (arith, one, rest)
  | inr missing ↦
      let none : count_one (here first) ≡ 0 = ap count_one missing in
      let rest = length-pages_here here n (first + 1) in
      ap length (cond-false (here first) _ _ missing) ∙ omega (arith, none, rest)
]

-- each of them is here
here_there : (here : ℕ → Bool) (n first q : ℕ) → member q (pages_here here first n) ≡ true → here q ≡ true
here_there here zero first q there = absurd (false≢true there)
here_there here (suc n) first q there = elim (cases_Bool (here first)) [
  | inl found ↦
      elim (or_cases (eqb q first) (member q (pages_here here (first + 1) n)) (sym (ap (member q) (cond-true (here first) _ _ found))
      ∙ there)) [
        | inl same ↦ ap here (eqb-true q first same) ∙ found
        | inr later ↦ here_there here n (first + 1) q later
      ]
  | inr missing ↦ here_there here n (first + 1) q (sym (ap (member q) (cond-false (here first) _ _ missing)) ∙ there)
]

-- a lower page is none of them
lower_apart : (here : ℕ → Bool) (n first low : ℕ) → low < first → AllByRecursion (λ q. eqb low q ≡ false) (pages_here here first n)
lower_apart here zero first low below = tt
lower_apart here (suc n) first low below = elim (cases_Bool (here first)) [
  | inl found ↦ subst (AllByRecursion (λ q. eqb low q ≡ false)) (sym (cond-true (here first) _ _ found))
      (ne_eqb low first (λ same. omega (arith, same, below)), lower_apart here n (first + 1) low (omega (arith, below)))
  | inr missing ↦
      subst (AllByRecursion (λ q. eqb low q ≡ false)) (sym (cond-false (here first) _ _ missing))
      (lower_apart here n (first + 1) low (omega (arith, below)))
]

pages_distinct : (here : ℕ → Bool) (n first : ℕ) → IsDistinct eqb (pages_here here first n)
pages_distinct here zero first = IsDistinct-distinct []
pages_distinct here (suc n) first = elim (cases_Bool (here first)) [
  | inl found ↦ subst (IsDistinct eqb) (sym (cond-true (here first) _ _ found))
      (IsDistinct-cons eqb first (pages_here here (first + 1) n) (lower_apart here n (first + 1) first (omega arith))
      (pages_distinct here n (first + 1)))
  | inr missing ↦ subst (IsDistinct eqb) (sym (cond-false (here first) _ _ missing)) (pages_distinct here n (first + 1))
]

-- the present pages of a range, and one below them, are no more than all
pub present_among : (present : PageMap) (first n low : ℕ) → low < first → IsSome (get present low)
    → here_among (λ page. is_some (get present page)) first n + 1 ≤ len present
present_among present first n low below there =
    let here : ℕ → Bool = λ page. is_some (get present page) in
    let pages = pages_here here first n in
    let fewer : length (low ∷ pages) ≤ length (keys present) = length-le_from_is_member nat_eq_equiv (low ∷ pages) (keys present)
    (IsDistinct-cons eqb low pages (lower_apart here n first low below) (pages_distinct here n first))
    (λ q is. member-keys present q ∙ elim (or_cases (eqb q low) (member q pages) is) [
      | inl same ↦ ap here (eqb-true q low same) ∙ there
      | inr among ↦ here_there here n first q among
    ]) in
    omega (arith, fewer, length-keys present, length-pages_here here n first)

-- a block more at the top ends within the heap's area
pub block_fits : (memory : FlatMemory) (heap : Heap) (class : ℕ) → IsHeap memory heap → Contains classes class
    → len memory.present ≤ 65536 → heap.top + 2 ^ class ≤ heap_end
block_fits memory heap class is in_classes few =
    let here : ℕ → Bool = λ page. is_some (get memory.present page) in
    let halves : AllByRecursion (λ b. (1 ≤ b.class) × IsHalfHere here b) is.order = recursion_from_All _ is.order
    (λ k d inside. (omega (arith, (class_within _ (is.classed k d inside)).0), is.halves k d inside)) in
    let start = heap_at / 4096 in
    let least = at_least_half here start heap_at heap.top is.order (omega arith) is.fill halves (omega arith) in
    let header : IsSome (get memory.present 512) = is.header 512 (omega arith) (omega arith) in
    let all = present_among memory.present start (heap.top / 4096 - start) 512 (omega arith) header in
    let class_small : class ≤ 21 = omega (arith, (class_within class in_classes).1) in
    let size : 2 ^ class ≤ 2 ^ 21 = pow_mono class_small in
    omega (arith, least, all, few, size)
