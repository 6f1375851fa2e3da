-- Unmapping the pages that were mapped last gives the memory before.
use Rattle.std.proofs.Common.{◌≡◌, ℕ, ◌+◌, ◌-◌, ◌<◌, ◌≤◌, Bool, true, false, ◌⊎◌, List, [], ◌∷◌, ◌++◌, length, Some, None, Ok, Err, OnOk, IfErr, Result, refl, sym, ◌∙◌, ap, subst, arith, inl, inr}
use Rattle.std.specs.Prelude.{is_some, is_ok, nat_le, ◌&&◌, ◌==◌, Option, IsTrue}
use Rattle.vm_base.specs.declared.faults.Fault.{Fault}
use Rattle.vm_base.specs.declared.faults.Fault.TheVariants.{Overlap, AreasFull}
use Rattle.vm_base.specs.MemoryState.{MemoryState}
use Rattle.vm_base.specs.MemoryCalls.{Changes, Refuses, faulted, map_answer, unmap_answer}
use Rattle.std.specs.FinMap.{get, retain_keys, get-retain_keys, nat_cmp-IsAntisymmetric}
use Rattle.std.proofs.lemmas.Bool.{cases_Bool, cases_lt, cond-true, cond-false, and_parts, eqb-true, false≢true}
use Rattle.std.proofs.lemmas.Bool.Decides.{nat_tests}
use Rattle.vm_base.specs.declared.permission.Perm.{Perm}
use Rattle.vm_base.specs.declared.permission.Perm.TheVariants.{Read, ReadWrite}
use Rattle.vm_base.specs.FlatMemory.{Area, FlatMemory, AreInOrder, IsFlat}
use Rattle.vm_base.specs.FlatStep.{joined, joined_front, with_area, is_same_perm, area_between, area_without, areas_without, is_beyond, unmap_of, at_most_128, taken, or_refused, Taken}
use Rattle.vm_base.proofs.NumberedMaps.{same_numbered}
use Rattle.memory_uses.specs.Steps.{area_from_page, IsMappedInto}
use Rattle.memory_uses.proofs.FreePages.{AreFree, AreFree-taken, free_others, free_apart, without_apart, without_met, between_none, between_some}

-- an area may be made one with the next
abbrev joins : Area → Area → Bool
joins a b = (a.first + a.pages == b.first) && is_same_perm a.perm b.perm

abbrev both : Area → Area → Area
both a b = record a { pages = a.pages + b.pages }

same_perm : (one other : Perm) → is_same_perm one other ≡ true → one ≡ other
same_perm Read Read same = refl
same_perm ReadWrite ReadWrite same = refl
same_perm Read ReadWrite different = absurd (false≢true different)
same_perm ReadWrite Read different = absurd (false≢true different)

touches : (a b : Area) → joins a b ≡ true → a.first + a.pages ≡ b.first
touches a b one = eqb-true (a.first + a.pages) b.first (and_parts (a.first + a.pages == b.first) (is_same_perm a.perm b.perm) one).0

alike : (a b : Area) → joins a b ≡ true → a.perm ≡ b.perm
alike a b one = same_perm a.perm b.perm (and_parts (a.first + a.pages == b.first) (is_same_perm a.perm b.perm) one).1

front_joins : (a b : Area) (areas : List Area) → joins a b ≡ true → joined_front a (b ∷ areas) ≡ both a b ∷ areas
front_joins a b areas one = cond-true (joins a b) _ _ one

front_apart : (a b : Area) (areas : List Area) → joins a b ≡ false → joined_front a (b ∷ areas) ≡ a ∷ b ∷ areas
front_apart a b areas two = cond-false (joins a b) _ _ two

same_area : (x y : Area) → x.first ≡ y.first → x.pages ≡ y.pages → x.perm ≡ y.perm → x ≡ y
same_area x y first pages perm =
    ap (λ f. area_from_page f x.pages x.perm) first ∙ ap (λ n. area_from_page y.first n x.perm) pages
    ∙ ap (λ p. area_from_page y.first y.pages p) perm

some_pages : (a : Area) (areas : List Area) → AreInOrder (a ∷ areas) → 0 < a.pages
some_pages a [] order = order
some_pages a (b ∷ areas) order = order.0

order_rest : (a : Area) (areas : List Area) → AreInOrder (a ∷ areas) → AreInOrder areas
order_rest a [] order = tt
order_rest a (b ∷ areas) order = order.3

-- areas in order are joined already
joined-in_order : (areas : List Area) → AreInOrder areas → joined areas ≡ areas
joined-in_order [] order = refl
joined-in_order (a ∷ []) order = refl
joined-in_order (a ∷ b ∷ areas) order = ap (joined_front a) (joined-in_order (b ∷ areas) order.3) ∙ elim (cases_Bool (joins a b)) [
  | inl one ↦ absurd (order.2 (touches a b one) (alike a b one))
  | inr two ↦ front_apart a b areas two
]

-- areas that have none of the pages stay
without-free : (first n : ℕ) (areas : List Area) → 0 < n → AreInOrder areas → AreFree first n areas → areas_without first n areas ≡ areas
without-free first n [] some order free = refl
without-free first n (a ∷ areas) some order free =
    ap (λ l. l ++ areas_without first n areas) (without_apart first n a (free_apart first n a areas some (some_pages a areas order) free))
    ∙ ap (λ l. a ∷ l) (without-free first n areas some (order_rest a areas order) (free_others first n a areas free))

-- nothing of the area itself is left
without_self : (first n : ℕ) (perm : Perm) → 0 < n → area_without first n (area_from_page first n perm) ≡ []
without_self first n perm some =
    without_met first n (area_from_page first n perm) (omega arith) (omega arith)
    ∙ ap (λ l. l ++ area_between (first + n) (first + n) perm) (between_none first first perm (omega arith)) ∙ between_none (first + n) (first + n) perm (omega arith)

-- of the area and the next as one, the next is left
without_next : (first n : ℕ) (perm : Perm) (next : Area) → 0 < n → 0 < next.pages → joins (area_from_page first n perm) next ≡ true
    → area_without first n (both (area_from_page first n perm) next) ≡ next ∷ []
without_next first n perm next some pages one =
    let meets : first + n ≡ next.first = touches (area_from_page first n perm) next one in
    let size : first + (n + next.pages) - (first + n) ≡ next.pages = omega arith in
    without_met first n (both (area_from_page first n perm) next) (omega arith) (omega arith)
    ∙ ap (λ l. l ++ area_between (first + n) (first + (n + next.pages)) perm) (between_none first first perm (omega arith))
    ∙ between_some (first + n) (first + (n + next.pages)) perm (omega arith)
    ∙ ap (λ a. a ∷ []) (same_area (area_from_page (first + n) (first + (n + next.pages) - (first + n)) perm) next meets size (alike (area_from_page first n perm) next one))

-- of an area below and the one behind it as one, the area is left, and what was left of the other
without_both : (first n : ℕ) (a next : Area) (rest : List Area) → 0 < n → 0 < a.pages → a.first + a.pages ≤ first → joins a next ≡ true
    → AreInOrder (a ∷ area_without first n next ++ rest) → area_without first n (both a next) ≡ a ∷ area_without first n next
without_both first n a next rest some pages below one order =
    let meets : a.first + a.pages ≡ next.first = touches a next one in
    elim (cases_lt first (next.first + next.pages)) [
      | inr early ↦
          let stays = subst (λ l. AreInOrder (a ∷ l ++ rest)) (without_apart first n next (inl early)) order in
          absurd (stays.2 meets (alike a next one))
      | inl beyond ↦ elim (cases_lt next.first first) [
        | inl before ↦
            let parts = without_met first n next beyond (omega arith)
            ∙ ap (λ l. l ++ area_between (first + n) (next.first + next.pages) next.perm) (between_some next.first first next.perm before) in
            let stays = subst (λ l. AreInOrder (a ∷ l ++ rest)) parts order in
            absurd (stays.2 meets (alike a next one))
        | inr at ↦
            let ends : a.first + (a.pages + next.pages) ≡ next.first + next.pages = omega arith in
            let size : first - a.first ≡ a.pages = omega arith in
            without_met first n (both a next) (omega arith) (omega arith)
            ∙ ap (λ l. l ++ area_between (first + n) (a.first + (a.pages + next.pages)) a.perm) (between_some a.first first a.perm (omega arith))
            ∙ ap (λ m. area_from_page a.first m a.perm ∷ area_between (first + n) (a.first + (a.pages + next.pages)) a.perm) size
            ∙ ap (λ e. a ∷ area_between (first + n) e a.perm) ends
            ∙ ap (λ p. a ∷ area_between (first + n) (next.first + next.pages) p) (alike a next one)
            ∙ ap (λ l. a ∷ l) (sym (without_met first n next beyond (omega arith)
            ∙ ap (λ l. l ++ area_between (first + n) (next.first + next.pages) next.perm) (between_none next.first first next.perm at)))
      ]
    ]

-- an area below the pages, in front of others
front_again : (first n : ℕ) (a : Area) (made areas : List Area) → 0 < n → a.first + a.pages ≤ first → AreInOrder (a ∷ areas)
    → areas_without first n made ≡ areas → areas_without first n (joined_front a made) ≡ a ∷ areas
front_again first n a [] areas some below order again =
    ap (λ l. l ++ []) (without_apart first n a (inl below)) ∙ ap (λ l. a ∷ l) again
front_again first n a (next ∷ made) areas some below order again = elim (cases_Bool (joins a next)) [
  | inr two ↦ ap (areas_without first n) (front_apart a next made two)
      ∙ ap (λ l. l ++ areas_without first n (next ∷ made)) (without_apart first n a (inl below)) ∙ ap (λ l. a ∷ l) again
  | inl one ↦ ap (areas_without first n) (front_joins a next made one)
      ∙ ap (λ l. l ++ areas_without first n made) (without_both first n a next (areas_without first n made) some (some_pages a areas order) below one
      (subst (λ l. AreInOrder (a ∷ l)) (sym again) order))
      ∙ ap (λ l. a ∷ l) again
]

-- the areas without the area that was put among them
pub areas_again : (first n : ℕ) (perm : Perm) (areas : List Area) → 0 < n → AreInOrder areas → AreFree first n areas
    → areas_without first n (joined (with_area (area_from_page first n perm) areas)) ≡ areas
areas_again first n perm [] some order free = ap (λ l. l ++ []) (without_self first n perm some)
areas_again first n perm (a ∷ areas) some order free = elim (cases_Bool (nat_le first a.first)) [
  | inl here ↦ ap (λ l. areas_without first n (joined l)) (cond-true (nat_le first a.first) (area_from_page first n perm ∷ a ∷ areas) (a ∷ with_area (area_from_page first n perm) areas) here)
      ∙ ap (λ l. areas_without first n (joined_front (area_from_page first n perm) l)) (joined-in_order (a ∷ areas) order)
      ∙ elim (cases_Bool (joins (area_from_page first n perm) a)) [
        | inl one ↦ ap (areas_without first n) (front_joins (area_from_page first n perm) a areas one)
            ∙ ap (λ l. l ++ areas_without first n areas) (without_next first n perm a some (some_pages a areas order) one)
            ∙ ap (λ l. a ∷ l) (without-free first n areas some (order_rest a areas order) (free_others first n a areas free))
        | inr two ↦ ap (areas_without first n) (front_apart (area_from_page first n perm) a areas two)
            ∙ ap (λ l. l ++ areas_without first n (a ∷ areas)) (without_self first n perm some)
            ∙ without-free first n (a ∷ areas) some order free
      ]
  | inr later ↦
      let early : a.first < first = grind (arith, nat_tests) in
      let below : a.first + a.pages ≤ first = elim (free_apart first n a areas some (some_pages a areas order) free) [ inl low ↦ low | inr high ↦ absurd (omega arith) ] in
      ap (λ l. areas_without first n (joined l)) (cond-false (nat_le first a.first) (area_from_page first n perm ∷ a ∷ areas) (a ∷ with_area (area_from_page first n perm) areas) later)
      ∙ front_again first n a (joined (with_area (area_from_page first n perm) areas)) areas some below order
      (areas_again first n perm areas some (order_rest a areas order) (free_others first n a areas free))
]

-- a page among the free ones is absent
absent_free : (memory : FlatMemory) (first n page : ℕ) → IsFlat memory → AreFree first n memory.areas → is_beyond first n page ≡ false → get memory.present page ≡ None
absent_free memory first n page flat free inside = elim (none_or_some (get memory.present page)) [
  | inl none ↦ none
  | inr some ↦
      let above : first ≤ page = grind (arith, nat_tests) in
      let below : page < first + n = grind (arith, nat_tests) in
      absurd (false≢true (sym (free page above below) ∙ flat.in_areas page some))
]
  where
    none_or_some : {X : Type 0} (found : Option X) → (found ≡ None) ⊎ (is_some found ≡ true)
    none_or_some None = inl refl
    none_or_some (Some x) = inr refl

present_again : (before now : FlatMemory) (first n : ℕ) → IsMappedInto before now first n → retain_keys now.present (is_beyond first n) ≡ before.present
present_again before now first n mapped = same_numbered _ _ (λ q.
    get-retain_keys now.present (is_beyond first n) q (λ x ties. ap (is_beyond first n) (sym (nat_cmp-IsAntisymmetric q x ties)))
    ∙ elim (cases_Bool (is_beyond first n q)) [
      | inl out ↦ cond-true (is_beyond first n q) _ _ out ∙ mapped.beyond q out
      | inr inside ↦ cond-false (is_beyond first n q) _ _ inside
          ∙ sym (absent_free before first n q mapped.flat (AreFree-taken first n before.areas mapped.free) inside)
    ])

few_enough : (n : ℕ) → n ≤ 128 → nat_le n 128 ≡ true
few_enough n few = grind (arith, nat_tests)

-- unmapping what was mapped last is never refused, and gives the memory before
pub unmap_of-mapped : (before now : FlatMemory) (first n : ℕ) → 0 < n → IsMappedInto before now first n → unmap_of now first n ≡ Ok before
unmap_of-mapped before now first n some mapped =
    ap (λ areas. at_most_128 (record { areas = areas_without first n areas; present = retain_keys now.present (is_beyond first n) })) mapped.areas
    ∙ ap (λ areas. at_most_128 (record { areas = areas; present = retain_keys now.present (is_beyond first n) }))
    (areas_again first n mapped.perm before.areas some mapped.flat.in_order (AreFree-taken first n before.areas mapped.free))
    ∙ ap (λ present. at_most_128 (record { areas = before.areas; present = present })) (present_again before now first n mapped)
    ∙ cond-true (nat_le (length before.areas) 128) _ _ (few_enough (length before.areas) mapped.flat.few)

-- the memory of an answer, where there is one
abbrev pub memory_of : Result FlatMemory Fault → FlatMemory → FlatMemory
memory_of (Ok memory) other = memory
memory_of (Err fault) other = other

pub same_memory : (answer : Result FlatMemory Fault) (one two : FlatMemory) → answer ≡ Ok one → answer ≡ Ok two → one ≡ two
same_memory answer one two first second = sym (ap (λ a. memory_of a one) first) ∙ ap (λ a. memory_of a one) second

pub one_answer : (answer : Result FlatMemory Fault) (one : FlatMemory) (fault : Fault) → answer ≡ Ok one → answer ≡ Err fault → ⊥
one_answer answer one fault first second = false≢true (sym (ap is_ok second) ∙ ap is_ok first)

-- however the call ended, the memory is the one before
pub taken_back : (result : Result (Unit {0}) Fault) (old new : MemoryState) (before : FlatMemory) (first n : ℕ) → 0 < n → IsMappedInto before old.mem first n
    → OnOk result (Changes old new (unmap_answer old first n)) → IfErr result (λ fault. Refuses old new (unmap_answer old first n) fault) → new.mem ≡ before
taken_back (Ok done) old new before first n some mapped changed refused =
    same_memory (unmap_answer old first n) new.mem before changed.0 (ap faulted (unmap_of-mapped before old.mem first n some mapped))
taken_back (Err fault) old new before first n some mapped changed refused =
    absurd (one_answer (unmap_answer old first n) before fault (ap faulted (unmap_of-mapped before old.mem first n some mapped)) refused.0)

-- where mapping was answered, the pages were free
pub mapped_into : (old : MemoryState) (first n : ℕ) (perm : Perm) (now : FlatMemory) → IsFlat old.mem → map_answer old first n perm ≡ Ok now → IsMappedInto old.mem now first n
mapped_into old first n perm now flat answer = elim (cases_taken (taken old.mem.areas first n)) [
  | inr some ↦
      absurd (one_answer (map_answer old first n perm) now (Overlap some.0) answer
      (ap (λ t. faulted (or_refused Taken t (at_most_128 (record old.mem { areas = joined (with_area (area_from_page first n perm) old.mem.areas) })))) some.1))
  | inl none ↦
      let plain = ap (λ t. faulted (or_refused Taken t (at_most_128 (record old.mem { areas = joined (with_area (area_from_page first n perm) old.mem.areas) })))) none in
      elim (cases_Bool (nat_le (length (joined (with_area (area_from_page first n perm) old.mem.areas))) 128)) [
        | inl few ↦
            let is : record old.mem { areas = joined (with_area (area_from_page first n perm) old.mem.areas) } ≡ now =
            same_memory (map_answer old first n perm) _ now (plain ∙ ap faulted (cond-true _ _ _ few)) answer in
            record {
              flat = flat;
              perm = perm;
              free = none;
              areas = ap (λ m. m.areas) (sym is);
              beyond = λ page out. ap (λ m. get m.present page) (sym is);
            }
        | inr many ↦ absurd (one_answer (map_answer old first n perm) now AreasFull answer (plain ∙ ap faulted (cond-false _ _ _ many)))
      ]
]
  where
    cases_taken : (found : Option ℕ) → (found ≡ None) ⊎ ((page : ℕ) × (found ≡ Some page))
    cases_taken None = inl refl
    cases_taken (Some page) = inr (page, refl)

-- more has changed among the pages
pub mapped-on : (before now later : FlatMemory) (first n : ℕ) → IsMappedInto before now first n → later.areas ≡ now.areas
    → ((page : ℕ) → IsTrue (is_beyond first n page) → get later.present page ≡ get now.present page) → IsMappedInto before later first n
mapped-on before now later first n mapped areas beyond = record {
  flat = mapped.flat;
  perm = mapped.perm;
  free = mapped.free;
  areas = areas ∙ mapped.areas;
  beyond = λ page out. beyond page out ∙ mapped.beyond page out;
}

pub mapped-same : (before now later : FlatMemory) (first n : ℕ) → IsMappedInto before now first n → later ≡ now → IsMappedInto before later first n
mapped-same before now later first n mapped same = subst (λ m. IsMappedInto before m first n) (sym same) mapped
