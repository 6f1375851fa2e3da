-- The frames of a doubling are within the reach of the map's own place.
use Rattle.std.proofs.Common.{◌≡◌, ℕ, ◌+◌, ◌-◌, ◌*◌, ◌/◌, ◌^◌, ◌<◌, ◌≤◌, ◌⊎◌, min, leb, ltb, eqb, List, [], ◌∷◌, length, map, zip, sum, Some, IsSome, is_some, sym, ◌∙◌, ap, subst, arith, inl, inr}
use Rattle.std.specs.FinMap.{get}
use Rattle.std.proofs.lemmas.Bool.{cases_Bool, cases_lt, cond-false, ne_eqb, and_parts, leb-true, ltb-true, false≢true}
use Rattle.vm_base.specs.Places.{page_of, page_count}
use Rattle.vm_base.specs.FlatMemory.{Area, FlatMemory, IsFlat, area_of, holds}
use Rattle.vm_base.specs.MemoryState.{MemoryState, own_of}
use Rattle.vm_base.specs.MemoryCalls.{IsInRange, touched}
use Rattle.vm_base.proofs.FlatLaws.{get-with_pages_beyond}
use Rattle.store_meaning.specs.Layout.{classes, array_a, array_b, array_pages, heap_at, store_areas}
use Rattle.store_meaning.specs.HashLayout.{Store, Pairs}
use Rattle.store_meaning.specs.Reach.{Reach, frames_of_pages, pages_of_peaks}
use Rattle.store_meaning.specs.Standing.{KeepsWithin}
use Rattle.store_meaning.proofs.Intervals.{IsInOneOf}
use Rattle.store_meaning.proofs.ReachFrames.{region_pages, own_of-within, two_arrays_within}
use Rattle.page_hash.specs.declared.arrays.Arrays.{Arrays}
use Rattle.page_hash.specs.Doubling.{IsDue}
use Rattle.page_hash.proofs.AddingArray.{due_facts}

-- a page that has an area lies in one of them
found_in_areas : (areas : List Area) (page : ℕ) → IsSome (area_of areas page)
    → IsInOneOf (map (λ (area : Area). (area.first, area.pages)) areas) page
found_in_areas [] page found = absurd (false≢true found)
found_in_areas (area ∷ areas) page found = elim (cases_Bool (holds area page)) [
  | inl here ↦
      let tests = and_parts (leb area.first page) (ltb page (area.first + area.pages)) here in
      inl (leb-true area.first page tests.0, ltb-true page (area.first + area.pages) tests.1)
  | inr apart ↦
      inr (found_in_areas areas page (sym (ap is_some (cond-false (holds area page) (Some area) (area_of areas page) apart)) ∙ found))
]

-- the pages that heap blocks within so many bytes may have
abbrev heap_pages_of : ℕ → ℕ
heap_pages_of bytes = min ((bytes + 4095) / 4096) 131584

-- where a page of the memory with both arrays lies
up_pages : (at few many bytes page : ℕ) → at ≡ array_a → (heap_at ≤ 4096 * page → 4096 * page < heap_at + bytes)
    → IsInOneOf ((512, 1) ∷ (at / 4096, few) ∷ (2097152, 131584) ∷ []) page → IsInOneOf (region_pages few many (heap_pages_of bytes)) page
up_pages at few many bytes page is below (inl here) = inl here
up_pages at few many bytes page is below (inr (inl here)) = inr (inl (omega (arith, is, here.0), omega (arith, is, here.1)))
up_pages at few many bytes page is below (inr (inr (inl here))) =
    inr (inr (inr (inl (here.0, omega (arith, below (omega (arith, here.0)), here.1)))))
up_pages at few many bytes page is below (inr (inr (inr none))) = absurd none

down_pages : (at few many bytes page : ℕ) → at ≡ array_b → (heap_at ≤ 4096 * page → 4096 * page < heap_at + bytes)
    → IsInOneOf ((512, 1) ∷ (at / 4096, few) ∷ (2097152, 131584) ∷ []) page → IsInOneOf (region_pages many few (heap_pages_of bytes)) page
down_pages at few many bytes page is below (inl here) = inl here
down_pages at few many bytes page is below (inr (inl here)) = inr (inr (inl (omega (arith, is, here.0), omega (arith, is, here.1))))
down_pages at few many bytes page is below (inr (inr (inl here))) =
    inr (inr (inr (inl (here.0, omega (arith, below (omega (arith, here.0)), here.1)))))
down_pages at few many bytes page is below (inr (inr (inr none))) = absurd none

-- a page of the memory with the new array touched is one of it, or was there
pub new_or_old : (memory : FlatMemory) (at size page : ℕ) → IsSome (get (touched memory at size).present page)
    → IsInRange page at size ⊎ IsSome (get memory.present page)
new_or_old memory at size page there = elim (cases_lt page (page_of at)) [
  | inl below ↦ inr (sym (ap is_some (get-with_pages_beyond memory.present (page_of at) (page_count at size) page (inl below))) ∙ there)
  | inr low ↦ elim (cases_lt page (page_of at + page_count at size)) [
    | inl inside ↦ inl (low, inside)
    | inr above ↦ inr (sym (ap is_some (get-with_pages_beyond memory.present (page_of at) (page_count at size) page (inr above))) ∙ there)
  ]
]

-- so the frames with both arrays are those of the pages of the reach at most
pub both_own : (state : MemoryState) (arrays : Arrays) (store : Store) (pairs : Pairs) (reach : Reach) → IsFlat state.mem
    → IsDue state.mem arrays store pairs → KeepsWithin state store reach → arrays.buckets < reach.pairs
    → own_of (touched state.mem arrays.new (16 * arrays.buckets)) ≤ frames_of_pages (pages_of_peaks reach.peaks reach.pairs)
both_own state arrays store pairs reach flat due within more =
    let facts = due_facts state.mem arrays store pairs due in
    let bytes : ℕ = sum (map (λ both. 2 ^ both.0 * both.1) (zip classes reach.peaks)) in
    let few : ℕ = array_pages (length store.table.chains) in
    let many : ℕ = array_pages (2 * (512 * facts.part)) in
    let small : few ≤ 32768 = omega (arith, facts.whole, facts.few, due.buckets) in
    let large : many ≤ 32768 = omega (arith, facts.few) in
    let least : heap_pages_of bytes ≤ 131584 = omega arith in
    let two = two_arrays_within facts.part reach.pairs (omega (arith, facts.whole, more)) in
    let fits : 1 + few + many + heap_pages_of bytes ≤ pages_of_peaks reach.peaks reach.pairs =
    omega (arith, two, facts.whole, due.buckets) in
    let in_areas : (page : ℕ) → IsSome (get state.mem.present page)
    → IsInOneOf ((512, 1) ∷ (store.table.array / 4096, few) ∷ (2097152, 131584) ∷ []) page =
    λ page there. found_in_areas (store_areas store.table.array (length store.table.chains)) page
    (subst (λ areas. IsSome (area_of areas page)) due.is.table.areas (flat.in_areas page there)) in
    let count : page_count arrays.new (16 * arrays.buckets) ≡ page_of (arrays.new + 16 * arrays.buckets - 1) + 1 - page_of arrays.new =
    cond-false (eqb (16 * arrays.buckets) 0) 0 _ (ne_eqb (16 * arrays.buckets) 0 (λ none. omega (arith, none, facts.whole, facts.some))) in
    elim facts.regions [
      | inl up ↦ own_of-within (touched state.mem arrays.new (16 * arrays.buckets)) few many (heap_pages_of bytes)
          (pages_of_peaks reach.peaks reach.pairs) small large least
          (λ page there. elim (new_or_old state.mem arrays.new (16 * arrays.buckets) page there) [
            | inl new ↦ inr (inr (inl (omega (arith, up.1, new.0), omega (arith, up.1, new.1, count, facts.whole, facts.some))))
            | inr old ↦ up_pages store.table.array few many bytes page (sym due.old ∙ up.0) (within.pages page old) (in_areas page old)
          ])
          fits
      | inr down ↦ own_of-within (touched state.mem arrays.new (16 * arrays.buckets)) many few (heap_pages_of bytes)
          (pages_of_peaks reach.peaks reach.pairs) large small least
          (λ page there. elim (new_or_old state.mem arrays.new (16 * arrays.buckets) page there) [
            | inl new ↦ inr (inl (omega (arith, down.1, new.0), omega (arith, down.1, new.1, count, facts.whole, facts.some)))
            | inr old ↦ down_pages store.table.array few many bytes page (sym due.old ∙ down.0) (within.pages page old) (in_areas page old)
          ])
          (omega (arith, fits))
    ]
