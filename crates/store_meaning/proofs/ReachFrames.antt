-- A memory that stands for a store has no more frames than its reach.
use Rattle.std.proofs.Common.{◌≡◌, ℕ, ◌+◌, ◌*◌, ◌/◌, ◌^◌, ◌<◌, ◌≤◌, ◌⊎◌, min, max, leb, ltb, List, [], ◌∷◌, length, map, zip, sum, fold, Some, IsSome, is_some, sym, ◌∙◌, ap, subst, arith, inl, inr, pow_mono}
use Rattle.std.specs.FinMap.{get, len}
use Rattle.std.proofs.lemmas.Bool.{cases_Bool, cond-false, and_parts, leb-true, ltb-true, false≢true}
use Rattle.vm_base.specs.Places.{cell_of, distinct, directory_frames}
use Rattle.vm_base.specs.FlatMemory.{Area, FlatMemory, IsFlat, area_of, holds, cells_of}
use Rattle.vm_base.specs.MemoryState.{MemoryState, own_of}
use Rattle.store_meaning.specs.Layout.{classes, array_a, array_b, array_pages, heap_at, store_areas}
use Rattle.store_meaning.specs.HashLayout.{Store, Pairs, IsStore}
use Rattle.store_meaning.specs.Reach.{Place, At, Cleared, Reach, opening_reach, reach_step, reach_of, frames_of_pages, pages_of_peaks}
use Rattle.store_meaning.specs.Standing.{KeepsWithin}
use Rattle.store_meaning.proofs.Intervals.{Interval, IsInOneOf, ArePagesIn, of_cells, len_within, cells_within, directory_within}
use Rattle.store_meaning.proofs.OwnedApart.{array_after-either}

-- ---- the frames of some pages of a store's regions

-- so many pages of each region, lowest first: the header's, those of the two arrays, and the heap's
abbrev pub region_pages : ℕ → ℕ → ℕ → List Interval
region_pages first second heap = (512, 1) ∷ (524288, first) ∷ (1048576, second) ∷ (2097152, heap) ∷ []

-- the numbers of the upper tables, and of the middle tables, of all regions
abbrev upper_tables : List Interval
upper_tables = (0, 1) ∷ []

abbrev middle_tables : List Interval
middle_tables = (0, 1) ∷ (2, 1) ∷ (4, 1) ∷ (8, 1) ∷ []

page_low : (first second heap page : ℕ) → first ≤ 32768 → second ≤ 32768 → heap ≤ 131584
    → IsInOneOf (region_pages first second heap) page → page < 134217728
page_low first second heap page one two three (inl here) = omega (arith, here.1)
page_low first second heap page one two three (inr (inl here)) = omega (arith, one, here.1)
page_low first second heap page one two three (inr (inr (inl here))) = omega (arith, two, here.1)
page_low first second heap page one two three (inr (inr (inr (inl here)))) = omega (arith, three, here.1)
page_low first second heap page one two three (inr (inr (inr (inr none)))) = absurd none

upper_of : (page : ℕ) → page < 134217728 → IsInOneOf upper_tables (cell_of page / 2 ^ 18)
upper_of page low = inl (omega arith, omega (arith, low))

middle_of : (first second heap page : ℕ) → first ≤ 32768 → second ≤ 32768 → heap ≤ 131584
    → IsInOneOf (region_pages first second heap) page → IsInOneOf middle_tables (cell_of page / 2 ^ 9)
middle_of first second heap page one two three (inl here) = inl (omega arith, omega (arith, here.1))
middle_of first second heap page one two three (inr (inl here)) =
    inr (inl (omega (arith, here.0), omega (arith, one, here.1)))
middle_of first second heap page one two three (inr (inr (inl here))) =
    inr (inr (inl (omega (arith, here.0), omega (arith, two, here.1))))
middle_of first second heap page one two three (inr (inr (inr (inl here)))) =
    inr (inr (inr (inl (omega (arith, here.0), omega (arith, three, here.1)))))
middle_of first second heap page one two three (inr (inr (inr (inr none)))) = absurd none

-- a memory whose pages lie in the regions, so many in each, has no more frames than that many pages may take
pub own_of-within : (memory : FlatMemory) (first second heap pages : ℕ) → first ≤ 32768 → second ≤ 32768 → heap ≤ 131584
    → ArePagesIn (region_pages first second heap) memory.present → 1 + first + second + heap ≤ pages
    → own_of memory ≤ frames_of_pages pages
own_of-within memory first second heap pages one two three within fits =
    let uppers = of_cells (λ cell. IsInOneOf upper_tables (cell / 2 ^ 18)) memory
    (λ page there. upper_of page (page_low first second heap page one two three (within page there))) in
    let middles = of_cells (λ cell. IsInOneOf middle_tables (cell / 2 ^ 9)) memory
    (λ page there. middle_of first second heap page one two three (within page there)) in
    let directory : directory_frames (cells_of memory) ≤ 6 =
    omega (arith, directory_within (cells_of memory) upper_tables middle_tables uppers middles) in
    let leaves : length (distinct (cells_of memory)) ≤ 1 + (first + 511) / 512 + (second + 511) / 512 + (heap + 511) / 512 =
    omega (arith, cells_within memory (region_pages first second heap) within) in
    let present : len memory.present ≤ 1 + first + second + heap =
    omega (arith, len_within memory.present (region_pages first second heap) within) in
    omega (arith, directory, leaves, present, fits)

-- ---- the pages of a store

-- a page that has an area lies in one of them
found_in : (areas : List Area) (page : ℕ) → IsSome (area_of areas page)
    → IsInOneOf (map (λ (area : Area). (area.first, area.pages)) areas) page
found_in [] page found = absurd (false≢true found)
found_in (area ∷ areas) page found = elim (cases_Bool (holds area page)) [
  | inl here ↦
      let tests = and_parts (leb area.first page) (ltb page (area.first + area.pages)) here in
      inl (leb-true area.first page tests.0, ltb-true page (area.first + area.pages) tests.1)
  | inr apart ↦ inr (found_in areas page (sym (ap is_some (cond-false (holds area page) (Some area) (area_of areas page) apart)) ∙ found))
]

-- the pages of a store's areas, lowest first
abbrev area_pages : ℕ → ℕ → List Interval
area_pages at array = (512, 1) ∷ (at / 4096, array) ∷ (2097152, 131584) ∷ []

-- no more heap pages than there are, nor than hold so many bytes
abbrev heap_within : ℕ → ℕ
heap_within bytes = min ((bytes + 4095) / 4096) 131584

in_first : (at array bytes page : ℕ) → at ≡ array_a → (heap_at ≤ 4096 * page → 4096 * page < heap_at + bytes)
    → IsInOneOf (area_pages at array) page → IsInOneOf (region_pages array 0 (heap_within bytes)) page
in_first at array bytes page is below (inl here) = inl here
in_first at array bytes page is below (inr (inl here)) = inr (inl (omega (arith, is, here.0), omega (arith, is, here.1)))
in_first at array bytes page is below (inr (inr (inl here))) =
    inr (inr (inr (inl (here.0, omega (arith, below (omega (arith, here.0)), here.1)))))
in_first at array bytes page is below (inr (inr (inr none))) = absurd none

in_second : (at array bytes page : ℕ) → at ≡ array_b → (heap_at ≤ 4096 * page → 4096 * page < heap_at + bytes)
    → IsInOneOf (area_pages at array) page → IsInOneOf (region_pages 0 array (heap_within bytes)) page
in_second at array bytes page is below (inl here) = inl here
in_second at array bytes page is below (inr (inl here)) = inr (inr (inl (omega (arith, is, here.0), omega (arith, is, here.1))))
in_second at array bytes page is below (inr (inr (inl here))) =
    inr (inr (inr (inl (here.0, omega (arith, below (omega (arith, here.0)), here.1)))))
in_second at array bytes page is below (inr (inr (inr none))) = absurd none

-- the header, one array and the heap are within the pages of the peaks
one_array_within : (bytes buckets pairs : ℕ) → (buckets ≡ 512) ⊎ (buckets < 2 * pairs)
    → 1 + array_pages buckets + heap_within bytes ≤ (bytes + 4095) / 4096 + (24 * pairs + 4095) / 4096 + 3
one_array_within bytes buckets pairs (inl first) = omega (arith, first)
one_array_within bytes buckets pairs (inr more) = omega (arith, more)

-- and so are the two arrays of a doubling, where there are more pairs than buckets
pub two_arrays_within : (parts pairs : ℕ) → 512 * parts < pairs
    → array_pages (512 * parts) + array_pages (2 * (512 * parts)) ≤ (24 * pairs + 4095) / 4096
two_arrays_within parts pairs more = omega (arith, more)

-- ---- the reach

-- a memory that stands for a store within a reach has no more frames of its own than its pages may take
pub own_of-reach : (state : MemoryState) (store : Store) (of : Pairs) (reach : Reach) → IsFlat state.mem → IsStore state.mem store of
    → KeepsWithin state store reach → own_of state.mem ≤ frames_of_pages (pages_of_peaks reach.peaks reach.pairs)
own_of-reach state store of reach flat is within =
    let bytes : ℕ = sum (map (λ both. 2 ^ both.0 * both.1) (zip classes reach.peaks)) in
    let buckets : ℕ = length store.table.chains in
    let times : ℕ = is.table.doubled.0 in
    let doubled = is.table.doubled.1 in
    let most : 2 ^ times ≤ 2 ^ 15 = pow_mono doubled.few in
    let small : array_pages buckets ≤ 32768 = omega (arith, doubled.buckets, most) in
    let least : heap_within bytes ≤ 131584 = omega arith in
    let fits = one_array_within bytes buckets reach.pairs within.buckets in
    let in_areas : (page : ℕ) → IsSome (get state.mem.present page) → IsInOneOf (area_pages store.table.array (array_pages buckets)) page =
    λ page there. found_in (store_areas store.table.array buckets) page
    (subst (λ areas. IsSome (area_of areas page)) is.table.areas (flat.in_areas page there)) in
    elim (array_after-either times) [
      | inl first ↦ own_of-within state.mem (array_pages buckets) 0 (heap_within bytes)
          (pages_of_peaks reach.peaks reach.pairs) small (omega arith) least
          (λ page there. in_first store.table.array (array_pages buckets) bytes page (doubled.region ∙ first) (within.pages page there)
          (in_areas page there))
          (omega (arith, fits))
      | inr second ↦ own_of-within state.mem 0 (array_pages buckets) (heap_within bytes)
          (pages_of_peaks reach.peaks reach.pairs) (omega arith) small least
          (λ page there. in_second store.table.array (array_pages buckets) bytes page (doubled.region ∙ second) (within.pages page there)
          (in_areas page there))
          (omega (arith, fits))
    ]

-- the pages of a reach are within its bound
abbrev IsBounded : Reach → Type 0
IsBounded reach = frames_of_pages (pages_of_peaks reach.peaks reach.pairs) ≤ reach.bound

max_right : (one two : ℕ) → two ≤ max one two
max_right one two = omega arith

bounded_from : (places : List Place) (reach : Reach) → IsBounded reach → IsBounded (fold reach_step reach places)
bounded_from [] reach bounded = bounded
bounded_from (At pairs ∷ places) reach bounded =
    bounded_from places (reach_step reach (At pairs)) (max_right reach.bound _)
bounded_from (Cleared ∷ places) reach bounded = bounded_from places (reach_step reach Cleared) (max_right reach.bound _)

-- so the frames of a memory that stands for a store are within the bound of the places that it went through
pub own_of-bound : (state : MemoryState) (store : Store) (of : Pairs) (places : List Place) → IsFlat state.mem → IsStore state.mem store of
    → KeepsWithin state store (reach_of places) → own_of state.mem ≤ (reach_of places).bound
own_of-bound state store of places flat is within =
    let own = own_of-reach state store of (reach_of places) flat is within in
    let bounded = bounded_from places opening_reach (max_right 0 _) in
    omega (arith, own, bounded)
