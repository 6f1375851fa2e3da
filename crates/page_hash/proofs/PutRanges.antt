-- The ranges that a put touches and stores to.
use Rattle.std.proofs.Common.{◌≡◌, ℕ, ◌+◌, ◌*◌, ◌<◌, ◌≤◌, Bool, true, false, List, [], ◌∷◌, ◌++◌, length, eqb, refl, sym, ap, subst, arith, inl, inr, Contains}
use Rattle.std.specs.Prelude.{◌||◌, ◌==◌}
use Rattle.std.specs.List.{list_any, range_with_len}
use Rattle.std.proofs.lemmas.Bool.{cases_eq, cond-true, eq-eqb, or_cases, false≢true}
use Rattle.vm_base.specs.Places.{page_count, cells_of_range}
use Rattle.vm_base.specs.FlatMemory.{FlatMemory}
use Rattle.vm_base.specs.MemoryState.{MemoryState, IsListed}
use Rattle.vm_base.specs.MemoryCalls.{IsInRange, IsReady}
use Rattle.vm_base.proofs.FlatAreas.{listed-range, cells-of_pages}
use Rattle.store_meaning.specs.Layout.{store_cells, store_area, array_pages, header_area, heap_area, header_at, heap_at, heap_end}
use Rattle.store_meaning.specs.HashLayout.{Store, Pairs, IsStore}
use Rattle.page_heap.proofs.Flat.{in_range}
use Rattle.page_hash.specs.Touching.{IsOfStore}
use Rattle.page_hash.proofs.StoreReads.{array_region, bucket_count}
use Rattle.page_hash.proofs.Touched.{meets_range}

listed_front : (cell : ℕ) (xs ys : List ℕ) → IsListed cell xs → IsListed cell (xs ++ ys)
listed_front cell [] ys listed = absurd (false≢true listed)
listed_front cell (x ∷ xs) ys listed = elim (or_cases (eqb x cell) (list_any (λ other. other == cell) xs) listed) [
  | inl here ↦ ap (λ b. b || list_any (λ other. other == cell) (xs ++ ys)) here
  | inr later ↦ either (eqb x cell) _ (listed_front cell xs ys later)
]
  where
    either : (one two : Bool) → two ≡ true → (one || two) ≡ true
    either true two is = refl
    either false two is = is

listed_back : (cell : ℕ) (xs ys : List ℕ) → IsListed cell ys → IsListed cell (xs ++ ys)
listed_back cell [] ys listed = listed
listed_back cell (x ∷ xs) ys listed = either (eqb x cell) _ (listed_back cell xs ys listed)
  where
    either : (one two : Bool) → two ≡ true → (one || two) ≡ true
    either true two is = refl
    either false two is = is

-- the cells of a range lie where its bytes do
cells_within : (address n low count cell : ℕ) → low * 2097152 ≤ address → address + n ≤ (low + count) * 2097152
    → IsListed cell (cells_of_range address n) → (low ≤ cell) × (cell < low + count)
cells_within address n low count cell from to listed =
    let page = (cells-of_pages address n cell).0 listed in
    let meets = meets_range address n page.0 page.1.0 in
    (omega (arith, from, meets.0, page.1.1), omega (arith, to, meets.1, page.1.1))

-- the cells of the four regions
header_cell : (cell : ℕ) → (1 ≤ cell) × (cell < 2) → IsListed cell store_cells
header_cell cell within =
    let one : 1 ≡ cell = omega (arith, within.0, within.1) in
    listed_front cell (1 ∷ []) (range_with_len 1024 64 ++ (range_with_len 2048 64 ++ (range_with_len 4096 257 ++ [])))
    (ap (λ b. b || false) (eq-eqb 1 cell one))

first_cell : (cell : ℕ) → (1024 ≤ cell) × (cell < 1088) → IsListed cell store_cells
first_cell cell within =
    listed_back cell (1 ∷ []) (range_with_len 1024 64 ++ (range_with_len 2048 64 ++ (range_with_len 4096 257 ++ [])))
    (listed_front cell (range_with_len 1024 64) (range_with_len 2048 64 ++ (range_with_len 4096 257 ++ []))
    (listed-range 64 1024 cell within.0 within.1))

second_cell : (cell : ℕ) → (2048 ≤ cell) × (cell < 2112) → IsListed cell store_cells
second_cell cell within =
    listed_back cell (1 ∷ []) (range_with_len 1024 64 ++ (range_with_len 2048 64 ++ (range_with_len 4096 257 ++ [])))
    (listed_back cell (range_with_len 1024 64) (range_with_len 2048 64 ++ (range_with_len 4096 257 ++ []))
    (listed_front cell (range_with_len 2048 64) (range_with_len 4096 257 ++ [])
    (listed-range 64 2048 cell within.0 within.1)))

heap_cell : (cell : ℕ) → (4096 ≤ cell) × (cell < 4353) → IsListed cell store_cells
heap_cell cell within =
    listed_back cell (1 ∷ []) (range_with_len 1024 64 ++ (range_with_len 2048 64 ++ (range_with_len 4096 257 ++ [])))
    (listed_back cell (range_with_len 1024 64) (range_with_len 2048 64 ++ (range_with_len 4096 257 ++ []))
    (listed_back cell (range_with_len 2048 64) (range_with_len 4096 257 ++ [])
    (listed_front cell (range_with_len 4096 257) [] (listed-range 257 4096 cell within.0 within.1))))

-- a part of the heap may be touched
pub heap_range : (memory : FlatMemory) (store : Store) (of : Pairs) (address n : ℕ) → IsStore memory store of → heap_at ≤ address
    → address + n ≤ heap_end → n ≤ 4194304 → IsOfStore memory address n
heap_range memory store of address n is low high few = record {
  area = heap_area;
  listed = is.heap.areas.1;
  has = (omega (arith, low), omega (arith, high));
  writable = refl;
  cells = λ cell listed. heap_cell cell (cells_within address n 4096 257 cell (omega (arith, low)) (omega (arith, high)) listed);
  few = few;
  low = omega (arith, high);
}

-- and a part of the header
pub header_range : (memory : FlatMemory) (store : Store) (of : Pairs) (address n : ℕ) → IsStore memory store of → header_at ≤ address
    → address + n ≤ header_at + 4096 → IsOfStore memory address n
header_range memory store of address n is low high = record {
  area = header_area;
  listed = is.heap.areas.0;
  has = (omega (arith, low), omega (arith, high));
  writable = refl;
  cells = λ cell listed. header_cell cell (cells_within address n 1 1 cell (omega (arith, low)) (omega (arith, high)) listed);
  few = omega (arith, low, high);
  low = omega (arith, high);
}

-- and a bucket
pub bucket_range : (memory : FlatMemory) (store : Store) (of : Pairs) (bucket : ℕ) → IsStore memory store of
    → bucket < length store.table.chains → IsOfStore memory (store.table.array + 8 * bucket) 8
bucket_range memory store of bucket is inside =
    let count = bucket_count memory store.table is.table in
    record {
      area = store_area store.table.array (array_pages (length store.table.chains));
      listed = subst (λ areas. Contains areas (store_area store.table.array (array_pages (length store.table.chains)))) (sym is.table.areas)
          (1, omega arith, refl);
      has = elim (array_region memory store.table is.table) [
        | inl first ↦ (omega (arith, first, inside), omega (arith, first, inside))
        | inr second ↦ (omega (arith, second, inside), omega (arith, second, inside))
      ];
      writable = refl;
      cells = λ cell listed. elim (array_region memory store.table is.table) [
        | inl first ↦ first_cell cell (cells_within (store.table.array + 8 * bucket) 8 1024 64 cell (omega (arith, first))
            (omega (arith, first, inside, count.1)) listed)
        | inr second ↦ second_cell cell (cells_within (store.table.array + 8 * bucket) 8 2048 64 cell (omega (arith, second))
            (omega (arith, second, inside, count.1)) listed)
      ];
      few = omega arith;
      low = elim (array_region memory store.table is.table) [
        | inl first ↦ omega (arith, first, inside, count.1)
        | inr second ↦ omega (arith, second, inside, count.1)
      ];
    }

-- a page of a part is one of the range
pub range_part : (address size other n page : ℕ) → address ≤ other → other + n ≤ address + size → IsInRange page other n
    → IsInRange page address size
range_part address size other n page low high inside =
    let meets = meets_range other n page inside in
    let some : 0 < size = elim (cases_eq n 0) [
      | inl none ↦
          let count : page_count other n ≡ 0 = cond-true (eqb n 0) 0 _ (eq-eqb n 0 none) in
          absurd (omega (arith, inside.0, inside.1, count))
      | inr more ↦ omega (arith, more, low, high)
    ] in
    in_range address size page some (omega (arith, low, meets.0)) (omega (arith, high, meets.1))

-- a part of a range may be stored to where the range may
pub ready_part : (state : MemoryState) (address size other n : ℕ) → address ≤ other → other + n ≤ address + size
    → IsReady state address size → IsReady state other n
ready_part state address size other n low high ready page inside = ready page (range_part address size other n page low high inside)
