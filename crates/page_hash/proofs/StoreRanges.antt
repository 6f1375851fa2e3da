-- Ranges of a store that a touch may ask for: parts of the header, of the heap and of the array.
use Rattle.std.proofs.Common.{ℕ, ◌+◌, ◌*◌, ◌<◌, ◌≤◌, eqb, [], refl, sym, subst, arith, inl, inr, Contains, length}
use Rattle.std.proofs.lemmas.Bool.{cases_eq, cond-true, cond-false, eq-eqb, ne_eqb, false≢true}
use Rattle.vm_base.specs.Places.{page_of, cell_of, cells_of_range}
use Rattle.vm_base.specs.FlatMemory.{FlatMemory}
use Rattle.vm_base.specs.MemoryState.{IsListed}
use Rattle.vm_base.proofs.FlatAreas.{range-listed}
use Rattle.store_meaning.specs.Layout.{header_at, header_area, heap_area, heap_at, heap_end, array_pages, store_area, store_cells}
use Rattle.store_meaning.specs.HashLayout.{Store, Pairs, IsStore}
use Rattle.page_hash.specs.Touching.{IsOfStore}
use Rattle.page_hash.proofs.StoreReads.{array_region, bucket_count, bucket_low}
use Rattle.page_hash.proofs.PresentTouch.{IsOfRegions, region_listed}

-- cells of a range are a store's where those are that it meets
pub range_cells : (address n : ℕ)
    → ((cell : ℕ) → address < (cell + 1) * 2097152 → cell * 2097152 < address + n → IsOfRegions cell)
    → (cell : ℕ) → IsListed cell (cells_of_range address n) → IsListed cell store_cells
range_cells address n regions cell listed = elim (cases_eq n 0) [
  | inl none ↦ absurd (false≢true (subst (IsListed cell) (cond-true (eqb n 0) [] _ (eq-eqb n 0 none)) listed))
  | inr some ↦
      let inside = range-listed _ (cell_of (page_of address)) cell
      (subst (IsListed cell) (cond-false (eqb n 0) [] _ (ne_eqb n 0 some)) listed) in
      region_listed cell (regions cell (omega (arith, inside.0)) (omega (arith, inside.0, inside.1, some)))
]

-- a part of the header
pub header_range : (memory : FlatMemory) (store : Store) (of : Pairs) (field n : ℕ) → IsStore memory store of → header_at ≤ field
    → field + n ≤ header_at + 4096 → IsOfStore memory field n
header_range memory store of field n is low high = record {
  area = header_area;
  listed = is.heap.areas.0;
  has = (omega (arith, low), omega (arith, high));
  writable = refl;
  cells = range_cells field n (λ cell above below. inl (omega (arith, above, below, low, high)));
  few = omega (arith, low, high);
  low = omega (arith, high);
}

-- a part of the heap, no longer than a touch may be
pub heap_range : (memory : FlatMemory) (store : Store) (of : Pairs) (address n : ℕ) → IsStore memory store of → heap_at ≤ address
    → address + n ≤ heap_end → n ≤ 4194304 → IsOfStore memory address n
heap_range memory store of address n is low high few = record {
  area = heap_area;
  listed = is.heap.areas.1;
  has = (omega (arith, low), omega (arith, high));
  writable = refl;
  cells = range_cells address n
      (λ cell above below. inr (inr (inr (omega (arith, above, low), omega (arith, below, high)))));
  few = few;
  low = omega (arith, high);
}

-- a bucket
pub bucket_range : (memory : FlatMemory) (store : Store) (of : Pairs) (bucket : ℕ) → IsStore memory store of
    → bucket < length store.table.chains → IsOfStore memory (store.table.array + 8 * bucket) 8
bucket_range memory store of bucket is inside =
    let table = store.table in
    let count = (bucket_count memory table is.table).1 in
    record {
      area = store_area table.array (array_pages (length table.chains));
      listed = subst (λ areas. Contains areas (store_area table.array (array_pages (length table.chains)))) (sym is.table.areas)
          (1, omega arith, refl);
      has = elim (array_region memory table is.table) [
        | inl first ↦ (omega (arith, first, inside), omega (arith, first, inside))
        | inr second ↦ (omega (arith, second, inside), omega (arith, second, inside))
      ];
      writable = refl;
      cells = range_cells (table.array + 8 * bucket) 8 (λ cell above below. elim (array_region memory table is.table) [
        | inl first ↦ inr (inl (omega (arith, first, above), omega (arith, first, below, inside, count)))
        | inr second ↦ inr (inr (inl (omega (arith, second, above), omega (arith, second, below, inside, count))))
      ]);
      few = omega arith;
      low = bucket_low memory table bucket is.table inside;
    }
