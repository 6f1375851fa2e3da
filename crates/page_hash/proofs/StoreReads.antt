-- Reads of a store's ranges: none of them is refused.
use Rattle.std.proofs.Common.{◌≡◌, ℕ, zero, suc, ◌+◌, ◌*◌, ◌^◌, ◌<◌, ◌≤◌, ◌⊎◌, eqb, List, [], ◌∷◌, length, map, Result, Ok, Err, OnOk, IfErr, is_ok, refl, sym, ◌∙◌, ap, subst, arith, inl, inr, pow_pos, pow_mono, Contains}
use Rattle.std.specs.FinMap.{entries, len, len-entries}
use Rattle.std.proofs.lemmas.Bool.{cases_eq, cond-true, cond-false, eq-eqb, ne_eqb, false≢true}
use Rattle.std.proofs.lemmas.List.Sorted.{length_permutation}
use Rattle.vm_base.specs.declared.faults.Fault.{Fault}
use Rattle.vm_base.specs.FlatMemory.{FlatMemory, bytes_at}
use Rattle.vm_base.specs.MemoryCalls.{read_answer, faulted}
use Rattle.vm_base.proofs.FlatAreas.{read_of-in_area}
use Rattle.store_meaning.specs.Layout.{header_at, header_area, heap_area, heap_at, heap_end, array_a, array_b, array_pages, pairs_field, store_area, word_at}
use Rattle.store_meaning.specs.HashLayout.{Table, Store, Pairs, IsStore, IsTable, entry_pair, entries_of, array_after, other_array}
use Rattle.page_hash.specs.HashCalls.{IsOfArea}

-- the bytes of an answer
abbrev bytes_in : Result (List ℕ) Fault → List ℕ
bytes_in (Ok bytes) = bytes
bytes_in (Err fault) = []

-- a range of one area is answered with its bytes
pub answered : (memory : FlatMemory) (address n : ℕ) → IsOfArea memory address n
    → read_answer memory address n ≡ Ok (bytes_at memory.present address n)
answered memory address n is = ap faulted (read_of-in_area memory is.area address n is.listed is.has)

-- so a read of it leaves them in the buffer
pub read_bytes : (memory : FlatMemory) (address n : ℕ) (result : Result (Unit {0}) Fault) (buf : List ℕ) → IsOfArea memory address n
    → OnOk result (read_answer memory address n ≡ Ok buf) → IfErr result (λ fault. read_answer memory address n ≡ Err fault)
    → buf ≡ bytes_at memory.present address n
read_bytes memory address n (Ok done) buf is read fails = sym (ap bytes_in read) ∙ ap bytes_in (answered memory address n is)
read_bytes memory address n (Err fault) buf is read fails =
    absurd (false≢true (sym (ap is_ok fails) ∙ ap is_ok (answered memory address n is)))

-- a part of the header lies in its area
pub header_part : (memory : FlatMemory) (store : Store) (of : Pairs) (field n : ℕ) → IsStore memory store of → header_at ≤ field
    → field + n ≤ header_at + 4096 → IsOfArea memory field n
header_part memory store of field n is low high = record {
  area = header_area;
  listed = is.heap.areas.0;
  has = (omega (arith, low), omega (arith, high));
}

-- a part of the heap lies in its area
pub heap_part : (memory : FlatMemory) (store : Store) (of : Pairs) (address n : ℕ) → IsStore memory store of → heap_at ≤ address
    → address + n ≤ heap_end → IsOfArea memory address n
heap_part memory store of address n is low high = record {
  area = heap_area;
  listed = is.heap.areas.1;
  has = (omega (arith, low), omega (arith, high));
}

-- the other region is one of the two
other_region : (array : ℕ) → (other_array array ≡ array_a) ⊎ (other_array array ≡ array_b)
other_region array = elim (cases_eq array array_a) [
  | inl same ↦ inr (cond-true (eqb array array_a) array_b array_a (eq-eqb array array_a same))
  | inr apart ↦ inl (cond-false (eqb array array_a) array_b array_a (ne_eqb array array_a apart))
]

-- an array lies in one of two regions
pub region_after : (times : ℕ) → (array_after times ≡ array_a) ⊎ (array_after times ≡ array_b)
region_after zero = inl refl
region_after (suc times) = other_region (array_after times)

pub array_region : (memory : FlatMemory) (table : Table) → IsTable memory table → (table.array ≡ array_a) ⊎ (table.array ≡ array_b)
array_region memory table is = elim (region_after is.doubled.0) [
  | inl first ↦ inl (is.doubled.1.region ∙ first)
  | inr second ↦ inr (is.doubled.1.region ∙ second)
]

-- there are 512 buckets at least, and 2^24 at most
pub bucket_count : (memory : FlatMemory) (table : Table) → IsTable memory table
    → (512 ≤ length table.chains) × (length table.chains ≤ 16777216)
bucket_count memory table is =
    let few : 2 ^ is.doubled.0 ≤ 2 ^ 15 = pow_mono is.doubled.1.few in
    let some : 0 < 2 ^ is.doubled.0 = pow_pos is.doubled.0 in
    (omega (arith, is.doubled.1.buckets, some), omega (arith, is.doubled.1.buckets, few))

-- a bucket lies in the array's area
pub bucket_part : (memory : FlatMemory) (table : Table) (bucket : ℕ) → IsTable memory table → bucket < length table.chains
    → IsOfArea memory (table.array + 8 * bucket) 8
bucket_part memory table bucket is inside = record {
  area = store_area table.array (array_pages (length table.chains));
  listed = subst (λ areas. Contains areas (store_area table.array (array_pages (length table.chains)))) (sym is.areas)
      (1, omega arith, refl);
  has = elim (array_region memory table is) [
    | inl first ↦ (omega (arith, first, inside), omega (arith, first, inside))
    | inr second ↦ (omega (arith, second, inside), omega (arith, second, inside))
  ];
}

pub bucket_low : (memory : FlatMemory) (table : Table) (bucket : ℕ) → IsTable memory table → bucket < length table.chains
    → table.array + 8 * bucket + 8 ≤ 2 ^ 48
bucket_low memory table bucket is inside = elim (array_region memory table is) [
  | inl first ↦ omega (arith, first, inside, (bucket_count memory table is).1)
  | inr second ↦ omega (arith, second, inside, (bucket_count memory table is).1)
]

length_mapped : {X Y : Type 0} (f : X → Y) (xs : List X) → length (map f xs) ≡ length xs
length_mapped f [] = refl
length_mapped f (x ∷ xs) = let rest = length_mapped f xs in omega (arith, rest)

-- the field of the pairs counts them
pub pairs_counted : (memory : FlatMemory) (store : Store) (of : Pairs) → IsStore memory store of → word_at memory pairs_field ≡ len of
pairs_counted memory store of is =
    is.table.pairs ∙ sym (length_mapped entry_pair (entries_of store.table))
    ∙ sym (length_permutation (map entry_pair (entries_of store.table)) (entries of) is.pairs) ∙ sym (len-entries of)
