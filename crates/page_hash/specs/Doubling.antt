-- What a doubling of the array leaves, made or refused.
use Rattle.std.specs.Prelude.{◌≡◌, ℕ, ◌+◌, ◌*◌, ◌/◌, ◌^◌, ◌≤◌, ◌<◌, min, max, if◌then◌else◌, nat_lt, List, [], ◌∷◌, ◌++◌, length, IsSome, IsNone, Contains}
use Rattle.std.specs.FinMap.{get}
use Rattle.byteorder.specs.Endian.{big_bytes}
use Rattle.vm_base.specs.Counts.{Rose}
use Rattle.vm_base.specs.Places.{cells_of_range}
use Rattle.vm_base.specs.FlatMemory.{Area, FlatMemory}
use Rattle.vm_base.specs.FlatStep.{with_bytes}
use Rattle.vm_base.specs.FlatLaws.{HasNumbersOf, unmapped}
use Rattle.vm_base.specs.MemoryState.{MemoryState, IsMemory, own_of}
use Rattle.vm_base.specs.MemoryCalls.{IsInRange, IsReady, touched}
use Rattle.store_meaning.specs.Layout.{header_area, heap_area, store_area, array_field, header_at, store_cells}
use Rattle.store_meaning.specs.HeapLayout.{ArePresent}
use Rattle.store_meaning.specs.HashLayout.{other_array, Pairs, Store, IsStore, entries_of}
use Rattle.store_meaning.specs.StoreSteps.{doubled, IsCrowded}
use Rattle.store_meaning.specs.Standing.{MayHoldStore}
use Rattle.page_hash.specs.declared.arrays.Arrays.{Arrays}
use Rattle.page_hash.specs.ArrayRelinking.{AreArrays}

-- the array was doubled, and no page was taken but those of the new one
pub record DoublesArray (old new : MemoryState) (store : Store) (pairs : Pairs) : Type 0 where
  pub is : IsStore new.mem (doubled store) pairs
  pub pages : (page : ℕ) → IsSome (get new.mem.present page) → IsNone (get old.mem.present page)
      → IsInRange page (other_array store.table.array) (16 * length store.table.chains)

-- the first part of the new array, as much as one touch may have, was asked for at least; a frame
-- was refused, and the memory is as it was
pub record LeavesSingle (old new : MemoryState) (store : Store) : Type 0 where
  pub mem : new.mem ≡ old.mem
  pub rose : Rose old.refused new.refused
  pub reached : own_of (touched old.mem (other_array store.table.array)
      (min (16 * length store.table.chains) 4194304)) ≤ new.most

-- a doubling is due, between these arrays
pub record IsDue (memory : FlatMemory) (arrays : Arrays) (store : Store)
    (pairs : Pairs) : Type 0 where
  pub is : IsStore memory store pairs
  pub crowded : IsCrowded store
  pub old : arrays.old ≡ store.table.array
  pub new : arrays.new ≡ other_array store.table.array
  pub buckets : arrays.buckets ≡ length store.table.chains
  pub counted : arrays.pairs ≡ length (entries_of store.table)
  pub small : arrays.pairs < 2 ^ 64

-- the areas of an old array and of a new one
abbrev pub old_area : Arrays → Area
old_area arrays = store_area arrays.old (arrays.buckets / 512)

-- the area of the array that it moves to
abbrev pub new_area : Arrays → Area
new_area arrays = store_area arrays.new (arrays.buckets / 256)

-- the areas of a store with two arrays, of so many pages each, lowest first
abbrev pub both_of : ℕ → ℕ → ℕ → ℕ → List Area
both_of old new few many =
    if nat_lt old new then header_area ∷ store_area old few ∷ store_area new many ∷ heap_area ∷ []
    else header_area ∷ store_area new many ∷ store_area old few ∷ heap_area ∷ []

-- those of a doubling
abbrev pub areas_with_both : Arrays → List Area
areas_with_both arrays =
    both_of arrays.old arrays.new (arrays.buckets / 512) (arrays.buckets / 256)

-- an area that may be written, of whole pages, none of which is present
pub record IsFreshArea (state : MemoryState) (address size : ℕ) : Type 0 where
  pub sound : IsMemory state
  pub may : MayHoldStore state
  pub first : ℕ
  pub pages : ℕ
  pub at : address ≡ 4096 * first
  pub bytes : size ≡ 4096 * pages
  pub some : 0 < pages
  pub area : Contains state.mem.areas (store_area address pages)
  pub cells : (at n : ℕ) → address ≤ at → at + n ≤ address + size
      → HasNumbersOf store_cells (cells_of_range at n)
  pub low : address + size ≤ 2 ^ 48

-- each page of the area is present, and may be stored to
pub record TouchesArea (old new : MemoryState) (address size : ℕ) : Type 0 where
  pub mem : new.mem ≡ touched old.mem address size
  pub most : new.most ≤ max old.most (own_of (touched old.mem address size))
  pub ready : IsReady new address size

-- a frame was refused: some first pages of the area are present
pub record LeavesArea (old new : MemoryState) (address size : ℕ) : Type 0 where
  pub done : ℕ
  pub few : done < size
  pub mem : new.mem ≡ touched old.mem address done
  pub most : new.most ≤ max old.most (own_of (touched old.mem address size))
  pub rose : Rose old.refused new.refused
  pub reached : own_of (touched old.mem address (min size 4194304)) ≤ new.most

-- the new array is there, of zeros, and all reads as before
pub record AddsArray (old new : MemoryState) (arrays : Arrays) : Type 0 where
  pub areas : new.mem.areas ≡ areas_with_both arrays
  pub present : new.mem.present ≡ (touched old.mem arrays.new (16 * arrays.buckets)).present
  pub most : new.most ≤ max old.most (own_of (touched old.mem arrays.new (16 * arrays.buckets)))
  pub ready : IsReady new arrays.new (16 * arrays.buckets)

-- the memory is as it was, where a frame was refused for the new array
pub record LacksArray (old new : MemoryState) (arrays : Arrays) : Type 0 where
  pub mem : new.mem ≡ old.mem
  pub most : new.most ≤ max old.most (own_of (touched old.mem arrays.new (16 * arrays.buckets)))
  pub rose : Rose old.refused new.refused
  pub reached : own_of (touched old.mem arrays.new (min (16 * arrays.buckets) 4194304)) ≤ new.most

-- the header may be stored to, and there are both arrays
pub record MayMoveTo (memory : FlatMemory) (arrays : Arrays) : Type 0 where
  pub regions : AreArrays arrays
  pub areas : memory.areas ≡ areas_with_both arrays
  pub header : ArePresent memory header_at 4096
  pub pages : ℕ
  pub whole : arrays.buckets ≡ 512 * pages

-- the header names the new array, and the old one is gone
pub record MovesTo (old new : MemoryState) (arrays : Arrays) : Type 0 where
  pub areas : new.mem.areas ≡ header_area ∷ new_area arrays ∷ heap_area ∷ []
  pub present : new.mem.present ≡ unmapped (with_bytes old.mem.present array_field
      (big_bytes 8 arrays.new ++ big_bytes 8 (2 * arrays.buckets) ++ big_bytes 8 arrays.pairs))
      (arrays.old / 4096) (arrays.buckets / 512)
  pub most : new.most ≡ old.most
