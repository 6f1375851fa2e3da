-- What taking all pairs out leaves.
use Rattle.std.specs.Prelude.{◌≡◌, ℕ, [], ◌∷◌, ◌++◌, List, IsSome, replicate}
use Rattle.std.specs.FinMap.{get, empty}
use Rattle.byteorder.specs.Endian.{big_bytes}
use Rattle.vm_base.specs.MemoryState.{MemoryState}
use Rattle.store_meaning.specs.Layout.{heap_at, array_a}
use Rattle.store_meaning.specs.HashLayout.{IsStore}
use Rattle.store_meaning.specs.StoreSteps.{opening_store}
use Rattle.store_meaning.specs.Reach.{Cleared}
use Rattle.store_meaning.specs.Standing.{Follows}

-- the map is empty, the store the one that begins, and the header's page alone is present
pub record Clears (old new : MemoryState) : Type 0 where
  pub follows : Follows old new (λ pairs. empty) (λ pairs. Cleared ∷ [])
  pub store : IsStore new.mem opening_store empty
  pub pages : (page : ℕ) → IsSome (get new.mem.present page) → page ≡ 512

-- the header's fields of a store that begins: the first top, empty lists of free blocks, the array
-- in the first region, 512 buckets and no pair
abbrev pub opening_fields : List ℕ
opening_fields =
    big_bytes 8 heap_at ++ replicate 136 0 ++ big_bytes 8 array_a ++ big_bytes 8 512
    ++ replicate 8 0
