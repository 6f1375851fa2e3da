-- What the calls on the table need, answer and leave.
use Rattle.std.specs.Prelude.{ℕ, [], Contains}
use Rattle.std.specs.FinMap.{empty}
use Rattle.vm_base.specs.FlatMemory.{Area, FlatMemory}
use Rattle.vm_base.specs.FlatLaws.{HasBytes}
use Rattle.vm_base.specs.MemoryState.{MemoryState}
use Rattle.store_meaning.specs.HashLayout.{IsStore}
use Rattle.store_meaning.specs.StoreSteps.{opening_store}
use Rattle.store_meaning.specs.Standing.{MayHoldStore, Stands}

-- one area of the memory has each byte of the range
pub record IsOfArea (memory : FlatMemory) (address n : ℕ) : Type 0 where
  pub area : Area
  pub listed : Contains memory.areas area
  pub has : HasBytes area address n

-- the memory has the store without pairs, and calls of a store may be made on it
pub record BeginsStore (old new : MemoryState) : Type 0 where
  pub may : MayHoldStore new
  pub store : IsStore new.mem opening_store empty
  pub stands : Stands new empty old.most []
