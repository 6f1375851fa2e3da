-- What touches of a store's ranges need and leave.
use Rattle.std.specs.Prelude.{◌≡◌, ℕ, ◌+◌, ◌≤◌, ◌^◌, Contains, IsNone, IsTrue}
use Rattle.std.specs.FinMap.{get}
use Rattle.vm_base.specs.Counts.{Rose}
use Rattle.vm_base.specs.Places.{cells_of_range}
use Rattle.vm_base.specs.declared.faults.Fault.{Fault}
use Rattle.vm_base.specs.declared.faults.Fault.TheVariants.{NoArea, NoWrite, NoFrame, Overlap, AreasFull, CellsFull}
use Rattle.vm_base.specs.FlatMemory.{Area, FlatMemory}
use Rattle.vm_base.specs.FlatLaws.{HasBytes}
use Rattle.vm_base.specs.FlatStep.{is_writable}
use Rattle.vm_base.specs.MemoryState.{MemoryState, IsListed, KeepsReady}
use Rattle.vm_base.specs.MemoryCalls.{IsInRange, IsReady, Reaches, touched}
use Rattle.store_meaning.specs.Layout.{store_cells}

-- one area that may be written has each byte of the range, whose cells are a store's
pub record IsOfStore (memory : FlatMemory) (address n : ℕ) : Type 0 where
  pub area : Area
  pub listed : Contains memory.areas area
  pub has : HasBytes area address n
  pub writable : IsTrue (is_writable area.perm)
  pub cells : (cell : ℕ) → IsListed cell (cells_of_range address n) → IsListed cell store_cells
  pub few : n ≤ 4194304
  pub low : address + n ≤ 2 ^ 48

-- the pages of the range are present and may be stored to
pub record MakesPresent (old new : MemoryState) (address n : ℕ) : Type 0 where
  pub mem : new.mem ≡ touched old.mem address n
  pub most : Reaches old new address n
  pub ready : IsReady new address n
  pub keeps : KeepsReady old new

-- a frame was refused for a page of the range that is absent, and all reads as before
pub record LacksStorePage (old new : MemoryState) (address n at : ℕ) : Type 0 where
  pub rose : Rose old.refused new.refused
  pub told : at ≡ new.refused
  pub page : ℕ
  pub range : IsInRange page address n
  pub absent : IsNone (get old.mem.present page)
  pub mem : new.mem ≡ old.mem
  pub most : Reaches old new address n

-- the pages of the range, which are present, may be stored to, and nothing else has changed
pub record MakesReady (old new : MemoryState) (address n : ℕ) : Type 0 where
  pub mem : new.mem ≡ old.mem
  pub most : new.most ≡ old.most
  pub ready : IsReady new address n
  pub keeps : KeepsReady old new

-- the count of a fault that is told for want of a frame
abbrev pub told_count : Fault → ℕ
told_count (NoFrame at page) = at
told_count (NoArea page) = 0
told_count (NoWrite page) = 0
told_count (Overlap page) = 0
told_count AreasFull = 0
told_count CellsFull = 0
