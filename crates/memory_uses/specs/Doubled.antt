-- What a doubling leaves: an array that was mapped and touched in pieces, a header that was stored, and the old array unmapped.
use Rattle.std.specs.Prelude.{◌≡◌, ℕ, ◌+◌, ◌*◌, ◌≤◌, ◌⊎◌, max, List, length}
use Rattle.vm_base.specs.declared.permission.Perm.TheVariants.{ReadWrite}
use Rattle.vm_base.specs.declared.faults.Fault.{Fault}
use Rattle.vm_base.specs.MemoryState.{MemoryState, KeepsReady, own_of}
use Rattle.vm_base.specs.MemoryCalls.{Touches, TouchFails, Maps, Changes, Refuses, IsReady, map_answer, unmap_answer, after_store, touched}

-- n pages were touched, whatever the pieces
pub record TouchesPages (old new : MemoryState) (first n : ℕ) : Type 0 where
  pub counted : old.refused ≤ new.refused
  pub mem : new.mem ≡ touched old.mem (first * 4096) (n * 4096)
  pub most : new.most ≡ max old.most (own_of new.mem)
  pub ready : IsReady new (first * 4096) (n * 4096)
  pub keeps : KeepsReady old new

-- the touch of a piece was refused: the pages in front of it were touched
pub record PagesFail (old new : MemoryState) (first n : ℕ) (fault : Fault) : Type 0 where
  pub done : ℕ
  pub piece : ℕ
  pub within : done + piece ≤ n
  pub before : MemoryState
  pub front : TouchesPages old before first done
  pub fails : TouchFails before new ((first + done) * 4096) (piece * 4096) fault

-- the pages of an array were touched, and then a header
pub record TouchesArray (old new : MemoryState) (first n header size : ℕ) : Type 0 where
  pub behind : MemoryState
  pub pages : TouchesPages old behind first n
  pub word : Touches behind new header size

-- a piece of the array could not be touched, or the header not
abbrev pub ArrayFails : MemoryState → MemoryState → ℕ → ℕ → ℕ → ℕ → Fault → Type 0
ArrayFails old new first n header size fault =
    PagesFail old new first n fault ⊎ ((behind : MemoryState) × (TouchesPages old behind first n × TouchFails behind new header size fault))

-- an array was mapped, and touched with a header
pub record Grows (old new : MemoryState) (first n header size : ℕ) : Type 0 where
  pub mapped : MemoryState
  pub map : Maps old mapped (map_answer old first n ReadWrite)
  pub touch : TouchesArray mapped new first n header size

-- it could not be mapped, or not be touched; what was taken back behind that raises no frames, and may raise the count
abbrev pub GrowFails : MemoryState → MemoryState → ℕ → ℕ → ℕ → ℕ → Fault → Type 0
GrowFails old new first n header size fault =
    Refuses old new (map_answer old first n ReadWrite) fault
    ⊎ ((mapped : MemoryState) × (after : MemoryState) × (Maps old mapped (map_answer old first n ReadWrite)
    × ArrayFails mapped after first n header size fault × (new.most ≡ after.most) × (after.refused ≤ new.refused) × (new.mem ≡ old.mem)))

-- an array was mapped and touched, the header stored, and the old array unmapped
pub record Doubles (old new : MemoryState) (first n header : ℕ) (fields : List ℕ) (from pages : ℕ) : Type 0 where
  pub grown : MemoryState
  pub grow : Grows old grown first n header (length fields)
  pub unmap : Changes (after_store grown header fields) new (unmap_answer (after_store grown header fields) from pages)

-- nothing was stored, and the memory is as it was; or all was done but that the old array could not be unmapped
abbrev pub DoublingFails : MemoryState → MemoryState → ℕ → ℕ → ℕ → List ℕ → ℕ → ℕ → Fault → Type 0
DoublingFails old new first n header fields from pages fault =
    (GrowFails old new first n header (length fields) fault × (new.mem ≡ old.mem))
    ⊎ ((grown : MemoryState) × (Grows old grown first n header (length fields)
    × Refuses (after_store grown header fields) new (unmap_answer (after_store grown header fields) from pages) fault))
