-- What a put answers and leaves, with the doubling that may come with it.
use Rattle.std.specs.Prelude.{◌⊎◌, ℕ, ◌*◌, ◌≤◌, min, Bool, IsTrue, IsFalse, List, [], ◌∷◌, length}
use Rattle.std.specs.FinMap.{insert}
use Rattle.vm_base.specs.Counts.{Rose}
use Rattle.vm_base.specs.MemoryState.{MemoryState, own_of}
use Rattle.vm_base.specs.MemoryCalls.{IsInRange, touched}
use Rattle.store_meaning.specs.HashLayout.{other_array, Pairs, Store, IsStore}
use Rattle.store_meaning.specs.StoreSteps.{put_in, doubled, IsCrowded}
use Rattle.store_meaning.specs.Reach.{At}
use Rattle.store_meaning.specs.Standing.{Follows}
use Rattle.page_hash.specs.Puts.{AddsOnly, MeetsPlace}

-- a doubling is due in the store exactly where the answer says so
abbrev pub SaysDue : Store → Bool → Type 0
SaysDue store due = (IsTrue due → IsCrowded store) × (IsFalse due → IsCrowded store → ⊥)

-- a frame was refused for the new array, of which as much as one touch may have was asked for
pub record WantsArray (old new : MemoryState) (store : Store) : Type 0 where
  pub rose : Rose old.refused new.refused
  pub reached : own_of (touched new.mem (other_array store.table.array)
      (min (16 * length store.table.chains) 4194304)) ≤ new.most

-- the memory has this store, and where a doubling was due a frame was refused for it; or a doubling
-- was due, and the memory has the store with twice as many buckets
abbrev pub MayDouble : MemoryState → MemoryState → Store → Pairs → Type 0
MayDouble old new store pairs =
    (IsStore new.mem store pairs × (IsCrowded store → WantsArray old new store))
    ⊎ (IsStore new.mem (doubled store) pairs × IsCrowded store)

-- the page meets the block in which the pair will stand, the bucket of the key, or the array of
-- twice as many buckets
abbrev pub MeetsPut : Store → List ℕ → List ℕ → ℕ → Type 0
MeetsPut store key value page = MeetsPlace store key value page
    ⊎ IsInRange page (other_array store.table.array) (16 * length store.table.chains)

-- the map has the pair, and so it has with each list of places; each store has become the one with
-- the pair in its block, doubled where that was due and no frame was refused; and no page was taken
-- but for that
pub record Puts (old new : MemoryState) (key value : List ℕ) : Type 0 where
  pub follows : Follows old new (λ pairs. insert pairs key value)
      (λ pairs. At (insert pairs key value) ∷ [])
  pub store : (store : Store) (pairs : Pairs) → IsStore old.mem store pairs
      → MayDouble old new (put_in store key value) (insert pairs key value)
  pub pages : (store : Store) (pairs : Pairs) → IsStore old.mem store pairs
      → AddsOnly old new (MeetsPut store key value)
