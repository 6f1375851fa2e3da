-- A memory that is read as a snapshot has lost no cell: a list of its pairs fails for want of memory.
use Rattle.std.proofs.Common.{◌≡◌, ◌∙◌, refl, sym, ap, is_some}
use Rattle.std.specs.FinMap.{get-empty}
use Rattle.std.proofs.lemmas.Bool.{false≢true}
use Rattle.std.specs.Ordering.{nat_cmp}
use Rattle.std.specs.Prelude.{Result, Ok, Err, IfErr}
use Rattle.vm_base.specs.FlatMemory.{FlatMemory}
use Rattle.vm_base.specs.MemoryState.{MemoryState}
use Rattle.store_meaning.specs.Standing.{IsStanding}
use Rattle.memory_views.specs.ReadViews.{snapshot_of}
use Rattle.page_hash.specs.declared.found.PairsFault.{PairsFault}
use Rattle.page_hash.specs.declared.found.PairsFault.TheVariants.{Lost, NoMemory}
use Rattle.page_hash.specs.Listing.{IsFirstLost, PairsFail, wants_memory}
use Rattle.store_meaning.specs.StoreSteps.{needed_cells}

-- of one fault
pub fails-standing : (memory : MemoryState) → IsStanding memory → (behind : FlatMemory) (fault : PairsFault)
    → PairsFail (snapshot_of memory.mem) (snapshot_of behind) fault → fault ≡ wants_memory
fails-standing memory standing behind (Lost at) fails =
    absurd (false≢true (ap is_some (sym (get-empty nat_cmp first.cell) ∙ first.lost)))
  where
    first : IsFirstLost (snapshot_of memory.mem) (snapshot_of behind) (needed_cells standing.stands.0) at
    first = fails standing.stands.0 standing.pairs standing.stands.1
fails-standing memory standing behind NoMemory fails = refl

-- of an answer
pub lists-standing : {List : Type 0} (memory : MemoryState) → IsStanding memory → (behind : FlatMemory) (result : Result List PairsFault)
    → IfErr result (λ fault. PairsFail (snapshot_of memory.mem) (snapshot_of behind) fault) → IfErr result (λ fault. fault ≡ wants_memory)
lists-standing memory standing behind (Ok list) fails = fails
lists-standing memory standing behind (Err fault) fails = fails-standing memory standing behind fault fails
