-- A store begins in a flat memory and in a kernel, and stands there then.
use Rattle.std.proofs.Common.{◌≡◌, ℕ, ◌≤◌, List, refl, arith, subst}
use Rattle.std.specs.Prelude.{Option}
use Rattle.std.specs.Ordering.{nat_cmp}
use Rattle.std.specs.FinMap.{empty}
use Rattle.std.specs.FinSet as set
use Rattle.vm_base.specs.MemoryState.{MemoryState, IsKept}
use Rattle.flat_memory.specs.FlatSeen.{opening_flat_memory}
use Rattle.trace_core.specs.KernelSeen.{opening_memory}
use Rattle.store_meaning.specs.StoreSteps.{opening_store}
use Rattle.store_meaning.specs.Standing.{MayBegin, IsStanding}
use Rattle.page_hash.specs.HashCalls.{BeginsStore}

-- in a new flat memory
pub flat_may : (pages : ℕ) → pages ≤ 65536 → MayBegin (opening_flat_memory pages)
flat_may pages few = record { empty = refl; slots = omega arith; unused = set.len-empty nat_cmp; room = few }

-- in a new kernel with a slot for each cell of a store
pub kernel_may : (frames : ℕ) (enough : Option ℕ) → frames ≤ 65536 → MayBegin (opening_memory frames 386 enough)
kernel_may frames enough few = record { empty = refl; slots = omega arith; unused = set.len-empty nat_cmp; room = few }

-- calls may be made on a store that begins
pub begun_stands : (old new : MemoryState) → BeginsStore old new → IsStanding new
begun_stands old new begun = record { may = begun.may; pairs = empty; stands = (opening_store, begun.store) }

-- what a store makes of a memory it makes of one that is the same
pub begins_from : {new : MemoryState} (old other : MemoryState) → old ≡ other → BeginsStore old new → BeginsStore other new
begins_from {new} old other same begins = subst (λ it. BeginsStore it new) same begins

pub kept_from : {new : MemoryState} {cells : List ℕ} (old other : MemoryState) → old ≡ other → IsKept old new cells → IsKept other new cells
kept_from {new} {cells} old other same kept = subst (λ it. IsKept it new cells) same kept
