-- Reads and stores in pages that are present, or that were touched.
use Rattle.std.proofs.Common.{◌≡◌, ℕ, ◌+◌, ◌*◌, ◌<◌, ◌≤◌, arith, eqb, ◌-◌}
use Rattle.std.proofs.lemmas.Bool.{cond-false, ne_eqb}
use Rattle.vm_base.specs.Places.{page_of, page_count}
use Rattle.vm_base.specs.FlatMemory.{FlatMemory}
use Rattle.vm_base.specs.MemoryState.{MemoryState}
use Rattle.vm_base.specs.MemoryCalls.{IsReady, IsInRange}
use Rattle.store_meaning.specs.Layout.{header_at}
use Rattle.store_meaning.specs.HeapLayout.{ArePresent}

-- a field of the header may be stored to where the whole header may
pub ready_field : (state : MemoryState) (field : ℕ) → header_at ≤ field → field + 8 ≤ header_at + 4096 → IsReady state header_at 4096
    → IsReady state field 8
ready_field state field low high ready page inside =
    ready page (omega (arith, low, high, inside.0, inside.1), omega (arith, low, high, inside.0, inside.1))

-- a field of the header is present where the whole header is
pub present_field : (memory : FlatMemory) (field : ℕ) → header_at ≤ field → field + 8 ≤ header_at + 4096 → ArePresent memory header_at 4096
    → ArePresent memory field 8
present_field memory field low high there page above below = there page (omega (arith, low, above)) (omega (arith, high, below))

-- a page that the bytes meet is one of their range
pub in_range : (address n page : ℕ) → 0 < n → address < (page + 1) * 4096 → page * 4096 < address + n → IsInRange page address n
in_range address n page some above below =
    let count : page_count address n ≡ page_of (address + n - 1) + 1 - page_of address =
    cond-false (eqb n 0) 0 _ (ne_eqb n 0 (λ none. omega (arith, none, some))) in
    (omega (arith, above), omega (arith, count, above, below))
