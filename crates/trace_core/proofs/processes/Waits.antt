-- No cell of a snapshot waits to be copied by it: each of its leaves is its own, or lost.
use Rattle.std.proofs.Common.{◌≡◌, ℕ, ap}
use Rattle.std.specs.Prelude.{◌==◌, IsTrue}
use Rattle.std.proofs.Math.Logic.{∥∥₁_elim}
use Rattle.trace_core.specs.KernelStanding.{KernelParts, sides_of}
use Rattle.trace_core.specs.KernelSeen.{KernelNotes, IsKernelNoted}
use Rattle.page_tables.specs.SlotViews.{waiting_in}
use Rattle.page_tables.proofs.view.ViewSides.{seen-waits}
use Rattle.trace_core.proofs.memories.ClauseProps.{number-prop}
use Rattle.page_tables.specs.TablesView.{views_of}

-- none waits in a kernel
pub known-waiting : (parts : KernelParts) (notes : KernelNotes) → ∥ IsKernelNoted parts notes ∥₁ → (n : ℕ) → waiting_in n (views_of parts.tables) ≡ 0
known-waiting parts notes known n = ∥∥₁_elim known (number-prop (waiting_in n (views_of parts.tables)) 0) (λ it.
    seen-waits parts.tables (sides_of it.1.0 it.1.1.stands.pages) it.1.1.stands.tables n)

-- so all is copied
pub all-copied : (parts : KernelParts) (notes : KernelNotes) → ∥ IsKernelNoted parts notes ∥₁ → (n : ℕ) → IsTrue (waiting_in n (views_of parts.tables) == 0)
all-copied parts notes known n = ap (λ waiting. waiting == 0) (known-waiting parts notes known n)
