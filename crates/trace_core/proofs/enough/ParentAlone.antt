-- Where no snapshot lives, the frames that are out are those of the parent's own memory.
use Rattle.std.proofs.Common.{◌≡◌, ℕ, length, Option, Some, None, refl, ◌∙◌, ap, arith}
use Rattle.std.proofs.Math.Logic.{∥∥₁_elim}
use Rattle.vm_base.specs.MemoryState.{own_of}
use Rattle.kernel_meaning.specs.FrameLaw.{held_frames}
use Rattle.trace_core.specs.KernelState.{Machine, KernelState}
use Rattle.trace_core.specs.KernelStanding.{KernelParts, KernelStands, kept_number, sides_of}
use Rattle.trace_core.specs.KernelSeen.{KernelNotes, IsKernelNoted, parent_of, live_numbers}
use Rattle.trace_core.specs.declared.parts.SnapshotAreas.{SnapshotAreas}
use Rattle.trace_core.proofs.memories.ClauseProps.{number-prop}
use Rattle.page_tables.proofs.view.TablesShown.{number-lacks}
use Rattle.page_tables.proofs.view.ViewSides.{seen-pages}
use Rattle.page_tables.proofs.enough.WholeCells.{whole-held}

-- none lives where so many do
pub none-alive : (snapshot : Option SnapshotAreas) → length (live_numbers snapshot) ≡ 0 → snapshot ≡ None
none-alive None none = refl
none-alive (Some kept) none = absurd (omega (arith, none))

pub held-alone : (parts : KernelParts) (notes : KernelNotes) → ∥ IsKernelNoted parts notes ∥₁ → parts.snapshot ≡ None → (held : ℕ)
    → ((machine : Machine) (state : KernelState) → KernelStands parts machine state → held ≡ held_frames state.leaves) → held ≡ own_of (parent_of parts)
held-alone parts notes known none held told = ∥∥₁_elim known (number-prop held (own_of (parent_of parts))) (λ it.
    let st = it.1.1.stands in
    told it.0 it.1.0 st ∙ whole-held parts.tables (sides_of it.1.0 st.pages) st.tables (parent_of parts) (seen-pages parts.tables (sides_of it.1.0 st.pages) st.tables)
    (number-lacks parts.tables (st.number ∙ ap kept_number none)))
