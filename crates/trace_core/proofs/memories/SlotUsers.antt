-- A slot is used by a cell where the parent has a page, or by one that the snapshot that lives has.
use Rattle.std.proofs.Common.{◌≡◌, ℕ, ◌+◌, ◌*◌, ◌%◌, ◌<◌, eqb, List, [], ◌∷◌, length, map, Option, Some, None, inl, inr, refl, sym, ◌∙◌, ap, subst, arith}
use Rattle.std.specs.Prelude.{◌⊎◌, true, not, ◌==◌, IsSome, is_some}
use Rattle.std.specs.Ordering.{nat_cmp}
use Rattle.std.specs.FinMap.{get, find, keys, empty}
use Rattle.std.specs.FinSet as set
use Rattle.std.specs.List.{list_any}
use Rattle.std.specs.Option.{option_and_then}
use Rattle.std.proofs.lemmas.Bool.{or_cases, or_left, or_right, eq-eqb, eqb-true, false≢true}
use Rattle.std.proofs.Math.Logic.{∥∥₁_map, ∥∥₁_elim}
use Rattle.vm_base.specs.Places.{cell_of}
use Rattle.vm_base.proofs.NumberedMaps.{get_inserted_here}
use Rattle.vm_base.proofs.OwnFrames.{member, member-keys}
use Rattle.vm_base.specs.FlatMemory.{cells_of}
use Rattle.vm_base.specs.MemoryState.{IsIn, IsListed}
use Rattle.kernel_meaning.specs.Leaves.{has_pages}
use Rattle.kernel_meaning.specs.FrameLaw.{cell_at}
use Rattle.page_tables.specs.Sides.{Sides}
use Rattle.page_tables.proofs.LeafMap.{found-used}
use Rattle.trace_core.specs.declared.parts.SnapshotAreas.{SnapshotAreas}
use Rattle.trace_core.specs.KernelState.{Machine, KernelState}
use Rattle.trace_core.specs.KernelStanding.{KernelParts, KernelStands, kept_memories, kept_number, sides_of}
use Rattle.trace_core.specs.KernelSeen.{KernelNotes, IsSound, IsKernelNoted, NotesHold, AreKeptUsed, kernel_memory, parent_of, kept_in}
use Rattle.trace_core.proofs.memories.ClauseProps.{test-prop}
use Rattle.trace_core.proofs.memories.ParentCells.{cells-filled}
use Rattle.trace_core.proofs.processes.NoteEvents.{AreFilled}
use Rattle.page_tables.proofs.view.TablesShown.{cell-shown, kept-shown, has-number, snapshot-page-used}
use Rattle.page_tables.proofs.view.ViewSides.{seen-used}
use Rattle.trace_core.proofs.memories.StepSoundness.{known-noted}
use Rattle.page_tables.specs.TablesView.{pages_of, snapshot_number, snapshot_has}

-- where the tables' snapshot has a cell, the kernel's lives
kept-lives : (snapshot : Option SnapshotAreas) (number : Option ℕ) → number ≡ kept_number snapshot → IsSome number → IsSome snapshot
kept-lives (Some kept) number same there = refl
kept-lives None number same there = absurd (false≢true (sym (ap is_some same) ∙ there))

-- the parent has a page in the cell, or the snapshot that lives has one there
abbrev IsSomebodys : KernelParts → KernelNotes → ℕ → Type 0
IsSomebodys parts notes cell = IsListed cell (cells_of (parent_of parts)) ⊎ (IsSome parts.snapshot × IsListed cell (cells_of (kept_in parts.snapshot notes.forked)))

module _ (parts : KernelParts) (notes : KernelNotes) (machine : Machine) (state : KernelState) (stands : KernelStands parts machine state)
    (filled : AreFilled parts) (holds : NotesHold parts notes) where
  abbrev sides : Sides
  sides = sides_of state stands.pages

  stands-there : (cell : ℕ) → IsIn cell (kernel_memory parts notes).used → IsSomebodys parts notes cell
  stands-there cell inside =
      let found : IsSome (find nat_cmp cell state.leaves) = sym (seen-used parts.tables sides stands.tables cell) ∙ inside in
      elim (or_cases (has_pages (cell_at state.leaves cell).parent) (not (length (cell_at state.leaves cell).kept == 0))
      (found-used state.leaves stands.tables.kept.in_use cell found)) [
        | inl pages ↦ inl (filled cell (cell-shown parts.tables sides stands.tables cell ∙ pages))
        | inr some ↦
            let there : snapshot_has parts.tables cell ≡ true = kept-shown parts.tables sides stands.tables cell ∙ some in
            inr (kept-lives parts.snapshot (snapshot_number parts.tables) stands.number (has-number parts.tables cell there), holds.cells cell there)
      ]

-- a slot is used by a cell of the parent, or by one of the snapshot that lives
pub used-there : (parts : KernelParts) (notes : KernelNotes) → ∥ IsKernelNoted parts notes ∥₁ → NotesHold parts notes
    → (cell : ℕ) → IsIn cell (kernel_memory parts notes).used
    → ∥ IsListed cell (cells_of (parent_of parts)) ⊎ (IsSome parts.snapshot × IsListed cell (cells_of (kept_in parts.snapshot notes.forked))) ∥₁
used-there parts notes known holds cell inside =
    let filled : AreFilled parts = cells-filled parts (known-noted parts notes known) in
    ∥∥₁_map known (λ it. stands-there parts notes it.0 it.1.0 it.1.1.stands filled holds cell inside)

-- ---- the cells of the snapshot that lives

-- a cell is listed where a page of it is present
cell-page : (pages : List ℕ) (cell : ℕ) → IsListed cell (map cell_of pages) → (page : ℕ) × ((member page pages ≡ true) × (cell_of page ≡ cell))
cell-page [] cell listed = absurd (false≢true listed)
cell-page (page ∷ pages) cell listed = elim (or_cases (cell_of page == cell) (list_any (λ other. other == cell) (map cell_of pages)) listed) [
  | inl here ↦ (page, (or_left (eqb page page) (member page pages) (eq-eqb page page refl), eqb-true (cell_of page) cell here))
  | inr later ↦ let found = cell-page pages cell later in (found.0, (or_right (eqb found.0 page) (member found.0 pages) found.1.0, found.1.1))
]

module _ (parts : KernelParts) (notes : KernelNotes) (machine : Machine) (state : KernelState) (sound : IsSound parts notes machine state) (kept : SnapshotAreas) (lives : parts.snapshot ≡ Some kept) where
  abbrev all : Sides
  all = sides_of state sound.stands.pages

  -- the pages of the snapshot are those of the tables at its fork
  kept-pages : get sound.stands.pages kept.number ≡ Some (pages_of notes.forked)
  kept-pages =
      let its : kept_memories (Some kept) sound.stands.pages state.world.snapshots =
      subst (λ snapshot. kept_memories snapshot sound.stands.pages state.world.snapshots) lives sound.stands.memories in
      let here : get state.world.snapshots kept.number ≡ Some (record { areas = kept.areas; present = its.0 }) =
      ap (λ memories. get memories kept.number) its.1.1 ∙ get_inserted_here empty kept.number (record { areas = kept.areas; present = its.0 }) kept.number refl in
      let same : its.0 ≡ pages_of notes.forked = (sound.forked kept.number _ here).2 in
      its.1.0 ∙ ap Some same

  kept-slot : (cell : ℕ) → IsListed cell (cells_of (kept_in (Some kept) notes.forked)) → IsIn cell (kernel_memory parts notes).used
  kept-slot cell listed =
      let page = cell-page (keys (pages_of notes.forked)) cell listed in
      let there : IsSome (get (pages_of notes.forked) page.0) = sym (member-keys (pages_of notes.forked) page.0) ∙ page.1.0 in
      let seen : option_and_then (λ pages. get pages page.0) (get all.snapshots kept.number) ≡ get (pages_of notes.forked) page.0 =
      ap (option_and_then (λ pages. get pages page.0)) kept-pages in
      seen-used parts.tables all sound.stands.tables cell
      ∙ ap (λ c. is_some (find nat_cmp c state.leaves)) (sym page.1.1)
      ∙ snapshot-page-used parts.tables all sound.stands.tables kept.number page.0 (ap is_some seen ∙ there)

-- each cell of the snapshot that lives uses a slot
pub kept-used : (parts : KernelParts) (notes : KernelNotes) → ∥ IsKernelNoted parts notes ∥₁ → AreKeptUsed parts notes
kept-used parts notes known some cell listed = by parts.snapshot refl some
  where
    by : (snapshot : Option SnapshotAreas) → parts.snapshot ≡ snapshot → IsSome snapshot → IsIn cell (kernel_memory parts notes).used
    by None none some = absurd (false≢true some)
    by (Some kept) lives some = ∥∥₁_elim known (test-prop (set.contains (kernel_memory parts notes).used cell) true) (λ it.
        kept-slot parts notes it.0 it.1.0 it.1.1 kept lives cell (subst (λ snapshot. IsListed cell (cells_of (kept_in snapshot notes.forked))) lives listed))
