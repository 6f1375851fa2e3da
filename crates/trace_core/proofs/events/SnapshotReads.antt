-- A read of a snapshot: none lives, its areas refuse, a cell is lost, or the bytes at its fork.
use Rattle.std.proofs.Common.{◌≡◌, ◌≢◌, ℕ, List, Option, Some, None, Result, Ok, Err, sym, ◌∙◌, ap, subst}
use Rattle.std.specs.Prelude.{false}
use Rattle.std.specs.FinMap.{get}
use Rattle.std.proofs.lemmas.Bool.{ne_eqb}
use Rattle.vm_base.specs.Places.{page_of, page_count, cells_of_range}
use Rattle.vm_base.specs.FlatMemory.{PageMap, bytes_at}
use Rattle.vm_base.specs.FlatStep.{outside}
use Rattle.vm_base.specs.TwoSides.{SnapRefusal, NotLive, OutsideSnapshot, CellLost, first_loss, kept_read_of, or_snap_refused, snap_read_of}
use Rattle.kernel_meaning.specs.Leaves.{holds_number}
use Rattle.page_tables.specs.Accesses.{lost_in_range}
use Rattle.trace_core.specs.declared.parts.SnapshotAreas.{SnapshotAreas}
use Rattle.trace_core.specs.KernelState.{Machine, KernelState}
use Rattle.trace_core.specs.KernelStanding.{KernelParts, KernelStands, kept_memories, kept_number}
use Rattle.trace_core.proofs.events.OneSnapshot.{nothing-there, live-is, get-inserted}

module _ (parts : KernelParts) (machine : Machine) (state : KernelState) (st : KernelStands parts machine state) (n addr size : ℕ) where
  unread : holds_number (kept_number parts.snapshot) n ≡ false → snap_read_of state.world n addr size ≡ Err NotLive
  unread gone = ap (λ o. kept_read_of o state.world.losses n addr size)
      (nothing-there (get state.world.snapshots n) (live-is parts.snapshot st.pages state.world.snapshots st.memories n ∙ gone))

  -- no snapshot lives
  pub unread-none : parts.snapshot ≡ None → snap_read_of state.world n addr size ≡ Err NotLive
  unread-none none = unread (ap (λ snapshot. holds_number (kept_number snapshot) n) none)

  -- or that of another number
  pub unread-other : (kept : SnapshotAreas) → parts.snapshot ≡ Some kept → kept.number ≢ n → snap_read_of state.world n addr size ≡ Err NotLive
  unread-other kept is other = unread (ap (λ snapshot. holds_number (kept_number snapshot) n) is ∙ ne_eqb kept.number n other)

  module _ (kept : SnapshotAreas) (is : parts.snapshot ≡ Some kept) (same : kept.number ≡ n) where
    abbrev its : kept_memories (Some kept) st.pages state.world.snapshots
    its = subst (λ snapshot. kept_memories snapshot st.pages state.world.snapshots) is st.memories

    abbrev its_pages : PageMap
    its_pages = its.0

    pages-are : get st.pages n ≡ Some its_pages
    pages-are = ap (get st.pages) (sym same) ∙ its.1.0

    abbrev judged : Option ℕ → Option ℕ → Result (List ℕ) SnapRefusal
    judged out lost = or_snap_refused OutsideSnapshot out (or_snap_refused CellLost lost (Ok (bytes_at its_pages addr size)))

    read-is : snap_read_of state.world n addr size ≡ judged (outside kept.areas (page_of addr) (page_count addr size)) (lost_in_range state.leaves n addr size)
    read-is =
        ap (λ q. kept_read_of (get state.world.snapshots q) state.world.losses n addr size) (sym same)
        ∙ ap (λ o. kept_read_of o state.world.losses n addr size) (ap (λ m. get m kept.number) its.1.1 ∙ get-inserted _ kept.number _)
        ∙ ap (λ losses. judged (outside kept.areas (page_of addr) (page_count addr size)) (first_loss losses n (cells_of_range addr size))) st.losses

    -- a page lies outside its areas
    pub unread-outside : (page : ℕ) → outside kept.areas (page_of addr) (page_count addr size) ≡ Some page → snap_read_of state.world n addr size ≡ Err (OutsideSnapshot page)
    unread-outside page out = read-is ∙ ap (λ o. judged o (lost_in_range state.leaves n addr size)) out

    -- a cell is lost
    pub unread-lost : (at : ℕ) → outside kept.areas (page_of addr) (page_count addr size) ≡ None → lost_in_range state.leaves n addr size ≡ Some at
        → snap_read_of state.world n addr size ≡ Err (CellLost at)
    unread-lost at inside lost = read-is ∙ (λ i. judged (inside i) (lost i))

    -- the bytes are read
    pub read-whole : (bytes : List ℕ) → outside kept.areas (page_of addr) (page_count addr size) ≡ None → lost_in_range state.leaves n addr size ≡ None
        → ((pages : PageMap) → get st.pages n ≡ Some pages → bytes ≡ bytes_at pages addr size) → snap_read_of state.world n addr size ≡ Ok bytes
    read-whole bytes inside unlost read = read-is ∙ (λ i. judged (inside i) (unlost i)) ∙ ap Ok (sym (read its_pages pages-are))
