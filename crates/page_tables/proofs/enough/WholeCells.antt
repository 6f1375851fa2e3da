-- Each version that lives in a cell has its frame, so the pages of a side are those of which it has a version.
use Rattle.std.proofs.Common.{◌≡◌, ℕ, ◌+◌, ◌*◌, ◌/◌, ◌%◌, ◌<◌, ◌≤◌, List, [], ◌∷◌, ◌++◌, Option, Some, None, refl, sym, ◌∙◌, ap, subst, arith, inl, inr}
use Rattle.std.specs.Prelude.{true, false, IsSome, is_some, slice_index_or, cond, ◌==◌, unwrap_or}
use Rattle.std.specs.Ordering.{nat_cmp}
use Rattle.std.specs.Option.{option_and_then, option_map}
use Rattle.std.specs.List.{slice_get}
use Rattle.std.specs.FinMap.{get, find}
use Rattle.std.proofs.lemmas.Bool.{false≢true}
use Rattle.vm_base.specs.Places.{cell_of}
use Rattle.vm_base.specs.Frames.{FrameView}
use Rattle.vm_base.specs.FlatMemory.{PageMap, FlatMemory, cells_of}
use Rattle.vm_base.specs.MemoryState.{own_of, IsListed}
use Rattle.vm_base.specs.Deals.{Deal, Denied}
use Rattle.vm_base.specs.declared.fork_mode.Mode.TheVariants.{Eager}
use Rattle.vm_base.specs.declared.frame_request.Want.{Want}
use Rattle.kernel_meaning.specs.Requests.{Answer, opening_requests}
use Rattle.kernel_meaning.specs.RefusedRequests.{out_after}
use Rattle.kernel_meaning.specs.Leaves.{Kept, unused_cell, version_at, kept_by, is_lost}
use Rattle.kernel_meaning.specs.FrameLaw.{Leaves, cell_at, held_frames}
use Rattle.kernel_meaning.specs.EventRequests.{page_version, opening_progress, snapshot_forked}
use Rattle.leaf_cell.specs.CellView.{CellView, kept_page, bytes_in}
use Rattle.leaf_cell.specs.Renaming.{IsKeptAlike, AreKeptAlike, IsLive}
use Rattle.leaf_cell.specs.Standing.{StandsFor}
use Rattle.leaf_cell.proofs.Alike.{live-alike}
use Rattle.leaf_cell.proofs.NewVersion.{named-kept}
use Rattle.leaf_cell.proofs.Renamed.{version_at-renamed}
use Rattle.page_tables.specs.declared.slot.Slot.{Slot}
use Rattle.page_tables.specs.declared.tables.PageTables.{PageTables}
use Rattle.page_tables.specs.Sides.{Sides}
use Rattle.page_tables.specs.Standing.{owner_at, TablesStandFor}
use Rattle.page_tables.proofs.LeafMap.{used-found}
use Rattle.page_tables.proofs.OwnedSlots.{owned-slot}
use Rattle.page_tables.proofs.ParentPages.{account_at, slot-stands, page-lacking}
use Rattle.page_tables.proofs.TouchShapes.{page-used}
use Rattle.page_tables.proofs.enough.Pairs.{kept_frames}
use Rattle.page_tables.proofs.enough.SnapshotFrames.{NameTheirPages, alone-kept, kept-own}
use Rattle.page_tables.proofs.enough.ParentFrames.{HasVersions, held_frames-le, held_frames-own, fork-denied-own}
use Rattle.page_tables.specs.TablesView.{LacksSnapshot, snapshot_has}

-- a version that has a frame has bytes
bytes-there : (frames : List (Option FrameView)) (version : Option ℕ) (place : ℕ) → version ≡ Some place → IsSome (slice_index_or frames place None)
    → IsSome (bytes_in frames version)
bytes-there frames version place is there = ap (λ o. is_some (bytes_in frames o)) is ∙ by (slice_index_or frames place None) there
  where
    by : (o : Option FrameView) → IsSome o → IsSome (option_map (λ frame. frame.bytes) o)
    by None some = some
    by (Some frame) some = refl

-- a snapshot that is meant is in the view under its number
kept-alike : (name : ℕ → ℕ → ℕ) (n : ℕ) (view meant : List Kept) (kept : Kept) → AreKeptAlike name view meant → kept_by meant n ≡ Some kept
    → (it : Kept) × ((kept_by view n ≡ Some it) × IsKeptAlike name it kept)
kept-alike name n [] [] kept alike found = absurd (false≢true (ap is_some found))
kept-alike name n [] (other ∷ meant) kept alike found = absurd alike
kept-alike name n (it ∷ view) [] kept alike found = absurd alike
kept-alike name n (it ∷ view) (other ∷ meant) kept alike found =
    let at : (at : Kept) × ((cond (other.number == n) (Some it) (kept_by view n) ≡ Some at) × IsKeptAlike name at kept) =
    elim (other.number == n) as (λ b. cond b (Some other) (kept_by meant n) ≡ Some kept
    → (at : Kept) × ((cond b (Some it) (kept_by view n) ≡ Some at) × IsKeptAlike name at kept)) [
      | true ↦ λ found. (it, (refl, subst (IsKeptAlike name it) (ap (λ o. unwrap_or o other) found) alike.0))
      | false ↦ λ found. kept-alike name n view meant kept alike.1 found
    ] found in
    (at.0, (ap (λ number. cond (number == n) (Some it) (kept_by view n)) alike.0.number ∙ at.1.0, at.1.1))

-- a cell that a snapshot has is in the map
found-kept : (leaves : Leaves) (c n : ℕ) (kept : Kept) → kept_by (cell_at leaves c).kept n ≡ Some kept → IsSome (find nat_cmp c leaves)
found-kept leaves c n kept found =
    elim (find nat_cmp c leaves) as (λ o. kept_by (unwrap_or o unused_cell).kept n ≡ Some kept → IsSome o) [
      | Some cell ↦ λ found. refl
      | None ↦ λ found. absurd (false≢true (ap is_some found))
    ] found

module _ (tables : PageTables) (sides : Sides) (st : TablesStandFor tables sides) where
  -- the slot of a cell, which stands for the cell's account
  record IsHome (c : ℕ) : Type 0 where
    view : CellView
    stands : StandsFor view (account_at tables.directory tables.snapshot tables.slots.items sides st c)

  home : (c : ℕ) → IsSome (find nat_cmp c sides.leaves) → IsHome c
  home c used =
      let owned : (s : ℕ) × (owner_at tables.slots.items s ≡ Some c) = st.slots_of.owned c used in
      let there : (slot : Slot) × ((slice_get tables.slots.items owned.0 ≡ Some slot) × (slot.owner ≡ Some c)) = owned-slot tables.slots.items owned.0 c owned.1 in
      record { view = there.0.cell; stands = slot-stands tables.directory tables.snapshot tables.slots.items sides st c owned.0 there.0 there.1.0 owned.1 }

  page-there : (c p version : ℕ) → p < 512 → version_at (cell_at sides.leaves c).parent p ≡ Some version → IsSome (get sides.pages (c * 512 + p))
  page-there c p version small there =
      let at : IsHome c = home c (used-found sides.leaves c (page-used (cell_at sides.leaves c) p (ap is_some there))) in
      let meant : version_at (st.cells c).leaves.parent p ≡ Some version = ap (λ cell. version_at cell.parent p) (st.each.leaves c) ∙ there in
      let named : version_at at.view.leaves.parent p ≡ Some (at.stands.name p version) =
      ap (λ versions. version_at versions p) at.stands.leaves.parent ∙ version_at-renamed at.stands.name (st.cells c).leaves.parent p ∙ ap (option_map (at.stands.name p)) meant in
      ap is_some (sym (at.stands.pages p small ∙ st.each.pages c p small))
      ∙ bytes-there at.view.frames (version_at at.view.leaves.parent p) (at.stands.name p version) named (at.stands.whole.filled p (at.stands.name p version) (inl named))

  -- the parent's pages are those of which it has a version
  pub whole-versions : (page : ℕ) → is_some (get sides.pages page) ≡ is_some (page_version sides.leaves page)
  whole-versions page = by (page_version sides.leaves page) refl
    where
      low : page % 512 < 512
      low = omega arith

      parts : page / 512 * 512 + page % 512 ≡ page
      parts = omega arith

      by : (o : Option ℕ) → page_version sides.leaves page ≡ o → is_some (get sides.pages page) ≡ is_some o
      by None e = ap (λ q. is_some (get sides.pages q)) (sym parts)
          ∙ ap is_some (page-lacking tables.directory tables.snapshot tables.slots.items sides st (cell_of page) (page % 512) low e)
      by (Some version) e = ap (λ q. is_some (get sides.pages q)) (sym parts) ∙ page-there (cell_of page) (page % 512) version low e

  -- each page that a leaf of the snapshot names is one of its pages, unless the leaf is lost
  pub whole-names : (n : ℕ) (pages : PageMap) → get sides.snapshots n ≡ Some pages → NameTheirPages sides.leaves n pages
  whole-names n pages number c kept found unlost p some = by (version_at kept.versions p) refl some
    where
      at : IsHome c
      at = home c (found-kept sides.leaves c n kept found)

      meant : kept_by (st.cells c).leaves.kept n ≡ Some kept
      meant = ap (λ cell. kept_by cell.kept n) (st.each.leaves c) ∙ found

      seen : (it : Kept) × ((kept_by at.view.leaves.kept n ≡ Some it) × IsKeptAlike at.stands.name it kept)
      seen = kept-alike at.stands.name n at.view.leaves.kept (st.cells c).leaves.kept kept at.stands.leaves.kept meant

      by : (o : Option ℕ) → version_at kept.versions p ≡ o → IsSome o → (p < 512) × IsSome (get pages (c * 512 + p))
      by None e some = absurd (false≢true some)
      by (Some version) e some =
          let place : ℕ = at.stands.name p version in
          let live : IsLive at.view.leaves p place =
          live-alike at.stands.name at.view.leaves (st.cells c).leaves p version at.stands.leaves (inr (named-kept n p version (st.cells c).leaves.kept kept meant unlost e)) in
          let small : p < 512 = at.stands.whole.below p place live in
          let named : version_at seen.0.versions p ≡ Some place =
          ap (λ versions. version_at versions p) (seen.1.1.versions unlost) ∙ version_at-renamed at.stands.name kept.versions p ∙ ap (option_map (at.stands.name p)) e in
          let page : kept_page at.view seen.0 p ≡ get pages (c * 512 + p) =
          at.stands.snapshots n p seen.0 seen.1.0 (ap is_lost seen.1.1.leaf ∙ unlost) small ∙ st.each.snapshots n c p small
          ∙ ap (option_and_then (λ pages. get pages (c * 512 + p))) number in
          (small, ap is_some (sym page) ∙ bytes-there at.view.frames (version_at seen.0.versions p) place named (at.stands.whole.filled p place live))

  -- the snapshot that lives takes no more frames beside the parent than its memory would alone, where it has a page in each of its cells
  pub whole-kept : (n : ℕ) (memory : FlatMemory) → get sides.snapshots n ≡ Some memory.present
      → ((c : ℕ) → snapshot_has tables c ≡ true → IsListed c (cells_of memory)) → kept_frames sides.leaves ≤ own_of memory
  whole-kept n memory number listed = kept-own tables sides st n memory number (whole-names n memory.present number) listed

  module _ (memory : FlatMemory) (present : memory.present ≡ sides.pages) where
    whole-parent : HasVersions sides.leaves memory
    whole-parent page = ap (λ pages. is_some (get pages page)) present ∙ whole-versions page

    -- the frames that are held are no more than those that the parent's memory takes, and those that snapshots take beside it
    pub whole-held-le : held_frames sides.leaves ≤ own_of memory + kept_frames sides.leaves
    whole-held-le = held_frames-le sides.leaves st.kept memory whole-parent

    -- they are the parent's own where no snapshot lives
    pub whole-held : LacksSnapshot tables → held_frames sides.leaves ≡ own_of memory
    whole-held none = held_frames-own sides.leaves st.kept memory whole-parent (alone-kept tables sides st none)

    -- where a fork is denied a frame then, those that are out and this one are no more than twice the parent's own
    pub whole-fork-denied : LacksSnapshot tables → (made n : ℕ) (answers : List Answer) (front : List Deal) (want : Want) (at : ℕ) (back : List Deal)
        → (snapshot_forked n Eager (opening_progress sides.leaves (opening_requests made answers))).requests.deals ≡ front ++ Denied want at ∷ back
        → out_after (held_frames sides.leaves) front + 1 ≤ own_of memory + own_of memory
    whole-fork-denied none = fork-denied-own sides.leaves st.kept memory whole-parent (alone-kept tables sides st none)
