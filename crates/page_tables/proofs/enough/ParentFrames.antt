-- Where no snapshot has a cell, the frames of the frame law are the parent's own.
use Rattle.std.proofs.Common.{refl, [], ◌≡◌, ℕ, ◌+◌, ◌*◌, ◌/◌, ◌%◌, ◌<◌, ◌≤◌, List, ◌∷◌, ◌++◌, map, length, sym, ◌∙◌, ap, subst, arith, length-append}
use Rattle.std.specs.Prelude.{sum_by, true, IsSome, is_some, flat_map, filter, unwrap_or}
use Rattle.std.specs.Cmp.{nat_eq_equiv}
use Rattle.std.specs.FinMap.{get, keys, len}
use Rattle.std.specs.List.{AllByRecursion}
use Rattle.std.proofs.lemmas.List.Sums.{sum_by-cons}
use Rattle.std.proofs.lemmas.Map.Made.{length-le_from_is_member}
use Rattle.vm_base.specs.Places.{cell_of, distinct, directory_frames}
use Rattle.vm_base.specs.Deals.{Deal, Denied}
use Rattle.vm_base.specs.declared.fork_mode.Mode.TheVariants.{Eager}
use Rattle.vm_base.specs.declared.frame_request.Want.{Want}
use Rattle.vm_base.specs.FlatMemory.{FlatMemory, cells_of}
use Rattle.vm_base.specs.MemoryState.{own_of}
use Rattle.kernel_meaning.specs.Requests.{Answer, opening_requests}
use Rattle.kernel_meaning.specs.Leaves.{CellLeaves, unused_cell, version_at, has_pages, pairs_from, pairs_of, distinct_pairs, named_pairs}
use Rattle.kernel_meaning.specs.FrameLaw.{Leaves, cell_at, parent_cells, parent_tables, page_frames, held_frames}
use Rattle.kernel_meaning.specs.EventRequests.{page_version, page_in_cell, opening_progress, snapshot_forked}
use Rattle.kernel_meaning.specs.RefusedRequests.{out_after}
use Rattle.page_tables.specs.Standing.{AreKept}
use Rattle.page_tables.proofs.HeldFrames.{all-found}
use Rattle.page_tables.proofs.LeafMap.{sorted-filter, used-found}
use Rattle.page_tables.proofs.TouchShapes.{page-there, page-used}
use Rattle.vm_base.proofs.OwnFrames.{AreMembers, member, member-distinct, IsDistinct-distinct, IsDistinct-sorted, member-map, member-keys, directory_frames-le}
use Rattle.page_tables.proofs.enough.PageCounts.{in_cell, len-cells}
use Rattle.page_tables.proofs.enough.CellSums.{member-entries, members-mapped, member-parent_cells, page-with-version, sum-entries, pairs-counted, pairs-distinct, pairs-fewer}
use Rattle.page_tables.proofs.enough.Pairs.{kept_frames}
use Rattle.page_tables.proofs.enough.SnapshotFrames.{AreAlone, alone-none}
use Rattle.page_tables.proofs.enough.ForkRequests.{fork-denied}

-- ---- the pages that are named

-- those of the parent and those that snapshots name
page_frames-le : (leaves : Leaves) → page_frames leaves
    ≤ sum_by (λ entry. length (pairs_from 0 entry.1.parent)) leaves + sum_by (λ entry. length (flat_map pairs_of entry.1.kept)) leaves
page_frames-le [] = omega arith
page_frames-le (e ∷ leaves) =
    let one : length (named_pairs e.1) ≤ length (pairs_from 0 e.1.parent ++ flat_map pairs_of e.1.kept) = pairs-fewer (pairs_from 0 e.1.parent ++ flat_map pairs_of e.1.kept) in
    let parts : length (pairs_from 0 e.1.parent ++ flat_map pairs_of e.1.kept) ≡ length (pairs_from 0 e.1.parent) + length (flat_map pairs_of e.1.kept) =
    length-append (pairs_from 0 e.1.parent) (flat_map pairs_of e.1.kept) in
    omega (
      arith,
      one,
      parts,
      page_frames-le leaves,
      sum_by-cons (λ (entry : ℕ × CellLeaves). length (named_pairs entry.1)) e leaves,
      sum_by-cons (λ (entry : ℕ × CellLeaves). length (pairs_from 0 entry.1.parent)) e leaves,
      sum_by-cons (λ (entry : ℕ × CellLeaves). length (flat_map pairs_of entry.1.kept)) e leaves,
    )

-- where no snapshot has a cell, just those of the parent
page_frames-alone : (leaves : Leaves) → AllByRecursion (λ e. e.1.kept ≡ []) leaves → page_frames leaves ≡ sum_by (λ entry. length (pairs_from 0 entry.1.parent)) leaves
page_frames-alone [] all = refl
page_frames-alone (e ∷ leaves) all =
    let one : length (named_pairs e.1) ≡ length (pairs_from 0 e.1.parent) =
    ap (λ kept. length (distinct_pairs (pairs_from 0 e.1.parent ++ flat_map pairs_of kept))) all.0 ∙ ap length (pairs-distinct e.1.parent) in
    omega (
      arith,
      one,
      page_frames-alone leaves all.1,
      sum_by-cons (λ (entry : ℕ × CellLeaves). length (named_pairs entry.1)) e leaves,
      sum_by-cons (λ (entry : ℕ × CellLeaves). length (pairs_from 0 entry.1.parent)) e leaves,
    )

-- ---- the parent's frames

-- the pages of a memory are those of which the parent has a version
abbrev pub HasVersions : Leaves → FlatMemory → Type 0
HasVersions leaves memory = (page : ℕ) → is_some (get memory.present page) ≡ is_some (page_version leaves page)

module _ (leaves : Leaves) (kept : AreKept leaves) (memory : FlatMemory) (alike : HasVersions leaves memory) where
  page-at : (c p : ℕ) → p < 512 → is_some (get memory.present (c * 512 + p)) ≡ is_some (version_at (cell_at leaves c).parent p)
  page-at c p small =
      let cell : (c * 512 + p) / 512 ≡ c = omega (arith, small) in
      let place : (c * 512 + p) % 512 ≡ p = omega (arith, small) in
      alike (c * 512 + p) ∙ λ i. is_some (version_at (cell_at leaves (cell i)).parent (place i))

  cells-within : AreMembers (cells_of memory) (parent_cells leaves)
  cells-within = members-mapped cell_of (keys memory.present) (parent_cells leaves) (λ page inside.
      member-parent_cells leaves kept.sorted (cell_of page)
      ∙ page-there (cell_at leaves (cell_of page)) (page_in_cell page) (sym (alike page) ∙ sym (member-keys memory.present page) ∙ inside))

  cells-all : AreMembers (parent_cells leaves) (cells_of memory)
  cells-all c inside =
      let some : (p : ℕ) × ((p < length (cell_at leaves c).parent) × IsSome (version_at (cell_at leaves c).parent p)) =
      page-with-version (cell_at leaves c).parent (sym (member-parent_cells leaves kept.sorted c) ∙ inside) in
      let small : some.0 < 512 = subst (λ size. some.0 < size) (kept.sizes c) some.1.0 in
      let cell : (c * 512 + some.0) / 512 ≡ c = omega (arith, small) in
      subst (λ c. member c (cells_of memory) ≡ true) cell
      (member-map cell_of (c * 512 + some.0) (keys memory.present) (member-keys memory.present (c * 512 + some.0) ∙ page-at c some.0 small ∙ some.1.1))

  -- the parent's tables are those of its memory
  pub parent_tables-own : parent_tables leaves ≡ directory_frames (cells_of memory) + length (distinct (cells_of memory))
  parent_tables-own =
      let fewer : directory_frames (parent_cells leaves) ≤ directory_frames (cells_of memory) = directory_frames-le (parent_cells leaves) (cells_of memory) cells-all in
      let no_fewer : directory_frames (cells_of memory) ≤ directory_frames (parent_cells leaves) = directory_frames-le (cells_of memory) (parent_cells leaves) cells-within in
      let few : length (parent_cells leaves) ≤ length (distinct (cells_of memory)) =
      length-le_from_is_member nat_eq_equiv (parent_cells leaves) (distinct (cells_of memory))
      (IsDistinct-sorted (filter (λ entry. has_pages entry.1.parent) leaves) (sorted-filter (λ cell. has_pages cell.parent) leaves kept.sorted))
      (λ c inside. member-distinct (cells_of memory) c ∙ cells-all c inside) in
      let no_few : length (distinct (cells_of memory)) ≤ length (parent_cells leaves) =
      length-le_from_is_member nat_eq_equiv (distinct (cells_of memory)) (parent_cells leaves) (IsDistinct-distinct (cells_of memory))
      (λ c inside. cells-within c (sym (member-distinct (cells_of memory) c) ∙ inside)) in
      omega (arith, fewer, no_fewer, few, no_few)

  -- and are no more than its memory takes
  pub parent_tables-le : parent_tables leaves ≤ own_of memory
  parent_tables-le = omega (arith, parent_tables-own)

  pages-here : (c : ℕ) (cell : CellLeaves) → cell_at leaves c ≡ cell → length (pairs_from 0 cell.parent) ≡ in_cell memory.present c
  pages-here c cell is =
      pairs-counted memory.present (c * 512) cell.parent 512 0 0 (ap (λ cell. length cell.parent) (sym is) ∙ kept.sizes c)
      (λ i small. ap (λ cell. is_some (version_at cell.parent i)) (sym is) ∙ sym (page-at c i small) ∙ ap (λ q. is_some (get memory.present (c * 512 + q))) (omega arith))

  page-home : (page : ℕ) → IsSome (get memory.present page) → member (cell_of page) (map (λ e. e.0) leaves) ≡ true
  page-home page some =
      member-entries leaves (cell_of page) ∙ used-found leaves (cell_of page) (page-used (cell_at leaves (cell_of page)) (page_in_cell page) (sym (alike page) ∙ some))

  -- the parent's versions are as many as its pages
  parent_pages-own : sum_by (λ entry. length (pairs_from 0 entry.1.parent)) leaves ≡ len memory.present
  parent_pages-own =
      sum-entries (λ entry. length (pairs_from 0 entry.1.parent)) (in_cell memory.present) leaves
      (all-found (λ q cell. length (pairs_from 0 cell.parent) ≡ in_cell memory.present q) leaves kept.sorted
      (λ q cell found. pages-here q cell (ap (λ o. unwrap_or o unused_cell) found)))
      ∙ sym (len-cells memory.present (map (λ e. e.0) leaves) (IsDistinct-sorted leaves kept.sorted) page-home)

  -- the frames that are held are no more than those that the parent's memory takes, and those that snapshots take beside it
  pub held_frames-le : held_frames leaves ≤ own_of memory + kept_frames leaves
  held_frames-le = omega (arith, parent_tables-own, parent_pages-own, page_frames-le leaves)

  module _ (alone : AreAlone leaves) where
    -- where no snapshot has a cell, the frames that are held are those that the parent's memory takes
    pub held_frames-own : held_frames leaves ≡ own_of memory
    held_frames-own =
        let each : AllByRecursion (λ e. e.1.kept ≡ []) leaves =
        all-found (λ q cell. cell.kept ≡ []) leaves kept.sorted (λ q cell found. ap (λ o. (unwrap_or o unused_cell).kept) (sym found) ∙ alone q) in
        omega (arith, parent_tables-own, parent_pages-own, page_frames-alone leaves each, alone-none leaves kept.sorted alone)

    -- where a fork is denied a frame then, those that are out and this one are no more than twice what the parent's memory takes
    pub fork-denied-own : (made n : ℕ) (answers : List Answer) (front : List Deal) (want : Want) (at : ℕ) (back : List Deal)
        → (snapshot_forked n Eager (opening_progress leaves (opening_requests made answers))).requests.deals ≡ front ++ Denied want at ∷ back
        → out_after (held_frames leaves) front + 1 ≤ own_of memory + own_of memory
    fork-denied-own made n answers front want at back split =
        omega (arith, fork-denied leaves made n answers front want at back split, held_frames-own, parent_tables-le)
