-- How many frames a snapshot takes beside its parent: none where none lives, and never more than its memory would take alone.
use Rattle.std.proofs.Common.{◌≡◌, ℕ, suc, ◌+◌, ◌*◌, ◌/◌, ◌%◌, ◌<◌, ◌≤◌, Bool, true, false, cond, eqb, List, [], ◌∷◌, ◌++◌, map, length, Option, Some, None, refl, sym, ◌∙◌, ap, subst, append-nil, arith, inl, inr, ◌⊎◌}
use Rattle.std.specs.Prelude.{IsSome, is_some, ◌||◌, ◌==◌, T, sum_by, count_by, flat_map, filter, unwrap_or}
use Rattle.std.specs.Ordering.{nat_cmp}
use Rattle.std.specs.Option.{option_and_then}
use Rattle.std.specs.List.{list_any, AllByRecursion}
use Rattle.std.specs.Cmp.{nat_eq_equiv}
use Rattle.std.specs.FinMap.{get, find, keys, len, entries, entries_sorted, get-entries, is_sorted}
use Rattle.std.proofs.lemmas.Bool.{eqb-true, false≢true, eq-eqb}
use Rattle.std.proofs.lemmas.Bool.Decides.{nat_tests}
use Rattle.std.proofs.lemmas.List.Sums.{sum_by-cons}
use Rattle.std.proofs.lemmas.Map.Made.{length-le_from_is_member}
use Rattle.vm_base.specs.Places.{cell_of, distinct, directory_frames}
use Rattle.vm_base.specs.FlatMemory.{PageMap, FlatMemory, cells_of}
use Rattle.vm_base.specs.MemoryState.{own_of, IsListed}
use Rattle.kernel_meaning.specs.Leaves.{holds_number, CellLeaves, Kept, unused_cell, version_at, is_lost, is_own, kept_by, pairs_from, pairs_of, own_leaves}
use Rattle.kernel_meaning.specs.FrameLaw.{Leaves, cell_at, cells_where, snapshot_cells, snapshot_tables, snapshot_leaves}
use Rattle.page_tables.specs.declared.tables.SnapshotTables.{SnapshotTables}
use Rattle.page_tables.specs.declared.tables.PageTables.{PageTables}
use Rattle.page_tables.specs.Sides.{Sides}
use Rattle.page_tables.specs.Standing.{living_number, slot_in, numbers_at, StandFor, TablesStandFor}
use Rattle.page_tables.proofs.HeldFrames.{all-found, snapshot-cells, snapshot-law}
use Rattle.page_tables.proofs.StandingFacts.{no-numbers}
use Rattle.vm_base.proofs.OwnFrames.{member, AreMembers, member-distinct, directory_frames-le, IsDistinct-sorted}
use Rattle.page_tables.proofs.enough.PageCounts.{in_cell, len-cells}
use Rattle.page_tables.proofs.enough.Pairs.{kept_frames}
use Rattle.page_tables.proofs.enough.CellSums.{member-entries, sum-entries-le, sum-entries-none, pairs-le}
use Rattle.page_tables.specs.TablesView.{LacksSnapshot, snapshot_has}

-- no snapshot has a cell
abbrev pub AreAlone : Leaves → Type 0
AreAlone leaves = (c : ℕ) → (cell_at leaves c).kept ≡ []

-- ---- no snapshot lives

none-numbered : (leaves : Leaves) → AllByRecursion (λ e. e.1.kept ≡ []) leaves → flat_map (λ entry. map (λ kept. kept.number) entry.1.kept) leaves ≡ []
none-numbered [] all = refl
none-numbered (e ∷ leaves) all =
    ap (λ kept. map (λ it. it.number) kept ++ flat_map (λ entry. map (λ kept. kept.number) entry.1.kept) leaves) all.0 ∙ none-numbered leaves all.1

-- of leaves in order, where no snapshot has a cell
pub alone-none : (leaves : Leaves) → T (is_sorted nat_cmp leaves) → AreAlone leaves → kept_frames leaves ≡ 0
alone-none leaves sorted alone =
    let each : AllByRecursion (λ e. e.1.kept ≡ []) leaves = all-found (λ q cell. cell.kept ≡ []) leaves sorted
    (λ q cell found. ap (λ o. (unwrap_or o unused_cell).kept) (sym found) ∙ alone q) in
    let tables : snapshot_tables leaves ≡ 0 = ap (λ ns. sum_by (λ n. directory_frames (snapshot_cells leaves n)) (distinct ns)) (none-numbered leaves each) in
    let own : snapshot_leaves leaves ≡ 0 = sum-entries-none (λ entry. own_leaves entry.1) leaves
    (mapped leaves each (λ kept. count_by (λ it. is_own it.leaf) kept) refl) in
    let pages : sum_by (λ entry. length (flat_map pairs_of entry.1.kept)) leaves ≡ 0 = sum-entries-none (λ entry. length (flat_map pairs_of entry.1.kept)) leaves
    (mapped leaves each (λ kept. length (flat_map pairs_of kept)) refl) in
    omega (arith, tables, own, pages)
  where
    mapped : (leaves : Leaves) → AllByRecursion (λ e. e.1.kept ≡ []) leaves → (f : List Kept → ℕ) → f [] ≡ 0 → AllByRecursion (λ e. f e.1.kept ≡ 0) leaves
    mapped [] all f none = tt
    mapped (e ∷ leaves) all f none = (ap f all.0 ∙ none, mapped leaves all.1 f none)

-- ---- a snapshot lives

none-le : (n : ℕ) → 0 ≤ n
none-le n = omega arith

-- the one snapshot that has a cell, if one does
few-kept : (kept : List Kept) (has : Bool) (n : ℕ) → map (λ it. it.number) kept ≡ cond has (n ∷ []) [] → (kept ≡ []) ⊎ ((it : Kept) × ((kept ≡ it ∷ []) × (it.number ≡ n)))
few-kept [] has n e = inl refl
few-kept (it ∷ []) true n e = inr (it, (refl, ap (λ xs. elim xs [ [] ↦ n | x ∷ rest ↦ x ]) e))
few-kept (it ∷ []) false n e = let size : 1 ≡ 0 = ap length e in absurd (omega (arith, size))
few-kept (it ∷ other ∷ others) true n e = let size : suc (suc (length (map (λ (k : Kept). k.number) others))) ≡ 1 = ap length e in absurd (omega (arith, size))
few-kept (it ∷ other ∷ others) false n e = let size : suc (suc (length (map (λ (k : Kept). k.number) others))) ≡ 0 = ap length e in absurd (omega (arith, size))

-- each page that a leaf names at a cell is one of the cell's, and among these
abbrev pub NamesPages : PageMap → ℕ → Kept → Type 0
NamesPages pages c kept = (p : ℕ) → IsSome (version_at kept.versions p) → (p < 512) × IsSome (get pages (c * 512 + p))

-- so it is of each leaf of snapshot n that is not lost
abbrev pub NameTheirPages : Leaves → ℕ → PageMap → Type 0
NameTheirPages leaves n pages = (c : ℕ) (kept : Kept) → kept_by (cell_at leaves c).kept n ≡ Some kept → is_lost kept.leaf ≡ false → NamesPages pages c kept

-- one own leaf a cell at most
own-leaves-counted : (test : CellLeaves → Bool) (leaves : Leaves)
    → AllByRecursion (λ e. own_leaves e.1 ≤ cond (test e.1) 1 0) leaves → snapshot_leaves leaves ≤ length (cells_where test leaves)
own-leaves-counted test [] all = omega arith
own-leaves-counted test (e ∷ leaves) all =
    let rest : snapshot_leaves leaves ≤ length (cells_where test leaves) = own-leaves-counted test leaves all.1 in
    let whole : snapshot_leaves (e ∷ leaves) ≡ own_leaves e.1 + snapshot_leaves leaves = sum_by-cons (λ entry. own_leaves entry.1) e leaves in
    elim (test e.1) as (λ b. own_leaves e.1 ≤ cond b 1 0 → snapshot_leaves (e ∷ leaves)
    ≤ length (map (λ entry. entry.0) (cond b (e ∷ filter (λ entry. test entry.1) leaves) (filter (λ entry. test entry.1) leaves)))) [
      | true ↦ λ one. omega (arith, rest, whole, one)
      | false ↦ λ none. omega (arith, rest, whole, none)
    ] all.0

listed-member : (c : ℕ) (cells : List ℕ) → IsListed c cells → member c cells ≡ true
listed-member c cells listed = sym (alike cells) ∙ listed
  where
    turned : (a b : ℕ) → eqb a b ≡ eqb b a
    turned a b = grind (arith, nat_tests)

    alike : (cells : List ℕ) → list_any (λ other. other == c) cells ≡ member c cells
    alike [] = refl
    alike (other ∷ cells) = λ i. turned other c i || alike cells i

module _ (tables : PageTables) (sides : Sides) (st : TablesStandFor tables sides) where
  -- where no snapshot lives, none has a cell
  pub alone-kept : LacksSnapshot tables → AreAlone sides.leaves
  alone-kept none c = no-numbers (cell_at sides.leaves c).kept (st.snapshot_of.numbers c ∙ ap (λ snapshot. numbers_at snapshot c) none)

  -- and none takes a frame
  pub none-kept : LacksSnapshot tables → kept_frames sides.leaves ≡ 0
  none-kept none = alone-none sides.leaves st.kept.sorted (alone-kept none)

  module _ (snapshot : SnapshotTables) (lives : tables.snapshot ≡ Some snapshot) (memory : FlatMemory) (number : get sides.snapshots snapshot.number ≡ Some memory.present)
      (names : NameTheirPages sides.leaves snapshot.number memory.present)
      (listed : (c : ℕ) → snapshot_has tables c ≡ true → IsListed c (cells_of memory)) where
    abbrev n : ℕ
    n = snapshot.number

    abbrev there : ℕ → Bool
    there c = is_some (get snapshot.directory c)

    slot-is : (c : ℕ) → slot_in tables.snapshot c ≡ get snapshot.directory c
    slot-is c = ap (λ o. slot_in o c) lives

    numbers-are : (c : ℕ) → map (λ it. it.number) (cell_at sides.leaves c).kept ≡ cond (there c) (n ∷ []) []
    numbers-are c = st.snapshot_of.numbers c ∙ ap (λ o. numbers_at o c) lives

    -- ---- the directory and the leaves

    cells-listed : AreMembers (keys snapshot.directory) (cells_of memory)
    cells-listed c inside =
        listed-member c (cells_of memory)
        (listed c (ap is_some (slot-is c ∙ get-entries snapshot.directory c) ∙ sym (member-entries (entries snapshot.directory) c) ∙ inside))

    few-cells : length (keys snapshot.directory) ≤ length (distinct (cells_of memory))
    few-cells = length-le_from_is_member nat_eq_equiv (keys snapshot.directory) (distinct (cells_of memory))
        (IsDistinct-sorted (entries snapshot.directory) (entries_sorted snapshot.directory))
        (λ c inside. member-distinct (cells_of memory) c ∙ cells-listed c inside)

    standing : StandFor tables.directory (Some snapshot) tables.slots.items sides
    standing = subst (λ o. StandFor tables.directory o tables.slots.items sides) lives st

    few-tables : snapshot_tables sides.leaves ≤ directory_frames (cells_of memory)
    few-tables =
        let law : snapshot_tables sides.leaves ≡ directory_frames (keys snapshot.directory) = snapshot-law tables.directory (Some snapshot) tables.slots.items sides standing in
        omega (arith, law, directory_frames-le (keys snapshot.directory) (cells_of memory) cells-listed)

    own-here : (cell : CellLeaves) (has : Bool) → map (λ it. it.number) cell.kept ≡ cond has (n ∷ []) [] → own_leaves cell ≤ cond (is_some (kept_by cell.kept n)) 1 0
    own-here cell has numbers = elim (few-kept cell.kept has n numbers) [
      | inl none ↦ subst (λ kept. count_by (λ it. is_own it.leaf) kept ≤ cond (is_some (kept_by kept n)) 1 0) (sym none) (omega arith)
      | inr one ↦ subst (λ kept. count_by (λ it. is_own it.leaf) kept ≤ cond (is_some (kept_by kept n)) 1 0) (sym one.1.0) (by one.0 one.1.1)
    ]
      where
        by : (it : Kept) → it.number ≡ n → count_by (λ it. is_own it.leaf) (it ∷ []) ≤ cond (is_some (kept_by (it ∷ []) n)) 1 0
        by it same =
            let found : ◌≡◌ {A = ℕ} (cond (is_some (cond (it.number == n) (Some it) None)) 1 0) 1 =
            ap (λ b. cond (is_some (cond b (Some it) None)) 1 0) (eq-eqb it.number n same) in
            let few : cond (is_own it.leaf) 1 0 ≤ 1 = elim (is_own it.leaf) as (λ b. cond b 1 0 ≤ 1) [ true ↦ omega arith | false ↦ omega arith ] in
            omega (arith, found, few, sum_by-cons (λ (it : Kept). cond (is_own it.leaf) 1 0) it [])

    few-leaves : snapshot_leaves sides.leaves ≤ length (distinct (cells_of memory))
    few-leaves =
        let counted : snapshot_leaves sides.leaves ≤ length (snapshot_cells sides.leaves n) = own-leaves-counted (λ cell. is_some (kept_by cell.kept n)) sides.leaves
        (all-found (λ q cell. own_leaves cell ≤ cond (is_some (kept_by cell.kept n)) 1 0) sides.leaves st.kept.sorted
        (λ q cell found. own-here cell (there q) (ap (λ o. map (λ it. it.number) (unwrap_or o unused_cell).kept) (sym found) ∙ numbers-are q))) in
        let cells : length (keys snapshot.directory) ≡ length (snapshot_cells sides.leaves n) =
        ap length (snapshot-cells tables.directory snapshot tables.slots.items sides standing) in
        omega (arith, counted, cells, few-cells)

    -- ---- the pages

    pages-named : (it : Kept) (c : ℕ) → (is_lost it.leaf ≡ false → NamesPages memory.present c it) → length (pairs_of it) ≤ in_cell memory.present c
    pages-named it c named = by (is_lost it.leaf) refl
      where
        by : (b : Bool) → is_lost it.leaf ≡ b → length (cond b [] (pairs_from 0 it.versions)) ≤ in_cell memory.present c
        by true lost = none-le (in_cell memory.present c)
        by false kept = pairs-le memory.present (c * 512) it.versions 512 0 0 (λ p some.
            let both : (p < 512) × IsSome (get memory.present (c * 512 + p)) = named kept p some in
            (both.0, subst (λ q. IsSome (get memory.present (c * 512 + q))) (omega arith) both.1))

    pages-here : (c : ℕ) (cell : CellLeaves) → cell_at sides.leaves c ≡ cell → length (flat_map pairs_of cell.kept) ≤ in_cell memory.present c
    pages-here c cell is = elim (few-kept cell.kept (there c) n (ap (λ cell. map (λ it. it.number) cell.kept) (sym is) ∙ numbers-are c)) [
      | inl none ↦ subst (λ kept. length (flat_map pairs_of kept) ≤ in_cell memory.present c) (sym none) (none-le (in_cell memory.present c))
      | inr one ↦ subst (λ kept. length (flat_map pairs_of kept) ≤ in_cell memory.present c) (sym one.1.0)
          (let size : length (pairs_of one.0 ++ []) ≡ length (pairs_of one.0) = ap length (append-nil (pairs_of one.0)) in
          let found : kept_by (cell_at sides.leaves c).kept n ≡ Some one.0 =
          ap (λ kept. kept_by kept n) (ap (λ cell. cell.kept) is ∙ one.1.0) ∙ ap (λ b. cond b (Some one.0) None) (eq-eqb one.0.number n one.1.1) in
          subst (λ size. size ≤ in_cell memory.present c) (sym size) (pages-named one.0 c (names c one.0 found)))
    ]

    page-home : (page : ℕ) → IsSome (get memory.present page) → member (cell_of page) (map (λ e. e.0) sides.leaves) ≡ true
    page-home page some = member-entries sides.leaves (cell_of page) ∙ by (get snapshot.directory (cell_of page)) refl
      where
        low : page % 512 < 512
        low = omega arith

        whole : page / 512 * 512 + page % 512 ≡ page
        whole = omega arith

        by : (o : Option ℕ) → get snapshot.directory (cell_of page) ≡ o → is_some (find nat_cmp (cell_of page) sides.leaves) ≡ true
        by (Some s) e = st.slots_of.used s (cell_of page) (st.snapshot_of.named (cell_of page) s (slot-is (cell_of page) ∙ e))
        by None e =
            let absent : option_and_then (λ pages. get pages (page / 512 * 512 + page % 512)) (get sides.snapshots n) ≡ None =
            st.snapshot_of.absent n (cell_of page) (page % 512) low
            (ap (λ o. list_any (λ m. m == n) (numbers_at o (cell_of page))) lives ∙ ap (λ o. list_any (λ m. m == n) (cond (is_some o) (n ∷ []) [])) e) in
            absurd (false≢true (ap is_some (sym (sym (ap (get memory.present) whole)
            ∙ ap (option_and_then (λ pages. get pages (page / 512 * 512 + page % 512))) (sym number) ∙ absent)) ∙ some))

    few-pages : sum_by (λ entry. length (flat_map pairs_of entry.1.kept)) sides.leaves ≤ len memory.present
    few-pages =
        let cells : List ℕ = map (λ e. e.0) sides.leaves in
        let each : sum_by (λ entry. length (flat_map pairs_of entry.1.kept)) sides.leaves ≤ sum_by (in_cell memory.present) cells =
        sum-entries-le (λ entry. length (flat_map pairs_of entry.1.kept)) (in_cell memory.present) sides.leaves
        (all-found (λ q cell. length (flat_map pairs_of cell.kept) ≤ in_cell memory.present q) sides.leaves st.kept.sorted
        (λ q cell found. pages-here q cell (ap (λ o. unwrap_or o unused_cell) found))) in
        let all : len memory.present ≡ sum_by (in_cell memory.present) cells = len-cells memory.present cells (IsDistinct-sorted sides.leaves st.kept.sorted) page-home in
        omega (arith, each, all)

    -- the snapshot that lives takes no more than its memory would alone, where it has a page in each of its cells
    pub living-kept : kept_frames sides.leaves ≤ own_of memory
    living-kept = omega (arith, few-tables, few-leaves, few-pages)

  -- so of the snapshot with a number that lives
  pub kept-own : (n : ℕ) (memory : FlatMemory) → get sides.snapshots n ≡ Some memory.present → NameTheirPages sides.leaves n memory.present
      → ((c : ℕ) → snapshot_has tables c ≡ true → IsListed c (cells_of memory)) → kept_frames sides.leaves ≤ own_of memory
  kept-own n memory number names listed = by tables.snapshot refl
    where
      by : (o : Option SnapshotTables) → tables.snapshot ≡ o → kept_frames sides.leaves ≤ own_of memory
      by None none = omega (arith, none-kept none)
      by (Some snapshot) lives =
          let held : (snapshot.number == n) ≡ true = ap (λ o. holds_number (living_number o) n) (sym lives) ∙ sym (st.snapshot_of.live n) ∙ ap is_some number in
          let same : snapshot.number ≡ n = eqb-true snapshot.number n held in
          living-kept snapshot lives memory (ap (get sides.snapshots) same ∙ number) (subst (λ n. NameTheirPages sides.leaves n memory.present) (sym same) names) listed
