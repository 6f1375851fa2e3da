-- The parent's frames in a map of cells, against those of a memory that has its pages.
use Rattle.std.proofs.Common.{◌≡◌, ℕ, zero, suc, ◌+◌, ◌*◌, ◌/◌, ◌%◌, ◌<◌, ◌≤◌, Bool, true, false, eqb, List, [], ◌∷◌, ◌++◌, length, map, Some, None, refl, sym, ◌∙◌, ap, subst, arith, inl, inr}
use Rattle.std.specs.Prelude.{◌&&◌, T, IsSome, slice_index_or, filter, unwrap_or}
use Rattle.std.specs.List.{AllByRecursion, IsDistinct}
use Rattle.std.specs.Ordering.{nat_cmp, is_lt}
use Rattle.std.specs.Cmp.{nat_eq_equiv}
use Rattle.std.specs.FinMap.{is_sorted, get, keys, len}
use Rattle.std.specs.FinMap.Entries.{below_all}
use Rattle.std.proofs.lemmas.Bool.{eqb-true, ne_eqb, or_cases, false≢true}
use Rattle.std.proofs.lemmas.Bool.Decides.{nat_tests}
use Rattle.std.proofs.lemmas.List.{length-append, length-map}
use Rattle.std.proofs.lemmas.List.Sums.{sum_by-cons}
use Rattle.std.proofs.lemmas.Map.Keys.{IsDistinct-cons}
use Rattle.std.proofs.lemmas.Map.Made.{length-le_from_is_member}
use Rattle.vm_base.specs.Places.{cell_of, distinct, directory_frames}
use Rattle.vm_base.specs.FlatMemory.{FlatMemory, cells_of}
use Rattle.vm_base.specs.MemoryState.{own_of}
use Rattle.kernel_meaning.specs.Leaves.{CellLeaves, Versions, unused_cell, version_at, has_pages, pairs_from, parent_leaves}
use Rattle.kernel_meaning.specs.FrameLaw.{Leaves, cell_at, parent_cells}
use Rattle.kernel_meaning.specs.EventRequests.{page_version}
use Rattle.kernel_meaning.proofs.Shares.{parent_leaves-sum}
use Rattle.page_tables.specs.Standing.{AreKept}
use Rattle.page_tables.proofs.LeafMap.{sorted-filter}
use Rattle.page_tables.proofs.HeldFrames.{all-found}
use Rattle.vm_base.proofs.OwnFrames.{member, AreMembers, member-distinct, directory_frames-le, member-map, member-keys, length-keys}
use Rattle.page_tables.proofs.enough.Pairs.{own_part, parent_pages, parent_frames}
use Rattle.page_tables.proofs.enough.Cells.{sum_of, member-cells}

-- ---- rising numbers
-- numbers that rise, none below one
abbrev RisesFrom : ℕ → List ℕ → Type 0
RisesFrom low [] = Unit {0}
RisesFrom low (x ∷ xs) = (low ≤ x) × RisesFrom (x + 1) xs

rises-lower : (low high : ℕ) (xs : List ℕ) → low ≤ high → RisesFrom high xs → RisesFrom low xs
rises-lower low high [] less rises = tt
rises-lower low high (x ∷ xs) less rises = (omega (arith, less, rises.0), rises.1)

rises-apart : (x low : ℕ) (xs : List ℕ) → x < low → RisesFrom low xs → AllByRecursion (λ y. eqb x y ≡ false) xs
rises-apart x low [] less rises = tt
rises-apart x low (y ∷ xs) less rises = (ne_eqb x y (λ same. omega (arith, same, less, rises.0)), rises-apart x (y + 1) xs (omega (arith, less, rises.0)) rises.1)

no-numbers : IsDistinct eqb []
unfolding IsDistinct
no-numbers = tt

rises-distinct : (low : ℕ) (xs : List ℕ) → RisesFrom low xs → IsDistinct eqb xs
rises-distinct low [] rises = no-numbers
rises-distinct low (x ∷ xs) rises = IsDistinct-cons eqb x xs (rises-apart x (x + 1) xs (omega arith) rises.1) (rises-distinct (x + 1) xs rises.1)

left : (a b : Bool) → T (a && b) → T a
left true b h = tt
left false b h = h

right : (a b : Bool) → T (a && b) → T b
right true b h = h
right false b h = absurd h

less-from : (x y : ℕ) → T (is_lt (nat_cmp x y)) → x < y
less-from x y h = let less : is_lt (nat_cmp x y) ≡ true = holds (is_lt (nat_cmp x y)) h in grind (arith, nat_tests)
  where
    holds : (b : Bool) → T b → b ≡ true
    holds true h = refl
    holds false h = absurd h

-- the keys of entries in order rise
keys-below : {X : Type 0} (x : ℕ) (es : List (ℕ × X)) → T (below_all nat_cmp x es) → T (is_sorted nat_cmp es) → RisesFrom (x + 1) (map (λ e. e.0) es)
keys-below x [] below sorted = tt
keys-below x (e ∷ es) below sorted = (
  (let less = less-from x e.0 (left (is_lt (nat_cmp x e.0)) (below_all nat_cmp x es) below) in omega (arith, less)),
  keys-below e.0 es (left (below_all nat_cmp e.0 es) (is_sorted nat_cmp es) sorted) (right (below_all nat_cmp e.0 es) (is_sorted nat_cmp es) sorted),
)

keys-rise : {X : Type 0} (es : List (ℕ × X)) → T (is_sorted nat_cmp es) → RisesFrom 0 (map (λ e. e.0) es)
keys-rise [] sorted = tt
keys-rise (e ∷ es) sorted =
    (omega arith, keys-below e.0 es (left (below_all nat_cmp e.0 es) (is_sorted nat_cmp es) sorted) (right (below_all nat_cmp e.0 es) (is_sorted nat_cmp es) sorted))

-- ---- the parent's pages, one after another
abbrev pages_at : ℕ → List (ℕ × ℕ) → List ℕ
pages_at base pairs = map (λ pair. base + pair.0) pairs

abbrev pages_in : Leaves → List ℕ
pages_in [] = []
pages_in (e ∷ leaves) = pages_at (e.0 * 512) (pairs_from 0 e.1.parent) ++ pages_in leaves

length-pages : (leaves : Leaves) → length (pages_in leaves) ≡ sum_of parent_pages leaves
length-pages [] = refl
length-pages (e ∷ leaves) =
    omega (
      arith,
      length-append (pages_at (e.0 * 512) (pairs_from 0 e.1.parent)) (pages_in leaves),
      length-map (pairs_from 0 e.1.parent) (λ (pair : ℕ × ℕ). e.0 * 512 + pair.0),
      length-pages leaves,
      sum_by-cons (λ (e : ℕ × CellLeaves). parent_pages e.1) e leaves,
    )

cell-rises : (base k low : ℕ) (versions : Versions) (rest : List ℕ) → low ≤ base + k → RisesFrom (base + k + length versions) rest
    → RisesFrom low (pages_at base (pairs_from k versions) ++ rest)
cell-rises base k low [] rest less rises = rises-lower low (base + k + 0) rest (omega (arith, less)) rises
cell-rises base k low (None ∷ versions) rest less rises =
    cell-rises base (k + 1) low versions rest (omega (arith, less)) (rises-lower (base + (k + 1) + length versions) (base + k + suc (length versions)) rest (omega arith) rises)
cell-rises base k low (Some version ∷ versions) rest less rises = (
  less,
  cell-rises base (k + 1) (base + k + 1) versions rest (omega arith) (rises-lower (base + (k + 1) + length versions) (base + k + suc (length versions)) rest (omega arith) rises),
)

pages-rise : (low : ℕ) (leaves : Leaves) → RisesFrom low (map (λ e. e.0) leaves) → AllByRecursion (λ e. length e.1.parent ≡ 512) leaves → RisesFrom (low * 512) (pages_in leaves)
pages-rise low [] rises sizes = tt
pages-rise low (e ∷ leaves) rises sizes =
    cell-rises (e.0 * 512) 0 (low * 512) e.1.parent (pages_in leaves) (omega (arith, rises.0))
    (rises-lower (e.0 * 512 + 0 + length e.1.parent) ((e.0 + 1) * 512) (pages_in leaves) (omega (arith, sizes.0)) (pages-rise (e.0 + 1) leaves rises.1 sizes.1))

cell-all : (Q : ℕ → Type 0) (base k : ℕ) (versions : Versions) (rest : List ℕ)
    → ((i n : ℕ) → i < length versions → n ≡ base + k + i → IsSome (slice_index_or versions i None) → Q n)
    → AllByRecursion Q rest → AllByRecursion Q (pages_at base (pairs_from k versions) ++ rest)
cell-all Q base k [] rest each all = all
cell-all Q base k (None ∷ versions) rest each all =
    cell-all Q base (k + 1) versions rest (λ i n small is there. each (suc i) n (omega (arith, small)) (omega (arith, is)) there) all
cell-all Q base k (Some version ∷ versions) rest each all = (
  each zero (base + k) (omega arith) (omega arith) refl,
  cell-all Q base (k + 1) versions rest (λ i n small is there. each (suc i) n (omega (arith, small)) (omega (arith, is)) there) all,
)

-- the pages of a cell satisfy it
abbrev EachPage : (ℕ → Type 0) → ℕ → CellLeaves → Type 0
EachPage Q c cell = (p : ℕ) → p < 512 → IsSome (version_at cell.parent p) → Q (c * 512 + p)

pages-all : (Q : ℕ → Type 0) (leaves : Leaves) → AllByRecursion (λ e. length e.1.parent ≡ 512) leaves → AllByRecursion (λ e. EachPage Q e.0 e.1) leaves
    → AllByRecursion Q (pages_in leaves)
pages-all Q [] sizes each = tt
pages-all Q (e ∷ leaves) sizes each =
    cell-all Q (e.0 * 512) 0 e.1.parent (pages_in leaves)
    (λ i n small is there. let back : e.0 * 512 + i ≡ n = omega (arith, is) in subst Q back (each.0 i (omega (arith, small, sizes.0)) there)) (pages-all Q leaves sizes.1 each.1)

member-all : (P : ℕ → Type 0) (q : ℕ) (xs : List ℕ) → AllByRecursion P xs → member q xs ≡ true → P q
member-all P q [] all there = absurd (false≢true there)
member-all P q (x ∷ xs) all there = elim (or_cases (eqb q x) (member q xs) there) [
  | inl here ↦ subst P (sym (eqb-true q x here)) all.0
  | inr later ↦ member-all P q xs all.1 later
]

-- a cell with pages has one
page-of : (versions : Versions) → has_pages versions ≡ true → (p : ℕ) × ((p < length versions) × IsSome (version_at versions p))
page-of [] some = absurd (false≢true some)
page-of (None ∷ versions) some = let rest = page-of versions some in (suc rest.0, (omega (arith, rest.1.0), rest.1.1))
page-of (Some version ∷ versions) some = (zero, (omega arith, refl))

-- each page of the parent is one of the memory
abbrev pub HasPages : FlatMemory → Leaves → Type 0
HasPages memory leaves = (page : ℕ) → IsSome (page_version leaves page) → IsSome (get memory.present page)

own-sum : (leaves : Leaves) → sum_of own_part leaves ≡ sum_of parent_leaves leaves + sum_of parent_pages leaves
own-sum [] = refl
own-sum (e ∷ leaves) =
    omega (
      arith,
      own-sum leaves,
      sum_by-cons (λ (e : ℕ × CellLeaves). own_part e.1) e leaves,
      sum_by-cons (λ (e : ℕ × CellLeaves). parent_leaves e.1) e leaves,
      sum_by-cons (λ (e : ℕ × CellLeaves). parent_pages e.1) e leaves,
    )

-- the frames of the parent alone are its directory and its part of each cell
pub parent_frames-parts : (leaves : Leaves) → parent_frames leaves ≡ directory_frames (parent_cells leaves) + sum_of own_part leaves
parent_frames-parts leaves = omega (arith, parent_leaves-sum leaves, own-sum leaves)

module _ (leaves : Leaves) (kept : AreKept leaves) (memory : FlatMemory) (has : HasPages memory leaves) where
  page-there : (c p : ℕ) → p < 512 → IsSome (version_at (cell_at leaves c).parent p) → IsSome (get memory.present (c * 512 + p))
  page-there c p small there =
      let cell : (c * 512 + p) / 512 ≡ c = omega (arith, small) in
      let place : (c * 512 + p) % 512 ≡ p = omega (arith, small) in
      has (c * 512 + p)
      (subst (λ d. IsSome (version_at (cell_at leaves d).parent ((c * 512 + p) % 512))) (sym cell) (subst (λ q. IsSome (version_at (cell_at leaves c).parent q)) (sym place) there))

  cells-among : AreMembers (parent_cells leaves) (cells_of memory)
  cells-among c there =
      let found = page-of (cell_at leaves c).parent (sym (member-cells leaves c kept.sorted) ∙ there) in
      let small : found.0 < 512 = omega (arith, found.1.0, kept.sizes c) in
      let cell : (c * 512 + found.0) / 512 ≡ c = omega (arith, small) in
      ap (λ d. member d (cells_of memory)) (sym cell)
      ∙ member-map cell_of (c * 512 + found.0) (keys memory.present) (member-keys memory.present (c * 512 + found.0) ∙ page-there c found.0 small found.1.1)

  cells-fewer : length (parent_cells leaves) ≤ length (distinct (cells_of memory))
  cells-fewer =
      length-le_from_is_member nat_eq_equiv (parent_cells leaves) (distinct (cells_of memory))
      (rises-distinct 0 (parent_cells leaves) (keys-rise (filter (λ e. has_pages e.1.parent) leaves) (sorted-filter (λ cell. has_pages cell.parent) leaves kept.sorted)))
      (λ q there. member-distinct (cells_of memory) q ∙ cells-among q there)

  sizes-all : AllByRecursion (λ e. length e.1.parent ≡ 512) leaves
  sizes-all = all-found (λ c cell. length cell.parent ≡ 512) leaves kept.sorted (λ c cell found. ap (λ o. length (unwrap_or o unused_cell).parent) (sym found) ∙ kept.sizes c)

  -- a page of the memory
  abbrev IsKey : ℕ → Type 0
  IsKey page = member page (keys memory.present) ≡ true

  pages-fewer : sum_of parent_pages leaves ≤ len memory.present
  pages-fewer =
      let each : AllByRecursion (λ e. EachPage IsKey e.0 e.1) leaves =
      all-found (EachPage IsKey) leaves kept.sorted (λ c cell found p small there.
      member-keys memory.present (c * 512 + p) ∙ page-there c p small (subst (λ o. IsSome (version_at (unwrap_or o unused_cell).parent p)) (sym found) there)) in
      let fewer : length (pages_in leaves) ≤ length (keys memory.present) =
      length-le_from_is_member nat_eq_equiv (pages_in leaves) (keys memory.present)
      (rises-distinct 0 (pages_in leaves) (pages-rise 0 leaves (keys-rise leaves kept.sorted) sizes-all))
      (λ q there. member-all IsKey q (pages_in leaves) (pages-all IsKey leaves sizes-all each) there) in
      omega (arith, fewer, length-pages leaves, length-keys memory.present)

  -- a memory that has the parent's pages takes no fewer frames alone
  pub own-within : parent_frames leaves ≤ own_of memory
  own-within = omega (arith, directory_frames-le (parent_cells leaves) (cells_of memory) cells-among, cells-fewer, pages-fewer)
