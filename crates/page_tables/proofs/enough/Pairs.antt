-- The frames that the parent and its snapshots would take if they shared none, against those that they take.
use Rattle.std.proofs.Common.{◌≡◌, ◌≢◌, ℕ, zero, suc, ◌+◌, ◌<◌, ◌≤◌, Bool, true, false, cond, List, [], ◌∷◌, ◌++◌, length, Option, Some, None, refl, sym, ◌∙◌, ap, subst, arith, inl, inr}
use Rattle.std.specs.Prelude.{◌||◌, is_some, IsSome, unwrap_or, sum_by, flat_map}
use Rattle.std.specs.List.{list_any}
use Rattle.std.proofs.lemmas.Bool.{cases_eq, cond-false, and_parts, or_cases, or_left, or_right, false≢true}
use Rattle.std.proofs.lemmas.List.{length-append, get_or-set_same, get_or-set_other}
use Rattle.std.proofs.lemmas.List.Sums.{sum_by-cons}
use Rattle.kernel_meaning.specs.Leaves.{CellLeaves, Kept, Leaf, Own, Joined, Lost, Versions, version_at, with_version, has_pages, is_own, is_lost, holds_number, names_version, is_named, pairs_from, pairs_of, is_same_pair, distinct_pairs, named_pairs, parent_leaves, own_leaves, share, with_leaf}
use Rattle.kernel_meaning.specs.CellActs.{with_parent_version, with_leaf_where}
use Rattle.kernel_meaning.specs.FrameLaw.{Leaves, parent_tables, snapshot_tables, snapshot_leaves, page_frames, held_frames}
use Rattle.leaf_cell.specs.Touching.{is_named_too, needs_copy}
use Rattle.leaf_cell.specs.Renaming.{IsNamedBy, IsLive, AreMade}
use Rattle.leaf_cell.proofs.PairCounts.{IsIn, AreOnce, eqb-true, from-distinct, to-distinct, distinct-once}
use Rattle.leaf_cell.proofs.LivePairs.{all_pairs, pair-at, append-right, in-live, live-in}
use Rattle.page_tables.proofs.LessShare.{once-within}
use Rattle.page_tables.proofs.TouchShapes.{page-there}

-- the present pages of the parent at a cell
abbrev pub parent_pages : CellLeaves → ℕ
parent_pages cell = length (pairs_from 0 cell.parent)

-- the present pages of each snapshot's leaf that is not lost
abbrev pub kept_pages : CellLeaves → ℕ
kept_pages cell = length (flat_map pairs_of cell.kept)

-- the frames of the parent, if it shared none: its directory, a leaf for each of its cells, its pages
abbrev pub parent_frames : Leaves → ℕ
parent_frames leaves = parent_tables leaves + sum_by (λ entry. parent_pages entry.1) leaves

-- those of the snapshots, if they shared none
abbrev pub kept_frames : Leaves → ℕ
kept_frames leaves = snapshot_tables leaves + snapshot_leaves leaves + sum_by (λ entry. kept_pages entry.1) leaves

-- ---- distinct pairs
distinct-le : (xs : List (ℕ × ℕ)) → length (distinct_pairs xs) ≤ length xs
distinct-le [] = omega arith
distinct-le (x ∷ xs) = by (list_any (is_same_pair x) xs) (distinct-le xs)
  where
    by : (b : Bool) → length (distinct_pairs xs) ≤ length xs → length (cond b (distinct_pairs xs) (x ∷ distinct_pairs xs)) ≤ suc (length xs)
    by true rest = omega (arith, rest)
    by false rest = omega (arith, rest)

both-named : (x : ℕ × ℕ) (a b : List (ℕ × ℕ)) → IsIn x a → IsIn x b → length (distinct_pairs (a ++ b)) + 1 ≤ length a + length b
both-named x [] b h k = absurd h
both-named x (y ∷ a) b (inl e) k = by (list_any (is_same_pair y) (a ++ b)) refl
  where
    by : (it : Bool) → list_any (is_same_pair y) (a ++ b) ≡ it → length (cond it (distinct_pairs (a ++ b)) (y ∷ distinct_pairs (a ++ b))) + 1 ≤ suc (length a) + length b
    by true is = omega (arith, distinct-le (a ++ b), length-append a b)
    by false is =
        absurd ((subst AreOnce (cond-false (list_any (is_same_pair y) (a ++ b)) (distinct_pairs (a ++ b)) (y ∷ distinct_pairs (a ++ b)) is) (distinct-once (y ∷ (a ++ b)))).0
        (to-distinct y (a ++ b) (append-right y a b (subst (λ z. IsIn z b) e k))))
both-named x (y ∷ a) b (inr h) k = by (list_any (is_same_pair y) (a ++ b)) (both-named x a b h k)
  where
    by : (it : Bool) → length (distinct_pairs (a ++ b)) + 1 ≤ length a + length b
        → length (cond it (distinct_pairs (a ++ b)) (y ∷ distinct_pairs (a ++ b))) + 1 ≤ suc (length a) + length b
    by true rest = omega (arith, rest)
    by false rest = omega (arith, rest)

own-unlost : (leaf : Leaf) → is_own leaf ≡ true → is_lost leaf ≡ false
own-unlost Own is = refl
own-unlost Joined is = refl
own-unlost (Lost at) is = absurd (false≢true is)

held-number : (o : Option ℕ) (version : ℕ) → holds_number o version ≡ true → o ≡ Some version
held-number None version is = absurd (false≢true is)
held-number (Some other) version is = ap Some (eqb-true other version is)

-- what an own leaf names
pub named-by : (page version : ℕ) (kept : List Kept) → list_any (names_version page version) kept ≡ true → IsNamedBy page version kept
named-by page version [] is = absurd (false≢true is)
named-by page version (it ∷ others) is = elim (or_cases (names_version page version it) (list_any (names_version page version) others) is) [
  | inl here ↦
      let parts = and_parts (is_own it.leaf) (holds_number (version_at it.versions page) version) here in
      inl (own-unlost it.leaf parts.0, held-number (version_at it.versions page) version parts.1)
  | inr later ↦ inr (named-by page version others later)
]

-- where an own leaf names the version of the parent's page, the two share a frame
pub shared-pair : (cell : CellLeaves) (page version : ℕ) → is_named cell page version ≡ true → version_at cell.parent page ≡ Some version
    → length (named_pairs cell) + 1 ≤ parent_pages cell + length (flat_map pairs_of cell.kept)
shared-pair cell page version named there =
    both-named (page, version) (pairs_from 0 cell.parent) (flat_map pairs_of cell.kept) (pair-at 0 cell.parent page page version (omega arith) there)
    (live-in (record { parent = []; kept = cell.kept }) page version (inr (named-by page version cell.kept named)))

pairs-le : (cell : CellLeaves) → length (named_pairs cell) ≤ parent_pages cell + kept_pages cell
pairs-le cell = omega (arith, distinct-le (all_pairs cell), length-append (pairs_from 0 cell.parent) (flat_map pairs_of cell.kept))

pages-le : (leaves : Leaves) → page_frames leaves ≤ sum_by (λ entry. parent_pages entry.1) leaves + sum_by (λ entry. kept_pages entry.1) leaves
pages-le [] = omega arith
pages-le (entry ∷ leaves) =
    omega (
      arith,
      pages-le leaves,
      pairs-le entry.1,
      sum_by-cons (λ e. length (named_pairs e.1)) entry leaves,
      sum_by-cons (λ e. parent_pages e.1) entry leaves,
      sum_by-cons (λ e. kept_pages e.1) entry leaves,
    )

-- the frames that are held are no more than those of the parent alone and those of the snapshots alone
pub held-apart : (leaves : Leaves) → held_frames leaves ≤ parent_frames leaves + kept_frames leaves
held-apart leaves = omega (arith, pages-le leaves)

-- ---- a cell by itself
-- the parent's part of a cell: its leaf and its pages
abbrev pub own_part : CellLeaves → ℕ
own_part cell = parent_leaves cell + parent_pages cell

-- the snapshots' part
abbrev pub kept_part : CellLeaves → ℕ
kept_part cell = own_leaves cell + kept_pages cell

-- the share of a cell is no more than both parts of it
pub share-apart : (cell : CellLeaves) → share cell ≤ own_part cell + kept_part cell
share-apart cell = omega (arith, pairs-le cell)

-- the leaf that the parent lacks at a cell
abbrev pub lacking_leaf : CellLeaves → ℕ
lacking_leaf cell = cond (has_pages cell.parent) 0 1

leaf-or-lacking : (b : Bool) → cond b 1 0 + cond b 0 1 ≡ 1
leaf-or-lacking true = refl
leaf-or-lacking false = refl

module _ (cell : CellLeaves) (page version : ℕ) (inside : page < length cell.parent) where
  abbrev then : CellLeaves
  then = with_parent_version page version cell

  version-then : version_at then.parent page ≡ Some version
  version-then = get_or-set_same cell.parent page (Some version) None inside

  -- the other pages have the versions that they had
  pub version-apart : (p : ℕ) → p ≢ page → version_at then.parent p ≡ version_at cell.parent p
  version-apart p apart = get_or-set_other cell.parent page p (Some version) None apart

  -- the cell has a page then
  pub pages-then : has_pages then.parent ≡ true
  pages-then = page-there then page (ap is_some version-then)

  leaf-then : parent_leaves then ≡ parent_leaves cell + lacking_leaf cell
  leaf-then = let one : ◌≡◌ {A = ℕ} (parent_leaves then) 1 = ap (λ b. cond b 1 0) pages-then in omega (arith, one, leaf-or-lacking (has_pages cell.parent))

  -- a version that no request has made before is a pair more, where the page was absent or a snapshot names its old version
  pub share-grows : (made : ℕ) → AreMade made cell → made < version → ((old : ℕ) → version_at cell.parent page ≡ Some old → IsNamedBy page old cell.kept)
      → share cell + lacking_leaf cell + 1 ≤ share then
  share-grows made were above stays =
      let own : own_leaves then ≡ own_leaves cell = refl in
      omega (arith, own, leaf-then, more)
    where
      still : (p v : ℕ) → IsLive cell p v → IsLive then p v
      still p v (inr named) = inr named
      still p v (inl there) = elim (cases_eq p page) [
        | inl here ↦ inr (subst (λ q. IsNamedBy q v cell.kept) (sym here) (stays v (ap (version_at cell.parent) (sym here) ∙ there)))
        | inr apart ↦ inl (version-apart p apart ∙ there)
      ]

      more : suc (length (named_pairs cell)) ≤ length (named_pairs then)
      more = once-within ((page, version) ∷ named_pairs cell) (named_pairs then) (
        (λ h. omega (arith, above, were page version (in-live cell (page, version) (from-distinct (page, version) (all_pairs cell) h)))),
        distinct-once (all_pairs cell),
      ) each
        where
          each : (x : ℕ × ℕ) → IsIn x ((page, version) ∷ named_pairs cell) → IsIn x (named_pairs then)
          each x (inl e) = subst (λ z. IsIn z (named_pairs then)) (sym e) (to-distinct (page, version) (all_pairs then) (live-in then page version (inl version-then)))
          each x (inr h) = to-distinct x (all_pairs then) (live-in then x.0 x.1 (still x.0 x.1 (in-live cell x (from-distinct x (all_pairs cell) h))))

-- a page that was absent is a pair more
pairs-set : (k page version : ℕ) (versions : Versions) → page < length versions → version_at versions page ≡ None
    → length (pairs_from k (with_version versions page version)) ≡ length (pairs_from k versions) + 1
pairs-set k page version [] inside absent = absurd (omega (arith, inside))
pairs-set k zero version (None ∷ versions) inside absent = omega arith
pairs-set k zero version (Some old ∷ versions) inside absent = absurd (false≢true (sym (ap is_some absent)))
pairs-set k (suc page) version (None ∷ versions) inside absent = pairs-set (k + 1) page version versions (omega (arith, inside)) absent
pairs-set k (suc page) version (Some old ∷ versions) inside absent = let rest = pairs-set (k + 1) page version versions (omega (arith, inside)) absent in omega (arith, rest)

-- the parent's part grows by the page, and by the leaf where it was missing
pub own-grows : (cell : CellLeaves) (page version : ℕ) → page < length cell.parent → version_at cell.parent page ≡ None
    → own_part (with_parent_version page version cell) ≡ own_part cell + lacking_leaf cell + 1
own-grows cell page version inside absent = omega (arith, leaf-then cell page version inside, pairs-set 0 page version cell.parent inside absent)

-- a present page has another version
pairs-renewed : (k page version : ℕ) (versions : Versions) → IsSome (version_at versions page)
    → length (pairs_from k (with_version versions page version)) ≡ length (pairs_from k versions)
pairs-renewed k page version [] there = absurd (false≢true there)
pairs-renewed k zero version (None ∷ versions) there = absurd (false≢true there)
pairs-renewed k zero version (Some old ∷ versions) there = refl
pairs-renewed k (suc page) version (None ∷ versions) there = pairs-renewed (k + 1) page version versions there
pairs-renewed k (suc page) version (Some old ∷ versions) there = ap suc (pairs-renewed (k + 1) page version versions there)

-- the parent's part stays where the page was present
pub own-stays : (cell : CellLeaves) (page version : ℕ) → page < length cell.parent → IsSome (version_at cell.parent page)
    → own_part (with_parent_version page version cell) ≡ own_part cell
own-stays cell page version inside there =
    let none : ◌≡◌ {A = ℕ} (lacking_leaf cell) 0 = ap (λ b. cond b 0 1) (page-there cell page there) in
    omega (arith, leaf-then cell page version inside, none, pairs-renewed 0 page version cell.parent there)

-- ---- a version that nobody names
-- each version of a list is no more than a number
versions-made : (versions : Versions) → (most : ℕ) × ((page version : ℕ) → version_at versions page ≡ Some version → version ≤ most)
versions-made [] = (0, λ page version is. absurd (false≢true (ap is_some is)))
versions-made (None ∷ versions) = let rest = versions-made versions in (rest.0, each rest.0 rest.1)
  where
    each : (most : ℕ) → ((page version : ℕ) → version_at versions page ≡ Some version → version ≤ most)
        → (page version : ℕ) → version_at (None ∷ versions) page ≡ Some version → version ≤ most
    each most rest zero version is = absurd (false≢true (ap is_some is))
    each most rest (suc page) version is = rest page version is
versions-made (Some here ∷ versions) = let rest = versions-made versions in (here + rest.0, each rest.0 rest.1)
  where
    each : (most : ℕ) → ((page version : ℕ) → version_at versions page ≡ Some version → version ≤ most)
        → (page version : ℕ) → version_at (Some here ∷ versions) page ≡ Some version → version ≤ here + most
    each most rest zero version is = let same : here ≡ version = ap (λ (o : Option ℕ). unwrap_or o here) is in omega (arith, same)
    each most rest (suc page) version is = omega (arith, rest page version is)

kept-made : (kept : List Kept) → (most : ℕ) × ((page version : ℕ) → IsNamedBy page version kept → version ≤ most)
kept-made [] = (0, λ page version named. absurd named)
kept-made (it ∷ others) =
    let here = versions-made it.versions in
    let rest = kept-made others in (
      here.0 + rest.0,
      λ page version named. elim named [ inl first ↦ omega (arith, here.1 page version first.1) | inr later ↦ omega (arith, rest.1 page version later) ],
    )

-- so many requests could have made all versions of a cell
pub some-made : (cell : CellLeaves) → (made : ℕ) × AreMade made cell
some-made cell =
    let own = versions-made cell.parent in
    let kept = kept-made cell.kept in (
      own.0 + kept.0,
      λ page version live. elim live [ inl there ↦ omega (arith, own.1 page version there) | inr named ↦ omega (arith, kept.1 page version named) ],
    )

-- ---- pages that are shared
-- a page is shared once where an own leaf of a snapshot names its version
abbrev pub shared_once : CellLeaves → ℕ → ℕ
shared_once cell page = cond (needs_copy cell page) 1 0

-- where one test holds only if another does, it counts no more
pub at-most : (a b : Bool) → (a ≡ true → b ≡ true) → cond a 1 0 ≤ cond b 1 0
at-most true true less = omega arith
at-most true false less = absurd (false≢true (less refl))
at-most false b less = omega arith

-- a page that is present and named by an own leaf is shared
pub shared-here : (cell : CellLeaves) (page version : ℕ) → version_at cell.parent page ≡ Some version → is_named cell page version ≡ true → shared_once cell page ≡ 1
shared-here cell page version there named = ap (λ b. cond b 1 0) (ap (is_named_too cell page) there ∙ named)

-- a version of one page changes nothing at another
pub shared-apart : (cell : CellLeaves) (page version p : ℕ) → page < length cell.parent → p ≢ page → needs_copy (with_parent_version page version cell) p ≡ needs_copy cell p
shared-apart cell page version p inside apart = ap (is_named_too cell p) (version-apart cell page version inside p apart)

named-lost : (test : Kept → Bool) (at page version : ℕ) (kept : List Kept) → list_any (names_version page version) (with_leaf test (Lost at) kept) ≡ true
    → list_any (names_version page version) kept ≡ true
named-lost test at page version [] named = named
named-lost test at page version (it ∷ others) named = by (test it) (named-lost test at page version others) named
  where
    by : (b : Bool) → (list_any (names_version page version) (with_leaf test (Lost at) others) ≡ true → list_any (names_version page version) others ≡ true)
        → (names_version page version (cond b (record it { leaf = Lost at }) it) || list_any (names_version page version) (with_leaf test (Lost at) others)) ≡ true
        → (names_version page version it || list_any (names_version page version) others) ≡ true
    by true rest named = or_right (names_version page version it) _ (rest named)
    by false rest named = elim (or_cases (names_version page version it) _ named) [
      | inl here ↦ or_left (names_version page version it) _ here
      | inr later ↦ or_right (names_version page version it) _ (rest later)
    ]

-- snapshots that lose the cell share no more
pub shared-lost : (test : Kept → Bool) (at : ℕ) (cell : CellLeaves) (page : ℕ) → needs_copy (with_leaf_where test (Lost at) cell) page ≡ true → needs_copy cell page ≡ true
shared-lost test at cell page = by (version_at cell.parent page)
  where
    by : (o : Option ℕ) → is_named_too (with_leaf_where test (Lost at) cell) page o ≡ true → is_named_too cell page o ≡ true
    by None needed = needed
    by (Some version) needed = named-lost test at page version cell.kept needed
