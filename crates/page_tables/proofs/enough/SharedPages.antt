-- Pages that the parent shares with snapshots: for each of them both sides alone take a frame more than the cells hold.
use Rattle.std.proofs.Common.{◌≡◌, ◌≢◌, ℕ, zero, suc, ◌+◌, ◌<◌, ◌≤◌, Bool, true, false, cond, eqb, [], ◌∷◌, length, Option, Some, None, refl, sym, ◌∙◌, ap, subst, arith, inl, inr}
use Rattle.std.specs.Prelude.{not, ◌==◌, is_some, unwrap_or}
use Rattle.std.proofs.lemmas.Bool.{cases_eq, eqb-true, or_cases, or_left}
use Rattle.std.proofs.lemmas.List.{length-set}
use Rattle.std.proofs.lemmas.List.Sums.{sum_by-cons, sum_by-le-sum_by}
use Rattle.vm_base.specs.Places.{cell_of, directory_frames}
use Rattle.kernel_meaning.specs.Leaves.{CellLeaves, version_at, has_pages, is_named, share}
use Rattle.kernel_meaning.specs.CellActs.{with_parent_version}
use Rattle.kernel_meaning.specs.FrameLaw.{Leaves, cell_at, with_cell, is_used, parent_cells}
use Rattle.kernel_meaning.specs.EventRequests.{page_in_cell, missing_tables}
use Rattle.leaf_cell.specs.Renaming.{AreMade}
use Rattle.page_tables.specs.Standing.{AreKept}
use Rattle.page_tables.proofs.LeafMap.{cell_at-here, cell_at-apart, kept-with_cell}
use Rattle.vm_base.proofs.OwnFrames.{member, AreMembers, directory_frames-le}
use Rattle.page_tables.proofs.enough.Pairs.{own_part, kept_part, share-apart, share-grows, named-by, pages-then, own-stays, some-made, shared_once, at-most, shared-apart}
use Rattle.leaf_cell.specs.Touching.{is_named_too, needs_copy}
use Rattle.page_tables.proofs.enough.Cells.{sum_of, sum-with_cell, member-cells, directory-more}

-- ---- sums
apart-sum : (leaves : Leaves) → sum_of (λ cell. own_part cell + kept_part cell) leaves ≡ sum_of own_part leaves + sum_of kept_part leaves
apart-sum [] = refl
apart-sum (e ∷ leaves) =
    omega (
      arith,
      apart-sum leaves,
      sum_by-cons (λ (e : ℕ × CellLeaves). own_part e.1 + kept_part e.1) e leaves,
      sum_by-cons (λ (e : ℕ × CellLeaves). own_part e.1) e leaves,
      sum_by-cons (λ (e : ℕ × CellLeaves). kept_part e.1) e leaves,
    )

shares-le : (leaves : Leaves) → sum_of share leaves ≤ sum_of own_part leaves + sum_of kept_part leaves
shares-le leaves = omega (arith, apart-sum leaves, sum_by-le-sum_by (λ (e : ℕ × CellLeaves). share e.1) (λ e. own_part e.1 + kept_part e.1) leaves (λ e. share-apart e.1))

-- ---- the directory of the parent
-- a cell of the parent more takes the tables that it lacks
pub directory-then : (leaves : Leaves) (c : ℕ) (new : CellLeaves) → AreKept leaves → AreKept (with_cell leaves c new) → is_used new ≡ true → has_pages new.parent ≡ true
    → directory_frames (parent_cells leaves) + length (missing_tables (parent_cells leaves) c) ≤ directory_frames (parent_cells (with_cell leaves c new))
directory-then leaves c new kept then used some =
    omega (arith, directory-more c (parent_cells leaves), directory_frames-le (c ∷ parent_cells leaves) (parent_cells (with_cell leaves c new)) each)
  where
    here : (q : ℕ) → q ≡ c → member q (parent_cells (with_cell leaves c new)) ≡ true
    here q same = member-cells (with_cell leaves c new) q then.sorted ∙ ap (λ cell. has_pages cell.parent) (cell_at-here leaves c new used q same) ∙ some

    each : AreMembers (c ∷ parent_cells leaves) (parent_cells (with_cell leaves c new))
    each q there = elim (cases_eq q c) [
      | inl same ↦ here q same
      | inr apart ↦ elim (or_cases (eqb q c) (member q (parent_cells leaves)) there) [
        | inl same ↦ absurd (apart (eqb-true q c same))
        | inr later ↦ member-cells (with_cell leaves c new) q then.sorted ∙ ap (λ cell. has_pages cell.parent) (cell_at-apart leaves c new used q apart)
            ∙ sym (member-cells leaves q kept.sorted) ∙ later
      ]
    ]

-- a cell with a page of the parent is used
pub pages-used : (cell : CellLeaves) → has_pages cell.parent ≡ true → is_used cell ≡ true
pages-used cell some = or_left (has_pages cell.parent) (not (length cell.kept == 0)) some

-- ---- pages that are shared
-- how many of n pages are shared
abbrev pub shared_pages : Leaves → ℕ → ℕ → ℕ
shared_pages leaves first zero = 0
shared_pages leaves first (suc n) = shared_once (cell_at leaves (cell_of first)) (page_in_cell first) + shared_pages leaves (first + 1) n

-- no page of the range is shared that was not
abbrev SharesNoMore : Leaves → Leaves → ℕ → ℕ → Type 0
SharesNoMore old new first n =
    (q : ℕ) → first ≤ q → q < first + n → needs_copy (cell_at new (cell_of q)) (page_in_cell q) ≡ true → needs_copy (cell_at old (cell_of q)) (page_in_cell q) ≡ true

shared-less : (n : ℕ) (old new : Leaves) (first : ℕ) → SharesNoMore old new first n → shared_pages new first n ≤ shared_pages old first n
shared-less zero old new first less = omega arith
shared-less (suc n) old new first less =
    omega (
      arith,
      at-most (needs_copy (cell_at new (cell_of first)) (page_in_cell first)) (needs_copy (cell_at old (cell_of first)) (page_in_cell first))
          (less first (omega arith) (omega arith)),
      shared-less n old new (first + 1) (λ q low high. less q (omega (arith, low)) (omega (arith, high))),
    )

-- where a cell changes, no page of the range is shared that was not
pub shared-with_cell : (leaves : Leaves) (c : ℕ) (new : CellLeaves) (first n : ℕ) → is_used new ≡ true
    → ((q : ℕ) → first ≤ q → cell_of q ≡ c → needs_copy new (page_in_cell q) ≡ true → needs_copy (cell_at leaves c) (page_in_cell q) ≡ true)
    → shared_pages (with_cell leaves c new) first n ≤ shared_pages leaves first n
shared-with_cell leaves c new first n used less = shared-less n leaves (with_cell leaves c new) first (λ q low high needed. elim (cases_eq (cell_of q) c) [
  | inl here ↦
      subst (λ d. needs_copy (cell_at leaves d) (page_in_cell q) ≡ true) (sym here)
      (less q low here (sym (ap (λ cell. needs_copy cell (page_in_cell q)) (cell_at-here leaves c new used (cell_of q) here)) ∙ needed))
  | inr apart ↦ sym (ap (λ cell. needs_copy cell (page_in_cell q)) (cell_at-apart leaves c new used (cell_of q) apart)) ∙ needed
])

-- another page of the same cell has another place there
pub place-apart : (page q : ℕ) → page + 1 ≤ q → cell_of q ≡ cell_of page → page_in_cell q ≢ page_in_cell page
place-apart page q above here same = absurd (omega (arith, above, here, same))

-- the cells hold no more than both sides take alone, with a frame more for each page of the range that is shared
abbrev AreApart : Leaves → ℕ → ℕ → Type 0
AreApart leaves first n = sum_of share leaves + shared_pages leaves first n ≤ sum_of own_part leaves + sum_of kept_part leaves

module _ (n first : ℕ) (leaves : Leaves) (kept : AreKept leaves) (further : (others : Leaves) → AreKept others → AreApart others (first + 1) n) where
  abbrev c : ℕ
  c = cell_of first

  abbrev place : ℕ
  place = page_in_cell first

  abbrev cell : CellLeaves
  cell = cell_at leaves c

  -- a page that is shared: as if it had a version that nobody names
  one-shared : (version : ℕ) → version_at cell.parent place ≡ Some version → is_named cell place version ≡ true
      → sum_of share leaves + (1 + shared_pages leaves (first + 1) n) ≤ sum_of own_part leaves + sum_of kept_part leaves
  one-shared version there named =
      let inside : place < length cell.parent = omega (arith, kept.sizes c) in
      let made : (made : ℕ) × AreMade made cell = some-made cell in
      let new : CellLeaves = with_parent_version place (made.0 + 1) cell in
      let used : is_used new ≡ true = pages-used new (pages-then cell place (made.0 + 1) inside) in
      let then : AreKept (with_cell leaves c new) =
      kept-with_cell leaves c new used (length-set cell.parent place (Some (made.0 + 1)) ∙ kept.sizes c) (kept.unjoined c) kept in
      omega (
        arith,
        further (with_cell leaves c new) then,
        sum-with_cell share refl leaves c new kept.sorted used,
        sum-with_cell own_part refl leaves c new kept.sorted used,
        sum-with_cell kept_part refl leaves c new kept.sorted used,
        share-grows cell place (made.0 + 1) inside made.0 made.1 (omega arith)
            (λ old is. named-by place old cell.kept (subst (λ (o : Option ℕ). is_named cell place (unwrap_or o old) ≡ true) (sym there ∙ is) named)),
        own-stays cell place (made.0 + 1) inside (ap is_some there),
        shared-less n (with_cell leaves c new) leaves (first + 1) (λ q low high needed. elim (cases_eq (cell_of q) c) [
          | inl here ↦
              ap (λ it. needs_copy it (page_in_cell q)) (cell_at-here leaves c new used (cell_of q) here)
              ∙ shared-apart cell place (made.0 + 1) (page_in_cell q) inside (place-apart first q low here)
              ∙ sym (ap (λ d. needs_copy (cell_at leaves d) (page_in_cell q)) here) ∙ needed
          | inr apart ↦ ap (λ it. needs_copy it (page_in_cell q)) (cell_at-apart leaves c new used (cell_of q) apart) ∙ needed
        ]),
      )

  one-apart : (version : Option ℕ) → version_at cell.parent place ≡ version
      → sum_of share leaves + (cond (is_named_too cell place version) 1 0 + shared_pages leaves (first + 1) n) ≤ sum_of own_part leaves + sum_of kept_part leaves
  one-apart None absent = omega (arith, further leaves kept)
  one-apart (Some version) there = by (is_named cell place version) refl
    where
      by : (b : Bool) → is_named cell place version ≡ b → sum_of share leaves + (cond b 1 0 + shared_pages leaves (first + 1) n) ≤ sum_of own_part leaves + sum_of kept_part leaves
      by false unnamed = omega (arith, further leaves kept)
      by true named = one-shared version there named

-- both sides alone have a frame more for each page of a range that is shared
pub shares-apart : (n first : ℕ) (leaves : Leaves) → AreKept leaves → sum_of share leaves + shared_pages leaves first n ≤ sum_of own_part leaves + sum_of kept_part leaves
shares-apart zero first leaves kept = omega (arith, shares-le leaves)
shares-apart (suc n) first leaves kept =
    one-apart n first leaves kept (shares-apart n (first + 1)) (version_at (cell_at leaves (cell_of first)).parent (page_in_cell first)) refl
