-- The pairs that live in a cell, and the frames that it holds.
use Rattle.std.proofs.Common.{◌≡◌, ℕ, zero, suc, ◌+◌, ◌-◌, ◌<◌, List, [], ◌∷◌, ◌++◌, length, get_or, Option, Some, None, refl, sym, ◌∙◌, ap, subst, arith, inl, inr, ◌⊎◌}
use Rattle.std.specs.Prelude.{is_some, IsSome, Bool, true, false, cond, unwrap_or, slice_index_or, count_by, flat_map}
use Rattle.std.proofs.lemmas.Bool.{cases_lt, false≢true}
use Rattle.vm_base.specs.Frames.{FrameView}
use Rattle.kernel_meaning.specs.Leaves.{Versions, no_versions, version_at, pairs_from, pairs_of, named_pairs, is_lost, Kept, CellLeaves}
use Rattle.leaf_cell.specs.declared.snapshot.Snapshot.{Snapshot}
use Rattle.leaf_cell.specs.declared.snapshot.SnapshotLeaf.{SnapshotLeaf}
use Rattle.leaf_cell.specs.declared.snapshot.SnapshotLeaf.TheVariants as code
use Rattle.leaf_cell.specs.Places.{TableView}
use Rattle.leaf_cell.specs.Inside.{AreInside, IsPlaceOf, table_places, own_places, snapshot_places, leaf_value, cell_value}
use Rattle.leaf_cell.specs.Renaming.{IsNamedBy, IsLive}
use Rattle.leaf_cell.proofs.NewCell.{none_is_not_some}
use Rattle.leaf_cell.proofs.AbsentPages.{version_at-none}
use Rattle.leaf_cell.proofs.InsideFacts.{are_filled, page_below}
use Rattle.leaf_cell.proofs.PutPage.{one_page}
use Rattle.leaf_cell.proofs.StoreMade.{at_home}
use Rattle.leaf_cell.proofs.PairCounts.{IsIn, from-distinct, to-distinct, distinct-once, count-pairs, filled-below}

same_some : (x y : ℕ) → ◌≡◌ {A = Option ℕ} (Some x) (Some y) → x ≡ y
same_some x y e = ap (λ o. unwrap_or o x) e

-- a pair of a table is a page with its version
pub at-pair : (k : ℕ) (vs : Versions) (x : ℕ × ℕ) → IsIn x (pairs_from k vs) → (i : ℕ) × ((x.0 ≡ k + i) × (get_or vs i None ≡ Some x.1))
at-pair k [] x h = absurd h
at-pair k (None ∷ vs) x h = let found : (i : ℕ) × ((x.0 ≡ k + 1 + i) × (get_or vs i None ≡ Some x.1)) = at-pair (k + 1) vs x h in (suc found.0, (omega (arith, found.1.0), found.1.1))
at-pair k (Some v ∷ vs) x (inl e) = (zero, (ap (λ z. z.0) e ∙ omega arith, ap (λ z. Some z.1) (sym e)))
at-pair k (Some v ∷ vs) x (inr h) = let found : (i : ℕ) × ((x.0 ≡ k + 1 + i) × (get_or vs i None ≡ Some x.1)) = at-pair (k + 1) vs x h in (suc found.0, (omega (arith, found.1.0), found.1.1))

pub pair-at : (k : ℕ) (vs : Versions) (i p v : ℕ) → p ≡ k + i → get_or vs i None ≡ Some v → IsIn (p, v) (pairs_from k vs)
pair-at k [] i p v is there = absurd (false≢true (ap is_some there))
pair-at k (None ∷ vs) zero p v is there = absurd (false≢true (ap is_some there))
pair-at k (None ∷ vs) (suc i) p v is there = pair-at (k + 1) vs i p v (omega (arith, is)) there
pair-at k (Some w ∷ vs) zero p v is there = inl (λ j. (pair-page j, same_some v w (sym there) j))
  where
    pair-page : p ≡ k
    pair-page = omega (arith, is)
pair-at k (Some w ∷ vs) (suc i) p v is there = inr (pair-at (k + 1) vs i p v (omega (arith, is)) there)

pub in-append : (x : ℕ × ℕ) (a b : List (ℕ × ℕ)) → IsIn x (a ++ b) → IsIn x a ⊎ IsIn x b
in-append x [] b h = inr h
in-append x (y ∷ a) b (inl e) = inl (inl e)
in-append x (y ∷ a) b (inr h) = elim (in-append x a b h) [ inl l ↦ inl (inr l) | inr r ↦ inr r ]

pub append-left : (x : ℕ × ℕ) (a b : List (ℕ × ℕ)) → IsIn x a → IsIn x (a ++ b)
append-left x [] b h = absurd h
append-left x (y ∷ a) b (inl e) = inl e
append-left x (y ∷ a) b (inr h) = inr (append-left x a b h)

pub append-right : (x : ℕ × ℕ) (a b : List (ℕ × ℕ)) → IsIn x b → IsIn x (a ++ b)
append-right x [] b h = h
append-right x (y ∷ a) b h = inr (append-right x a b h)

version_of : (vs : Versions) (x : ℕ × ℕ) → IsIn x (pairs_from 0 vs) → version_at vs x.0 ≡ Some x.1
version_of vs x h = let found : (i : ℕ) × ((x.0 ≡ 0 + i) × (get_or vs i None ≡ Some x.1)) = at-pair 0 vs x h in ap (λ i. get_or vs i None) (omega (arith, found.1.0)) ∙ found.1.1

pair_of : (vs : Versions) (p v : ℕ) → version_at vs p ≡ Some v → IsIn (p, v) (pairs_from 0 vs)
pair_of vs p v there = pair-at 0 vs p p v (omega arith) there

kept-named : (x : ℕ × ℕ) (kept : List Kept) → IsIn x (flat_map pairs_of kept) → IsNamedBy x.0 x.1 kept
kept-named x [] h = h
kept-named x (it ∷ others) h = elim (in-append x (pairs_of it) (flat_map pairs_of others) h) [
  | inl here ↦ inl (by (is_lost it.leaf) refl here)
  | inr later ↦ inr (kept-named x others later)
]
  where
    by : (b : Bool) → is_lost it.leaf ≡ b → IsIn x (cond b [] (pairs_from 0 it.versions)) → (is_lost it.leaf ≡ false) × (version_at it.versions x.0 ≡ Some x.1)
    by true is h = absurd h
    by false is h = (is, version_of it.versions x h)

named-kept-pair : (p v : ℕ) (kept : List Kept) → IsNamedBy p v kept → IsIn (p, v) (flat_map pairs_of kept)
named-kept-pair p v [] h = h
named-kept-pair p v (it ∷ others) (inl named) =
    append-left (p, v) (pairs_of it) (flat_map pairs_of others) (subst (λ b. IsIn (p, v) (cond b [] (pairs_from 0 it.versions))) (sym named.0) (pair_of it.versions p v named.1))
named-kept-pair p v (it ∷ others) (inr later) = append-right (p, v) (pairs_of it) (flat_map pairs_of others) (named-kept-pair p v others later)

-- all pairs that the parent or a snapshot names
abbrev pub all_pairs : CellLeaves → List (ℕ × ℕ)
all_pairs cell = pairs_from 0 cell.parent ++ flat_map pairs_of cell.kept

pub in-live : (cell : CellLeaves) (x : ℕ × ℕ) → IsIn x (all_pairs cell) → IsLive cell x.0 x.1
in-live cell x h = elim (in-append x (pairs_from 0 cell.parent) (flat_map pairs_of cell.kept) h) [
  | inl here ↦ inl (version_of cell.parent x here)
  | inr later ↦ inr (kept-named x cell.kept later)
]

pub live-in : (cell : CellLeaves) (p v : ℕ) → IsLive cell p v → IsIn (p, v) (all_pairs cell)
live-in cell p v (inl there) = append-left (p, v) (pairs_from 0 cell.parent) (flat_map pairs_of cell.kept) (pair_of cell.parent p v there)
live-in cell p v (inr named) = append-right (p, v) (pairs_from 0 cell.parent) (flat_map pairs_of cell.kept) (named-kept-pair p v cell.kept named)

-- a page of a cell has one of the places below 1024
page-of-place : (q : ℕ) → q < 1024 → (p : ℕ) × ((p < 512) × IsPlaceOf p q)
page-of-place q small = elim (cases_lt q 512) [
  | inl low ↦ (q, (low, inl refl))
  | inr high ↦ let back : q ≡ q - 512 + 512 = omega (arith, high) in (q - 512, (omega (arith, small, high), inr back))
]

-- what the own table names lives
own-live : (parent : Option TableView) (snapshot : Option Snapshot) (frames : List (Option FrameView)) (p q : ℕ) → version_at (own_places snapshot) p ≡ Some q → IsLive (cell_value parent snapshot frames).leaves p q
own-live parent None frames p q named = none_is_not_some (version_at no_versions p) q (version_at-none p) named
own-live parent (Some it) frames p q named = inr (inl (by it.leaf named))
  where
    by : (leaf : SnapshotLeaf) → version_at (snapshot_places no_versions leaf) p ≡ Some q → (is_lost (leaf_value leaf) ≡ false) × (version_at (snapshot_places (table_places parent) leaf) p ≡ Some q)
    by (code.Own table) named = (refl, named)
    by code.Joined named = none_is_not_some (version_at no_versions p) q (version_at-none p) named
    by (code.Lost at) named = none_is_not_some (version_at no_versions p) q (version_at-none p) named

-- what lives is at one of the 512 pages
leaf_below : (parent : Option TableView) (leaf : SnapshotLeaf) (p q : ℕ) → length (table_places parent) ≡ 512 → length (snapshot_places no_versions leaf) ≡ 512 → is_lost (leaf_value leaf) ≡ false
    → version_at (snapshot_places (table_places parent) leaf) p ≡ Some q → p < 512
leaf_below parent (code.Own table) p q size own unlost there = page_below table.places p q own there
leaf_below parent code.Joined p q size own unlost there = page_below (table_places parent) p q size there
leaf_below parent (code.Lost at) p q size own unlost there = absurd (false≢true (sym unlost))

below : (parent : Option TableView) (snapshot : Option Snapshot) (frames : List (Option FrameView)) → AreInside parent snapshot frames → (p q : ℕ) → IsLive (cell_value parent snapshot frames).leaves p q → p < 512
below parent snapshot frames inside p q (inl there) = page_below (table_places parent) p q inside.parent_size there
below parent None frames inside p q (inr named) = absurd named
below parent (Some it) frames inside p q (inr (inl named)) = leaf_below parent it.leaf p q inside.parent_size inside.own_size named.0 named.1
below parent (Some it) frames inside p q (inr (inr named)) = absurd named

module _ (parent : Option TableView) (snapshot : Option Snapshot) (frames : List (Option FrameView)) (inside : AreInside parent snapshot frames) where
  live_of : (x : ℕ × ℕ) → IsIn x (named_pairs (cell_value parent snapshot frames).leaves) → IsLive (cell_value parent snapshot frames).leaves x.0 x.1
  live_of x h = in-live (cell_value parent snapshot frames).leaves x (from-distinct x (all_pairs (cell_value parent snapshot frames).leaves) h)

  -- each place that is filled has a pair that lives
  pair_for : (q : ℕ) → IsSome (slice_index_or frames q None) → (x : ℕ × ℕ) × (IsIn x (named_pairs (cell_value parent snapshot frames).leaves) × (x.1 ≡ q))
  pair_for q there =
      let page : (p : ℕ) × ((p < 512) × IsPlaceOf p q) = page-of-place q (omega (arith, filled-below frames q there, inside.room)) in
      let live : IsLive (cell_value parent snapshot frames).leaves page.0 q = elim (inside.named page.0 q page.1.0 page.1.1 there) [
        | inl named ↦ inl named
        | inr named ↦ own-live parent snapshot frames page.0 q named
      ] in
      ((page.0, q), (to-distinct (page.0, q) (all_pairs (cell_value parent snapshot frames).leaves) (live-in (cell_value parent snapshot frames).leaves page.0 q live), refl))

  live_below : (x : ℕ × ℕ) → IsLive (cell_value parent snapshot frames).leaves x.0 x.1 → x.0 < 512
  live_below x live = below parent snapshot frames inside x.0 x.1 live

  -- the page frames of a cell are as many as its distinct pairs
  pub pairs-filled : length (named_pairs (cell_value parent snapshot frames).leaves) ≡ count_by is_some frames
  pairs-filled = count-pairs (named_pairs (cell_value parent snapshot frames).leaves) frames (distinct-once (all_pairs (cell_value parent snapshot frames).leaves))
      (λ x y hx hy same. λ i. (
        one_page x.0 y.0 y.1 (live_below x (live_of x hx)) (live_below y (live_of y hy))
            (subst (IsPlaceOf x.0) same (at_home parent snapshot frames inside x.0 x.1 (live_of x hx))) (at_home parent snapshot frames inside y.0 y.1 (live_of y hy)) i,
        same i,
      ))
      (λ x h. are_filled parent snapshot frames inside x.0 x.1 (live_of x h))
      pair_for
