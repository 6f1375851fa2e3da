-- What the order of tables and frames in a cell gives.
use Rattle.std.proofs.Common.{◌≡◌, ℕ, zero, suc, ◌+◌, ◌<◌, List, [], ◌∷◌, length, Option, Some, None, refl, sym, ◌∙◌, ap, arith, inl, inr, ◌⊎◌}
use Rattle.std.specs.Prelude.{Bool, is_some, IsSome, true, false, cond, unwrap_or, slice_set, slice_index_or, count_by}
use Rattle.std.proofs.lemmas.Bool.{cases_lt, false≢true}
use Rattle.std.proofs.lemmas.List.{get_or_past}
use Rattle.std.proofs.lemmas.List.Sums.{sum_by-set}
use Rattle.vm_base.specs.Frames.{FrameView}
use Rattle.kernel_meaning.specs.Leaves.{Versions, no_versions, version_at, has_pages, is_joined, is_lost}
use Rattle.leaf_cell.specs.declared.snapshot.Snapshot.{Snapshot}
use Rattle.leaf_cell.specs.declared.snapshot.SnapshotLeaf.{SnapshotLeaf}
use Rattle.leaf_cell.specs.declared.snapshot.SnapshotLeaf.TheVariants as code
use Rattle.leaf_cell.specs.Places.{TableView}
use Rattle.leaf_cell.specs.Inside.{AreInside, IsPlaceOf, is_joined_here, table_places, own_places, snapshot_places, leaf_value, kept_values, cell_value}
use Rattle.leaf_cell.specs.Releasing.{AreHome}
use Rattle.std.specs.Option.{option_map}
use Rattle.leaf_cell.specs.CellView.{AreUnjoined, parent_page, bytes_in}
use Rattle.leaf_cell.proofs.NewCell.{none_is_not_some}
use Rattle.leaf_cell.proofs.NewVersion.{AreFilled}

pub same_some : (x y : ℕ) → ◌≡◌ {A = Option ℕ} (Some x) (Some y) → x ≡ y
same_some x y e = ap (λ o. unwrap_or o x) e

-- what a table of 512 pages holds is at one of them
pub page_below : (places : Versions) (page place : ℕ) → length places ≡ 512 → version_at places page ≡ Some place → page < 512
page_below places page place size there = elim (cases_lt page 512) [
  | inl small ↦ small
  | inr large ↦ none_is_not_some (version_at places page) place (get_or_past places page None (omega (arith, size, large))) there
]

is_none_or : {X : Type 0} (o : Option X) → (o ≡ None) ⊎ IsSome o
is_none_or None = inl refl
is_none_or (Some x) = inr refl

module _ (parent : Option TableView) (snapshot : Option Snapshot) (frames : List (Option FrameView)) (inside : AreInside parent snapshot frames) where
  at_place : ℕ → Option FrameView
  at_place place = slice_index_or frames place None

  -- a frame at one of the places of a page that the parent does not have is named by the snapshot
  own_names : (page place : ℕ) → page < 512 → version_at (table_places parent) page ≡ None → IsPlaceOf page place → IsSome (slice_index_or frames place None) → version_at (own_places snapshot) page ≡ Some place
  own_names page place small absent home there = elim (inside.named page place small home there) [
    | inl named ↦ none_is_not_some (version_at (table_places parent) page) place absent named
    | inr named ↦ named
  ]

  -- one of the two places of an absent page is free
  pub one_free : (page : ℕ) → page < 512 → version_at (table_places parent) page ≡ None → (slice_index_or frames page None ≡ None) ⊎ (slice_index_or frames (page + 512) None ≡ None)
  one_free page small absent = elim (is_none_or (slice_index_or frames page None)) [
    | inl free ↦ inl free
    | inr there ↦ elim (is_none_or (slice_index_or frames (page + 512) None)) [
      | inl free ↦ inr free
      | inr there_too ↦ absurd (omega (arith, same_some page (page + 512) (sym (own_names page page small absent (inl refl) there) ∙ own_names page (page + 512) small absent (inr refl) there_too)))
    ]
  ]

  -- each place that lives has a frame
  pub parent_filled : (page place : ℕ) → version_at (table_places parent) page ≡ Some place → IsSome (slice_index_or frames place None)
  parent_filled page place there = (inside.parent_home page place (page_below (table_places parent) page place inside.parent_size there) there).1

  -- a page of the parent has its bytes
  pub page-filled : (page : ℕ) → is_some (parent_page (cell_value parent snapshot frames) page) ≡ is_some (version_at (table_places parent) page)
  page-filled page = elim (version_at (table_places parent) page) as (λ o. version_at (table_places parent) page ≡ o → is_some (bytes_in frames o) ≡ is_some o) [
    | None ↦ λ e. refl
    | Some place ↦ λ e. elim (slice_index_or frames place None) as (λ f. IsSome f → is_some (option_map (λ frame. frame.bytes) f) ≡ true) [ None ↦ λ h. h | Some frame ↦ λ h. refl ] (parent_filled page place e)
  ] refl

  pub own_filled : (page place : ℕ) → version_at (own_places snapshot) page ≡ Some place → IsSome (slice_index_or frames place None)
  own_filled page place there = (inside.own_home page place (page_below (own_places snapshot) page place inside.own_size there) there).1

  leaf_filled : (number : ℕ) (leaf : SnapshotLeaf) (page place : ℕ) → ((q : ℕ) → version_at (snapshot_places no_versions leaf) page ≡ Some q → IsSome (slice_index_or frames q None))
      → is_lost (leaf_value leaf) ≡ false → version_at (snapshot_places (table_places parent) leaf) page ≡ Some place → IsSome (slice_index_or frames place None)
  leaf_filled number (code.Own table) page place own unlost there = own place there
  leaf_filled number code.Joined page place own unlost there = parent_filled page place there
  leaf_filled number (code.Lost at) page place own unlost there = absurd (false≢true (sym unlost))

pub are_filled : (parent : Option TableView) (snapshot : Option Snapshot) (frames : List (Option FrameView)) → AreInside parent snapshot frames → AreFilled (cell_value parent snapshot frames)
are_filled parent snapshot frames inside page place (inl there) = parent_filled parent snapshot frames inside page place there
are_filled parent None frames inside page place (inr named) = absurd named
are_filled parent (Some it) frames inside page place (inr (inl named)) =
    leaf_filled parent (Some it) frames inside it.number it.leaf page place (λ q there. own_filled parent (Some it) frames inside page q there) named.0 named.1
are_filled parent (Some it) frames inside page place (inr (inr named)) = absurd named

-- each place that a table of the cell names is one of its page's own
pub parent_at_home : (parent : Option TableView) (snapshot : Option Snapshot) (frames : List (Option FrameView)) → AreInside parent snapshot frames → AreHome (table_places parent)
parent_at_home parent snapshot frames inside page place named =
    let small : page < 512 = page_below (table_places parent) page place inside.parent_size named in
    (small, (inside.parent_home page place small named).0)

pub own_at_home : (parent : Option TableView) (snapshot : Option Snapshot) (frames : List (Option FrameView)) → AreInside parent snapshot frames → AreHome (own_places snapshot)
own_at_home parent snapshot frames inside page place named =
    let small : page < 512 = page_below (own_places snapshot) page place inside.own_size named in
    (small, (inside.own_home page place small named).0)

-- a page with a place makes a table that has pages
pub has_pages-there : (places : Versions) (page place : ℕ) → version_at places page ≡ Some place → has_pages places ≡ true
has_pages-there [] page place there = absurd (false≢true (ap is_some there))
has_pages-there (None ∷ places) zero place there = absurd (false≢true (ap is_some there))
has_pages-there (None ∷ places) (suc page) place there = has_pages-there places page place there
has_pages-there (Some q ∷ places) page place there = refl

-- one frame more
pub count-filled : (frames : List (Option FrameView)) (place : ℕ) (frame : FrameView) → place < length frames → slice_index_or frames place None ≡ None
    → count_by is_some (slice_set frames place (Some frame)) ≡ count_by is_some frames + 1
count-filled frames place frame inside free =
    let moved : count_by is_some (slice_set frames place (Some frame)) + cond (is_some (slice_index_or frames place None)) 1 0 ≡ count_by is_some frames + 1 =
    sum_by-set (λ o. cond (is_some o) 1 0) frames place (Some frame) None inside in
    let none : ◌≡◌ {A = ℕ} (cond (is_some (slice_index_or frames place None)) 1 0) 0 = ap (λ o. cond (is_some o) 1 0) free in
    omega (arith, moved, none)

-- where there is no table of the parent's no leaf is joined
pub none-joined : (parent : Option TableView) (snapshot : Option Snapshot)
    → (is_joined_here snapshot ≡ true → is_some parent ≡ true) → is_some parent ≡ false
    → AreUnjoined (kept_values (table_places parent) snapshot)
none-joined parent None joined none = tt
none-joined parent (Some it) joined none = (by (is_joined (leaf_value it.leaf)) joined, tt)
  where
    by : (b : Bool) → (b ≡ true → is_some parent ≡ true) → b ≡ false
    by true there = absurd (false≢true (sym none ∙ there refl))
    by false there = refl
