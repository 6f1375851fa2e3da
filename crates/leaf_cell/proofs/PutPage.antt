-- A page that is put at a place of its own keeps the order of a cell.
use Rattle.std.proofs.Common.{◌≡◌, ◌≢◌, ℕ, ◌+◌, ◌<◌, List, length, Option, Some, None, sym, ◌∙◌, ap, subst, arith, inl, inr, ◌⊎◌}
use Rattle.std.specs.Prelude.{is_some, IsSome, true, false, slice_set, slice_index_or, count_by}
use Rattle.std.proofs.lemmas.Bool.{cases_eq}
use Rattle.std.proofs.lemmas.List.{get_or-set_same, get_or-set_other, length-set}
use Rattle.vm_base.specs.Frames.{FrameView}
use Rattle.kernel_meaning.specs.Leaves.{version_at, with_version, has_pages}
use Rattle.leaf_cell.specs.declared.snapshot.Snapshot.{Snapshot}
use Rattle.leaf_cell.specs.Writable.{writable_at}
use Rattle.leaf_cell.specs.Places.{TableView}
use Rattle.leaf_cell.specs.Inside.{AreInside, AreAtHome, IsPlaceOf, table_places, table_writable, own_places, is_apart}
use Rattle.leaf_cell.specs.Adding.{IsPut}
use Rattle.leaf_cell.proofs.NewCell.{none_is_some}
use Rattle.leaf_cell.proofs.InsideFacts.{same_some, own_filled, has_pages-there, count-filled}
use Rattle.leaf_cell.proofs.WritablePages.{apart-is, apart-same}

-- two pages of one place are one
pub one_page : (p page place : ℕ) → p < 512 → page < 512 → IsPlaceOf p place → IsPlaceOf page place → p ≡ page
one_page p page place a b (inl x) (inl y) = sym x ∙ y
one_page p page place a b (inl x) (inr y) = absurd (omega (arith, a, b, x, y))
one_page p page place a b (inr x) (inl y) = absurd (omega (arith, a, b, x, y))
one_page p page place a b (inr x) (inr y) = omega (arith, x, y)

pub place_room : (page place : ℕ) → page < 512 → IsPlaceOf page place → place < 1024
place_room page place small (inl x) = omega (arith, small, x)
place_room page place small (inr x) = omega (arith, small, x)

module _ (parent : Option TableView) (snapshot : Option Snapshot) (frames : List (Option FrameView)) (inside : AreInside parent snapshot frames)
    (next : Option TableView) (new : List (Option FrameView)) (bytes : List ℕ) (page : ℕ) (small : page < 512)
    (put : IsPut bytes page (table_places parent) frames (table_places next) new) (there : is_some next ≡ true)
    (left : (q : ℕ) → version_at (table_places parent) page ≡ Some q → version_at (own_places snapshot) page ≡ Some q) where
  pub room : put.place < length frames
  room = omega (arith, inside.room, place_room page put.place small put.home)

  table_inside : page < length (table_places parent)
  table_inside = omega (arith, inside.parent_size, small)

  new_table : (p : ℕ) → version_at (table_places next) p ≡ version_at (with_version (table_places parent) page put.place) p
  new_table p = ap (λ vs. version_at vs p) put.named

  pub table_here : version_at (table_places next) page ≡ Some put.place
  table_here = new_table page ∙ get_or-set_same (table_places parent) page (Some put.place) None table_inside

  pub table_apart : (p : ℕ) → p ≢ page → version_at (table_places next) p ≡ version_at (table_places parent) p
  table_apart p apart = new_table p ∙ get_or-set_other (table_places parent) page p (Some put.place) None apart

  new_frame : (q : ℕ) → slice_index_or new q None ≡ slice_index_or (slice_set frames put.place (Some put.frame)) q None
  new_frame q = ap (λ fs. slice_index_or fs q None) put.frames

  pub frame_here : slice_index_or new put.place None ≡ Some put.frame
  frame_here = new_frame put.place ∙ get_or-set_same frames put.place (Some put.frame) None room

  pub frame_apart : (q : ℕ) → q ≢ put.place → slice_index_or new q None ≡ slice_index_or frames q None
  frame_apart q apart = new_frame q ∙ get_or-set_other frames put.place q (Some put.frame) None apart

  -- what was filled stays filled
  still : (q : ℕ) → IsSome (slice_index_or frames q None) → IsSome (slice_index_or new q None)
  still q filled = elim (cases_eq q put.place) [
    | inl here ↦ none_is_some (slice_index_or frames q None) (ap (λ i. slice_index_or frames i None) here ∙ put.free) filled
    | inr apart ↦ ap is_some (frame_apart q apart) ∙ filled
  ]

  new_parent_home : AreAtHome new (table_places next)
  new_parent_home p q below named = elim (cases_eq p page) [
    | inl here ↦
        let same : q ≡ put.place = same_some q put.place (sym named ∙ ap (version_at (table_places next)) here ∙ table_here) in
        (subst (λ i. IsPlaceOf i q) (sym here) (subst (IsPlaceOf page) (sym same) put.home), ap is_some (ap (λ i. slice_index_or new i None) same ∙ frame_here))
    | inr apart ↦
        let old : IsPlaceOf p q × IsSome (slice_index_or frames q None) = inside.parent_home p q below (sym (table_apart p apart) ∙ named) in
        (old.0, still q old.1)
  ]

  new_own_home : AreAtHome new (own_places snapshot)
  new_own_home p q below named =
      let old : IsPlaceOf p q × IsSome (slice_index_or frames q None) = inside.own_home p q below named in
      (old.0, still q old.1)

  new_named : (p q : ℕ) → p < 512 → IsPlaceOf p q → IsSome (slice_index_or new q None) → (version_at (table_places next) p ≡ Some q) ⊎ (version_at (own_places snapshot) p ≡ Some q)
  new_named p q below home filled = elim (cases_eq q put.place) [
    | inl here ↦
        let same : p ≡ page = one_page p page q below small home (subst (IsPlaceOf page) (sym here) put.home) in
        inl (ap (version_at (table_places next)) same ∙ table_here ∙ ap Some (sym here))
    | inr apart ↦ elim (inside.named p q below home (ap is_some (sym (frame_apart q apart)) ∙ filled)) [
      | inl named ↦ elim (cases_eq p page) [
        | inl same ↦ inr (ap (version_at (own_places snapshot)) same ∙ left q (ap (version_at (table_places parent)) (sym same) ∙ named))
        | inr other ↦ inl (table_apart p other ∙ named)
      ]
      | inr named ↦ inr named
    ]
  ]

  -- the page may be written to, and the others that might
  new_apart : table_writable next ≡ slice_set (table_writable parent) page true → (p : ℕ) → writable_at (table_writable next) p ≡ true → is_apart (own_places snapshot) (table_places next) p ≡ true
  new_apart set p may = elim (cases_eq p page) [
    | inl same ↦ ap (is_apart (own_places snapshot) (table_places next)) same
        ∙ apart-is (own_places snapshot) (table_places next) page put.place table_here
        (λ own. none_is_some (slice_index_or frames put.place None) put.free (own_filled parent snapshot frames inside page put.place own))
    | inr other ↦ apart-same (own_places snapshot) (table_places next) (table_places parent) p (table_apart p other)
        ∙ inside.writable.apart p (sym (ap (λ ws. writable_at ws p) set ∙ get_or-set_other (table_writable parent) page p true false other) ∙ may)
  ]

  pub inside_put : table_writable next ≡ slice_set (table_writable parent) page true → AreInside next snapshot new
  inside_put set = record {
    room = ap length put.frames ∙ length-set frames put.place (Some put.frame) ∙ inside.room;
    parent_home = new_parent_home;
    own_home = new_own_home;
    named = new_named;
    used = λ table is. has_pages-there table.places page put.place (ap (λ o. version_at (table_places o) page) (sym is) ∙ table_here);
    parent_size = ap length put.named ∙ length-set (table_places parent) page (Some put.place) ∙ inside.parent_size;
    own_size = inside.own_size;
    writable = record { size = ap length set ∙ length-set (table_writable parent) page true ∙ inside.writable.size; apart = new_apart set };
    joined = λ is. there;
  }

  pub count_put : count_by is_some new ≡ count_by is_some frames + 1
  count_put = ap (count_by is_some) put.frames ∙ count-filled frames put.place put.frame room put.free

  pub has_pages_put : has_pages (table_places next) ≡ true
  has_pages_put = has_pages-there (table_places next) page put.place table_here
