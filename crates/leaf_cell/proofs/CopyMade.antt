-- What the copy of a page that a snapshot names too made.
use Rattle.std.proofs.Common.{◌≡◌, ℕ, ◌+◌, ◌<◌, List, [], ◌∷◌, Option, Some, None, refl, sym, ◌∙◌, ap, subst, arith, inl, inr}
use Rattle.std.specs.Prelude.{slice_set, is_some, IsSome, true, nat_eq, slice_index_or, count_by}
use Rattle.std.specs.Option.{option_eq, option_map}
use Rattle.std.proofs.lemmas.Bool.{cases_eq, ne_eqb, false≢true}
use Rattle.vm_base.specs.declared.frame_request.Want.TheVariants as want
use Rattle.vm_base.specs.Deals.{Deal, Granted, LeadsAlong}
use Rattle.vm_base.specs.Frames.{FrameView}
use Rattle.kernel_meaning.specs.Leaves.{version_at, is_named, parent_leaves, own_leaves, is_own}
use Rattle.kernel_meaning.specs.CellAccount.{Touch}
use Rattle.leaf_cell.specs.declared.snapshot.Snapshot.{Snapshot}
use Rattle.leaf_cell.specs.Places.{TableView}
use Rattle.leaf_cell.specs.CellView.{CellView, AreUnjoined, held_of, frame_bytes, bytes_in, page_or_zeros}
use Rattle.leaf_cell.specs.Inside.{AreInside, table_places, table_writable, own_places, kept_values, cell_value}
use Rattle.leaf_cell.specs.Adding.{IsPut}
use Rattle.leaf_cell.specs.Standing.{TakesAccount, MadeAct}
use Rattle.leaf_cell.proofs.InsideFacts.{are_filled, parent_filled, has_pages-there}
use Rattle.leaf_cell.proofs.PutPage.{room, inside_put, count_put, has_pages_put}
use Rattle.leaf_cell.proofs.OwnNames.{named-own}
use Rattle.leaf_cell.proofs.PresentPage.{touch-copied}
use Rattle.leaf_cell.proofs.TouchMade.{put-view, kept-unjoined, leaf-count}

-- options that test equal are equal
pub eq-some : (o : Option ℕ) (place : ℕ) → option_eq nat_eq o (Some place) ≡ true → o ≡ Some place
eq-some None place h = absurd (false≢true h)
eq-some (Some q) place h = elim (cases_eq q place) [
  | inl same ↦ ap Some same
  | inr apart ↦ absurd (false≢true (sym (ne_eqb q place apart) ∙ h))
]

-- the bytes of a frame that is there
bytes_there : (o : Option FrameView) → IsSome o → option_map (λ frame. frame.bytes) o ≡ Some (page_or_zeros (option_map (λ frame. frame.bytes) o))
bytes_there None h = absurd (false≢true h)
bytes_there (Some frame) h = refl

module _ (parent : Option TableView) (snapshot : Option Snapshot) (frames : List (Option FrameView)) (inside : AreInside parent snapshot frames) (page place : ℕ) (small : page < 512)
    (there : version_at (table_places parent) page ≡ Some place) (named : is_named (cell_value parent snapshot frames).leaves page place ≡ true)
    (unjoined : AreUnjoined (kept_values (table_places parent) snapshot))
    (next : Option TableView) (new : List (Option FrameView)) (put : IsPut (page_or_zeros (frame_bytes frames place)) page (table_places parent) frames (table_places next) new) (is_table : is_some next ≡ true) where
  view : CellView
  view = cell_value parent snapshot frames

  own_there : version_at (own_places snapshot) page ≡ Some place
  own_there = eq-some (version_at (own_places snapshot) page) place (sym (named-own parent snapshot frames page place) ∙ named)

  pub left : (q : ℕ) → version_at (table_places parent) page ≡ Some q → version_at (own_places snapshot) page ≡ Some q
  left q is = own_there ∙ sym there ∙ is

  bytes : bytes_in frames (Some place) ≡ Some put.frame.bytes
  bytes = bytes_there (slice_index_or frames place None) (parent_filled parent snapshot frames inside page place there) ∙ ap Some (sym put.held)

  pub inside-copied : table_writable next ≡ slice_set (table_writable parent) page true → AreInside next snapshot new
  inside-copied set = inside_put parent snapshot frames inside next new (page_or_zeros (frame_bytes frames place)) page small put is_table left set

  pub made-copied : {State : Type 0} (goes : State → Deal → State → Type 0) (from to : State) (deals : List Deal) → LeadsAlong goes from deals to → deals ≡ Granted want.Page ∷ []
      → MadeAct goes from to (Touch page) (cell_value parent snapshot frames) (cell_value next snapshot new) None
  made-copied goes from to deals led is = record {
    deals = deals;
    led = led;
    follows = λ account stands. subst (λ ds. TakesAccount (Touch page) (cell_value parent snapshot frames) (cell_value next snapshot new) ds None account) (sym is)
        (subst (λ after. TakesAccount (Touch page) (cell_value parent snapshot frames) after (Granted want.Page ∷ []) None account) (put-view parent snapshot frames next new (page_or_zeros (frame_bytes frames place)) page put unjoined)
        (touch-copied (cell_value parent snapshot frames) page place small there unjoined account stands put.place put.frame (table_writable next) inside.parent_size (are_filled parent snapshot frames inside) put.free
        (room parent snapshot frames inside next new (page_or_zeros (frame_bytes frames place)) page small put is_table left) named bytes));
  }

  pub held-copied : (before after : ℕ) → after ≡ before + 1 → after + held_of (cell_value parent snapshot frames) ≡ before + held_of (cell_value next snapshot new)
  held-copied before after taken =
      let count : count_by is_some new ≡ count_by is_some frames + 1 = count_put parent snapshot frames inside next new (page_or_zeros (frame_bytes frames place)) page small put is_table left in
      let old : parent_leaves (cell_value parent snapshot frames).leaves ≡ 1 = leaf-count (table_places parent) true (has_pages-there (table_places parent) page place there) in
      let one : parent_leaves (cell_value next snapshot new).leaves ≡ 1 = leaf-count (table_places next) true (has_pages_put parent snapshot frames inside next new (page_or_zeros (frame_bytes frames place)) page small put is_table left) in
      let own : own_leaves (cell_value next snapshot new).leaves ≡ own_leaves (cell_value parent snapshot frames).leaves =
      ap (count_by (λ it. is_own it.leaf)) (kept-unjoined (table_places parent) (table_places next) snapshot unjoined) in
      omega (arith, count, old, one, own, taken)
