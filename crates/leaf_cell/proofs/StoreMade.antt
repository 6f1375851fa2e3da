-- What a store made.
use Rattle.std.proofs.Common.{◌≡◌, ◌≢◌, ℕ, zero, ◌+◌, ◌*◌, ◌/◌, ◌%◌, ◌<◌, ◌≤◌, List, [], ◌∷◌, ◌++◌, length, take, drop, Option, Some, None, refl, sym, ◌∙◌, ap, subst, arith, inl, inr}
use Rattle.std.specs.Prelude.{is_some, IsSome, false, cond, count_by, slice_set, slice_index_or}
use Rattle.std.specs.Option.{option_map}
use Rattle.std.specs.FinMap.{get}
use Rattle.std.proofs.lemmas.Bool.{cases_eq, false≢true}
use Rattle.std.proofs.lemmas.List.{get_or-set_same, get_or-set_other, length-set, append-nil, take-append-drop}
use Rattle.std.proofs.lemmas.List.Sums.{sum_by-set}
use Rattle.vm_base.specs.Frames.{FrameView}
use Rattle.vm_base.specs.Places.{page_of, offset_of}
use Rattle.vm_base.specs.FlatMemory.{PageMap, spliced}
use Rattle.vm_base.specs.FlatStep.{with_bytes}
use Rattle.vm_base.proofs.FlatPages.{with_bytes_in}
use Rattle.vm_base.proofs.NumberedMaps.{get_inserted_here, get_inserted_apart}
use Rattle.kernel_meaning.specs.Leaves.{no_versions, version_at, is_lost, Kept, kept_by}
use Rattle.kernel_meaning.specs.CellAccount.{Store, CellAccount}
use Rattle.leaf_cell.specs.declared.snapshot.Snapshot.{Snapshot}
use Rattle.leaf_cell.specs.declared.snapshot.SnapshotLeaf.{SnapshotLeaf}
use Rattle.leaf_cell.specs.declared.snapshot.SnapshotLeaf.TheVariants as code
use Rattle.leaf_cell.specs.Places.{TableView}
use Rattle.leaf_cell.specs.CellView.{bytes_in}
use Rattle.leaf_cell.specs.Inside.{AreInside, IsPlaceOf, table_places, own_places, snapshot_places, leaf_value, cell_value}
use Rattle.leaf_cell.specs.Adding.{stored_in, IsWholeFrame}
use Rattle.leaf_cell.specs.Renaming.{IsNamedBy, IsLive}
use Rattle.leaf_cell.specs.Standing.{StandsFor, TakesAccount}
use Rattle.leaf_cell.proofs.AllowedActs.{allowed-stands}
use Rattle.leaf_cell.proofs.NewVersion.{named-kept}
use Rattle.leaf_cell.proofs.InsideFacts.{page_below, parent_filled}
use Rattle.leaf_cell.proofs.WholeCells.{whole-inside}
use Rattle.leaf_cell.proofs.PutPage.{one_page}

-- each place that lives is one of its page's own
leaf_home : (parent : Option TableView) (frames : List (Option FrameView)) (leaf : SnapshotLeaf) (page place : ℕ) → ((q : ℕ) → version_at (snapshot_places no_versions leaf) page ≡ Some q → IsPlaceOf page q)
    → ((q : ℕ) → version_at (table_places parent) page ≡ Some q → IsPlaceOf page q) → is_lost (leaf_value leaf) ≡ false → version_at (snapshot_places (table_places parent) leaf) page ≡ Some place → IsPlaceOf page place
leaf_home parent frames (code.Own table) page place own tables unlost there = own place there
leaf_home parent frames code.Joined page place own tables unlost there = tables place there
leaf_home parent frames (code.Lost at) page place own tables unlost there = absurd (false≢true (sym unlost))

parent_place : (parent : Option TableView) (snapshot : Option Snapshot) (frames : List (Option FrameView)) → AreInside parent snapshot frames → (page place : ℕ) → version_at (table_places parent) page ≡ Some place → IsPlaceOf page place
parent_place parent snapshot frames inside page place there = (inside.parent_home page place (page_below (table_places parent) page place inside.parent_size there) there).0

own_place : (parent : Option TableView) (snapshot : Option Snapshot) (frames : List (Option FrameView)) → AreInside parent snapshot frames → (page place : ℕ) → version_at (own_places snapshot) page ≡ Some place → IsPlaceOf page place
own_place parent snapshot frames inside page place there = (inside.own_home page place (page_below (own_places snapshot) page place inside.own_size there) there).0

pub at_home : (parent : Option TableView) (snapshot : Option Snapshot) (frames : List (Option FrameView)) → AreInside parent snapshot frames
    → (page place : ℕ) → IsLive (cell_value parent snapshot frames).leaves page place → IsPlaceOf page place
at_home parent snapshot frames inside page place (inl there) = parent_place parent snapshot frames inside page place there
at_home parent None frames inside page place (inr named) = absurd named
at_home parent (Some it) frames inside page place (inr (inl named)) =
    leaf_home parent frames it.leaf page place (own_place parent (Some it) frames inside page) (parent_place parent (Some it) frames inside page) named.0 named.1
at_home parent (Some it) frames inside page place (inr (inr named)) = absurd named

spliced-none : (page : List ℕ) (at : ℕ) → spliced page at [] ≡ page
spliced-none page at =
    let here : at + zero ≡ at = omega arith in
    ap (λ front. front ++ drop (at + zero) page) (append-nil (take at page)) ∙ ap (λ i. take at page ++ drop i page) here ∙ take-append-drop at page

-- storing in a page of a cell replaces bytes of that page alone
stored-here : (pages : PageMap) (page at : ℕ) (old bytes : List ℕ) → get pages page ≡ Some old → length old ≡ 4096 → at + length bytes ≤ 4096
    → (p : ℕ) → p ≡ page → get (with_bytes pages (page * 4096 + at) bytes) p ≡ Some (spliced old at bytes)
stored-here pages page at old [] there whole room p same = ap (get pages) same ∙ there ∙ ap Some (sym (spliced-none old at))
stored-here pages page at old (b ∷ bytes) there whole room p same =
    let in_page : (page * 4096 + at) / 4096 ≡ page = omega arith in
    let in_place : (page * 4096 + at) % 4096 ≡ at = omega arith in
    ap (λ m. get m p) (with_bytes_in pages (page * 4096 + at) (b ∷ bytes) old (ap (get pages) in_page ∙ there) whole (rw in_place room))
    ∙ get_inserted_here pages (page_of (page * 4096 + at)) (spliced old (offset_of (page * 4096 + at)) (b ∷ bytes)) p (same ∙ sym in_page)
    ∙ ap (λ i. Some (spliced old i (b ∷ bytes))) in_place

stored-apart : (pages : PageMap) (page at : ℕ) (old bytes : List ℕ) → get pages page ≡ Some old → length old ≡ 4096 → at + length bytes ≤ 4096
    → (p : ℕ) → p ≢ page → get (with_bytes pages (page * 4096 + at) bytes) p ≡ get pages p
stored-apart pages page at old [] there whole room p apart = refl
stored-apart pages page at old (b ∷ bytes) there whole room p apart =
    let in_page : (page * 4096 + at) / 4096 ≡ page = omega arith in
    let in_place : (page * 4096 + at) % 4096 ≡ at = omega arith in
    ap (λ m. get m p) (with_bytes_in pages (page * 4096 + at) (b ∷ bytes) old (ap (get pages) in_page ∙ there) whole (rw in_place room))
    ∙ get_inserted_apart pages (page_of (page * 4096 + at)) (spliced old (offset_of (page * 4096 + at)) (b ∷ bytes)) p (λ e. apart (e ∙ in_page))

pub place-below : (parent : Option TableView) (snapshot : Option Snapshot) (frames : List (Option FrameView)) → AreInside parent snapshot frames
    → (page place : ℕ) → page < 512 → version_at (table_places parent) page ≡ Some place → place < length frames
place-below parent snapshot frames inside page place small there = elim (parent_place parent snapshot frames inside page place there) [
  | inl x ↦ omega (arith, small, x, inside.room)
  | inr x ↦ omega (arith, small, x, inside.room)
]

still_some : (o : Option FrameView) (at : ℕ) (bytes : List ℕ) → is_some (stored_in o at bytes) ≡ is_some o
still_some None at bytes = refl
still_some (Some frame) at bytes = refl

module _ (parent : Option TableView) (snapshot : Option Snapshot) (frames : List (Option FrameView)) (inside : AreInside parent snapshot frames) (page place at : ℕ) (bytes : List ℕ)
    (small : page < 512) (there : version_at (table_places parent) page ≡ Some place) (room : at + length bytes ≤ 4096)
    (whole : IsWholeFrame (slice_index_or frames place None)) (new : List (Option FrameView))
    (stored : new ≡ slice_set frames place (stored_in (slice_index_or frames place None) at bytes)) where
  home : IsPlaceOf page place
  home = parent_place parent snapshot frames inside page place there

  place_inside : place < length frames
  place_inside = place-below parent snapshot frames inside page place small there

  new_here : slice_index_or new place None ≡ stored_in (slice_index_or frames place None) at bytes
  new_here = ap (λ fs. slice_index_or fs place None) stored ∙ get_or-set_same frames place (stored_in (slice_index_or frames place None) at bytes) None place_inside

  new_apart : (q : ℕ) → q ≢ place → slice_index_or new q None ≡ slice_index_or frames q None
  new_apart q apart = ap (λ fs. slice_index_or fs q None) stored ∙ get_or-set_other frames place q (stored_in (slice_index_or frames place None) at bytes) None apart

  same_some_at : (q : ℕ) → is_some (slice_index_or new q None) ≡ is_some (slice_index_or frames q None)
  same_some_at q = elim (cases_eq q place) [
    | inl same ↦ ap (λ i. is_some (slice_index_or new i None)) same ∙ ap is_some new_here ∙ still_some (slice_index_or frames place None) at bytes ∙ ap (λ i. is_some (slice_index_or frames i None)) (sym same)
    | inr apart ↦ ap is_some (new_apart q apart)
  ]

  pub inside-stored : AreInside parent snapshot new
  inside-stored = record {
    room = ap length stored ∙ length-set frames place (stored_in (slice_index_or frames place None) at bytes) ∙ inside.room;
    parent_home = λ p q below named. ((inside.parent_home p q below named).0, same_some_at q ∙ (inside.parent_home p q below named).1);
    own_home = λ p q below named. ((inside.own_home p q below named).0, same_some_at q ∙ (inside.own_home p q below named).1);
    named = λ p q below is_home filled. inside.named p q below is_home (sym (same_some_at q) ∙ filled);
    used = inside.used;
    parent_size = inside.parent_size;
    own_size = inside.own_size;
    writable = inside.writable;
    joined = inside.joined;
  }

  -- as many frames
  pub count-stored : count_by is_some new ≡ count_by is_some frames
  count-stored =
      let then : Option FrameView = stored_in (slice_index_or frames place None) at bytes in
      let moved : count_by is_some (slice_set frames place then) + cond (is_some (slice_index_or frames place None)) 1 0 ≡ count_by is_some frames + cond (is_some then) 1 0 =
      sum_by-set (λ o. cond (is_some o) 1 0) frames place then None place_inside in
      let same : ◌≡◌ {A = ℕ} (cond (is_some then) 1 0) (cond (is_some (slice_index_or frames place None)) 1 0) = ap (λ b. cond b 1 0) (still_some (slice_index_or frames place None) at bytes) in
      ap (count_by is_some) stored ∙ omega (arith, moved, same)

  -- pages at other places are as before
  bytes_apart : (o : Option ℕ) → ((q : ℕ) → o ≡ Some q → q ≢ place) → bytes_in new o ≡ bytes_in frames o
  bytes_apart None other = refl
  bytes_apart (Some q) other = ap (option_map (λ f. f.bytes)) (new_apart q (other q refl))

  -- the page that is stored to
  record Before : Type 0 where
    frame : FrameView
    is : slice_index_or frames place None ≡ Some frame
    size : length frame.bytes ≡ 4096

  before_of : (o : Option FrameView) → slice_index_or frames place None ≡ o → IsSome o → IsWholeFrame o → Before
  before_of None is some w = absurd (false≢true some)
  before_of (Some frame) is some w = record { frame = frame; is = is; size = w frame refl }

  before : Before
  before = before_of (slice_index_or frames place None) refl (parent_filled parent snapshot frames inside page place there) whole

  module _ (unnamed : IsNamedBy page place (cell_value parent snapshot frames).leaves.kept → ⊥) (account : CellAccount) (stands : StandsFor (cell_value parent snapshot frames) account) where
    old_page : get account.state.pages page ≡ Some before.frame.bytes
    old_page = sym (stands.pages page small) ∙ ap (bytes_in frames) there ∙ ap (option_map (λ f. f.bytes)) before.is

    page_after : (p : ℕ) → p < 512 → bytes_in new (version_at (table_places parent) p) ≡ get (with_bytes account.state.pages (page * 4096 + at) bytes) p
    page_after p below = elim (cases_eq p page) [
      | inl same ↦ ap (λ i. bytes_in new (version_at (table_places parent) i)) same ∙ ap (bytes_in new) there ∙ ap (option_map (λ f. f.bytes)) (new_here ∙ ap (λ o. stored_in o at bytes) before.is)
          ∙ sym (stored-here account.state.pages page at before.frame.bytes bytes old_page before.size room p same)
      | inr apart ↦ bytes_apart (version_at (table_places parent) p) (λ q is same. apart (one_page p page place below small (subst (IsPlaceOf p) same (parent_place parent snapshot frames inside p q is)) home))
          ∙ stands.pages p below ∙ sym (stored-apart account.state.pages page at before.frame.bytes bytes old_page before.size room p apart)
    ]

    kept_apart : (n p : ℕ) (kept : Kept) → kept_by (cell_value parent snapshot frames).leaves.kept n ≡ Some kept → is_lost kept.leaf ≡ false → p < 512 → (q : ℕ) → version_at kept.versions p ≡ Some q → q ≢ place
    kept_apart n p kept found unlost below q is same =
        let named : IsNamedBy p q (cell_value parent snapshot frames).leaves.kept = named-kept n p q (cell_value parent snapshot frames).leaves.kept kept found unlost is in
        let at_p : IsPlaceOf p place = subst (IsPlaceOf p) same (at_home parent snapshot frames inside p q (inr named)) in
        unnamed (subst (λ i. IsNamedBy i place (cell_value parent snapshot frames).leaves.kept) (one_page p page place below small at_p home)
        (subst (λ i. IsNamedBy p i (cell_value parent snapshot frames).leaves.kept) same named))

    pub takes-stored : TakesAccount (Store page at bytes) (cell_value parent snapshot frames) (cell_value parent snapshot new) [] None account
    takes-stored = record {
      allowed = allowed-stands (cell_value parent snapshot frames) account stands (Store page at bytes);
      stands = record {
        name = stands.name;
        leaves = stands.leaves;
        made = stands.made;
        pages = page_after;
        snapshots = λ n p kept found unlost below. bytes_apart (version_at kept.versions p) (kept_apart n p kept found unlost below) ∙ stands.snapshots n p kept found unlost below;
        whole = whole-inside parent snapshot new inside-stored;
      };
      asked = refl;
      ended = refl;
    }
