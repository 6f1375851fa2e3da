-- What a touch leaves of the pages and the snapshots of a cell.
use Rattle.std.proofs.Common.{◌≡◌, ◌≢◌, ℕ, ◌<◌, List, [], ◌∷◌, Option, Some, None, refl, sym, ◌∙◌, ap, subst, inl, inr}
use Rattle.std.specs.Prelude.{is_some, Bool, true, false, ◌&&◌, ◌||◌, slice_index_or, Result, Ok, Err, OnOk}
use Rattle.std.specs.List.{list_any}
use Rattle.std.specs.Option.{option_map}
use Rattle.std.proofs.lemmas.Bool.{cases_eq, false≢true}
use Rattle.vm_base.specs.Counts.{next_count}
use Rattle.vm_base.specs.Deals.{Deal}
use Rattle.vm_base.specs.declared.refusals.Refused.{Refused as RefusedRequest}
use Rattle.vm_base.specs.Frames.{FrameView}
use Rattle.vm_base.specs.FlatMemory.{zero_page}
use Rattle.kernel_meaning.specs.Leaves.{no_versions, version_at, is_own, is_joined, is_lost, Leaf, Own, Joined, Lost, Kept, holds_number, names_version, is_named}
use Rattle.kernel_meaning.specs.CellAccount.{Touch}
use Rattle.leaf_cell.specs.declared.snapshot.Snapshot.{Snapshot}
use Rattle.leaf_cell.specs.Places.{TableView}
use Rattle.leaf_cell.specs.CellView.{CellView, AreUnjoined, bytes_in, parent_page, page_or_zeros}
use Rattle.leaf_cell.specs.Inside.{AreInside, table_places, own_places, snapshot_places, kept_values, cell_value}
use Rattle.leaf_cell.specs.Adding.{IsPut}
use Rattle.leaf_cell.specs.Losing.{lost_at}
use Rattle.leaf_cell.specs.Releasing.{IsLeafReleased}
use Rattle.leaf_cell.specs.Renaming.{IsNamedBy, IsLive}
use Rattle.leaf_cell.specs.Standing.{MadeAct}
use Rattle.leaf_cell.specs.Touching.{IsAlone, IsTouched, AreKeptOrLost, needs_copy, is_named_too}
use Rattle.leaf_cell.proofs.NewCell.{none_is_some, none_is_not_some}
use Rattle.leaf_cell.proofs.Renamed.{eqb-refl}
use Rattle.leaf_cell.proofs.InsideFacts.{same_some, are_filled}
use Rattle.leaf_cell.proofs.PutPage.{table_here, table_apart, frame_here, frame_apart}
use Rattle.leaf_cell.proofs.TouchMade.{kept-unjoined}
use Rattle.leaf_cell.proofs.PresentPage.{touch-in_place}
use Rattle.leaf_cell.proofs.DropMade.{bytes-kept}

or-left : (a b : Bool) → a ≡ true → (a || b) ≡ true
or-left true b h = refl
or-left false b h = absurd (false≢true h)

or-right : (a b : Bool) → b ≡ true → (a || b) ≡ true
or-right true b h = refl
or-right false b h = h

-- a leaf that is neither joined nor lost is the snapshot's own
own_else : (leaf : Leaf) → is_joined leaf ≡ false → is_lost leaf ≡ false → is_own leaf ≡ true
own_else Own joined lost = refl
own_else Joined joined lost = absurd (false≢true (sym joined))
own_else (Lost at) joined lost = absurd (false≢true (sym lost))

-- where no leaf is joined, who names a version has a leaf of its own
pub named-own-leaf : (page version : ℕ) (kept : List Kept) → AreUnjoined kept → IsNamedBy page version kept → list_any (names_version page version) kept ≡ true
named-own-leaf page version [] unjoined named = absurd named
named-own-leaf page version (it ∷ others) unjoined (inl here) =
    or-left (names_version page version it) (list_any (names_version page version) others)
    (ap (λ b. b && holds_number (version_at it.versions page) version) (own_else it.leaf unjoined.0 here.0)
    ∙ ap (λ o. holds_number o version) here.1 ∙ eqb-refl version)
named-own-leaf page version (it ∷ others) unjoined (inr later) =
    or-right (names_version page version it) (list_any (names_version page version) others) (named-own-leaf page version others unjoined.1 later)

-- snapshots that are as they were
all-kept : (copy : Bool) (count then : ℕ) (old new : List Kept) → new ≡ old → AreKeptOrLost copy count then old new
all-kept copy count then old new same = subst (AreKeptOrLost copy count then old) (sym same) (each old)
  where
    each : (kept : List Kept) → AreKeptOrLost copy count then kept kept
    each [] = tt
    each (it ∷ others) = (inl refl, each others)

-- a page that no own leaf names is the parent's alone: nothing needs to change
pub touched-in_place : (view : CellView) (page place count : ℕ) → AreUnjoined view.leaves.kept → version_at view.leaves.parent page ≡ Some place → is_named view.leaves page place ≡ false → IsTouched page count count view view
touched-in_place view page place count unjoined there unnamed = record {
  alone = record {
    present = ap is_some there;
    unnamed = λ version is named. false≢true (sym unnamed ∙ ap (is_named view.leaves page) (same_some place version (sym there ∙ is)) ∙ named-own-leaf page version view.leaves.kept unjoined named);
  };
  still = λ p alone. alone;
  present = λ p apart. refl;
  reads = λ p small. refl;
  counted = inl refl;
  snapshots = all-kept (needs_copy view.leaves page) count count view.leaves.kept view.leaves.kept refl;
  unjoined = unjoined;
}

module _ (parent : Option TableView) (snapshot : Option Snapshot) (frames : List (Option FrameView)) (inside : AreInside parent snapshot frames)
    (next : Option TableView) (new : List (Option FrameView)) (bytes : List ℕ) (page : ℕ) (small : page < 512)
    (put : IsPut bytes page (table_places parent) frames (table_places next) new) (there : is_some next ≡ true)
    (left : (q : ℕ) → version_at (table_places parent) page ≡ Some q → version_at (own_places snapshot) page ≡ Some q)
    (unjoined : AreUnjoined (kept_values (table_places parent) snapshot)) where
  abbrev before : CellView
  before = cell_value parent snapshot frames

  abbrev after : CellView
  after = cell_value next snapshot new

  same_kept : after.leaves.kept ≡ before.leaves.kept
  same_kept = kept-unjoined (table_places parent) (table_places next) snapshot unjoined

  here : version_at (table_places next) page ≡ Some put.place
  here = table_here parent snapshot frames inside next new bytes page small put there left

  apart_table : (p : ℕ) → p ≢ page → version_at (table_places next) p ≡ version_at (table_places parent) p
  apart_table p apart = table_apart parent snapshot frames inside next new bytes page small put there left p apart

  -- what was filled is not the place that was free
  not_free : (p q : ℕ) → IsLive before.leaves p q → q ≢ put.place
  not_free p q live same = none_is_some (slice_index_or frames q None) (ap (λ i. slice_index_or frames i None) same ∙ put.free) (are_filled parent snapshot frames inside p q live)

  page_alone : IsAlone after.leaves page
  page_alone = record {
    present = ap is_some here;
    unnamed = λ version is named. not_free page version (inr (subst (IsNamedBy page version) same_kept named)) (same_some version put.place (sym is ∙ here));
  }

  still_alone : (p : ℕ) → IsAlone before.leaves p → IsAlone after.leaves p
  still_alone p alone = elim (cases_eq p page) [
    | inl same ↦ subst (IsAlone after.leaves) (sym same) page_alone
    | inr apart ↦ record {
      present = ap is_some (apart_table p apart) ∙ alone.present;
      unnamed = λ version is named. alone.unnamed version (sym (apart_table p apart) ∙ is) (subst (IsNamedBy p version) same_kept named);
    }
  ]

  still_reads : page_or_zeros (parent_page before page) ≡ bytes → (p : ℕ) → page_or_zeros (parent_page after p) ≡ page_or_zeros (parent_page before p)
  still_reads is p = elim (cases_eq p page) [
    | inl same ↦ ap (λ i. page_or_zeros (parent_page after i)) same
        ∙ ap (λ o. page_or_zeros (bytes_in new o)) here
        ∙ ap (λ o. page_or_zeros (option_map (λ f. f.bytes) o)) (frame_here parent snapshot frames inside next new bytes page small put there left)
        ∙ put.held ∙ sym is ∙ ap (λ i. page_or_zeros (parent_page before i)) (sym same)
    | inr apart ↦ ap (λ o. page_or_zeros (bytes_in new o)) (apart_table p apart)
        ∙ ap page_or_zeros (bytes-kept frames new (version_at (table_places parent) p) (λ q is. frame_apart parent snapshot frames inside next new bytes page small put there left q (not_free p q (inl is))))
  ]

  -- a page was put at a place that was free, with the bytes that were read there before
  pub touched-put : page_or_zeros (parent_page before page) ≡ bytes → (count then : ℕ) → then ≡ count → IsTouched page count then before after
  touched-put is count then same = record {
    alone = page_alone;
    still = still_alone;
    present = λ p apart. ap is_some (apart_table p apart);
    reads = λ p below. still_reads is p;
    counted = inl same;
    snapshots = all-kept (needs_copy before.leaves page) count then before.leaves.kept after.leaves.kept same_kept;
    unjoined = subst AreUnjoined (sym same_kept) unjoined;
  }

-- the copy was refused: the snapshot has lost the cell
pub touched-lost : {State : Type 0} (goes : State → Deal → State → Type 0) (from to : State) (parent : Option TableView) (it : Snapshot) (frames new : List (Option FrameView)) (tables page place at count then : ℕ)
    → IsLeafReleased goes from to (snapshot_places no_versions it.leaf) (table_places parent) tables frames new
    → version_at (table_places parent) page ≡ Some place → is_named (cell_value parent (Some it) frames).leaves page place ≡ true → then ≡ next_count count → at ≡ then
    → IsTouched page count then (cell_value parent (Some it) frames) (cell_value parent (Some (lost_at at it)) new)
touched-lost goes from to parent it frames new tables page place at count then released there named rose is = record {
  alone = record { present = ap is_some there; unnamed = λ version is_there named_too. none_named page version named_too };
  still = λ p alone. record { present = alone.present; unnamed = λ version is_there named_too. none_named p version named_too };
  present = λ p apart. refl;
  reads = λ p below. ap page_or_zeros (bytes-kept frames new (version_at (table_places parent) p) (λ q is_there. released.kept p q is_there));
  counted = inr (needs, rose);
  snapshots = (inr (needs, rose, refl, refl, ap Lost is), tt);
  unjoined = (refl, tt);
}
  where
    needs : needs_copy (cell_value parent (Some it) frames).leaves page ≡ true
    needs = ap (is_named_too (cell_value parent (Some it) frames).leaves page) there ∙ named

    none_named : (p version : ℕ) → IsNamedBy p version (kept_values (table_places parent) (Some (lost_at at it))) → ⊥
    none_named p version (inl here) = false≢true (sym here.0)
    none_named p version (inr later) = later

-- nothing was asked for a page that the parent has alone
pub made-in_place : {State : Type 0} (goes : State → Deal → State → Type 0) (state : State) (view : CellView) (page place : ℕ) (small : page < 512) (there : version_at view.leaves.parent page ≡ Some place)
    → AreUnjoined view.leaves.kept → is_named view.leaves page place ≡ false → is_some (bytes_in view.frames (Some place)) ≡ true → MadeAct goes state state (Touch page) view view None
made-in_place goes state view page place small there unjoined unnamed filled = record {
  deals = [];
  led = refl;
  follows = λ account stands. touch-in_place view page place small there unjoined account stands unnamed filled;
}

-- an absent page was added, or refused
pub touched-added : (parent : Option TableView) (snapshot : Option Snapshot) (frames : List (Option FrameView)) (inside : AreInside parent snapshot frames) (page : ℕ) (small : page < 512)
    (next : Option TableView) (new : List (Option FrameView)) (result : Result (Unit {0}) RefusedRequest) (count then : ℕ) → version_at (table_places parent) page ≡ None
    → AreUnjoined (kept_values (table_places parent) snapshot) → OnOk result (IsPut zero_page page (table_places parent) frames (table_places next) new × (is_some next ≡ true)) → OnOk result (then ≡ count)
    → OnOk result (IsTouched page count then (cell_value parent snapshot frames) (cell_value next snapshot new))
touched-added parent snapshot frames inside page small next new (Ok done) count then absent unjoined put same =
    touched-put parent snapshot frames inside next new zero_page page small put.0 put.1 (λ q there. none_is_not_some (version_at (table_places parent) page) q absent there) unjoined
    (ap (λ o. page_or_zeros (bytes_in frames o)) absent) count then same
touched-added parent snapshot frames inside page small next new (Err refused) count then absent unjoined put same = tt
