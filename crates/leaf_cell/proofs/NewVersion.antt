-- A page of the parent gets a new version, at a place that was free.
use Rattle.std.proofs.Common.{◌≡◌, ◌≢◌, ℕ, ◌<◌, ◌≤◌, List, [], ◌∷◌, length, Option, Some, None, refl, sym, ◌∙◌, ap, arith, inl, inr}
use Rattle.std.specs.Prelude.{is_some, IsSome, Bool, true, false, cond, unwrap_or, ◌==◌, slice_set, slice_index_or}
use Rattle.std.specs.Option.{option_map}
use Rattle.std.specs.FinMap.{get}
use Rattle.std.proofs.lemmas.Bool.{cases_eq, false≢true}
use Rattle.std.proofs.lemmas.List.{get_or-set_same, get_or-set_other}
use Rattle.vm_base.specs.Frames.{FrameView}
use Rattle.vm_base.specs.FlatMemory.{PageMap}
use Rattle.kernel_meaning.specs.Leaves.{version_at, is_lost, Kept, kept_by}
use Rattle.kernel_meaning.specs.CellActs.{with_parent_version}
use Rattle.kernel_meaning.specs.CellAccount.{CellAccount}
use Rattle.leaf_cell.specs.CellView.{CellView, bytes_in, parent_page}
use Rattle.leaf_cell.specs.Renaming.{IsNamedBy, IsLive}
use Rattle.leaf_cell.specs.Standing.{IsWhole, StandsFor}
use Rattle.leaf_cell.proofs.NewCell.{none_is_some}
use Rattle.leaf_cell.proofs.Renamed.{with_name, length-renamed}
use Rattle.leaf_cell.proofs.Alike.{renaming-new_version, lived}

-- each place that lives has a frame
abbrev pub AreFilled : CellView → Type 0
AreFilled view = (page place : ℕ) → IsLive view.leaves page place → IsSome (slice_index_or view.frames place None)

-- what snapshot n has lives, where it is not lost
pub named-kept : (n page place : ℕ) (all : List Kept) (kept : Kept) → kept_by all n ≡ Some kept → is_lost kept.leaf ≡ false → version_at kept.versions page ≡ Some place → IsNamedBy page place all
named-kept n page place [] kept found unlost there = absurd (false≢true (ap is_some found))
named-kept n page place (it ∷ others) kept found unlost there =
    by_number (it.number == n) found (λ e. named-kept n page place others kept e unlost there)
  where
    by_number : (b : Bool) → cond b (Some it) (kept_by others n) ≡ Some kept → (kept_by others n ≡ Some kept → IsNamedBy page place others) → IsNamedBy page place (it ∷ others)
    by_number true e later = let same : it ≡ kept = ap (λ o. unwrap_or o it) e in inl (ap (λ k. is_lost k.leaf) same ∙ unlost, ap (λ k. version_at k.versions page) same ∙ there)
    by_number false e later = inr (later e)

-- bytes at places that have a frame are as before, where one place more is filled
bytes-set : (frames : List (Option FrameView)) (place : ℕ) (frame : Option FrameView) (o : Option ℕ) → slice_index_or frames place None ≡ None
    → ((q : ℕ) → o ≡ Some q → IsSome (slice_index_or frames q None)) → bytes_in (slice_set frames place frame) o ≡ bytes_in frames o
bytes-set frames place frame None empty filled = refl
bytes-set frames place frame (Some q) empty filled = elim (cases_eq q place) [
  | inl here ↦ none_is_some (slice_index_or frames q None) (ap (λ i. slice_index_or frames i None) here ∙ empty) (filled q refl)
  | inr apart ↦ ap (option_map (λ f. f.bytes)) (get_or-set_other frames place q frame None apart)
]

module _ (view : CellView) (account : CellAccount) (page version place made : ℕ) (frame : FrameView) (writable : List Bool) (pages : PageMap)
    (stands : StandsFor view account) (small : page < 512) (size : length view.leaves.parent ≡ 512)
    (filled : AreFilled view) (empty : slice_index_or view.frames place None ≡ None) (room : place < length view.frames)
    (above : account.made < version) (within : version ≤ made)
    (here : get pages page ≡ Some frame.bytes) (others : (p : ℕ) → p ≢ page → get pages p ≡ get account.state.pages p) where
  abbrev pub view_then : CellView
  view_then = record { leaves = with_parent_version page place view.leaves; frames = slice_set view.frames place (Some frame); writable = writable }

  abbrev pub account_then : CellAccount
  account_then = record {
    state = record { leaves = with_parent_version page version account.state.leaves; pages = pages; snapshots = account.state.snapshots };
    made = made;
  }

  inside : page < length account.state.leaves.parent
  inside = omega (arith, small, size, sym (ap length stands.leaves.parent), length-renamed stands.name account.state.leaves.parent)

  fresh : (v : ℕ) → IsLive account.state.leaves page v → v ≢ version
  fresh v live same = absurd (omega (arith, stands.made page v live, above, same))

  free : IsLive view.leaves page place → ⊥
  free live = none_is_some (slice_index_or view.frames place None) empty (filled page place live)

  parent_after : (p : ℕ) → p < 512 → parent_page view_then p ≡ get pages p
  parent_after p below = elim (cases_eq p page) [
    | inl same ↦ ap (parent_page view_then) same
        ∙ ap (bytes_in view_then.frames) (get_or-set_same view.leaves.parent page (Some place) None (omega (arith, small, size)))
        ∙ ap (option_map (λ f. f.bytes)) (get_or-set_same view.frames place (Some frame) None room)
        ∙ sym here ∙ ap (get pages) (sym same)
    | inr apart ↦ ap (bytes_in view_then.frames) (get_or-set_other view.leaves.parent page p (Some place) None apart)
        ∙ bytes-set view.frames place (Some frame) (version_at view.leaves.parent p) empty (λ q is. filled p q (inl is))
        ∙ stands.pages p below ∙ sym (others p apart)
  ]

  -- a frame is where one was
  still_there : (q : ℕ) → IsSome (slice_index_or view.frames q None) → IsSome (slice_index_or view_then.frames q None)
  still_there q there = elim (cases_eq q place) [
    | inl same ↦ none_is_some (slice_index_or view.frames q None) (ap (λ i. slice_index_or view.frames i None) same ∙ empty) there
    | inr apart ↦ ap is_some (get_or-set_other view.frames place q (Some frame) None apart) ∙ there
  ]

  whole_then : IsWhole view_then
  whole_then = record {
    below = λ p q live. elim (lived view.leaves page place page_there p q live) [
      | inl is ↦ omega (arith, small, is.0)
      | inr old ↦ stands.whole.below p q old
    ];
    filled = λ p q live. elim (lived view.leaves page place page_there p q live) [
      | inl is ↦ ap (λ i. is_some (slice_index_or view_then.frames i None)) is.1 ∙ ap is_some (get_or-set_same view.frames place (Some frame) None room)
      | inr old ↦ still_there q (filled p q old)
    ];
  }
    where
      page_there : page < length view.leaves.parent
      page_there = omega (arith, small, size)

  pub stands-new_version : StandsFor view_then account_then
  stands-new_version = record {
    name = with_name stands.name page version place;
    leaves = renaming-new_version stands.name view.leaves account.state.leaves page version place stands.leaves inside fresh free;
    made = λ p v live. elim (lived account.state.leaves page version inside p v live) [
      | inl is ↦ omega (arith, is.1, within)
      | inr old ↦ omega (arith, stands.made p v old, above, within)
    ];
    pages = parent_after;
    snapshots = λ n p kept found unlost below.
        bytes-set view.frames place (Some frame) (version_at kept.versions p) empty (λ q is. filled p q (inr (named-kept n p q view.leaves.kept kept found unlost is)))
        ∙ stands.snapshots n p kept found unlost below;
    whole = whole_then;
  }
