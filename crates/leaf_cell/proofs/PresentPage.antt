-- A touch of a page that is present.
use Rattle.std.proofs.Common.{◌≡◌, ℕ, ◌+◌, ◌<◌, List, [], ◌∷◌, length, Option, Some, None, refl, sym, ◌∙◌, ap, subst, arith, inl, inr}
use Rattle.std.specs.Prelude.{is_some, Bool, true, false, cond, unwrap_or, slice_set, slice_index_or, ◌==◌, ◌&&◌, ◌||◌}
use Rattle.std.specs.Option.{option_map}
use Rattle.std.specs.List.{list_any}
use Rattle.std.specs.FinMap.{get}
use Rattle.std.proofs.lemmas.Bool.{cases_eq, ne_eqb, false≢true}
use Rattle.vm_base.specs.declared.frame_request.Want.TheVariants as want
use Rattle.vm_base.specs.Deals.{Granted}
use Rattle.vm_base.specs.Frames.{FrameView}
use Rattle.vm_base.specs.FlatStep.{with_page}
use Rattle.vm_base.proofs.FlatPages.{with_page_there}
use Rattle.kernel_meaning.specs.Requests.{Yes, opening_requests}
use Rattle.kernel_meaning.specs.Leaves.{version_at, is_own, is_lost, Leaf, Own, Joined, Lost, holds_number, names_version, is_named, Kept, CellLeaves}
use Rattle.kernel_meaning.specs.CellActs.{Course, opening_course, asking, coming_answer, page_copy_answered, with_parent_version}
use Rattle.kernel_meaning.specs.CellAccount.{Touch, CellAccount}
use Rattle.leaf_cell.specs.CellView.{CellView, AreUnjoined, bytes_in}
use Rattle.leaf_cell.specs.Renaming.{IsKeptAlike, AreKeptAlike, IsNamedBy, IsLive, IsRenaming}
use Rattle.leaf_cell.specs.Standing.{StandsFor, TakesAccount}
use Rattle.leaf_cell.proofs.Renamed.{version_at-renamed, eqb-refl}
use Rattle.leaf_cell.proofs.NewVersion.{AreFilled, stands-new_version}
use Rattle.leaf_cell.proofs.TouchCourses.{touched-present}
use Rattle.leaf_cell.proofs.TouchActs.{takes-by, meant-unjoined}

same_some : (x y : ℕ) → ◌≡◌ {A = Option ℕ} (Some x) (Some y) → x ≡ y
same_some x y e = ap (λ o. unwrap_or o x) e

-- an own leaf is not lost
pub own_unlost : (leaf : Leaf) → is_own leaf ≡ true → is_lost leaf ≡ false
own_unlost Own h = refl
own_unlost Joined h = refl
own_unlost (Lost at) h = absurd (false≢true h)

-- equal numbers under other names
eqb_names : (a b c d : ℕ) → (a ≡ b → c ≡ d) → (c ≡ d → a ≡ b) → (a == b) ≡ (c == d)
eqb_names a b c d there back = elim (cases_eq a b) [
  | inl same ↦ ap (λ x. x == b) same ∙ eqb-refl b ∙ sym (ap (λ x. x == d) (there same) ∙ eqb-refl d)
  | inr apart ↦ ne_eqb a b apart ∙ sym (ne_eqb c d (λ e. apart (back e)))
]

module _ (name : ℕ → ℕ → ℕ) (view meant : CellLeaves) (alike : IsRenaming name view meant) (page version : ℕ) (live : IsLive meant page version) where
  -- one snapshot names the version where it names the place
  holds : (o : Option ℕ) → ((w : ℕ) → o ≡ Some w → IsLive meant page w) → holds_number (option_map (name page) o) (name page version) ≡ holds_number o version
  holds None lives = refl
  holds (Some w) lives = eqb_names (name page w) (name page version) w version (λ e. alike.apart page w version (lives w refl) live e) (λ e. ap (name page) e)

  pub names_alike : (it other : Kept) → IsKeptAlike name it other → ((w : ℕ) → (is_lost other.leaf ≡ false) × (version_at other.versions page ≡ Some w) → IsLive meant page w)
      → names_version page (name page version) it ≡ names_version page version other
  names_alike it other same lives = ap (λ leaf. is_own leaf && holds_number (version_at it.versions page) (name page version)) same.leaf ∙ by_leaf (is_own other.leaf) refl
    where
      by_leaf : (b : Bool) → is_own other.leaf ≡ b → (is_own other.leaf && holds_number (version_at it.versions page) (name page version)) ≡ (is_own other.leaf && holds_number (version_at other.versions page) version)
      by_leaf false is = ap (λ b. b && holds_number (version_at it.versions page) (name page version)) is ∙ sym (ap (λ b. b && holds_number (version_at other.versions page) version) is)
      by_leaf true is =
          let unlost : is_lost other.leaf ≡ false = own_unlost other.leaf is in
          ap (λ b. is_own other.leaf && b) (ap (λ vs. holds_number (version_at vs page) (name page version)) (same.versions unlost)
          ∙ ap (λ o. holds_number o (name page version)) (version_at-renamed name other.versions page)
          ∙ holds (version_at other.versions page) (λ w e. lives w (unlost, e)))

  named_alike : (its others : List Kept) → AreKeptAlike name its others → ((w : ℕ) → IsNamedBy page w others → IsLive meant page w)
      → list_any (names_version page (name page version)) its ≡ list_any (names_version page version) others
  named_alike [] [] same lives = refl
  named_alike [] (o ∷ os) same lives = absurd same
  named_alike (i ∷ is) [] same lives = absurd same
  named_alike (i ∷ is) (o ∷ os) same lives =
      ap (λ b. b || list_any (names_version page (name page version)) is) (names_alike i o same.0 (λ w h. lives w (inl h)))
      ∙ ap (λ b. names_version page version o || b) (named_alike is os same.1 (λ w h. lives w (inr h)))

  pub is_named-alike : is_named view page (name page version) ≡ is_named meant page version
  is_named-alike = named_alike view.kept meant.kept alike.kept (λ w h. inr h)

-- the version that a present page has in the account
pub record Meant (view : CellView) (account : CellAccount) (stands : StandsFor view account) (page place : ℕ) : Type 0 where
  pub version : ℕ
  pub there : version_at account.state.leaves.parent page ≡ Some version
  pub named : stands.name page version ≡ place

pub meant_from : (name : ℕ → ℕ) (o : Option ℕ) (place : ℕ) → option_map name o ≡ Some place → (v : ℕ) × ((o ≡ Some v) × (name v ≡ place))
meant_from name None place e = absurd (false≢true (ap is_some e))
meant_from name (Some v) place e = (v, (refl, same_some (name v) place e))

pub meant-there : (view : CellView) (account : CellAccount) (stands : StandsFor view account) (page place : ℕ) → version_at view.leaves.parent page ≡ Some place → Meant view account stands page place
meant-there view account stands page place there =
    let found : (v : ℕ) × ((version_at account.state.leaves.parent page ≡ Some v) × (stands.name page v ≡ place)) =
    meant_from (stands.name page) (version_at account.state.leaves.parent page) place
    (sym (version_at-renamed stands.name account.state.leaves.parent page) ∙ ap (λ vs. version_at vs page) (sym stands.leaves.parent) ∙ there) in
    record { version = found.0; there = found.1.0; named = found.1.1 }

module _ (view : CellView) (page place : ℕ) (small : page < 512) (there : version_at view.leaves.parent page ≡ Some place) (unjoined : AreUnjoined view.leaves.kept)
    (account : CellAccount) (stands : StandsFor view account) where
  pub meant : Meant view account stands page place
  meant = meant-there view account stands page place there

  -- whether a snapshot's own leaf names it, in the account
  pub same_named : is_named account.state.leaves page meant.version ≡ is_named view.leaves page place
  same_named = sym (is_named-alike stands.name view.leaves account.state.leaves stands.leaves page meant.version (inl meant.there)) ∙ ap (is_named view.leaves page) meant.named

  pub page_there : (bytes : Option (List ℕ)) → bytes_in view.frames (Some place) ≡ bytes → get account.state.pages page ≡ bytes
  page_there bytes is = sym (stands.pages page small) ∙ ap (bytes_in view.frames) there ∙ is

  -- no snapshot names it: nothing is asked for
  pub touch-in_place : is_named view.leaves page place ≡ false → is_some (bytes_in view.frames (Some place)) ≡ true → TakesAccount (Touch page) view view [] None account
  touch-in_place unnamed filled =
      let course : Course = opening_course account.state.leaves (opening_requests account.made []) in
      takes-by (Touch page) (λ cell other it. it) view view [] None account course
      (touched-present page course (meant-unjoined view account stands unjoined) meant.version meant.there
      ∙ ap (λ b. cond b (page_copy_answered page meant.version (coming_answer course) (asking want.Page course)) course) (same_named ∙ unnamed))
      (subst (λ pages. StandsFor view (record { state = record account.state { pages = pages }; made = account.made }))
      (sym (with_page_there account.state.pages page (ap is_some (page_there (bytes_in view.frames (Some place)) refl) ∙ filled))) stands)
      refl refl

  -- a snapshot names it and the frame is granted: the page gets a version of its own
  pub touch-copied : (to : ℕ) (frame : FrameView) (writable : List Bool) → length view.leaves.parent ≡ 512 → AreFilled view → slice_index_or view.frames to None ≡ None → to < length view.frames
      → is_named view.leaves page place ≡ true → bytes_in view.frames (Some place) ≡ Some frame.bytes
      → TakesAccount (Touch page) view (record { leaves = with_parent_version page to view.leaves; frames = slice_set view.frames to (Some frame); writable = writable }) (Granted want.Page ∷ []) None account
  touch-copied to frame writable size filled empty room named bytes =
      let course : Course = opening_course account.state.leaves (opening_requests account.made (Yes ∷ [])) in
      let next : CellView = record { leaves = with_parent_version page to view.leaves; frames = slice_set view.frames to (Some frame); writable = writable } in
      let kept_pages : with_page account.state.pages page ≡ account.state.pages = with_page_there account.state.pages page (ap is_some (page_there (Some frame.bytes) bytes)) in
      takes-by (Touch page) (λ cell other it. it) view next (Granted want.Page ∷ []) None account (page_copy_answered page meant.version Yes (asking want.Page course))
      (touched-present page course (meant-unjoined view account stands unjoined) meant.version meant.there
      ∙ ap (λ b. cond b (page_copy_answered page meant.version (coming_answer course) (asking want.Page course)) course) (same_named ∙ named))
      (stands-new_version view account page (account.made + 1) to (account.made + 1) frame writable (with_page account.state.pages page) stands small size filled empty room (omega arith) (omega arith)
      (ap (λ m. get m page) kept_pages ∙ page_there (Some frame.bytes) bytes) (λ p apart. ap (λ m. get m p) kept_pages))
      refl refl
