-- A touch takes each account that a cell stands for to the account with that touch.
use Rattle.std.proofs.Common.{◌≡◌, ◌≢◌, ℕ, ◌+◌, ◌<◌, ◌≤◌, List, [], ◌∷◌, length, Option, Some, None, refl, sym, ◌∙◌, ap, subst, arith}
use Rattle.std.specs.Prelude.{Bool, is_some, true, false, slice_set, slice_index_or}
use Rattle.std.specs.Option.{option_map}
use Rattle.std.specs.FinMap.{get}
use Rattle.std.proofs.lemmas.Bool.{false≢true}
use Rattle.vm_base.specs.declared.frame_request.Want.TheVariants as want
use Rattle.vm_base.specs.Deals.{Deal, Granted, Denied, Returned}
use Rattle.vm_base.specs.Frames.{FrameView}
use Rattle.vm_base.specs.FlatMemory.{PageMap, zero_page}
use Rattle.vm_base.specs.FlatStep.{with_page}
use Rattle.vm_base.proofs.FlatPages.{with_page_absent}
use Rattle.vm_base.proofs.NumberedMaps.{get_inserted_here, get_inserted_apart}
use Rattle.kernel_meaning.specs.Requests.{Answer, Yes, No, opening_requests}
use Rattle.kernel_meaning.specs.Leaves.{version_at, has_pages, CellLeaves}
use Rattle.kernel_meaning.specs.CellActs.{Course, opening_course, asking, new_page_asked, parent_leaf_answered, with_parent_version}
use Rattle.kernel_meaning.specs.CellAccount.{CellAct, Touch, CellAccount, AllowsAct, state_after}
use Rattle.leaf_cell.specs.CellView.{CellView, AreUnjoined, bytes_in}
use Rattle.leaf_cell.specs.Standing.{StandsFor, TakesAccount, course_behind}
use Rattle.leaf_cell.proofs.Renamed.{version_at-renamed, has_pages-renamed}
use Rattle.leaf_cell.proofs.NewVersion.{AreFilled, stands-new_version}
use Rattle.leaf_cell.proofs.TouchCourses.{unjoined-alike, before_change-none, touched-absent, touched-first}

-- the account behind a course
abbrev pub account_of_course : CellAct → CellAccount → Course → CellAccount
account_of_course act account course = record { state = state_after act course account.state; made = course.requests.made }

-- what is to be shown of a course that the act runs, where one cell allows it as another does
pub takes-by : (act : CellAct) → ((cell other : CellLeaves) → AllowsAct cell act → AllowsAct other act) → (old new : CellView) (deals : List Deal) (refused : Option ℕ) (account : CellAccount) (course : Course)
    → course_behind act account deals ≡ course → StandsFor new (account_of_course act account course)
    → course.requests.deals ≡ deals → course.refused ≡ refused → TakesAccount act old new deals refused account
takes-by act allowed old new deals refused account course runs stands asked ended = record {
  allowed = allowed old.leaves account.state.leaves;
  stands = subst (λ c. StandsFor new (account_of_course act account c)) (sym runs) stands;
  asked = ap (λ c. c.requests.deals) runs ∙ asked;
  ended = ap (λ c. c.refused) runs ∙ ended;
}

-- a name of nothing is nothing
unnamed : (name : ℕ → ℕ) (o : Option ℕ) → option_map name o ≡ None → o ≡ None
unnamed name None e = refl
unnamed name (Some x) e = absurd (false≢true (ap is_some (sym e)))

pub meant-absent : (view : CellView) (account : CellAccount) (stands : StandsFor view account) (page : ℕ) → version_at view.leaves.parent page ≡ None → version_at account.state.leaves.parent page ≡ None
meant-absent view account stands page absent = unnamed (stands.name page) (version_at account.state.leaves.parent page)
    (sym (version_at-renamed stands.name account.state.leaves.parent page) ∙ ap (λ vs. version_at vs page) (sym stands.leaves.parent) ∙ absent)

pub meant-pages : (view : CellView) (account : CellAccount) (stands : StandsFor view account) → has_pages account.state.leaves.parent ≡ has_pages view.leaves.parent
meant-pages view account stands = sym (has_pages-renamed stands.name account.state.leaves.parent) ∙ ap has_pages (sym stands.leaves.parent)

pub meant-unjoined : (view : CellView) (account : CellAccount) (stands : StandsFor view account) → AreUnjoined view.leaves.kept → AreUnjoined account.state.leaves.kept
meant-unjoined view account stands h = unjoined-alike stands.name view.leaves.kept account.state.leaves.kept stands.leaves.kept h

-- a page of zeros comes where there was none
zeros_here : (pages : PageMap) (page : ℕ) → get pages page ≡ None → get (with_page pages page) page ≡ Some zero_page
zeros_here pages page absent = ap (λ m. get m page) (with_page_absent pages page (ap is_some absent)) ∙ get_inserted_here pages page zero_page page refl

zeros_apart : (pages : PageMap) (page p : ℕ) → get pages page ≡ None → p ≢ page → get (with_page pages page) p ≡ get pages p
zeros_apart pages page p absent apart = ap (λ m. get m p) (with_page_absent pages page (ap is_some absent)) ∙ get_inserted_apart pages page zero_page p apart

module _ (view : CellView) (page place : ℕ) (frame : FrameView) (writable : List Bool) (small : page < 512) (size : length view.leaves.parent ≡ 512)
    (filled : AreFilled view) (empty : slice_index_or view.frames place None ≡ None) (room : place < length view.frames)
    (absent : version_at view.leaves.parent page ≡ None) (unjoined : AreUnjoined view.leaves.kept) (zeros : frame.bytes ≡ zero_page)
    (account : CellAccount) (stands : StandsFor view account) where
  no_page : get account.state.pages page ≡ None
  no_page = sym (stands.pages page small) ∙ ap (bytes_in view.frames) absent

  abbrev next_view : CellView
  next_view = record { leaves = with_parent_version page place view.leaves; frames = slice_set view.frames place (Some frame); writable = writable }

  stands_next : (version : ℕ) → account.made < version → StandsFor next_view (record {
    state = record { leaves = with_parent_version page version account.state.leaves; pages = with_page account.state.pages page; snapshots = account.state.snapshots };
    made = version;
  })
  stands_next version above = stands-new_version view account page version place version frame writable (with_page account.state.pages page) stands small size filled empty room above (omega arith)
      (zeros_here account.state.pages page no_page ∙ ap Some (sym zeros)) (λ p apart. zeros_apart account.state.pages page p no_page apart)

  begun : List Answer → Course
  begun answers = opening_course account.state.leaves (opening_requests account.made answers)

  pub touch-added : has_pages view.leaves.parent ≡ true → TakesAccount (Touch page) view next_view (Granted want.Page ∷ []) None account
  touch-added there =
      let course : Course = opening_course account.state.leaves (opening_requests account.made (Yes ∷ [])) in
      takes-by (Touch page) (λ cell other it. it) view next_view (Granted want.Page ∷ []) None account (new_page_asked page 0 course)
      (touched-absent page course (meant-unjoined view account stands unjoined) (meant-absent view account stands page absent) (meant-pages view account stands ∙ there))
      (stands_next (account.made + 1) (omega arith)) refl refl

  pub touch-first : has_pages view.leaves.parent ≡ false → TakesAccount (Touch page) view next_view (Granted want.Leaf ∷ Granted want.Page ∷ []) None account
  touch-first none =
      let course : Course = opening_course account.state.leaves (opening_requests account.made (Yes ∷ Yes ∷ [])) in
      takes-by (Touch page) (λ cell other it. it) view next_view (Granted want.Leaf ∷ Granted want.Page ∷ []) None account (new_page_asked page 1 (asking want.Leaf course))
      (touched-first page course (meant-unjoined view account stands unjoined) (meant-absent view account stands page absent) (meant-pages view account stands ∙ none)
      ∙ ap (new_page_asked page 1) (before_change-none (asking want.Leaf course) (meant-unjoined view account stands unjoined)))
      (stands_next (account.made + 1 + 1) (omega arith)) refl refl

-- requests that leave all as it was
pub stands-made : (view : CellView) (account : CellAccount) (made : ℕ) → StandsFor view account → account.made ≤ made → StandsFor view (record { state = account.state; made = made })
stands-made view account made stands more = record {
  name = stands.name;
  leaves = stands.leaves;
  made = λ page version live. omega (arith, stands.made page version live, more);
  pages = stands.pages;
  snapshots = stands.snapshots;
  whole = stands.whole;
}

module _ (view : CellView) (page at : ℕ) (absent : version_at view.leaves.parent page ≡ None) (unjoined : AreUnjoined view.leaves.kept)
    (account : CellAccount) (stands : StandsFor view account) where
  pub page-refused : has_pages view.leaves.parent ≡ true → TakesAccount (Touch page) view view (Denied want.Page at ∷ []) (Some at) account
  page-refused there =
      let course : Course = opening_course account.state.leaves (opening_requests account.made (No at ∷ [])) in
      takes-by (Touch page) (λ cell other it. it) view view (Denied want.Page at ∷ []) (Some at) account (new_page_asked page 0 course)
      (touched-absent page course (meant-unjoined view account stands unjoined) (meant-absent view account stands page absent) (meant-pages view account stands ∙ there))
      (stands-made view account (account.made + 1) stands (omega arith)) refl refl

  pub leaf-refused : has_pages view.leaves.parent ≡ false → TakesAccount (Touch page) view view (Denied want.Leaf at ∷ []) (Some at) account
  leaf-refused none =
      let course : Course = opening_course account.state.leaves (opening_requests account.made (No at ∷ [])) in
      takes-by (Touch page) (λ cell other it. it) view view (Denied want.Leaf at ∷ []) (Some at) account (parent_leaf_answered page (No at) (asking want.Leaf course))
      (touched-first page course (meant-unjoined view account stands unjoined) (meant-absent view account stands page absent) (meant-pages view account stands ∙ none))
      (stands-made view account (account.made + 1) stands (omega arith)) refl refl

  pub first-refused : has_pages view.leaves.parent ≡ false → TakesAccount (Touch page) view view (Granted want.Leaf ∷ Denied want.Page at ∷ Returned ∷ []) (Some at) account
  first-refused none =
      let course : Course = opening_course account.state.leaves (opening_requests account.made (Yes ∷ No at ∷ [])) in
      takes-by (Touch page) (λ cell other it. it) view view (Granted want.Leaf ∷ Denied want.Page at ∷ Returned ∷ []) (Some at) account (new_page_asked page 1 (asking want.Leaf course))
      (touched-first page course (meant-unjoined view account stands unjoined) (meant-absent view account stands page absent) (meant-pages view account stands ∙ none)
      ∙ ap (new_page_asked page 1) (before_change-none (asking want.Leaf course) (meant-unjoined view account stands unjoined)))
      (stands-made view account (account.made + 1 + 1) stands (omega arith)) refl refl
