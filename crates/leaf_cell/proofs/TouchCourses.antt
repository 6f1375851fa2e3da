-- The course of a touch where no leaf is joined, path by path.
use Rattle.std.proofs.Common.{◌≡◌, ℕ, List, [], ◌∷◌, Some, None, refl, sym, ◌∙◌, ap}
use Rattle.std.specs.Prelude.{Bool, true, false, cond, not, ◌&&◌, filter, map}
use Rattle.vm_base.specs.declared.frame_request.Want.TheVariants as want
use Rattle.kernel_meaning.specs.Leaves.{version_at, has_pages, is_joined, is_async, is_shared, is_marked, Kept}
use Rattle.kernel_meaning.specs.CellActs.{Course, asking, coming_answer, numbers_where, leaves_copied, before_change, course_touched, touched_as, present_touched, new_page_asked, parent_leaf_answered}
use Rattle.leaf_cell.specs.CellView.{AreUnjoined}
use Rattle.leaf_cell.specs.Renaming.{AreKeptAlike}

-- no leaf is joined on one side where none is on the other
pub unjoined-alike : (name : ℕ → ℕ → ℕ) (view meant : List Kept) → AreKeptAlike name view meant → AreUnjoined view → AreUnjoined meant
unjoined-alike name [] [] alike h = tt
unjoined-alike name [] (it ∷ others) alike h = absurd alike
unjoined-alike name (it ∷ others) [] alike h = absurd alike
unjoined-alike name (it ∷ others) (meant ∷ rest) alike h = (ap is_joined (sym alike.0.leaf) ∙ h.0, unjoined-alike name others rest alike.1 h.1)

none_pass : (with_mode : Kept → Bool) (kept : List Kept) → AreUnjoined kept → filter (λ it. is_joined it.leaf && with_mode it) kept ≡ []
none_pass with_mode [] h = refl
none_pass with_mode (it ∷ others) h = ap (λ b. cond (b && with_mode it) (it ∷ rest) rest) h.0 ∙ none_pass with_mode others h.1
  where
    rest : List Kept
    rest = filter (λ k. is_joined k.leaf && with_mode k) others

-- then nothing is copied before a change
pub before_change-none : (course : Course) → AreUnjoined course.cell.kept → before_change course ≡ course
before_change-none course h =
    let first : leaves_copied (numbers_where is_shared course.cell) course ≡ course =
    ap (λ kept. leaves_copied (map (λ k. k.number) kept) course) (none_pass (λ it. not (is_async it.mode)) course.cell.kept h) in
    ap (λ c. leaves_copied (numbers_where is_marked c.cell) c) first
    ∙ ap (λ kept. leaves_copied (map (λ k. k.number) kept) course) (none_pass (λ it. is_async it.mode) course.cell.kept h)

module _ (page : ℕ) (course : Course) (h : AreUnjoined course.cell.kept) where
  -- an absent page, where the parent has its leaf
  pub touched-absent : version_at course.cell.parent page ≡ None → has_pages course.cell.parent ≡ true → course_touched page course ≡ new_page_asked page 0 course
  touched-absent absent there =
      ap (λ o. touched_as o page course) absent
      ∙ ap (λ b. cond b (new_page_asked page 0 (before_change course)) (parent_leaf_answered page (coming_answer course) (asking want.Leaf course))) there
      ∙ ap (new_page_asked page 0) (before_change-none course h)

  -- an absent page, where the parent has none
  pub touched-first : version_at course.cell.parent page ≡ None → has_pages course.cell.parent ≡ false → course_touched page course ≡ parent_leaf_answered page (coming_answer course) (asking want.Leaf course)
  touched-first absent none =
      ap (λ o. touched_as o page course) absent
      ∙ ap (λ b. cond b (new_page_asked page 0 (before_change course)) (parent_leaf_answered page (coming_answer course) (asking want.Leaf course))) none

  -- a present page
  pub touched-present : (version : ℕ) → version_at course.cell.parent page ≡ Some version → course_touched page course ≡ present_touched page version course
  touched-present version there =
      ap (λ o. touched_as o page course) there ∙ ap (present_touched page version) (before_change-none course h)
