-- What a touch at a cell without joined leaves makes of it.
use Rattle.std.proofs.Common.{◌≡◌, ℕ, ◌+◌, ◌<◌, ◌≤◌, List, [], ◌∷◌, length, Option, Some, None, cond, refl, sym, ap, subst, arith}
use Rattle.std.specs.Prelude.{Bool, true, false, not, ◌||◌, ◌==◌, is_some, IsSome, zero, suc, map}
use Rattle.std.proofs.lemmas.List.{get_or-set_same}
use Rattle.std.proofs.lemmas.Bool.{false≢true}
use Rattle.vm_base.specs.declared.frame_request.Want.TheVariants as want
use Rattle.kernel_meaning.specs.Requests.{Answer, Yes, No}
use Rattle.kernel_meaning.specs.Leaves.{CellLeaves, Kept, Versions, Lost, is_joined, version_at, with_version, with_leaf, has_pages, is_named, names_version}
use Rattle.kernel_meaning.specs.CellActs.{Course, asking, coming_answer, course_touched, new_page_asked, new_page_answered, parent_leaf_answered, page_copy_answered, with_parent_version, with_leaf_where}
use Rattle.kernel_meaning.specs.FrameLaw.{is_used}
use Rattle.page_tables.proofs.SlotLemmas.{length-set}
use Rattle.leaf_cell.specs.CellView.{AreUnjoined}
use Rattle.leaf_cell.proofs.TouchCourses.{before_change-none, touched-absent, touched-first, touched-present}

-- a touch leaves the cell as it was, gives the page another version, or loses it to some snapshots
pub data IsTouchOf (page : ℕ) (cell : CellLeaves) : CellLeaves → Type 0 where
  Same : IsTouchOf page cell cell
  Another : (version : ℕ) → IsTouchOf page cell (with_parent_version page version cell)
  Losing : (test : Kept → Bool) (at : ℕ) → IsTouchOf page cell (with_leaf_where test (Lost at) cell)

-- how the touch ended: refused it has changed nothing, and granted the page is there
abbrev pub EndsTouch : ℕ → CellLeaves → CellLeaves → Option ℕ → Type 0
EndsTouch page cell after None = IsSome (version_at after.parent page)
EndsTouch page cell after (Some at) = after ≡ cell

-- the course of a touch
pub record IsTouchCourse (page : ℕ) (start end : Course) : Type 0 where
  pub touch : IsTouchOf page start.cell end.cell
  pub later : start.requests.made ≤ end.requests.made
  pub ends : EndsTouch page start.cell end.cell end.refused

there-set : (versions : Versions) (page version : ℕ) → page < length versions → IsSome (version_at (with_version versions page version) page)
there-set versions page version small = ap is_some (get_or-set_same versions page (Some version) None small)

module _ (page : ℕ) (start : Course) (fresh : start.refused ≡ None) (size : page < length start.cell.parent) where
  answered-new : (leaves : ℕ) (answer : Answer) → IsTouchCourse page start (new_page_answered page leaves answer (asking want.Page start))
  answered-new leaves Yes = record {
    touch = Another (start.requests.made + 1);
    later = omega arith;
    ends =
        subst (EndsTouch page start.cell (with_parent_version page (start.requests.made + 1) start.cell)) (sym fresh) (there-set start.cell.parent page (start.requests.made + 1) size);
  }
  answered-new leaves (No at) = record { touch = Same; later = omega arith; ends = refl }

  answered-copy : (version : ℕ) → version_at start.cell.parent page ≡ Some version → (answer : Answer) → IsTouchCourse page start (page_copy_answered page version answer (asking want.Page start))
  answered-copy version there Yes = record {
    touch = Another (start.requests.made + 1);
    later = omega arith;
    ends =
        subst (EndsTouch page start.cell (with_parent_version page (start.requests.made + 1) start.cell)) (sym fresh) (there-set start.cell.parent page (start.requests.made + 1) size);
  }
  answered-copy version there (No at) = record {
    touch = Losing (names_version page version) at;
    later = omega arith;
    ends =
        subst (EndsTouch page start.cell (with_leaf_where (names_version page version) (Lost at) start.cell)) (sym fresh) (ap is_some there);
  }

  -- a present page, where a snapshot's own leaf names it or none does
  present-course : (version : ℕ) → version_at start.cell.parent page ≡ Some version → (named : Bool)
      → IsTouchCourse page start (cond named (page_copy_answered page version (coming_answer start) (asking want.Page start)) start)
  present-course version there true = answered-copy version there (coming_answer start)
  present-course version there false = record { touch = Same; later = omega arith; ends = subst (EndsTouch page start.cell start.cell) (sym fresh) (ap is_some there) }

-- the course behind a granted request is one from its start
behind-one : (page : ℕ) (start end : Course) → IsTouchCourse page (asking want.Leaf start) end → IsTouchCourse page start end
behind-one page start end course = record { touch = course.touch; later = let l : start.requests.made + 1 ≤ end.requests.made = course.later in omega arith; ends = course.ends }

module _ (page : ℕ) (start : Course) (fresh : start.refused ≡ None) (size : page < length start.cell.parent) (unjoined : AreUnjoined start.cell.kept) where
  -- the leaf table was missing
  first-course : (answer : Answer) → IsTouchCourse page start (parent_leaf_answered page answer (asking want.Leaf start))
  first-course Yes =
      subst (λ c. IsTouchCourse page start (new_page_asked page 1 c)) (sym (before_change-none (asking want.Leaf start) unjoined))
      (behind-one page start _ (answered-new page (asking want.Leaf start) fresh size 1 (coming_answer (asking want.Leaf start))))
  first-course (No at) = record { touch = Same; later = omega arith; ends = refl }

  course-as : (version : Option ℕ) → version_at start.cell.parent page ≡ version → (leaf : Bool) → has_pages start.cell.parent ≡ leaf → IsTouchCourse page start (course_touched page start)
  course-as None absent true there = subst (IsTouchCourse page start) (sym (touched-absent page start unjoined absent there)) (answered-new page start fresh size 0 (coming_answer start))
  course-as None absent false none = subst (IsTouchCourse page start) (sym (touched-first page start unjoined absent none)) (first-course (coming_answer start))
  course-as (Some version) there leaf any = subst (IsTouchCourse page start) (sym (touched-present page start unjoined version there))
      (present-course page start fresh size version there (is_named start.cell page version))

  pub touch-course : IsTouchCourse page start (course_touched page start)
  touch-course = course-as (version_at start.cell.parent page) refl (has_pages start.cell.parent) refl

-- the parent's table keeps its size
pub touch-size : (page : ℕ) (cell after : CellLeaves) → IsTouchOf page cell after → length after.parent ≡ length cell.parent
touch-size page cell after Same = refl
touch-size page cell after (Another version) = length-set cell.parent page (Some version)
touch-size page cell after (Losing test at) = refl

unjoined-lost : (test : Kept → Bool) (at : ℕ) (kept : List Kept) → AreUnjoined kept → AreUnjoined (with_leaf test (Lost at) kept)
unjoined-lost test at [] h = tt
unjoined-lost test at (it ∷ others) h =
    (elim (test it) as (λ b. is_joined (cond b (record it { leaf = Lost at }) it).leaf ≡ false) [ true ↦ refl | false ↦ h.0 ], unjoined-lost test at others h.1)

-- no leaf is joined then
pub touch-unjoined : (page : ℕ) (cell after : CellLeaves) → IsTouchOf page cell after → AreUnjoined cell.kept → AreUnjoined after.kept
touch-unjoined page cell after Same h = h
touch-unjoined page cell after (Another version) h = h
touch-unjoined page cell after (Losing test at) h = unjoined-lost test at cell.kept h

some-at : (versions : Versions) (page : ℕ) → IsSome (version_at versions page) → has_pages versions ≡ true
some-at [] page h = h
some-at (None ∷ versions) zero h = absurd (false≢true h)
some-at (None ∷ versions) (suc page) h = some-at versions page h
some-at (Some version ∷ versions) page h = refl

-- a cell with a page is used
pub page-used : (cell : CellLeaves) (page : ℕ) → IsSome (version_at cell.parent page) → is_used cell ≡ true
page-used cell page there = ap (λ b. b || not (length cell.kept == 0)) (some-at cell.parent page there)

pub page-there : (cell : CellLeaves) (page : ℕ) → IsSome (version_at cell.parent page) → has_pages cell.parent ≡ true
page-there cell page there = some-at cell.parent page there

numbers-lost : (test : Kept → Bool) (at : ℕ) (kept : List Kept) → map (λ it. it.number) (with_leaf test (Lost at) kept) ≡ map (λ it. it.number) kept
numbers-lost test at [] = refl
numbers-lost test at (it ∷ others) = λ i.
    elim (test it) as (λ b. (cond b (record it { leaf = Lost at }) it).number ≡ it.number) [ true ↦ refl | false ↦ refl ] i ∷ numbers-lost test at others i

-- the same snapshots have the cell
pub touch-numbers : (page : ℕ) (cell after : CellLeaves) → IsTouchOf page cell after → map (λ it. it.number) after.kept ≡ map (λ it. it.number) cell.kept
touch-numbers page cell after Same = refl
touch-numbers page cell after (Another version) = refl
touch-numbers page cell after (Losing test at) = numbers-lost test at cell.kept
