-- To protect pages where no leaf is joined asks for nothing and changes no leaf.
use Rattle.std.proofs.Common.{◌≡◌, ℕ, List, [], ◌∷◌, None, cond, refl, sym, ◌∙◌, ap, append-nil}
use Rattle.std.specs.Prelude.{true, false}
use Rattle.kernel_meaning.specs.Leaves.{has_present}
use Rattle.kernel_meaning.specs.CellActs.{Course, before_change, protected}
use Rattle.kernel_meaning.specs.EventRequests.{Progress, changed_cells, course_at, with_course, protected_at, pages_protected, first_in_cell, count_in_cell}
use Rattle.leaf_cell.specs.CellView.{AreUnjoined}
use Rattle.leaf_cell.proofs.TouchCourses.{before_change-none}
use Rattle.page_tables.specs.declared.tables.PageTables.{PageTables}
use Rattle.vm_base.specs.Deals.{Deal}
use Rattle.page_tables.specs.Making.{MadeEvent, pages_as_they_were}
use Rattle.page_tables.specs.Sides.{Sides}
use Rattle.page_tables.specs.Courses.{progress_between, Runs}
use Rattle.page_tables.specs.Standing.{AreKept, TablesStandFor}
use Rattle.page_tables.specs.Permissions.{LeavesAllButPermissions}
use Rattle.page_tables.proofs.Again.{with_cell-same}

protected-none : (first n : ℕ) (course : Course) → AreUnjoined course.cell.kept → protected first n course ≡ course
protected-none first n course unjoined = elim (has_present course.cell.parent first n) as (λ b. cond b (before_change course) course ≡ course) [
  | true ↦ before_change-none course unjoined
  | false ↦ refl
]

protected_at-none : (cells : List ℕ) (first n : ℕ) (progress : Progress) → AreKept progress.leaves → protected_at cells first n progress ≡ progress
protected_at-none [] first n progress kept = refl
protected_at-none (cell ∷ cells) first n progress kept =
    ap (λ course. protected_at cells first n (with_course cell course progress))
    (protected-none (first_in_cell cell first) (count_in_cell cell first n) (course_at cell progress) (kept.unjoined cell))
    ∙ ap (λ leaves. protected_at cells first n (record progress { leaves = leaves })) (with_cell-same progress.leaves cell kept)
    ∙ protected_at-none cells first n progress kept

-- a protect makes no deal, and leaves the leaves as they are
pub protect-runs : (first n : ℕ) (tables : PageTables) (sides : Sides) → TablesStandFor tables sides → Runs (pages_protected first n) sides.leaves sides.made [] sides.leaves sides.made None
protect-runs first n tables sides st = record {
  runs = λ before rest.
      protected_at-none (changed_cells sides.leaves first n) first n (progress_between sides.leaves sides.made rest before) st.kept
      ∙ ap (progress_between sides.leaves sides.made rest) (sym (append-nil before));
}

-- so a call that leaves all but permissions, and the allot as it was, has made it
pub protect-made : {State : Type 0} (goes : State → Deal → State → Type 0) (first n : ℕ) (old new : PageTables) (from to : State) → LeavesAllButPermissions old new → to ≡ from
    → MadeEvent goes from to (pages_protected first n) pages_as_they_were old new None
protect-made goes first n old new from to alike still = record {
  deals = [];
  led = still;
  follows = λ sides st. record {
    leaves = sides.leaves;
    made = sides.made;
    runs = protect-runs first n old sides st;
    stands = alike.stands sides st;
  };
}
