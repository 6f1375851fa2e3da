-- What a protect of some pages made, where no leaf is joined: nothing, and the account has that act.
use Rattle.std.proofs.Common.{◌≡◌, ℕ, [], None, refl, ◌∙◌, ap}
use Rattle.std.specs.Prelude.{Bool, true, false, cond}
use Rattle.vm_base.specs.declared.permission.Perm.{Perm}
use Rattle.vm_base.specs.Deals.{Deal}
use Rattle.kernel_meaning.specs.Requests.{opening_requests}
use Rattle.kernel_meaning.specs.Leaves.{has_present}
use Rattle.kernel_meaning.specs.CellActs.{Course, opening_course, before_change, protected}
use Rattle.kernel_meaning.specs.CellAccount.{Protect, CellAccount}
use Rattle.leaf_cell.specs.CellView.{CellView, AreUnjoined}
use Rattle.leaf_cell.specs.Standing.{StandsFor, TakesAccount, MadeAct}
use Rattle.leaf_cell.proofs.SameReads.{present-stands}
use Rattle.leaf_cell.proofs.TouchCourses.{before_change-none}
use Rattle.leaf_cell.proofs.TouchActs.{takes-by, meant-unjoined}

module _ (view : CellView) (first n : ℕ) (perm : Perm) (unjoined : has_present view.leaves.parent first n ≡ true → AreUnjoined view.leaves.kept) where
  takes-protected : (account : CellAccount) → StandsFor view account → TakesAccount (Protect first n perm) view view [] None account
  takes-protected account stands =
      takes-by (Protect first n perm) (λ cell other it. it) view view [] None account course (by (has_present account.state.leaves.parent first n) refl)
      (record {
        name = stands.name;
        leaves = stands.leaves;
        made = stands.made;
        pages = stands.pages;
        snapshots = stands.snapshots;
        whole = stands.whole;
      })
      refl refl
    where
      course : Course
      course = opening_course account.state.leaves (opening_requests account.made [])

      by : (b : Bool) → has_present account.state.leaves.parent first n ≡ b → protected first n course ≡ course
      by true is = ap (λ b. cond b (before_change course) course) is ∙ before_change-none course (meant-unjoined view account stands (unjoined (present-stands view account stands first n ∙ is)))
      by false is = ap (λ b. cond b (before_change course) course) is

  pub made-protected : {State : Type 0} (goes : State → Deal → State → Type 0) (state : State) → MadeAct goes state state (Protect first n perm) view view None
  made-protected goes state = record { deals = []; led = refl; follows = λ account stands. takes-protected account stands }
