-- An act of a cell behind the copies of its joined leaves is the act of the cell before them.
use Rattle.std.proofs.Common.{◌≡◌, ℕ, ◌+◌, List, [], ◌∷◌, ◌++◌, Option, Some, None, refl, sym, ◌∙◌, ap, subst, append-nil}
use Rattle.std.specs.Prelude.{Bool, true, false, cond}
use Rattle.vm_base.specs.Deals.{Deal, LeadsAlong}
use Rattle.vm_base.specs.declared.permission.Perm.{Perm}
use Rattle.vm_base.specs.declared.frame_request.Want.TheVariants as want
use Rattle.kernel_meaning.specs.Requests.{Answer, Yes, No, answers_of}
use Rattle.kernel_meaning.specs.Leaves.{CellLeaves, version_at, has_pages, has_present, is_shared, is_marked}
use Rattle.kernel_meaning.specs.CellActs.{Course, before_change, leaf_copied, leaf_copy_answered, leaves_copied, numbers_where, coming_answer, asking, course_touched, touched_as, present_touched, new_page_asked, parent_leaf_answered, cleared, pages_cleared, protected}
use Rattle.kernel_meaning.specs.CellAccount.{CellAct, Touch, Clear, Protect, CellAccount}
use Rattle.leaf_cell.specs.CellView.{CellView, AreUnjoined}
use Rattle.leaf_cell.specs.Courses.{RunsAt, requests_between, course_between}
use Rattle.leaf_cell.specs.Standing.{StandsFor, TakesAccount, MadeAct, course_behind}
use Rattle.leaf_cell.proofs.TouchCourses.{before_change-none, touched-absent, touched-present}
use Rattle.leaf_cell.proofs.TouchActs.{account_of_course, takes-by, meant-pages, meant-unjoined}
use Rattle.leaf_cell.proofs.TouchRuns.{answers-append, touch-runs, touched_alone}
use Rattle.leaf_cell.proofs.SameReads.{present-stands}
use Rattle.share_cell.specs.Parts.{TakesWithin, MadeWithin}
use Rattle.share_cell.proofs.SomeLeaves.{leads-append}

-- copies of leaves change no page of the parent's
parent-answered : (n : ℕ) (answer : Answer) (course : Course) → (leaf_copy_answered n answer course).cell.parent ≡ course.cell.parent
parent-answered n Yes course = refl
parent-answered n (No at) course = refl

parent-copied : (ns : List ℕ) (course : Course) → (leaves_copied ns course).cell.parent ≡ course.cell.parent
parent-copied [] course = refl
parent-copied (n ∷ ns) course = parent-copied ns (leaf_copied n course) ∙ parent-answered n (coming_answer course) (asking want.Leaf course)

pub parent-before : (course : Course) → (before_change course).cell.parent ≡ course.cell.parent
parent-before course =
    let unshared : Course = leaves_copied (numbers_where is_shared course.cell) course in
    parent-copied (numbers_where is_marked unshared.cell) unshared ∙ parent-copied (numbers_where is_shared course.cell) course

-- a touch begins with the copies, so that behind them it is the same
pub touched-behind_copies : (page : ℕ) (course : Course) → has_pages course.cell.parent ≡ true
    → AreUnjoined (before_change course).cell.kept
    → course_touched page course ≡ course_touched page (before_change course)
touched-behind_copies page course pages unjoined = by (version_at course.cell.parent page) refl
  where
    same : version_at (before_change course).cell.parent page ≡ version_at course.cell.parent page
    same = ap (λ vs. version_at vs page) (parent-before course)

    by : (o : Option ℕ) → version_at course.cell.parent page ≡ o → course_touched page course ≡ course_touched page (before_change course)
    by None is = ap (λ o. touched_as o page course) is
        ∙ ap (λ b. cond b (new_page_asked page 0 (before_change course))
        (parent_leaf_answered page (coming_answer course) (asking want.Leaf course))) pages
        ∙ sym (touched-absent page (before_change course) unjoined (same ∙ is) (ap has_pages (parent-before course) ∙ pages))
    by (Some version) is = ap (λ o. touched_as o page course) is
        ∙ sym (touched-present page (before_change course) unjoined version (same ∙ is))

module _ {State : Type 0} (goes : State → Deal → State → Type 0) (from middle to : State) (old between new : CellView)
    (copied : MadeWithin goes from middle before_change old between) (unjoined : AreUnjoined between.leaves.kept) where
  abbrev account_between : (account : CellAccount) → TakesWithin before_change old between copied.deals account → CellAccount
  account_between account took = record { state = record account.state { leaves = took.leaves }; made = took.made }

  -- what the copies of an account come to, behind no deals
  copies-run : (account : CellAccount) (took : TakesWithin before_change old between copied.deals account) (later : List Deal)
      → before_change (course_between account.state.leaves account.made (answers_of (copied.deals ++ later)) [])
      ≡ course_between took.leaves took.made (answers_of later) copied.deals
  copies-run account took later = ap (λ coming. before_change (course_between account.state.leaves account.made coming []))
      (answers-append copied.deals later)
      ∙ took.runs.runs [] (answers_of later)

  module _ (account : CellAccount) (stands : StandsFor old account) where
    abbrev took : TakesWithin before_change old between copied.deals account
    took = copied.follows account stands

    meant : AreUnjoined took.leaves.kept
    meant = meant-unjoined between (account_between account took) took.stands unjoined

    takes-touched : (page : ℕ) (deals : List Deal) (refused : Option ℕ) → has_pages old.leaves.parent ≡ true
        → TakesAccount (Touch page) between new deals refused (account_between account took)
        → TakesAccount (Touch page) old new (copied.deals ++ deals) refused account
    takes-touched page deals refused pages touch =
        let alone : Course = touched_alone page took.leaves took.made (answers_of deals) in
        let start : Course = course_between account.state.leaves account.made (answers_of (copied.deals ++ deals)) [] in
        let runs : before_change start ≡ course_between took.leaves took.made (answers_of deals) copied.deals =
        copies-run account took deals in
        let act : RunsAt (course_touched page) took.leaves took.made deals alone.cell alone.requests.made alone.refused =
        touch-runs page took.leaves took.made deals meant touch.asked in
        takes-by (Touch page) (λ cell other it. it) old new (copied.deals ++ deals) refused account
        (record { cell = alone.cell; requests = requests_between alone.requests.made [] (copied.deals ++ deals); refused = alone.refused })
        (touched-behind_copies page start (meant-pages old account stands ∙ pages) (subst (λ c. AreUnjoined c.cell.kept) (sym runs) meant)
        ∙ ap (course_touched page) (runs ∙ ap (λ coming. course_between took.leaves took.made coming copied.deals)
        (sym (append-nil (answers_of deals))))
        ∙ act.runs copied.deals [])
        touch.stands refl touch.ended

    takes-cleared : (first n : ℕ) (deals : List Deal) → has_present old.leaves.parent first n ≡ true
        → TakesAccount (Clear first n) between new deals None (account_between account took)
        → TakesAccount (Clear first n) old new (copied.deals ++ deals) None account
    takes-cleared first n deals present clear =
        let here : Course = course_between took.leaves took.made (answers_of deals) [] in
        let start : Course = course_between account.state.leaves account.made (answers_of (copied.deals ++ deals)) [] in
        let runs : before_change start ≡ course_between took.leaves took.made (answers_of deals) copied.deals =
        copies-run account took deals in
        let there : has_present account.state.leaves.parent first n ≡ true = sym (present-stands old account stands first n) ∙ present in
        let still : has_present took.leaves.parent first n ≡ true = ap (λ c. has_present c.cell.parent first n) (sym runs)
        ∙ ap (λ vs. has_present vs first n) (parent-before start) ∙ there in
        let act : course_behind (Clear first n) (account_between account took) deals ≡ pages_cleared first n here =
        ap (λ b. cond b (pages_cleared first n (before_change here)) here) still
        ∙ ap (pages_cleared first n) (before_change-none here meant) in
        takes-by (Clear first n) (λ cell other it. it) old new (copied.deals ++ deals) None account
        (pages_cleared first n (course_between took.leaves took.made (answers_of deals) copied.deals))
        (ap (λ b. cond b (pages_cleared first n (before_change start)) start) there ∙ ap (pages_cleared first n) runs)
        (subst (λ c. StandsFor new (account_of_course (Clear first n) (account_between account took) c)) act clear.stands)
        (ap (λ ds. copied.deals ++ ds) (ap (λ c. c.requests.deals) (sym act) ∙ clear.asked)) refl

    takes-protected : (first n : ℕ) (perm : Perm) (deals : List Deal) → has_present old.leaves.parent first n ≡ true
        → TakesAccount (Protect first n perm) between new deals None (account_between account took)
        → TakesAccount (Protect first n perm) old new (copied.deals ++ deals) None account
    takes-protected first n perm deals present protect =
        let here : Course = course_between took.leaves took.made (answers_of deals) [] in
        let start : Course = course_between account.state.leaves account.made (answers_of (copied.deals ++ deals)) [] in
        let runs : before_change start ≡ course_between took.leaves took.made (answers_of deals) copied.deals =
        copies-run account took deals in
        let there : has_present account.state.leaves.parent first n ≡ true = sym (present-stands old account stands first n) ∙ present in
        let still : has_present took.leaves.parent first n ≡ true = ap (λ c. has_present c.cell.parent first n) (sym runs)
        ∙ ap (λ vs. has_present vs first n) (parent-before start) ∙ there in
        let act : course_behind (Protect first n perm) (account_between account took) deals ≡ here =
        ap (λ b. cond b (before_change here) here) still ∙ before_change-none here meant in
        takes-by (Protect first n perm) (λ cell other it. it) old new (copied.deals ++ deals) None account
        (course_between took.leaves took.made (answers_of deals) copied.deals)
        (ap (λ b. cond b (before_change start) start) there ∙ runs)
        (subst (λ c. StandsFor new (account_of_course (Protect first n perm) (account_between account took) c)) act protect.stands)
        (sym (append-nil copied.deals) ∙ ap (λ ds. copied.deals ++ ds) (ap (λ c. c.requests.deals) (sym act) ∙ protect.asked)) refl

  pub made-touched : (page : ℕ) (refused : Option ℕ) → has_pages old.leaves.parent ≡ true
      → MadeAct goes middle to (Touch page) between new refused
      → MadeAct goes from to (Touch page) old new refused
  made-touched page refused pages made = record {
    deals = copied.deals ++ made.deals;
    led = leads-append goes copied.deals made.deals from middle to copied.led made.led;
    follows = λ account stands. takes-touched account stands page made.deals refused pages
        (made.follows (account_between account (copied.follows account stands)) (copied.follows account stands).stands);
  }

  pub made-cleared : (first n : ℕ) → has_present old.leaves.parent first n ≡ true → MadeAct goes middle to (Clear first n) between new None
      → MadeAct goes from to (Clear first n) old new None
  made-cleared first n present made = record {
    deals = copied.deals ++ made.deals;
    led = leads-append goes copied.deals made.deals from middle to copied.led made.led;
    follows = λ account stands. takes-cleared account stands first n made.deals present
        (made.follows (account_between account (copied.follows account stands)) (copied.follows account stands).stands);
  }

  pub made-protected : (first n : ℕ) (perm : Perm) → has_present old.leaves.parent first n ≡ true
      → MadeAct goes middle to (Protect first n perm) between new None
      → MadeAct goes from to (Protect first n perm) old new None
  made-protected first n perm present made = record {
    deals = copied.deals ++ made.deals;
    led = leads-append goes copied.deals made.deals from middle to copied.led made.led;
    follows = λ account stands. takes-protected account stands first n perm made.deals present
        (made.follows (account_between account (copied.follows account stands)) (copied.follows account stands).stands);
  }

-- a permission for pages of which none is present changes nothing
pub made-unprotected : {State : Type 0} (goes : State → Deal → State → Type 0) (state : State) (view : CellView) (first n : ℕ) (perm : Perm)
    → has_present view.leaves.parent first n ≡ false → MadeAct goes state state (Protect first n perm) view view None
made-unprotected goes state view first n perm none = record {
  deals = [];
  led = refl;
  follows = λ account stands.
      let start : Course = course_between account.state.leaves account.made [] [] in
      takes-by (Protect first n perm) (λ cell other it. it) view view [] None account start
      (ap (λ b. cond b (before_change start) start) (sym (present-stands view account stands first n) ∙ none)) stands refl refl;
}
