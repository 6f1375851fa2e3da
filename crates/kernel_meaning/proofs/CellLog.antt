-- The snapshots that a cell keeps rise in number behind each entry that may stand there.
use Rattle.std.proofs.Common.{◌≡◌, ◌∙◌, ℕ, ◌<◌, ◌==◌, List, [], ◌∷◌, ◌++◌, refl, sym, ap, subst, arith}
use mathlib.Core.Bool.{true≢false}
use Rattle.std.specs.Prelude.{Bool, true, false, cond, not, nat_lt, Option, Some, None, IsNone}
use Rattle.vm_base.specs.declared.fork_mode.Mode.{Mode}
use Rattle.vm_base.specs.declared.fork_mode.Mode.TheVariants.{Eager, OnDemand, Async}
use Rattle.vm_base.specs.declared.frame_request.Want.TheVariants as want
use Rattle.kernel_meaning.specs.Requests.{Answer, Yes, No, opening_requests}
use Rattle.kernel_meaning.specs.Leaves.{Leaf, Own, Joined, Kept, version_at, has_present, has_pages, is_named, is_shared, is_marked, kept_by, with_kept, without_kept, with_leaf, AreAbove, AreRising}
use Rattle.kernel_meaning.specs.CellActs.{Course, opening_course, asking, coming_answer, numbers_where, leaf_copy_answered, leaf_copied, leaves_copied, before_change, page_copy_answered, new_page_answered, new_page_asked, parent_leaf_answered, touched_as, pages_cleared, eager_fork_answered, course_forked, copy_answered, copied_as}
use Rattle.kernel_meaning.specs.CellAccount.{CellAct, Touch, Store, Clear, Protect, Fork, Copy, Unmark, Drop, CellEntry, CellAccount, account_after, account_behind, account_of, empty_account, act_course, AllowsAct, AreEntriesBehind, AreEntries}

-- ---- lists of snapshots

same_number : (b : Bool) (leaf : Leaf) (it : Kept) → (cond b (record it { leaf = leaf }) it).number ≡ it.number
same_number true leaf it = refl
same_number false leaf it = refl

above-leaf : (n : ℕ) (test : Kept → Bool) (leaf : Leaf) (kept : List Kept) → AreAbove n kept → AreAbove n (with_leaf test leaf kept)
above-leaf n test leaf [] above = tt
above-leaf n test leaf (it ∷ others) above = (subst (λ k. n < k) (sym (same_number (test it) leaf it)) above.0, above-leaf n test leaf others above.1)

rising-leaf : (test : Kept → Bool) (leaf : Leaf) (kept : List Kept) → AreRising kept → AreRising (with_leaf test leaf kept)
rising-leaf test leaf [] rising = tt
rising-leaf test leaf (it ∷ others) rising = (
  subst (λ k. AreAbove k (with_leaf test leaf others)) (sym (same_number (test it) leaf it)) (above-leaf it.number test leaf others rising.0),
  rising-leaf test leaf others rising.1,
)

above-without : (n gone : ℕ) (kept : List Kept) → AreAbove n kept → AreAbove n (without_kept gone kept)
above-without n gone [] above = tt
above-without n gone (it ∷ others) above = by (not (it.number == gone)) (above-without n gone others above.1)
  where
    by : (b : Bool) → AreAbove n (without_kept gone others) → AreAbove n (cond b (it ∷ without_kept gone others) (without_kept gone others))
    by true rest = (above.0, rest)
    by false rest = rest

rising-without : (gone : ℕ) (kept : List Kept) → AreRising kept → AreRising (without_kept gone kept)
rising-without gone [] rising = tt
rising-without gone (it ∷ others) rising = by (not (it.number == gone)) (rising-without gone others rising.1)
  where
    by : (b : Bool) → AreRising (without_kept gone others) → AreRising (cond b (it ∷ without_kept gone others) (without_kept gone others))
    by true rest = (above-without it.number gone others rising.0, rest)
    by false rest = rest

above-more : (n m : ℕ) (kept : List Kept) → n < m → AreAbove m kept → AreAbove n kept
above-more n m [] less above = tt
above-more n m (it ∷ others) less above =
    let here : m < it.number = above.0 in
    (omega (arith, less, here), above-more n m others less above.1)

above-with : (n : ℕ) (new : Kept) (kept : List Kept) → n < new.number → AreAbove n kept → AreAbove n (with_kept new kept)
above-with n new [] less above = (less, tt)
above-with n new (it ∷ others) less above = by (nat_lt new.number it.number) (above-with n new others less above.1)
  where
    by : (b : Bool) → AreAbove n (with_kept new others) → AreAbove n (cond b (new ∷ it ∷ others) (it ∷ with_kept new others))
    by true rest = (less, (above.0, above.1))
    by false rest = (above.0, rest)

-- a number that is not there comes at its place
rising-with : (new : Kept) (kept : List Kept) → IsNone (kept_by kept new.number) → AreRising kept → AreRising (with_kept new kept)
rising-with new [] lacks rising = (tt, tt)
rising-with new (it ∷ others) lacks rising = by (it.number == new.number) (nat_lt new.number it.number) refl refl (λ lacks. rising-with new others lacks rising.1)
  where
    by : (same less : Bool) → (it.number == new.number) ≡ same → nat_lt new.number it.number ≡ less
        → (IsNone (kept_by others new.number) → AreRising (with_kept new others)) → AreRising (cond (nat_lt new.number it.number) (new ∷ it ∷ others) (it ∷ with_kept new others))
    by true less is_same is_less rest = absurd (true≢false (subst (λ b. IsNone (cond b (Some it) (kept_by others new.number))) is_same lacks))
    by false true is_same is_less rest =
        let below : new.number < it.number = grind (arith, is_less) in
        subst (λ b. AreRising (cond b (new ∷ it ∷ others) (it ∷ with_kept new others))) (sym is_less)
        ((below, above-more new.number it.number others below rising.0), rising)
    by false false is_same is_less rest =
        let above : it.number < new.number = grind (arith, is_less, is_same) in
        subst (λ b. AreRising (cond b (new ∷ it ∷ others) (it ∷ with_kept new others))) (sym is_less) (
          above-with it.number new others above rising.0,
          rest (subst (λ b. IsNone (cond b (Some it) (kept_by others new.number))) is_same lacks),
        )

-- ---- the acts

abbrev Rises : Course → Type 0
Rises course = AreRising course.cell.kept

either : (b : Bool) (x y : Course) → Rises x → Rises y → Rises (cond b x y)
either true x y here there = here
either false x y here there = there

leaf_copy-rises : (n : ℕ) (answer : Answer) (course : Course) → Rises course → Rises (leaf_copy_answered n answer course)
leaf_copy-rises n Yes course rises = rising-leaf (λ it. it.number == n) Own course.cell.kept rises
leaf_copy-rises n (No at) course rises = rising-leaf (λ it. it.number == n) _ course.cell.kept rises

leaves_copied-rises : (ns : List ℕ) (course : Course) → Rises course → Rises (leaves_copied ns course)
leaves_copied-rises [] course rises = rises
leaves_copied-rises (n ∷ ns) course rises = leaves_copied-rises ns (leaf_copied n course) (leaf_copy-rises n (coming_answer course) (asking want.Leaf course) rises)

before_change-rises : (course : Course) → Rises course → Rises (before_change course)
before_change-rises course rises =
    let unshared : Course = leaves_copied (numbers_where is_shared course.cell) course in
    leaves_copied-rises (numbers_where is_marked unshared.cell) unshared (leaves_copied-rises (numbers_where is_shared course.cell) course rises)

page_copy-rises : (page version : ℕ) (answer : Answer) (course : Course) → Rises course → Rises (page_copy_answered page version answer course)
page_copy-rises page version Yes course rises = rises
page_copy-rises page version (No at) course rises = rising-leaf _ _ course.cell.kept rises

new_page-rises : (page leaves : ℕ) (answer : Answer) (course : Course) → Rises course → Rises (new_page_answered page leaves answer course)
new_page-rises page leaves Yes course rises = rises
new_page-rises page leaves (No at) course rises = rises

parent_leaf-rises : (page : ℕ) (answer : Answer) (course : Course) → Rises course → Rises (parent_leaf_answered page answer course)
parent_leaf-rises page Yes course rises =
    new_page-rises page 1 (coming_answer (before_change course)) (asking want.Page (before_change course)) (before_change-rises course rises)
parent_leaf-rises page (No at) course rises = rises

touched_as-rises : (found : Option ℕ) (page : ℕ) (course : Course) → Rises course → Rises (touched_as found page course)
touched_as-rises None page course rises =
    either (has_pages course.cell.parent) (new_page_asked page 0 (before_change course)) (parent_leaf_answered page (coming_answer course) (asking want.Leaf course))
    (new_page-rises page 0 (coming_answer (before_change course)) (asking want.Page (before_change course)) (before_change-rises course rises))
    (parent_leaf-rises page (coming_answer course) (asking want.Leaf course) rises)
touched_as-rises (Some version) page course rises =
    let changed : Course = before_change course in
    either (is_named changed.cell page version) (page_copy_answered page version (coming_answer changed) (asking want.Page changed)) changed
    (page_copy-rises page version (coming_answer changed) (asking want.Page changed) (before_change-rises course rises)) (before_change-rises course rises)

eager-rises : (n : ℕ) (answer : Answer) (course : Course) → IsNone (kept_by course.cell.kept n) → Rises course → Rises (eager_fork_answered n answer course)
eager-rises n Yes course lacks rises = rising-with (record { number = n; mode = Eager; versions = course.cell.parent; leaf = Own }) course.cell.kept lacks rises
eager-rises n (No at) course lacks rises = rises

forked-rises : (n : ℕ) (mode : Mode) (course : Course) → IsNone (kept_by course.cell.kept n) → Rises course
    → Rises (course_forked n mode course)
forked-rises n Eager course lacks rises = eager-rises n (coming_answer course) (asking want.Leaf course) lacks rises
forked-rises n OnDemand course lacks rises = rising-with (record { number = n; mode = OnDemand; versions = course.cell.parent; leaf = Joined }) course.cell.kept lacks rises
forked-rises n Async course lacks rises = rising-with (record { number = n; mode = Async; versions = course.cell.parent; leaf = Joined }) course.cell.kept lacks rises

copy-rises : (n : ℕ) (answer : Answer) (course : Course) → Rises course → Rises (copy_answered n answer course)
copy-rises n Yes course rises = rising-leaf (λ it. it.number == n) Own course.cell.kept rises
copy-rises n (No at) course rises = rises

copied_as-rises : (found : Option Kept) (n : ℕ) (course : Course) → Rises course → Rises (copied_as found n course)
copied_as-rises None n course rises = rises
copied_as-rises (Some kept) n course rises =
    either (is_marked kept) (copy_answered n (coming_answer course) (asking want.Leaf course)) course (copy-rises n (coming_answer course) (asking want.Leaf course) rises) rises

act-rises : (act : CellAct) (course : Course) → AllowsAct course.cell act → Rises course → Rises (act_course act course)
act-rises (Touch page) course allowed rises = touched_as-rises (version_at course.cell.parent page) page course rises
act-rises (Store page at bytes) course allowed rises = rises
act-rises (Clear first n) course allowed rises =
    either (has_present course.cell.parent first n) (pages_cleared first n (before_change course)) course (before_change-rises course rises) rises
act-rises (Protect first n perm) course allowed rises = either (has_present course.cell.parent first n) (before_change course) course (before_change-rises course rises) rises
act-rises (Fork n mode seat) course allowed rises = forked-rises n mode course allowed.2 rises
act-rises (Copy n) course allowed rises = copied_as-rises (kept_by course.cell.kept n) n course rises
act-rises (Unmark n) course allowed rises = rising-without n course.cell.kept rises
act-rises (Drop n) course allowed rises = rising-without n course.cell.kept rises

-- ---- the entries

behind-append : (account : CellAccount) (before entries : List CellEntry) → account_behind account (before ++ entries) ≡ account_behind (account_behind account before) entries
behind-append account [] entries = refl
behind-append account (entry ∷ before) entries = behind-append (account_after account entry) before entries

rising-behind : (before entries : List CellEntry) → AreRising (account_of before).state.leaves.kept → AreEntriesBehind before entries → AreRising (account_of (before ++ entries)).state.leaves.kept
rising-behind before [] rising are = subst (λ account. AreRising account.state.leaves.kept) (sym (behind-append empty_account before [])) rising
rising-behind before (entry ∷ entries) rising are =
    let next : AreRising (account_of (before ++ entry ∷ [])).state.leaves.kept =
    subst (λ account. AreRising account.state.leaves.kept) (sym (behind-append empty_account before (entry ∷ [])))
    (act-rises entry.act (opening_course (account_of before).state.leaves (opening_requests (account_of before).made entry.answers)) are.0.allowed rising) in
    let all : AreRising (account_of ((before ++ entry ∷ []) ++ entries)).state.leaves.kept = rising-behind (before ++ entry ∷ []) entries next are.1 in
    subst (λ account. AreRising account.state.leaves.kept)
    (behind-append empty_account (before ++ entry ∷ []) entries ∙ ap (λ account. account_behind account entries) (behind-append empty_account before (entry ∷ []))
    ∙ sym (behind-append empty_account before (entry ∷ entries))) all

pub cell_log-rises : (entries : List CellEntry) → AreEntries entries → AreRising (account_of entries).state.leaves.kept
cell_log-rises entries are = rising-behind [] entries tt are
