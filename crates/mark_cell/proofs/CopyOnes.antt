-- What a copy that a snapshot makes comes to, by the state of its leaf.
use Rattle.std.proofs.Common.{◌≡◌, ℕ, ◌+◌, List, [], ◌∷◌, Option, Some, None, refl, sym, ◌∙◌, ap, subst, arith, ◌⊎◌, inl, inr}
use Rattle.std.specs.Prelude.{Bool, true, false, Ok, Err}
use Rattle.std.proofs.lemmas.Bool.{false≢true}
use Rattle.vm_base.specs.Deals.{Deal, Granted, Denied, LeadsAlong}
use Rattle.vm_base.specs.declared.refusals.Refused.{Refused}
use Rattle.vm_base.specs.declared.frame_request.Want.TheVariants as want
use Rattle.vm_base.specs.declared.fork_mode.Mode.{Mode}
use Rattle.vm_base.specs.declared.fork_mode.Mode.TheVariants.{Eager, OnDemand, Async}
use Rattle.kernel_meaning.specs.Requests.{Answer, Yes, No, opening_requests}
use Rattle.kernel_meaning.specs.Leaves.{Versions, Leaf, Own, Joined, Lost, Kept, kept_by}
use Rattle.kernel_meaning.specs.CellActs.{Course, CopyEnd, NothingToCopy, FoundLost, opening_course, copied_as, copy_answered, copy_end_as, answer_end, coming_answer, asking, leaf_copy_answered}
use Rattle.kernel_meaning.specs.CellAccount.{CellAccount, Copy}
use Rattle.leaf_cell.specs.declared.snapshot.LeafState.{LeafState}
use Rattle.leaf_cell.specs.declared.snapshot.LeafState.TheVariants as state
use Rattle.leaf_cell.specs.CellView.{CellView}
use Rattle.leaf_cell.specs.States.{leaf_state, state_of}
use Rattle.leaf_cell.specs.Standing.{StandsFor, TakesAccount, TakesPart, course_behind}
use Rattle.leaf_cell.proofs.AllowedActs.{allowed-stands}
use Rattle.leaf_cell.proofs.TouchActs.{account_of_course, stands-made}
use Rattle.mark_cell.specs.declared.marks.Copied.TheVariants as copied
use Rattle.mark_cell.specs.OneCopy.{MadeCopy}

-- the state is that of a mark
abbrev pub is_mark : LeafState → Bool
is_mark state.Absent = false
is_mark state.Own = false
is_mark state.Shared = false
is_mark state.Marked = true
is_mark (state.Lost at) = false

-- what a copy tells where there is no mark
abbrev pub state_end : LeafState → CopyEnd
state_end state.Absent = NothingToCopy
state_end state.Own = NothingToCopy
state_end state.Shared = NothingToCopy
state_end state.Marked = NothingToCopy
state_end (state.Lost at) = FoundLost at

abbrev kept_of : ℕ → Versions → Mode → Leaf → Option Kept
kept_of number versions mode leaf = Some (record { number = number; mode = mode; versions = versions; leaf = leaf })

module _ (n : ℕ) (course : Course) (answer : Answer) where
  pub marked-runs : (o : Option Kept) → is_mark (state_of o) ≡ true
      → (copied_as o n course ≡ copy_answered n (coming_answer course) (asking want.Leaf course))
      × (copy_end_as o answer ≡ answer_end answer)
  marked-runs None e = absurd (false≢true e)
  marked-runs (Some it) e = by it.mode it.leaf e
    where
      by : (mode : Mode) (leaf : Leaf) → is_mark (leaf_state mode leaf) ≡ true
          → (copied_as (kept_of it.number it.versions mode leaf) n course
          ≡ copy_answered n (coming_answer course) (asking want.Leaf course))
          × (copy_end_as (kept_of it.number it.versions mode leaf) answer ≡ answer_end answer)
      by Eager Own e = absurd (false≢true e)
      by Eager Joined e = absurd (false≢true e)
      by Eager (Lost at) e = absurd (false≢true e)
      by OnDemand Own e = absurd (false≢true e)
      by OnDemand Joined e = absurd (false≢true e)
      by OnDemand (Lost at) e = absurd (false≢true e)
      by Async Own e = absurd (false≢true e)
      by Async Joined e = (refl, refl)
      by Async (Lost at) e = absurd (false≢true e)

  pub unmarked-runs : (o : Option Kept) → is_mark (state_of o) ≡ false → (copied_as o n course ≡ course)
      × (copy_end_as o answer ≡ state_end (state_of o))
  unmarked-runs None e = (refl, refl)
  unmarked-runs (Some it) e = by it.mode it.leaf e
    where
      by : (mode : Mode) (leaf : Leaf) → is_mark (leaf_state mode leaf) ≡ false
          → (copied_as (kept_of it.number it.versions mode leaf) n course ≡ course)
          × (copy_end_as (kept_of it.number it.versions mode leaf) answer ≡ state_end (leaf_state mode leaf))
      by Eager Own e = (refl, refl)
      by Eager Joined e = (refl, refl)
      by Eager (Lost at) e = (refl, refl)
      by OnDemand Own e = (refl, refl)
      by OnDemand Joined e = (refl, refl)
      by OnDemand (Lost at) e = (refl, refl)
      by Async Own e = (refl, refl)
      by Async Joined e = absurd (false≢true (sym e))
      by Async (Lost at) e = (refl, refl)

abbrev start_of : CellAccount → List Answer → Course
start_of account answers = opening_course account.state.leaves (opening_requests account.made answers)

-- an act that ran this course
takes-copy : (n : ℕ) (old new : CellView) (deals : List Deal) (refused : Option ℕ) (account : CellAccount) → StandsFor old account
    → (course : Course)
    → course_behind (Copy n) account deals ≡ course → StandsFor new (account_of_course (Copy n) account course)
    → course.requests.deals ≡ deals → course.refused ≡ refused
    → TakesAccount (Copy n) old new deals refused account
takes-copy n old new deals refused account stood course runs stands asked ended = record {
  allowed = allowed-stands old account stood (Copy n);
  stands = subst (λ c. StandsFor new (account_of_course (Copy n) account c)) (sym runs) stands;
  asked = ap (λ c. c.requests.deals) runs ∙ asked;
  ended = ap (λ c. c.refused) runs ∙ ended;
}

module _ {State : Type 0} (goes : State → Deal → State → Type 0) (from : State) (n : ℕ) (old : CellView) where
  -- the frame of a marked leaf was granted
  pub made-copied : (to : State) (new : CellView) → goes from (Granted want.Leaf) to
      → ((account : CellAccount) → StandsFor old account → is_mark (state_of (kept_by account.state.leaves.kept n)) ≡ true)
      → ((account : CellAccount) → StandsFor old account → TakesPart (leaf_copy_answered n Yes) old new [] account)
      → MadeCopy goes from to n old new (Ok copied.Copied)
  made-copied to new granted marked owned = record {
    deals = Granted want.Leaf ∷ [];
    led = (to, (granted, refl));
    follows = λ account stands. takes-copy n old new (Granted want.Leaf ∷ []) None account stands
        (copy_answered n Yes (asking want.Leaf (start_of account (Yes ∷ []))))
        (marked-runs n (start_of account (Yes ∷ [])) Yes (kept_by account.state.leaves.kept n) (marked account stands)).0
        (owned (record account { made = account.made + 1 }) (stands-made old account (account.made + 1) stands (omega arith))).stands refl
        refl;
    told = λ account stands. (marked-runs n (start_of account (Yes ∷ [])) Yes (kept_by account.state.leaves.kept n)
        (marked account stands)).1;
  }

  -- it was refused
  pub made-denied : (to : State) (refused : Refused) → goes from (Denied want.Leaf refused.at) to
      → ((account : CellAccount) → StandsFor old account → is_mark (state_of (kept_by account.state.leaves.kept n)) ≡ true)
      → MadeCopy goes from to n old old (Err refused)
  made-denied to refused denied marked = record {
    deals = Denied want.Leaf refused.at ∷ [];
    led = (to, (denied, refl));
    follows = λ account stands. takes-copy n old old (Denied want.Leaf refused.at ∷ []) (Some refused.at) account stands
        (copy_answered n (No refused.at) (asking want.Leaf (start_of account (No refused.at ∷ []))))
        (marked-runs n (start_of account (No refused.at ∷ [])) (No refused.at) (kept_by account.state.leaves.kept n)
        (marked account stands)).0
        (stands-made old account (account.made + 1) stands (omega arith)) refl refl;
    told = λ account stands. (marked-runs n (start_of account (No refused.at ∷ [])) (No refused.at) (kept_by account.state.leaves.kept n)
        (marked account stands)).1;
  }

  -- there was no mark
  unmarked : (s : LeafState) → is_mark s ≡ false → ((account : CellAccount) → StandsFor old account
      → s ≡ state_of (kept_by account.state.leaves.kept n))
      → (account : CellAccount) → StandsFor old account → TakesAccount (Copy n) old old [] None account
      × (copy_end_as (kept_by account.state.leaves.kept n) Yes ≡ state_end s)
  unmarked s none told account stands =
      let runs : (copied_as (kept_by account.state.leaves.kept n) n (start_of account []) ≡ start_of account [])
      × (copy_end_as (kept_by account.state.leaves.kept n) Yes ≡ state_end (state_of (kept_by account.state.leaves.kept n))) =
      unmarked-runs n (start_of account []) Yes (kept_by account.state.leaves.kept n) (ap is_mark (sym (told account stands)) ∙ none) in (
        takes-copy n old old [] None account stands (start_of account []) runs.0 stands refl refl,
        runs.1 ∙ ap state_end (sym (told account stands)),
      )

  pub made-nothing : (s : LeafState) → is_mark s ≡ false → state_end s ≡ NothingToCopy
      → ((account : CellAccount) → StandsFor old account → s ≡ state_of (kept_by account.state.leaves.kept n))
      → MadeCopy goes from from n old old (Ok copied.Nothing)
  made-nothing s none ends told = record {
    deals = [];
    led = refl;
    follows = λ account stands. (unmarked s none told account stands).0;
    told = λ account stands. (unmarked s none told account stands).1 ∙ ends;
  }

  pub made-lost : (at : ℕ) → ((account : CellAccount) → StandsFor old account
      → state.Lost at ≡ state_of (kept_by account.state.leaves.kept n))
      → MadeCopy goes from from n old old (Ok (copied.Lost at))
  made-lost at told = record {
    deals = [];
    led = refl;
    follows = λ account stands. (unmarked (state.Lost at) refl told account stands).0;
    told = λ account stands. (unmarked (state.Lost at) refl told account stands).1;
  }

-- no mark is there, and nothing lost
pub no-mark : (s : LeafState) → (s ≡ state.Absent) ⊎ ((s ≡ state.Own) ⊎ (s ≡ state.Shared)) → (is_mark s ≡ false)
    × (state_end s ≡ NothingToCopy)
no-mark s (inl absent) = (ap is_mark absent, ap state_end absent)
no-mark s (inr (inl own)) = (ap is_mark own, ap state_end own)
no-mark s (inr (inr shared)) = (ap is_mark shared, ap state_end shared)
