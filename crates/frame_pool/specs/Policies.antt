-- What may be known of a policy, and how an ask changes it.
use Rattle.std.specs.Prelude.{◌≡◌, ◌≢◌, ℕ, ◌+◌, ◌<◌, ◌≤◌, Bool, true, false, if◌then◌else◌, List, [], ◌∷◌, ◌++◌, length, filter, not, All, Option, Some, None}
use Rattle.vm_base.specs.Counts.{next_count}
use Rattle.vm_base.specs.declared.frame_request.Asker.TheVariants.{Parent}
use Rattle.frame_pool.specs.declared.ask.Ask.{Ask}

-- how many asks have reached a policy, how often it has denied, how many denials it may still make, whether it spares the parent, whether it is done, and its answer to an ask that would come now
pub record PolicyView : Type 0 where
  pub reached : ℕ
  pub denials : ℕ
  pub left : Option ℕ
  pub spares : Bool
  pub done : Bool
  pub answers : Ask → Bool

-- the denials that may still come have not become more, where their number is told
abbrev pub NotRaised : Option ℕ → Option ℕ → Type 0
NotRaised None new = new ≡ None
NotRaised (Some old) None = ⊥
NotRaised (Some old) (Some new) = new ≤ old

-- the denials that may still come have become fewer, where their number is told
abbrev pub Lowered : Option ℕ → Option ℕ → Type 0
Lowered None new = new ≡ None
Lowered (Some old) None = ⊥
Lowered (Some old) (Some new) = new < old

-- a policy was asked and granted, as it told before
pub record Grants (ask : Ask) (old new : PolicyView) : Type 0 where
  pub answered : old.answers ask ≡ true
  pub reached : new.reached ≡ next_count old.reached
  pub denials : new.denials ≡ old.denials
  pub left : NotRaised old.left new.left
  pub spares : new.spares ≡ old.spares

-- a policy was asked and denied, as it told before; one that spares the parent does not deny a request of it
pub record Denies (ask : Ask) (old new : PolicyView) : Type 0 where
  pub answered : old.answers ask ≡ false
  pub reached : new.reached ≡ next_count old.reached
  pub denials : next_count old.denials ≤ new.denials
  pub left : Lowered old.left new.left
  pub spares : new.spares ≡ old.spares
  pub spared : old.spares ≡ true → ask.asker ≢ Parent

-- the policies of a list that are not done
abbrev pub standing : List PolicyView → List PolicyView
standing policies = filter (λ policy. not policy.done) policies

-- no policy of a list is done
abbrev pub NoneIsDone : List PolicyView → Type 0
NoneIsDone policies = All (λ policy. policy.done ≡ false) policies

-- a policy that is done has left the list
abbrev pub kept : PolicyView → List PolicyView → List PolicyView
kept policy behind = if policy.done then behind else policy ∷ behind

-- each policy of a list was asked this in turn and granted: what those that are not done are then
abbrev pub AllGrant : Ask → List PolicyView → List PolicyView → Type 0
AllGrant ask [] new = new ≡ []
AllGrant ask (policy ∷ behind) new =
    (after : PolicyView) × ((rest : List PolicyView) × ((Grants ask policy after) × (AllGrant ask behind rest) × (new ≡ kept after rest)))

-- the policy at a place of a list denied an ask: those before it were asked the same and granted, and those behind it were not asked
pub record DeniesAt (ask : Ask) (place : ℕ) (old new : List PolicyView) : Type 0 where
  pub before : List PolicyView
  pub policy : PolicyView
  pub behind : List PolicyView
  pub was : old ≡ before ++ policy ∷ behind
  pub here : length before ≡ place
  pub granted : List PolicyView
  pub asked : AllGrant ask before granted
  pub after : PolicyView
  pub denied : Denies ask policy after
  pub is : new ≡ granted ++ kept after behind

-- the sum of two numbers, where both are told
abbrev pub told_sum : Option ℕ → Option ℕ → Option ℕ
told_sum None more = None
told_sum (Some first) None = None
told_sum (Some first) (Some second) = Some (first + second)

-- how many denials may still come from all of them, where each tells it
abbrev pub left_of_all : List PolicyView → Option ℕ
left_of_all [] = Some 0
left_of_all (policy ∷ behind) = told_sum policy.left (left_of_all behind)

-- each of them grants what the parent asks for
abbrev pub AllSpare : List PolicyView → Type 0
AllSpare policies = All (λ policy. policy.spares ≡ true) policies

-- a number that was told is still told, and not more than it was
abbrev pub StaysWithin : Option ℕ → Option ℕ → Type 0
StaysWithin None new = Unit {0}
StaysWithin (Some old) None = ⊥
StaysWithin (Some old) (Some new) = new ≤ old

-- a number that was told is still told, and less than it was
abbrev pub FallsBelow : Option ℕ → Option ℕ → Type 0
FallsBelow None new = Unit {0}
FallsBelow (Some old) None = ⊥
FallsBelow (Some old) (Some new) = new < old
