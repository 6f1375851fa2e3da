-- Frames asked for and given back, one after another.
use Rattle.std.specs.Prelude.{◌≡◌, ℕ, ◌+◌, List, [], ◌∷◌, Option, Some, None, Result, Ok, Err}
use Rattle.vm_base.specs.declared.frame_request.Want.{Want}
use Rattle.vm_base.specs.declared.refusals.Refused.{Refused}
use Rattle.vm_base.specs.Counts.{next_count}

-- what one call did: a frame was granted for a want; a want was refused, with the count of refused requests then; or a frame was given back
pub data Deal : Type 0 where
  Granted : Want → Deal
  Denied : Want → ℕ → Deal
  Returned : Deal

-- these deals, one after another, lead from a state to a state along a relation of single deals
abbrev pub LeadsAlong : {State : Type 0} → (State → Deal → State → Type 0) → State → List Deal → State → Type 0
LeadsAlong goes old [] new = new ≡ old
LeadsAlong {State} goes old (deal ∷ deals) new = (next : State) × (goes old deal next × LeadsAlong goes next deals new)

-- the count of refused requests rose by one exactly where the call was refused, and the answer carries it
abbrev pub Counts : {State X : Type 0} → (State → ℕ) → State → Result X Refused → State → Type 0
Counts refused old (Ok done) new = refused new ≡ refused old
Counts refused old (Err e) new = (refused new ≡ next_count (refused old)) × (e.at ≡ refused new)

-- one of the frames that may still be granted was, where their number is told
abbrev pub SpendsOne : Option ℕ → Option ℕ → Type 0
SpendsOne None new = new ≡ None
SpendsOne (Some old) None = ⊥
SpendsOne (Some old) (Some new) = new + 1 ≡ old
