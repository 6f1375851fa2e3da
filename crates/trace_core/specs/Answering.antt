-- How the requests that a supply answers, one run after another, are answered as they may be.
use Rattle.std.specs.Prelude.{◌≡◌, ℕ, ◌+◌, ◌-◌, ◌≤◌, IsTrue, nat_lt, if◌then◌else◌, List, [], ◌∷◌, ◌++◌, count_by, Option, Some, None}
use Rattle.vm_base.specs.Counts.{next_count}
use Rattle.vm_base.specs.Deals.{Deal, Granted, Denied, Returned, LeadsAlong}
use Rattle.kernel_meaning.specs.RefusedRequests.{Request, requests_of, out_after, count_after, is_by_policy, PolicySum, AreAnswered}
use Rattle.trace_core.specs.SupplyState.{SupplyState, SupplyGoes}

-- each refusal among the deals of one asker carries its count, which had this value before
abbrev pub AreCounted : ℕ → List Deal → Type 0
AreCounted count [] = Unit {0}
AreCounted count (Granted want ∷ deals) = AreCounted count deals
AreCounted count (Denied want at ∷ deals) = (at ≡ next_count count) × AreCounted (next_count count) deals
AreCounted count (Returned ∷ deals) = AreCounted count deals

-- how many requests were made behind deals
abbrev pub made_after : ℕ → List Deal → ℕ
made_after made [] = made
made_after made (Granted want ∷ deals) = made_after (made + 1) deals
made_after made (Denied want at ∷ deals) = made_after (made + 1) deals
made_after made (Returned ∷ deals) = made_after made deals

-- the refusal that is pending behind so many requests, where a line named this one of the run: none where that was made
abbrev pub pending_of : Option ℕ → ℕ → Option ℕ
pending_of None made = None
pending_of (Some number) made = if nat_lt made number then Some (number - made) else None

-- of the denials that policies had left, so many were made, and these are left, where the number was told
abbrev pub HasLeft : Option ℕ → ℕ → Option ℕ → Type 0
HasLeft None denied now = Unit {0}
HasLeft (Some opening) denied None = ⊥
HasLeft (Some opening) denied (Some left) = denied + left ≤ opening

-- the requests of a run so far were answered as they may be by what was known of the policies at its start, and have led to what is known of them now
pub record HaveLed (frames : ℕ) (opening : PolicySum) (requests : List Request) (now : PolicySum) : Type 0 where
  pub answered : AreAnswered frames opening requests
  pub is_empty : IsTrue opening.is_empty → IsTrue now.is_empty
  pub left : HasLeft opening.left (count_by (is_by_policy frames) requests) now.left
  pub spares : IsTrue opening.spares → IsTrue now.spares

-- deals of one asker have led a supply on, behind the requests of a run so far: those of the deals were answered as they may be too, and the supply has counted them
pub record LeadOn (opening : PolicySum) (named : Option ℕ) (made : ℕ) (requests : List Request) (from : SupplyState) (deals : List Deal) (to : SupplyState) : Type 0 where
  pub led : HaveLed from.made opening (requests ++ requests_of from.asker named made from.out deals) to.policies
  pub all : to.made ≡ from.made
  pub out : to.out ≡ out_after from.out deals
  pub asker : to.asker ≡ from.asker
  pub refused : to.refused ≡ count_after from.refused deals
  pub counted : AreCounted from.refused deals
  pub pending : to.pending ≡ pending_of named (made_after made deals)

-- behind no request nothing has changed
abbrev pub NoRequestHasLed : Type 0
NoRequestHasLed = (frames : ℕ) (opening : PolicySum) → HaveLed frames opening [] opening

-- whatever requests a run has made so far, the deals of a supply lead them on
abbrev pub DealsLeadOn : Type 0
DealsLeadOn = (opening : PolicySum) (named : Option ℕ) (made : ℕ) (requests : List Request) (from to : SupplyState) (deals : List Deal)
    → from.pending ≡ pending_of named made → HaveLed from.made opening requests from.policies
    → LeadsAlong SupplyGoes from deals to → LeadOn opening named made requests from deals to
