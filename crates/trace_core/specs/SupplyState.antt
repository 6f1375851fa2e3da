-- What may be known of where the kernel's frames come from, and how each deal changes it.
use Rattle.std.specs.Prelude.{◌≡◌, ◌≢◌, ℕ, ◌+◌, ◌-◌, ◌<◌, ◌==◌, ◌⊎◌, Bool, true, false, if◌then◌else◌, IsTrue, nat_lt, List, length, Option, Some, None}
use Rattle.std.specs.List.{list_all}
use Rattle.vm_base.specs.declared.frame_request.Asker.{Asker}
use Rattle.vm_base.specs.declared.frame_request.Asker.TheVariants.{Parent}
use Rattle.vm_base.specs.Counts.{next_count}
use Rattle.vm_base.specs.Deals.{Deal, Granted, Denied, Returned}
use Rattle.vm_base.specs.declared.frame_request.Want.{Want}
use Rattle.frame_pool.specs.declared.ask.Ask.{Ask}
use Rattle.frame_pool.specs.Policies.{PolicyView, AllGrant, DeniesAt, standing, left_of_all, StaysWithin, FallsBelow}
use Rattle.frame_pool.specs.Frames.{PoolView}
use Rattle.kernel_meaning.specs.RefusedRequests.{PolicySum}

-- the frames made and those out, who asks and how often it was refused, which of the requests that follow is to be refused, counted from 1, how often policies were asked, the policies in their order, and what is known of them all
pub record SupplyState : Type 0 where
  pub made : ℕ
  pub out : ℕ
  pub asker : Asker
  pub refused : ℕ
  pub pending : Option ℕ
  pub asks : ℕ
  pub listed : List PolicyView
  pub policies : PolicySum

-- what is known of all policies of a list
abbrev pub policy_sum : List PolicyView → PolicySum
policy_sum policies = record {
  is_empty = length policies == 0;
  left = left_of_all policies;
  spares = list_all (λ policy. policy.spares) policies;
}

-- the state of a supply that has this pool
abbrev pub supply_state_of : PoolView → Asker → ℕ → Option ℕ → SupplyState
supply_state_of pool asker refused pending = record {
  made = pool.made;
  out = pool.made - length pool.free;
  asker = asker;
  refused = refused;
  pending = pending;
  asks = pool.asks;
  listed = pool.policies;
  policies = policy_sum pool.policies;
}

-- the parent asks, all frames are there, no policy of the list was asked, and nothing was refused
abbrev pub opening_supply : ℕ → List PolicyView → SupplyState
opening_supply frames listed = record {
  made = frames;
  out = 0;
  asker = Parent;
  refused = 0;
  pending = None;
  asks = 0;
  listed = listed;
  policies = policy_sum listed;
}

-- what the policies are asked where a frame is requested in a state
abbrev pub supply_ask : Want → SupplyState → Ask
supply_ask want state = record {
  asker = state.asker;
  want = want;
  free = state.made - state.out;
  place = next_count state.asks;
}

-- the refusal that is pending is for the request that comes next
abbrev pub is_next : Option ℕ → Bool
is_next None = false
is_next (Some nth) = nth == 1

-- the refusal that is pending behind one request more: none where it was for this one
abbrev pub pending_behind : Option ℕ → Option ℕ
pending_behind None = None
pending_behind (Some nth) = if nat_lt 1 nth then Some (nth - 1) else None

-- no denial was made: the policies have as many left as before at most, and if there was none or all spare the parent, so it still is
pub record PoliciesStay (old new : PolicySum) : Type 0 where
  pub is_empty : IsTrue old.is_empty → IsTrue new.is_empty
  pub left : StaysWithin old.left new.left
  pub spares : IsTrue old.spares → IsTrue new.spares

-- one of the policies denied: there was one, they have fewer denials left, and where all spare the parent it was not the parent that asked
pub record PoliciesDeny (asker : Asker) (old new : PolicySum) : Type 0 where
  pub some : old.is_empty ≡ false
  pub left : FallsBelow old.left new.left
  pub spared : IsTrue old.spares → asker ≢ Parent
  pub spares : IsTrue old.spares → IsTrue new.spares

-- no policy was asked: nothing of them has changed
pub record IsUnasked (old new : SupplyState) : Type 0 where
  pub asks : new.asks ≡ old.asks
  pub listed : new.listed ≡ old.listed
  pub policies : new.policies ≡ old.policies

-- a frame was granted: one was there, no pending refusal was for this request, and each policy of the list was asked and granted it
pub record IsGranted (want : Want) (old new : SupplyState) : Type 0 where
  pub unnamed : is_next old.pending ≡ false
  pub some_free : old.out < old.made
  pub asked : AllGrant (supply_ask want old) (standing old.listed) new.listed
  pub policies : PoliciesStay old.policies new.policies
  pub is : new ≡ record old {
    out = old.out + 1;
    pending = pending_behind old.pending;
    asks = next_count old.asks;
    listed = new.listed;
    policies = new.policies;
  }

-- why a request was refused: the pending refusal was for it, and the pool was not asked
pub record IsNamed (old new : SupplyState) : Type 0 where
  pub named : is_next old.pending ≡ true
  pub unasked : IsUnasked old new

-- or the pool was empty, and asked no policy
pub record IsSpent (old new : SupplyState) : Type 0 where
  pub unnamed : is_next old.pending ≡ false
  pub none_free : old.out ≡ old.made
  pub unasked : IsUnasked old new

-- or the policy at a place of the list was asked for a frame that was there, and denied it
pub record IsByPolicy (want : Want) (old new : SupplyState) : Type 0 where
  pub unnamed : is_next old.pending ≡ false
  pub some_free : old.out < old.made
  pub place : ℕ
  pub denied : DeniesAt (supply_ask want old) place (standing old.listed) new.listed
  pub asks : new.asks ≡ next_count old.asks
  pub policies : PoliciesDeny old.asker old.policies new.policies

-- a request was refused, with the asker's new count
pub record IsRefused (want : Want) (at : ℕ) (old new : SupplyState) : Type 0 where
  pub cause : IsNamed old new ⊎ (IsSpent old new ⊎ IsByPolicy want old new)
  pub count : at ≡ next_count old.refused
  pub is : new ≡ record old {
    refused = next_count old.refused;
    pending = pending_behind old.pending;
    asks = new.asks;
    listed = new.listed;
    policies = new.policies;
  }

-- a frame came back
pub record IsReturned (old new : SupplyState) : Type 0 where
  pub some_out : 0 < old.out
  pub is : new ≡ record old { out = old.out - 1 }

-- which deals may come in a state, and which states they leave
abbrev pub SupplyGoes : SupplyState → Deal → SupplyState → Type 0
SupplyGoes old (Granted want) new = IsGranted want old new
SupplyGoes old (Denied want at) new = IsRefused want at old new
SupplyGoes old Returned new = IsReturned old new
