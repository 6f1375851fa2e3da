-- What a call of the pool does to the state of a supply.
use Rattle.std.proofs.Common.{◌≡◌, ℕ, ◌+◌, ◌-◌, ◌<◌, ◌≤◌, ◌==◌, inl, inr, Bool, true, false, List, [], ◌∷◌, ◌++◌, length, Option, refl, ◌∙◌, ap, subst, arith}
use Rattle.std.proofs.lemmas.List.{length-append}
use Rattle.std.proofs.lemmas.List.Elements.{All-head, All-tail, All-cons, All-nil}
use Rattle.std.specs.Prelude.{◌&&◌, None, IsErrOf, Err}
use Rattle.std.specs.List.{list_all}
use Rattle.std.specs.List.{range_with_len}
use Rattle.std.proofs.lemmas.List.FromFn.{length-range_with_len}
use Rattle.vm_base.specs.Counts.{next_count}
use Rattle.vm_base.specs.Frames.{FrameView}
use Rattle.vm_base.specs.declared.frame_request.Asker.{Asker}
use Rattle.vm_base.specs.declared.frame_request.Asker.TheVariants.{Parent}
use Rattle.vm_base.specs.declared.frame_request.Want.{Want}
use Rattle.frame_pool.specs.Policies.{PolicyView, AllGrant, DeniesAt, AllSpare, standing}
use Rattle.frame_pool.specs.declared.ask.Ask.{Ask}
use Rattle.frame_pool.specs.Frames.{PoolView, ask_of, TakesOut, IsDenied}
use Rattle.frame_pool.proofs.LeftLemmas.{left-taken, left-denied}
use Rattle.frame_pool.proofs.SparingLemmas.{spares-taken, spares-denied, spares-parent}
use Rattle.frame_pool.specs.declared.one_pool.Why.{Why}
use Rattle.frame_pool.specs.declared.one_pool.Why.TheVariants.{Empty, Denied}
use Rattle.trace_core.specs.SupplyState.{SupplyState, supply_state_of, opening_supply, supply_ask, policy_sum, is_next, pending_behind, PoliciesStay, PoliciesDeny, IsGranted, IsRefused}

-- all spare the parent, as a test and as a fact of each
abbrev spares_all : List PolicyView → Bool
spares_all policies = list_all (λ policy. policy.spares) policies

both_true : (a b : Bool) → (a && b) ≡ true → (a ≡ true) × (b ≡ true)
both_true true b both = (refl, both)
both_true false b both = absurd (grind arith)

each_spares : (policies : List PolicyView) → spares_all policies ≡ true → AllSpare policies
each_spares [] all = All-nil (λ policy. policy.spares ≡ true)
each_spares (policy ∷ policies) all =
    let both = both_true policy.spares (spares_all policies) all in
    All-cons (λ policy. policy.spares ≡ true) policy policies both.0 (each_spares policies both.1)

all_spare : (policies : List PolicyView) → AllSpare policies → spares_all policies ≡ true
all_spare [] all = refl
all_spare (policy ∷ policies) all =
    ap (λ here. here && spares_all policies) (All-head (λ policy. policy.spares ≡ true) policy policies all)
    ∙ all_spare policies (All-tail (λ policy. policy.spares ≡ true) policy policies all)

-- where there was no policy, there is none
still_empty : (ask : Ask) (old new : List PolicyView) → (length old == 0) ≡ true → AllGrant ask (standing old) new → (length new == 0) ≡ true
still_empty ask [] new none all = ap (λ list. length list == 0) all
still_empty ask (policy ∷ old) new none all = absurd (grind arith)

-- where one denied, there was one
was_some : (old before : List PolicyView) (policy : PolicyView) (behind : List PolicyView) → standing old ≡ before ++ policy ∷ behind → (length old == 0) ≡ false
was_some [] before policy behind is =
    let lengths : length (standing []) ≡ length before + length (policy ∷ behind) = ap length is ∙ length-append before (policy ∷ behind) in absurd (grind arith)
was_some (other ∷ old) before policy behind is = grind arith

policies_stay : (asker : Asker) (want : Want) (frame : FrameView) (old new : PoolView) → TakesOut asker want frame old new → PoliciesStay (policy_sum old.policies) (policy_sum new.policies)
policies_stay asker want frame old new taken = record {
  is_empty = λ none. still_empty (ask_of asker want old) old.policies new.policies none taken.policies;
  left = left-taken asker want frame old new taken;
  spares = λ all. all_spare new.policies (spares-taken asker want frame old new taken (each_spares old.policies all));
}

policies_deny : (asker : Asker) (want : Want) (place : ℕ) (old new : PoolView) → IsDenied asker want place old new → PoliciesDeny asker (policy_sum old.policies) (policy_sum new.policies)
policies_deny asker want place old new denied =
    let at = denied.policies in
    record {
      some = was_some old.policies at.before at.policy at.behind at.was;
      left = left-denied asker want place old new denied;
      spared = λ all. spares-parent asker want place old new denied (each_spares old.policies all);
      spares = λ all. all_spare new.policies (spares-denied asker want place old new denied (each_spares old.policies all));
    }

-- a state is told by its parts
same_state : (old new : SupplyState) → new.made ≡ old.made → new.out ≡ old.out → new.asker ≡ old.asker → new.refused ≡ old.refused → new.pending ≡ old.pending
    → new.asks ≡ old.asks → new.listed ≡ old.listed → new.policies ≡ old.policies → new ≡ old
same_state old new made out asker refused pending asks listed policies = λ i. record {
  made = made i;
  out = out i;
  asker = asker i;
  refused = refused i;
  pending = pending i;
  asks = asks i;
  listed = listed i;
  policies = policies i;
}

-- the ask of a supply is that of its pool
same_ask : (want : Want) (pool : PoolView) (asker : Asker) (refused : ℕ) (pending : Option ℕ) → length pool.free ≤ pool.made
    → ask_of asker want pool ≡ supply_ask want (supply_state_of pool asker refused pending)
same_ask want pool asker refused pending within =
    let free : length pool.free ≡ pool.made - (pool.made - length pool.free) = omega (arith, within) in
    ap (λ free. record { asker = asker; want = want; free = free; place = next_count pool.asks }) free

-- the pool gave a frame
pub granted-taken : (want : Want) (frame : FrameView) (old new : PoolView) (asker : Asker) (refused : ℕ) (pending behind : Option ℕ)
    → length old.free ≤ old.made → is_next pending ≡ false → TakesOut asker want frame old new → behind ≡ pending_behind pending
    → IsGranted want (supply_state_of old asker refused pending) (supply_state_of new asker refused behind)
granted-taken want frame old new asker refused pending behind within unnamed taken is_behind =
    let fewer : length old.free ≡ length new.free + 1 = ap length taken.free ∙ length-append new.free (frame.number ∷ []) in
    let made : new.made ≡ old.made = taken.made in
    record {
      unnamed = unnamed;
      some_free = omega arith;
      asked = subst (λ ask. AllGrant ask (standing old.policies) new.policies) (same_ask want old asker refused pending within) taken.policies;
      policies = policies_stay asker want frame old new taken;
      is = same_state _ (supply_state_of new asker refused behind) made (omega arith) refl refl is_behind taken.asks refl refl;
    }

-- the request was named, and the pool not asked
pub refused-named : (want : Want) (pool : PoolView) (asker : Asker) (refused count at : ℕ) (pending behind : Option ℕ)
    → is_next pending ≡ true → count ≡ next_count refused → at ≡ count → behind ≡ pending_behind pending
    → IsRefused want at (supply_state_of pool asker refused pending) (supply_state_of pool asker count behind)
refused-named want pool asker refused count at pending behind named counted at_is is_behind = record {
  cause = inl (record { named = named; unasked = record { asks = refl; listed = refl; policies = refl } });
  count = at_is ∙ counted;
  is = same_state _ (supply_state_of pool asker count behind) refl refl refl counted is_behind refl refl refl;
}

-- no frame was there
refused-spent : (want : Want) (old new : PoolView) (asker : Asker) (refused count at : ℕ) (pending behind : Option ℕ)
    → is_next pending ≡ false → old.free ≡ [] → new ≡ old → count ≡ next_count refused → at ≡ count → behind ≡ pending_behind pending
    → IsRefused want at (supply_state_of old asker refused pending) (supply_state_of new asker count behind)
refused-spent want old new asker refused count at pending behind unnamed spent same counted at_is is_behind =
    let none : length old.free ≡ 0 = ap length spent in
    record {
      cause = inr (inl (record {
        unnamed = unnamed;
        none_free = omega arith;
        unasked = record { asks = ap (λ pool. pool.asks) same; listed = ap (λ pool. pool.policies) same; policies = ap (λ pool. policy_sum pool.policies) same };
      }));
      count = at_is ∙ counted;
      is = same_state _ (supply_state_of new asker count behind) (ap (λ pool. pool.made) same) (ap (λ pool. pool.made - length pool.free) same) refl counted is_behind refl refl refl;
    }

-- a policy denied
refused-denied : (want : Want) (place : ℕ) (old new : PoolView) (asker : Asker) (refused count at : ℕ) (pending behind : Option ℕ)
    → length old.free ≤ old.made → is_next pending ≡ false → IsDenied asker want place old new → count ≡ next_count refused → at ≡ count → behind ≡ pending_behind pending
    → IsRefused want at (supply_state_of old asker refused pending) (supply_state_of new asker count behind)
refused-denied want place old new asker refused count at pending behind within unnamed denied counted at_is is_behind =
    let made : new.made ≡ old.made = denied.made in
    let free : length new.free ≡ length old.free = ap length denied.free in
    let some : 0 < length old.free = denied.some_free in
    record {
      cause = inr (inr (record {
        unnamed = unnamed;
        some_free = omega arith;
        place = place;
        denied = subst (λ ask. DeniesAt ask place (standing old.policies) new.policies) (same_ask want old asker refused pending within) denied.policies;
        asks = denied.asks;
        policies = policies_deny asker want place old new denied;
      }));
      count = at_is ∙ counted;
      is = same_state _ (supply_state_of new asker count behind) made (omega arith) refl counted is_behind refl refl refl;
    }

-- the pool refused, whatever its reason
pub refused-by_pool : {X : Type 0} (want : Want) (why : Why) (old new : PoolView) (asker : Asker) (refused count at : ℕ) (pending behind : Option ℕ)
    → length old.free ≤ old.made → is_next pending ≡ false
    → (IsErrOf {T = X} (Err why) Empty → old.free ≡ []) → (IsErrOf {T = X} (Err why) Empty → new ≡ old)
    → ((place : ℕ) → IsErrOf {T = X} (Err why) (Denied place) → IsDenied asker want place old new)
    → count ≡ next_count refused → at ≡ count → behind ≡ pending_behind pending
    → IsRefused want at (supply_state_of old asker refused pending) (supply_state_of new asker count behind)
refused-by_pool want Empty old new asker refused count at pending behind within unnamed empty unasked denied counted at_is is_behind =
    refused-spent want old new asker refused count at pending behind unnamed (empty refl) (unasked refl) counted at_is is_behind
refused-by_pool want (Denied place) old new asker refused count at pending behind within unnamed empty unasked denied counted at_is is_behind =
    refused-denied want place old new asker refused count at pending behind within unnamed (denied place refl) counted at_is is_behind

-- all frames are there
pub state_of-opening : (frames : ℕ) (pool : PoolView) (policies : List PolicyView)
    → pool ≡ record { made = frames; free = range_with_len 0 frames; asks = 0; policies = policies }
    → supply_state_of pool Parent 0 None ≡ opening_supply frames policies
state_of-opening frames pool policies is =
    let made : pool.made ≡ frames = ap (λ pool. pool.made) is in
    let free : length pool.free ≡ frames = ap (λ pool. length pool.free) is ∙ length-range_with_len 0 frames in
    same_state (opening_supply frames policies) (supply_state_of pool Parent 0 None) made (omega arith) refl refl refl
    (ap (λ pool. pool.asks) is) (ap (λ pool. pool.policies) is) (ap (λ pool. policy_sum pool.policies) is)
