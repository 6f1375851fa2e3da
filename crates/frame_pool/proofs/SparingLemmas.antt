-- Policies that spare the parent deny it no frame.
use Rattle.std.proofs.Common.{◌≡◌, ◌≢◌, ℕ, ◌<◌, arith, Bool, true, false, not, List, [], ◌∷◌, ◌++◌, if◌then◌else◌, sym, ◌∙◌, subst}
use Rattle.std.proofs.lemmas.List.Elements.{All-head, All-tail, All-cons, All-filter, All-append}
use Rattle.vm_base.specs.declared.frame_request.Asker.{Asker}
use Rattle.vm_base.specs.declared.frame_request.Asker.TheVariants.{Parent}
use Rattle.vm_base.specs.declared.frame_request.Want.{Want}
use Rattle.frame_pool.specs.declared.ask.Ask.{Ask}
use Rattle.vm_base.specs.Frames.{FrameView}
use Rattle.frame_pool.specs.Policies.{PolicyView, AllGrant, kept, standing, AllSpare}
use Rattle.frame_pool.specs.Frames.{PoolView, ask_of, TakesOut, IsDenied}

abbrev Spares : PolicyView → Type 0
Spares policy = policy.spares ≡ true

-- what holds of two lists, one behind the other, holds of each
all_back : (front back : List PolicyView) → AllSpare (front ++ back) → AllSpare back
all_back [] back all = all
all_back (policy ∷ front) back all = all_back front back (All-tail Spares policy (front ++ back) all)

-- what stays of a policy that spares
kept_spares : (policy : PolicyView) (behind : List PolicyView) → Spares policy → AllSpare behind → AllSpare (kept policy behind)
kept_spares policy behind here rest = by policy.done
  where
    by : (done : Bool) → AllSpare (if done then behind else policy ∷ behind)
    by true = rest
    by false = All-cons Spares policy behind here rest

granted_spares : (ask : Ask) (old new : List PolicyView) → AllGrant ask old new → AllSpare old → AllSpare new
granted_spares ask [] new all spare = subst AllSpare (sym all) spare
granted_spares ask (policy ∷ behind) new all spare =
    let grants = all.1.1.0 in
    subst AllSpare (sym all.1.1.2)
    (kept_spares all.0 all.1.0 (grants.spares ∙ All-head Spares policy behind spare)
    (granted_spares ask behind all.1.0 all.1.1.1 (All-tail Spares policy behind spare)))

all_front : (front back : List PolicyView) → AllSpare (front ++ back) → AllSpare front
all_front [] back all = λ k d inside. let below : k < 0 = inside in absurd (omega arith)
all_front (policy ∷ front) back all =
    All-cons Spares policy front (All-head Spares policy (front ++ back) all) (all_front front back (All-tail Spares policy (front ++ back) all))

-- a pool whose policies spare the parent still has such policies after a request
pub spares-taken : (asker : Asker) (want : Want) (frame : FrameView) (old new : PoolView) → TakesOut asker want frame old new → AllSpare old.policies → AllSpare new.policies
spares-taken asker want frame old new taken spare =
    granted_spares (ask_of asker want old) (standing old.policies) new.policies taken.policies (All-filter (λ policy. not policy.done) Spares old.policies spare)

standing_spares : (asker : Asker) (want : Want) (place : ℕ) (old new : PoolView) (denied : IsDenied asker want place old new) → AllSpare old.policies
    → AllSpare (denied.policies.before ++ denied.policies.policy ∷ denied.policies.behind)
standing_spares asker want place old new denied spare =
    subst AllSpare denied.policies.was (All-filter (λ policy. not policy.done) Spares old.policies spare)

pub spares-denied : (asker : Asker) (want : Want) (place : ℕ) (old new : PoolView) → IsDenied asker want place old new → AllSpare old.policies → AllSpare new.policies
spares-denied asker want place old new denied spare =
    let at = denied.policies in
    let all = standing_spares asker want place old new denied spare in
    let here = all_back at.before (at.policy ∷ at.behind) all in
    let denies = at.denied in
    subst AllSpare (sym at.is)
    (All-append Spares at.granted (kept at.after at.behind)
    (granted_spares (ask_of asker want old) at.before at.granted at.asked (all_front at.before (at.policy ∷ at.behind) all))
    (kept_spares at.after at.behind (denies.spares ∙ All-head Spares at.policy at.behind here) (All-tail Spares at.policy at.behind here)))

-- and the parent was denied nothing
pub spares-parent : (asker : Asker) (want : Want) (place : ℕ) (old new : PoolView) → IsDenied asker want place old new → AllSpare old.policies → asker ≢ Parent
spares-parent asker want place old new denied spare =
    let at = denied.policies in
    let denies = at.denied in
    denies.spared (All-head Spares at.policy at.behind (all_back at.before (at.policy ∷ at.behind) (standing_spares asker want place old new denied spare)))
