-- How a request changes the denials that may still come, and that a pool whose policies spare the parent refuses it no frame that is there.
use Rattle.std.proofs.Common.{ℕ, Bool, true, false, not, List, [], ◌∷◌, ◌++◌, Option, Some, None, cond, if◌then◌else◌, sym, ◌∙◌, ap, subst, arith}
use Rattle.vm_base.specs.declared.frame_request.Asker.{Asker}
use Rattle.vm_base.specs.declared.frame_request.Want.{Want}
use Rattle.frame_pool.specs.declared.ask.Ask.{Ask}
use Rattle.frame_pool.specs.Policies.{PolicyView, Denies, NotRaised, Lowered, AllGrant, kept, standing, told_sum, left_of_all, StaysWithin, FallsBelow}
use Rattle.frame_pool.specs.Frames.{PoolView, ask_of, TakesOut, IsDenied}
use Rattle.frame_pool.proofs.AskLemmas.{kept-append}
use Rattle.vm_base.specs.Frames.{FrameView}

within_refl : (n : Option ℕ) → StaysWithin n n
within_refl None = tt
within_refl (Some n) = omega arith

within_trans : (a b c : Option ℕ) → StaysWithin a b → StaysWithin b c → StaysWithin a c
within_trans None b c ab bc = tt
within_trans (Some a) None c ab bc = absurd ab
within_trans (Some a) (Some b) None ab bc = absurd bc
within_trans (Some a) (Some b) (Some c) ab bc = omega arith

below_within : (a b c : Option ℕ) → FallsBelow a b → StaysWithin b c → FallsBelow a c
below_within None b c ab bc = tt
below_within (Some a) None c ab bc = absurd ab
below_within (Some a) (Some b) None ab bc = absurd bc
below_within (Some a) (Some b) (Some c) ab bc = omega arith

within_below : (a b c : Option ℕ) → StaysWithin a b → FallsBelow b c → FallsBelow a c
within_below None b c ab bc = tt
within_below (Some a) None c ab bc = absurd ab
within_below (Some a) (Some b) None ab bc = absurd bc
within_below (Some a) (Some b) (Some c) ab bc = omega arith

-- a sum stays within what its parts stay within
sum_within : (a b c d : Option ℕ) → StaysWithin a b → StaysWithin c d → StaysWithin (told_sum a c) (told_sum b d)
sum_within None b c d ab cd = tt
sum_within (Some a) None c d ab cd = absurd ab
sum_within (Some a) (Some b) None d ab cd = tt
sum_within (Some a) (Some b) (Some c) None ab cd = absurd cd
sum_within (Some a) (Some b) (Some c) (Some d) ab cd = omega arith

sum_below_first : (a b c : Option ℕ) → FallsBelow a b → FallsBelow (told_sum a c) (told_sum b c)
sum_below_first None b c ab = tt
sum_below_first (Some a) None c ab = absurd ab
sum_below_first (Some a) (Some b) None ab = tt
sum_below_first (Some a) (Some b) (Some c) ab = omega arith

sum_below : (a b c d : Option ℕ) → StaysWithin a b → FallsBelow c d → FallsBelow (told_sum a c) (told_sum b d)
sum_below None b c d ab cd = tt
sum_below (Some a) None c d ab cd = absurd ab
sum_below (Some a) (Some b) None d ab cd = tt
sum_below (Some a) (Some b) (Some c) None ab cd = absurd cd
sum_below (Some a) (Some b) (Some c) (Some d) ab cd = omega arith

second_within : (a b : Option ℕ) → StaysWithin (told_sum a b) b
second_within None b = tt
second_within (Some a) None = tt
second_within (Some a) (Some b) = omega arith

not_raised : (a b : Option ℕ) → NotRaised a b → StaysWithin a b
not_raised None b h = tt
not_raised (Some a) None h = h
not_raised (Some a) (Some b) h = h

lowered : (a b : Option ℕ) → Lowered a b → FallsBelow a b
lowered None b h = tt
lowered (Some a) None h = h
lowered (Some a) (Some b) h = h

-- a policy that leaves the list takes its denials with it
kept_within : (policy : PolicyView) (behind : List PolicyView) → StaysWithin (told_sum policy.left (left_of_all behind)) (left_of_all (kept policy behind))
kept_within policy behind = by policy.done
  where
    by : (done : Bool) → StaysWithin (told_sum policy.left (left_of_all behind)) (left_of_all (if done then behind else policy ∷ behind))
    by true = second_within policy.left (left_of_all behind)
    by false = within_refl (told_sum policy.left (left_of_all behind))

standing_first : (policy : PolicyView) (behind : List PolicyView) (stays : Bool) → StaysWithin (left_of_all behind) (left_of_all (standing behind))
    → StaysWithin (told_sum policy.left (left_of_all behind)) (left_of_all (cond stays (policy ∷ standing behind) (standing behind)))
standing_first policy behind true rest =
    sum_within policy.left policy.left (left_of_all behind) (left_of_all (standing behind)) (within_refl policy.left) rest
standing_first policy behind false rest =
    within_trans (told_sum policy.left (left_of_all behind)) (left_of_all behind) (left_of_all (standing behind))
    (second_within policy.left (left_of_all behind)) rest

-- dropping the policies that are done
standing_within : (policies : List PolicyView) → StaysWithin (left_of_all policies) (left_of_all (standing policies))
standing_within [] = within_refl (Some 0)
standing_within (policy ∷ behind) = standing_first policy behind (not policy.done) (standing_within behind)

-- all granted
all_grant_within : (ask : Ask) (old new : List PolicyView) → AllGrant ask old new → StaysWithin (left_of_all old) (left_of_all new)
all_grant_within ask [] new all = subst (λ new. StaysWithin (Some 0) (left_of_all new)) (sym all) (within_refl (Some 0))
all_grant_within ask (policy ∷ behind) new all =
    let after = all.0 in
    let rest = all.1.0 in
    subst (λ new. StaysWithin (told_sum policy.left (left_of_all behind)) (left_of_all new)) (sym all.1.1.2)
    (within_trans (told_sum policy.left (left_of_all behind)) (told_sum after.left (left_of_all rest)) (left_of_all (kept after rest))
    (sum_within policy.left after.left (left_of_all behind) (left_of_all rest)
    (not_raised policy.left after.left all.1.1.0.left) (all_grant_within ask behind rest all.1.1.1))
    (kept_within after rest))

-- one denied, behind others that granted
denied_below : (ask : Ask) (policy after : PolicyView) (behind : List PolicyView) → Denies ask policy after
    → (before granted : List PolicyView) → AllGrant ask before granted
    → FallsBelow (left_of_all (before ++ policy ∷ behind)) (left_of_all (granted ++ kept after behind))
denied_below ask policy after behind denied [] granted all =
    subst (λ granted. FallsBelow (told_sum policy.left (left_of_all behind)) (left_of_all (granted ++ kept after behind))) (sym all)
    (below_within (told_sum policy.left (left_of_all behind)) (told_sum after.left (left_of_all behind)) (left_of_all (kept after behind))
    (sum_below_first policy.left after.left (left_of_all behind) (lowered policy.left after.left denied.left))
    (kept_within after behind))
denied_below ask policy after behind denied (first ∷ before) granted all =
    let after_first = all.0 in
    let rest = all.1.0 in
    let old = left_of_all (before ++ policy ∷ behind) in
    let new = left_of_all (rest ++ kept after behind) in
    subst (λ list. FallsBelow (told_sum first.left (left_of_all (before ++ policy ∷ behind))) (left_of_all list))
    (sym (ap (λ front. front ++ kept after behind) all.1.1.2 ∙ kept-append after_first rest (kept after behind)))
    (below_within (told_sum first.left old) (told_sum after_first.left new) (left_of_all (kept after_first (rest ++ kept after behind)))
    (sum_below first.left after_first.left old new (not_raised first.left after_first.left all.1.1.0.left)
    (denied_below ask policy after behind denied before rest all.1.1.1))
    (kept_within after_first (rest ++ kept after behind)))

-- a granted request raises no number of denials that may still come
pub left-taken : (asker : Asker) (want : Want) (frame : FrameView) (old new : PoolView) → TakesOut asker want frame old new → StaysWithin (left_of_all old.policies) (left_of_all new.policies)
left-taken asker want frame old new taken =
    within_trans (left_of_all old.policies) (left_of_all (standing old.policies)) (left_of_all new.policies)
    (standing_within old.policies) (all_grant_within (ask_of asker want old) (standing old.policies) new.policies taken.policies)

-- a denied one lowers it
pub left-denied : (asker : Asker) (want : Want) (place : ℕ) (old new : PoolView) → IsDenied asker want place old new → FallsBelow (left_of_all old.policies) (left_of_all new.policies)
left-denied asker want place old new denied =
    let at = denied.policies in
    within_below (left_of_all old.policies) (left_of_all (standing old.policies)) (left_of_all new.policies)
    (standing_within old.policies)
    (subst (λ list. FallsBelow (left_of_all list) (left_of_all new.policies)) (sym at.was)
    (subst (λ list. FallsBelow (left_of_all (at.before ++ at.policy ∷ at.behind)) (left_of_all list)) (sym at.is)
    (denied_below (ask_of asker want old) at.policy at.after at.behind at.denied at.before at.granted at.asked)))
