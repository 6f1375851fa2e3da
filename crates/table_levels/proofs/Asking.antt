-- Wants asked for one after another.
use Rattle.std.proofs.Common.{◌≡◌, ℕ, zero, suc, ◌+◌, Bool, true, false, List, [], ◌∷◌, ◌++◌, length, Some, None, Option, refl, sym, ◌∙◌, ap, subst, arith, append_assoc, length-append}
use Rattle.std.proofs.lemmas.List.{map-append}
use Rattle.vm_base.specs.declared.frame_request.Want.{Want}
use Rattle.vm_base.specs.Frames.{FrameView}
use Rattle.vm_base.specs.Deals.{Deal, Granted, Denied, Returned, LeadsAlong}
use Rattle.vm_base.proofs.DealLemmas.{LeadsAlong-append, one_deal_leads}
use Rattle.table_levels.specs.Requests.{granted, returned, RefusesOne, wanted_if}
use Rattle.table_levels.specs.Fresh.{IsFresh}
use Rattle.table_levels.specs.Walks.{tables_at}

-- one want alone was refused
pub refuses_alone : {State : Type 0} (goes : State → Deal → State → Type 0) (want : Want) (at : ℕ) (old new : State) → goes old (Denied want at) new → RefusesOne goes old (want ∷ []) at new
refuses_alone goes want at old new denied =
    record { front = []; want = want; rest = []; order = refl; deals = one_deal_leads goes (Denied want at) old new denied }

pub returned-append : (a b : ℕ) → returned a ++ returned b ≡ returned (a + b)
returned-append zero b = let same : b ≡ zero + b = omega arith in ap returned same
returned-append (suc a) b = let more : suc (a + b) ≡ suc a + b = omega arith in ap (λ l. Returned ∷ l) (returned-append a b) ∙ ap returned more

-- some wants were granted, one of the next was refused, and what was granted was given back
pub refuses_after : {State : Type 0} (goes : State → Deal → State → Type 0) (first second : List Want) (at n : ℕ) (old granted_then refused_then new : State)
    → LeadsAlong goes old (granted first) granted_then → RefusesOne goes granted_then second at refused_then → LeadsAlong goes refused_then (returned n) new → n ≡ length first
    → RefusesOne goes old (first ++ second) at new
refuses_after goes first second at n old granted_then refused_then new before refused after count =
    let front = refused.front in
    let given : length front + n ≡ length (first ++ front) = omega (arith, length-append first front) in
    let deals : granted first ++ ((granted front ++ Denied refused.want at ∷ returned (length front)) ++ returned n)
    ≡ granted (first ++ front) ++ Denied refused.want at ∷ returned (length (first ++ front)) =
    ap (λ l. granted first ++ l) (append_assoc (granted front) (Denied refused.want at ∷ returned (length front)) (returned n))
    ∙ ap (λ l. granted first ++ (granted front ++ Denied refused.want at ∷ l)) (returned-append (length front) n ∙ ap returned given)
    ∙ sym (append_assoc (granted first) (granted front) (Denied refused.want at ∷ returned (length (first ++ front))))
    ∙ ap (λ l. l ++ Denied refused.want at ∷ returned (length (first ++ front))) (sym (map-append Granted first front)) in
    record {
      front = first ++ front;
      want = refused.want;
      rest = refused.rest;
      order = ap (λ l. first ++ l) refused.order ∙ sym (append_assoc first front (refused.want ∷ refused.rest));
      deals = subst (λ l. LeadsAlong goes old l new) deals
          (LeadsAlong-append goes (granted first) ((granted front ++ Denied refused.want at ∷ returned (length front)) ++ returned n) old granted_then new before
          (LeadsAlong-append goes (granted front ++ Denied refused.want at ∷ returned (length front)) (returned n) granted_then refused_then new refused.deals after));
    }

-- a frame is there exactly where it is wanted
pub fresh_count : (is_wanted : Bool) (want : Want) (table : Option FrameView) → IsFresh is_wanted table → tables_at (table ∷ []) ≡ length (wanted_if is_wanted want)
fresh_count true want (Some frame) fresh = refl
fresh_count true want None fresh = absurd fresh
fresh_count false want (Some frame) fresh = absurd fresh
fresh_count false want None fresh = refl
