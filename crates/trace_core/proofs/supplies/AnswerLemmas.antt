-- The deals of a supply lead on what the requests of a run so far have led to.
use Rattle.std.proofs.Common.{◌≡◌, ◌≢◌, ℕ, ◌+◌, ◌-◌, ◌<◌, ◌≤◌, ◌==◌, ◌⊎◌, inl, inr, Bool, true, false, cond, List, [], ◌∷◌, ◌++◌, Option, refl, sym, ◌∙◌, ap, subst, arith}
use Rattle.std.specs.Prelude.{IsTrue, ◌&&◌, ◌||◌, count_by, Some, None, IfSome}
use Rattle.std.specs.List.{AllByRecursion}
use Rattle.std.proofs.lemmas.List.{append-nil, append_assoc}
use Rattle.std.proofs.lemmas.List.Sums.{sum_by-append}
use Rattle.vm_base.specs.declared.frame_request.Want.{Want}
use Rattle.vm_base.specs.declared.frame_request.Asker.{Asker}
use Rattle.vm_base.specs.declared.frame_request.Asker.TheVariants.{Parent, Snapshot}
use Rattle.vm_base.specs.Counts.{next_count}
use Rattle.vm_base.specs.Deals.{Deal, Granted, Denied, Returned, LeadsAlong}
use Rattle.frame_pool.specs.Policies.{StaysWithin, FallsBelow}
use Rattle.kernel_meaning.specs.Leaves.{holds_number}
use Rattle.kernel_meaning.specs.RefusedRequests.{Request, is_forced, is_by_policy, is_parents, PolicySum}
use Rattle.trace_core.specs.SupplyState.{SupplyState, SupplyGoes, is_next, pending_behind, PoliciesDeny, IsGranted, IsNamed, IsSpent, IsByPolicy, IsRefused, IsReturned}
use Rattle.trace_core.specs.Answering.{pending_of, HasLeft, HaveLed, LeadOn, NoRequestHasLed, DealsLeadOn}

-- how one more request was answered, by what was known of the policies before it and is known behind it
record Judges (frames : ℕ) (request : Request) (old new : PolicySum) : Type 0 where
  forced : IsTrue (is_forced frames request) → IsTrue request.is_refused
  is_empty : IsTrue old.is_empty → IsTrue new.is_empty
  none : IsTrue old.is_empty → is_by_policy frames request ≡ false
  left : HasLeft old.left (cond (is_by_policy frames request) 1 0) new.left
  spares : IsTrue old.spares → IsTrue new.spares
  spared : IsTrue old.spares → (is_by_policy frames request && is_parents request.asker) ≡ false

all_push : (P : Request → Type 0) (requests : List Request) (request : Request) → AllByRecursion P requests → P request → AllByRecursion P (requests ++ request ∷ [])
all_push P [] request all here = (here, tt)
all_push P (first ∷ requests) request all here = (all.0, all_push P requests request all.1 here)

count_push : (p : Request → Bool) (requests : List Request) (request : Request) → count_by p (requests ++ request ∷ []) ≡ count_by p requests + cond (p request) 1 0
count_push p requests request = grind (arith, sum_by-append)

has_left-push : (opening old new : Option ℕ) (denied more : ℕ) → HasLeft opening denied old → HasLeft old more new → HasLeft opening (denied + more) new
has_left-push None old new denied more before here = tt
has_left-push (Some opening) None new denied more before here = absurd before
has_left-push (Some opening) (Some old) None denied more before here = absurd here
has_left-push (Some opening) (Some old) (Some new) denied more before here = omega arith

has_left-within : (opening now : Option ℕ) (denied : ℕ) → HasLeft opening denied now → IfSome opening (λ left. denied ≤ left)
has_left-within None now denied has = tt
has_left-within (Some opening) None denied has = absurd has
has_left-within (Some opening) (Some left) denied has = omega arith

none_more : (p : Request → Bool) (requests : List Request) (request : Request) (n : ℕ) → count_by p requests ≡ n → p request ≡ false → count_by p (requests ++ request ∷ []) ≡ n
none_more p requests request n before here = count_push p requests request ∙ ap (λ b. count_by p requests + cond b 1 0) here ∙ omega (arith, before)

-- one more request
led-push : (frames : ℕ) (opening old new : PolicySum) (requests : List Request) (request : Request)
    → HaveLed frames opening requests old → Judges frames request old new → HaveLed frames opening (requests ++ request ∷ []) new
led-push frames opening old new requests request before here =
    let left : HasLeft opening.left (count_by (is_by_policy frames) (requests ++ request ∷ [])) new.left =
    subst (λ n. HasLeft opening.left n new.left) (sym (count_push (is_by_policy frames) requests request))
    (has_left-push opening.left old.left new.left _ _ before.left here.left) in
    record {
      answered = record {
        forced = all_push (λ request. IsTrue (is_forced frames request) → IsTrue request.is_refused) requests request before.answered.forced here.forced;
        none = λ empty. none_more (is_by_policy frames) requests request 0 (before.answered.none empty) (here.none (before.is_empty empty));
        left = has_left-within opening.left new.left _ left;
        spared = λ spare. none_more (λ request. is_by_policy frames request && is_parents request.asker) requests request 0
            (before.answered.spared spare) (here.spared (before.spares spare));
      };
      is_empty = λ empty. here.is_empty (before.is_empty empty);
      left = left;
      spares = λ spare. here.spares (before.spares spare);
    }

-- ---- the refusal that is pending, and the request that a line names

-- it is for the next request exactly where the line names that
pub next_named : (named : Option ℕ) (made : ℕ) → is_next (pending_of named made) ≡ holds_number named (made + 1)
next_named None made = refl
next_named (Some number) made = grind arith

-- behind one request more
pub pending_of-more : (named : Option ℕ) (made : ℕ) → pending_behind (pending_of named made) ≡ pending_of named (made + 1)
pending_of-more None made = refl
pending_of-more (Some number) made = grind arith

-- ---- one request

-- a request of this asker as it stood
abbrev pub request_of : Asker → Option ℕ → ℕ → ℕ → Want → Bool → Request
request_of asker named made out want is_refused = record {
  number = made + 1;
  asker = asker;
  want = want;
  out = out;
  is_named = holds_number named (made + 1);
  is_refused = is_refused;
}

line_names : (named : Option ℕ) (made : ℕ) (pending : Option ℕ) (is : Bool) → pending ≡ pending_of named made → is_next pending ≡ is → holds_number named (made + 1) ≡ is
line_names named made pending is pends next = sym (next_named named made) ∙ ap is_next (sym pends) ∙ next

stays-has_left : (old new : Option ℕ) → StaysWithin old new → HasLeft old 0 new
stays-has_left None new within = tt
stays-has_left (Some old) None within = absurd within
stays-has_left (Some old) (Some new) within = omega arith

falls-has_left : (old new : Option ℕ) → FallsBelow old new → HasLeft old 1 new
falls-has_left None new below = tt
falls-has_left (Some old) None below = absurd below
falls-has_left (Some old) (Some new) below = omega arith

same-has_left : (left : Option ℕ) → HasLeft left 0 left
same-has_left None = tt
same-has_left (Some left) = omega arith

not_parents : (asker : Asker) → asker ≢ Parent → is_parents asker ≡ false
not_parents Parent apart = absurd (apart refl)
not_parents (Snapshot n) apart = refl

unforced : (frames out : ℕ) (is_named : Bool) → out < frames → is_named ≡ false → ((out == frames) || is_named) ≡ false
unforced frames out is_named some unnamed = grind arith

true_is_false : (b : Bool) → b ≡ false → b ≡ true → ⊥
true_is_false b is_false is_true = grind arith

-- a frame was granted
judges-granted : (named : Option ℕ) (made : ℕ) (want : Want) (old new : SupplyState) → old.pending ≡ pending_of named made → IsGranted want old new
    → Judges old.made (request_of old.asker named made old.out want false) old.policies new.policies
judges-granted named made want old new pends granted =
    let unnamed = line_names named made old.pending false pends granted.unnamed in
    record {
      forced = λ forced. absurd (true_is_false _ (unforced old.made old.out _ granted.some_free unnamed) forced);
      is_empty = granted.policies.is_empty;
      none = λ empty. refl;
      left = stays-has_left old.policies.left new.policies.left granted.policies.left;
      spares = granted.policies.spares;
      spared = λ spare. refl;
    }

-- a request was refused that had to be
judges-forced : (frames : ℕ) (request : Request) (old new : PolicySum) → request.is_refused ≡ true → is_forced frames request ≡ true → new ≡ old → Judges frames request old new
judges-forced frames request old new refused forced same =
    let not_by : is_by_policy frames request ≡ false = grind arith in
    record {
      forced = λ _. refused;
      is_empty = λ empty. ap (λ sum. sum.is_empty) same ∙ empty;
      none = λ empty. not_by;
      left = subst (λ b. HasLeft old.left (cond b 1 0) new.left) (sym not_by) (subst (λ sum. HasLeft old.left 0 sum.left) (sym same) (same-has_left old.left));
      spares = λ spare. ap (λ sum. sum.spares) same ∙ spare;
      spared = λ spare. ap (λ b. b && is_parents request.asker) not_by;
    }

-- a policy denied
judges-denied : (frames : ℕ) (request : Request) (old new : PolicySum) → request.is_refused ≡ true → is_forced frames request ≡ false → PoliciesDeny request.asker old new → Judges frames request old new
judges-denied frames request old new refused unforced denied =
    let by : is_by_policy frames request ≡ true = grind arith in
    record {
      forced = λ _. refused;
      is_empty = λ empty. absurd (true_is_false old.is_empty denied.some empty);
      none = λ empty. absurd (true_is_false old.is_empty denied.some empty);
      left = subst (λ b. HasLeft old.left (cond b 1 0) new.left) (sym by) (falls-has_left old.left new.left denied.left);
      spares = denied.spares;
      spared = λ spare. ap (λ b. b && is_parents request.asker) by ∙ not_parents request.asker (denied.spared spare);
    }

judges-by_cause : (named : Option ℕ) (made : ℕ) (want : Want) (old new : SupplyState) → old.pending ≡ pending_of named made
    → IsNamed old new ⊎ (IsSpent old new ⊎ IsByPolicy want old new)
    → Judges old.made (request_of old.asker named made old.out want true) old.policies new.policies
judges-by_cause named made want old new pends (inl cause) =
    let is_named = line_names named made old.pending true pends cause.named in
    judges-forced old.made _ old.policies new.policies refl (grind (arith, is_named)) cause.unasked.policies
judges-by_cause named made want old new pends (inr (inl cause)) =
    let spent : (old.out == old.made) ≡ true = grind (arith, cause.none_free) in
    judges-forced old.made _ old.policies new.policies refl (ap (λ b. b || holds_number named (made + 1)) spent) cause.unasked.policies
judges-by_cause named made want old new pends (inr (inr cause)) =
    let unnamed = line_names named made old.pending false pends cause.unnamed in
    judges-denied old.made _ old.policies new.policies refl (unforced old.made old.out _ cause.some_free unnamed) cause.policies

-- ---- all deals

pub no_request_has_led : NoRequestHasLed
no_request_has_led frames opening = record {
  answered = record {
    forced = tt;
    none = λ empty. refl;
    left = has_left-within opening.left opening.left 0 (same-has_left opening.left);
    spared = λ spare. refl;
  };
  is_empty = λ empty. empty;
  left = same-has_left opening.left;
  spares = λ spare. spare;
}

-- the same list, put together the other way
regrouped : (frames : ℕ) (opening now : PolicySum) (requests later : List Request) (request : Request)
    → HaveLed frames opening ((requests ++ request ∷ []) ++ later) now → HaveLed frames opening (requests ++ request ∷ later) now
regrouped frames opening now requests later request led =
    subst (λ list. HaveLed frames opening list now) (append_assoc requests (request ∷ []) later) led

lead_on : (deals : List Deal) (opening : PolicySum) (named : Option ℕ) (made : ℕ) (requests : List Request) (from to : SupplyState)
    → from.pending ≡ pending_of named made → HaveLed from.made opening requests from.policies
    → LeadsAlong SupplyGoes from deals to → LeadOn opening named made requests from deals to
lead_on [] opening named made requests from to pends before same =
    subst (λ to. LeadOn opening named made requests from [] to) (sym same) (record {
      led = subst (λ list. HaveLed from.made opening list from.policies) (sym (append-nil requests)) before;
      all = refl;
      out = refl;
      asker = refl;
      refused = refl;
      counted = tt;
      pending = pends;
    })
lead_on (Granted want ∷ deals) opening named made requests from to pends before along =
    let next : SupplyState = along.0 in
    let granted : IsGranted want from next = along.1.0 in
    let mid : SupplyState = record from { out = from.out + 1; pending = pending_behind from.pending; asks = next_count from.asks; listed = next.listed; policies = next.policies } in
    let request = request_of from.asker named made from.out want false in
    let rest = lead_on deals opening named (made + 1) (requests ++ request ∷ []) mid to
    (ap pending_behind pends ∙ pending_of-more named made)
    (led-push from.made opening from.policies next.policies requests request before (judges-granted named made want from next pends granted))
    (subst (λ state. LeadsAlong SupplyGoes state deals to) granted.is along.1.1) in
    record {
      led = regrouped from.made opening to.policies requests _ request rest.led;
      all = rest.all;
      out = rest.out;
      asker = rest.asker;
      refused = rest.refused;
      counted = rest.counted;
      pending = rest.pending;
    }
lead_on (Denied want at ∷ deals) opening named made requests from to pends before along =
    let next : SupplyState = along.0 in
    let refused : IsRefused want at from next = along.1.0 in
    let mid : SupplyState = record from { refused = next_count from.refused; pending = pending_behind from.pending; asks = next.asks; listed = next.listed; policies = next.policies } in
    let request = request_of from.asker named made from.out want true in
    let rest = lead_on deals opening named (made + 1) (requests ++ request ∷ []) mid to
    (ap pending_behind pends ∙ pending_of-more named made)
    (led-push from.made opening from.policies next.policies requests request before (judges-by_cause named made want from next pends refused.cause))
    (subst (λ state. LeadsAlong SupplyGoes state deals to) refused.is along.1.1) in
    record {
      led = regrouped from.made opening to.policies requests _ request rest.led;
      all = rest.all;
      out = rest.out;
      asker = rest.asker;
      refused = rest.refused;
      counted = (refused.count, rest.counted);
      pending = rest.pending;
    }
lead_on (Returned ∷ deals) opening named made requests from to pends before along =
    let next : SupplyState = along.0 in
    let returned : IsReturned from next = along.1.0 in
    let mid : SupplyState = record from { out = from.out - 1 } in
    let rest = lead_on deals opening named made requests mid to pends before
    (subst (λ state. LeadsAlong SupplyGoes state deals to) returned.is along.1.1) in
    record {
      led = rest.led;
      all = rest.all;
      out = rest.out;
      asker = rest.asker;
      refused = rest.refused;
      counted = rest.counted;
      pending = rest.pending;
    }

pub deals_lead_on : DealsLeadOn
deals_lead_on opening named made requests from to deals pends before along = lead_on deals opening named made requests from to pends before along
