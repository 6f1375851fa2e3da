-- A supply without policies and without a named request refuses one only when all the frames that it has made are out.
use Rattle.std.proofs.Common.{◌≡◌, ℕ, ◌<◌, ◌^◌, inl, inr, List, [], ◌∷◌, ◌++◌, None, refl, sym, ◌∙◌, ap, subst, arith}
use Rattle.std.specs.Prelude.{◌-◌, IsTrue}
use Rattle.std.proofs.lemmas.Bool.{false≢true}
use Rattle.vm_base.specs.declared.frame_request.Want.{Want}
use Rattle.vm_base.specs.Counts.{Rose}
use Rattle.vm_base.specs.Deals.{Deal, Granted, Denied, Returned, LeadsAlong}
use Rattle.kernel_meaning.specs.RefusedRequests.{out_after}
use Rattle.trace_core.specs.SupplyState.{SupplyState, SupplyGoes, is_next, pending_behind, IsRefused}

-- a supply refuses only what it lacks: no request is named, and there is no policy
pub record IsPlain (supply : SupplyState) : Type 0 where
  pub unnamed : supply.pending ≡ None
  pub unasked : IsTrue supply.policies.is_empty

-- what a refusal of such a supply is: all frames are out, and it stays such a supply
refused-plain : (want : Want) (from next : SupplyState) (at : ℕ) → IsPlain from → IsRefused want at from next → (from.out ≡ from.made) × IsPlain next
refused-plain want from next at plain refused =
    let pending : next.pending ≡ None = ap (λ supply. supply.pending) refused.is ∙ ap pending_behind plain.unnamed in
    elim refused.cause [
      | inl named ↦ absurd (false≢true (sym (ap is_next plain.unnamed) ∙ named.named))
      | inr unnamed ↦ elim unnamed [
        | inl spent ↦ (spent.none_free, record { unnamed = pending; unasked = subst (λ policies. IsTrue policies.is_empty) (sym spent.unasked.policies) plain.unasked })
        | inr denied ↦ absurd (false≢true (sym denied.policies.some ∙ plain.unasked))
      ]
    ]

goes-plain : (from next : SupplyState) (deal : Deal) → IsPlain from → SupplyGoes from deal next → IsPlain next
goes-plain from next (Granted want) plain goes = record {
  unnamed = ap (λ supply. supply.pending) goes.is ∙ ap pending_behind plain.unnamed;
  unasked = goes.policies.is_empty plain.unasked;
}
goes-plain from next (Denied want at) plain goes = (refused-plain want from next at plain goes).1
goes-plain from next Returned plain goes = record {
  unnamed = ap (λ supply. supply.pending) goes.is ∙ plain.unnamed;
  unasked = subst (λ supply. IsTrue supply.policies.is_empty) (sym goes.is) plain.unasked;
}

-- whatever deals a supply without policies makes where no request is named, it has none then either, and no request is named
pub plain-led : (from to : SupplyState) (deals : List Deal) → IsPlain from → LeadsAlong SupplyGoes from deals to → IsPlain to
plain-led from to [] plain led = subst IsPlain (sym led) plain
plain-led from to (deal ∷ deals) plain led = plain-led led.0 to deals (goes-plain from led.0 deal plain led.1.0) led.1.1

goes-out : (from next : SupplyState) (deal : Deal) (rest : List Deal) → SupplyGoes from deal next
    → (out_after from.out (deal ∷ rest) ≡ out_after next.out rest) × (next.made ≡ from.made)
goes-out from next (Granted want) rest goes = (ap (λ out. out_after out rest) (sym (ap (λ supply. supply.out) goes.is)), ap (λ supply. supply.made) goes.is)
goes-out from next (Denied want at) rest goes = (ap (λ out. out_after out rest) (sym (ap (λ supply. supply.out) goes.is)), ap (λ supply. supply.made) goes.is)
goes-out from next Returned rest goes = (ap (λ out. out_after out rest) (sym (ap (λ supply. supply.out) goes.is)), ap (λ supply. supply.made) goes.is)

spent-behind : (from to : SupplyState) (front : List Deal) (want : Want) (at : ℕ) (back : List Deal) → IsPlain from
    → LeadsAlong SupplyGoes from (front ++ Denied want at ∷ back) to → out_after from.out front ≡ from.made
spent-behind from to [] want at back plain led = (refused-plain want from led.0 at plain led.1.0).0
spent-behind from to (deal ∷ front) want at back plain led =
    let one : (out_after from.out (deal ∷ front) ≡ out_after led.0.out front) × (led.0.made ≡ from.made) = goes-out from led.0 deal front led.1.0 in
    one.0 ∙ spent-behind led.0 to front want at back (goes-plain from led.0 deal plain led.1.0) led.1.1 ∙ one.1

-- where such a supply denies a frame, all that it has made are out
pub plain-spent : (from to : SupplyState) (deals : List Deal) → IsPlain from → LeadsAlong SupplyGoes from deals to
    → (front : List Deal) (want : Want) (at : ℕ) (back : List Deal) → deals ≡ front ++ Denied want at ∷ back → out_after from.out front ≡ from.made
plain-spent from to deals plain led front want at back split =
    spent-behind from to front want at back plain (subst (λ deals. LeadsAlong SupplyGoes from deals to) split led)

-- one of the deals is a denial
pub record HasDenial (deals : List Deal) : Type 0 where
  pub front : List Deal
  pub want : Want
  pub at : ℕ
  pub back : List Deal
  pub split : deals ≡ front ++ Denied want at ∷ back

-- so it is behind one deal more
pub later-denial : (deal : Deal) (deals : List Deal) → HasDenial deals → HasDenial (deal ∷ deals)
later-denial deal deals found = record { front = deal ∷ found.front; want = found.want; at = found.at; back = found.back; split = ap (λ rest. deal ∷ rest) found.split }

-- where the count of refused requests has changed, one of the deals was a denial
pub denial-there : (from to : SupplyState) (deals : List Deal) → LeadsAlong SupplyGoes from deals to → (to.refused ≡ from.refused → ⊥) → HasDenial deals
denial-there from to [] led changed = absurd (changed (ap (λ supply. supply.refused) led))
denial-there from to (Granted want ∷ deals) led changed =
    later-denial (Granted want) deals (denial-there led.0 to deals led.1.1 (λ same. changed (same ∙ ap (λ supply. supply.refused) led.1.0.is)))
denial-there from to (Denied want at ∷ deals) led changed = record { front = []; want = want; at = at; back = deals; split = refl }
denial-there from to (Returned ∷ deals) led changed =
    later-denial Returned deals (denial-there led.0 to deals led.1.1 (λ same. changed (same ∙ ap (λ supply. supply.refused) led.1.0.is)))

-- so where it rose, and could rise
pub denial-rose : (from to : SupplyState) (deals : List Deal) → LeadsAlong SupplyGoes from deals to → from.refused < 2 ^ 64 - 1 → Rose from.refused to.refused → HasDenial deals
denial-rose from to deals led below rose = denial-there from to deals led (λ same. unchanged same)
  where
    unchanged : to.refused ≡ from.refused → ⊥
    unchanged same = omega (arith, same, below, rose)
