-- Requests of which each refused one came while some frame of a bound was not yet out.
use Rattle.std.proofs.Common.{◌≡◌, ℕ, zero, suc, ◌+◌, ◌-◌, ◌≤◌, List, [], ◌∷◌, ◌++◌, length, replicate, refl, ◌∙◌, arith}
use Rattle.vm_base.specs.declared.frame_request.Want.{Want}
use Rattle.vm_base.specs.Deals.{Deal, Granted, Denied, Returned}
use Rattle.kernel_meaning.specs.Requests.{Answer, Yes, No, Requests, deal_of, next_answer, asked, row_end, asked_in_row}
use Rattle.kernel_meaning.specs.RefusedRequests.{out_after}

-- at each refused one fewer frames were out than the bound
abbrev pub AreSpent : ℕ → ℕ → List Deal → Type 0
AreSpent bound out [] = Unit {0}
AreSpent bound out (Granted want ∷ deals) = AreSpent bound (out + 1) deals
AreSpent bound out (Denied want at ∷ deals) = (out + 1 ≤ bound) × AreSpent bound out deals
AreSpent bound out (Returned ∷ deals) = AreSpent bound (out - 1) deals

out-append : (out : ℕ) (front back : List Deal) → out_after out (front ++ back) ≡ out_after (out_after out front) back
out-append out [] back = refl
out-append out (Granted want ∷ front) back = out-append (out + 1) front back
out-append out (Denied want at ∷ front) back = out-append out front back
out-append out (Returned ∷ front) back = out-append (out - 1) front back

spent-append : (bound out : ℕ) (front back : List Deal) → AreSpent bound out front → AreSpent bound (out_after out front) back → AreSpent bound out (front ++ back)
spent-append bound out [] back first rest = rest
spent-append bound out (Granted want ∷ front) back first rest = spent-append bound (out + 1) front back first rest
spent-append bound out (Denied want at ∷ front) back first rest = (first.0, spent-append bound out front back first.1 rest)
spent-append bound out (Returned ∷ front) back first rest = spent-append bound (out - 1) front back first rest

-- each refused request, where it stands
pub spent-at : (bound out : ℕ) (front : List Deal) (want : Want) (at : ℕ) (back : List Deal) → AreSpent bound out (front ++ Denied want at ∷ back) → out_after out front + 1 ≤ bound
spent-at bound out [] want at back spent = spent.0
spent-at bound out (Granted other ∷ front) want at back spent = spent-at bound (out + 1) front want at back spent
spent-at bound out (Denied other there ∷ front) want at back spent = spent-at bound out front want at back spent.1
spent-at bound out (Returned ∷ front) want at back spent = spent-at bound (out - 1) front want at back spent

returned-spent : (bound out n : ℕ) → AreSpent bound out (replicate n Returned)
returned-spent bound out zero = tt
returned-spent bound out (suc n) = returned-spent bound (out - 1) n

returned-out : (out n : ℕ) → out_after out (replicate n Returned) ≡ out - n
returned-out out zero = omega arith
returned-out out (suc n) = returned-out (out - 1) n ∙ omega arith

-- so are deals behind so many frames that are out, and no more than some are out behind them
pub record IsSpent (bound from most : ℕ) (deals : List Deal) : Type 0 where
  pub spent : AreSpent bound from deals
  pub out : out_after from deals ≤ most

module _ (bound from : ℕ) where
  -- no more than a greater number
  pub spent-weaker : (most more : ℕ) (deals : List Deal) → IsSpent bound from most deals → most ≤ more → IsSpent bound from more deals
  spent-weaker most more deals before less = record { spent = before.spent; out = omega (arith, before.out, less) }

  -- one request more, whatever its answer
  spent-deal : (most : ℕ) (deals : List Deal) (want : Want) (answer : Answer) → IsSpent bound from most deals → most + 1 ≤ bound
      → IsSpent bound from (most + 1) (deals ++ deal_of want answer ∷ [])
  spent-deal most deals want Yes before room = record {
    spent = spent-append bound from deals (Granted want ∷ []) before.spent tt;
    out = let is = out-append from deals (Granted want ∷ []) in omega (arith, is, before.out);
  }
  spent-deal most deals want (No at) before room = record {
    spent = spent-append bound from deals (Denied want at ∷ []) before.spent (omega (arith, before.out, room), tt);
    out = let is = out-append from deals (Denied want at ∷ []) in omega (arith, is, before.out);
  }

  -- a granted one needs no room
  pub spent-granted : (most : ℕ) (deals : List Deal) (want : Want) → IsSpent bound from most deals → IsSpent bound from (most + 1) (deals ++ Granted want ∷ [])
  spent-granted most deals want before = record {
    spent = spent-append bound from deals (Granted want ∷ []) before.spent tt;
    out = let is = out-append from deals (Granted want ∷ []) in omega (arith, is, before.out);
  }

  -- a refused one takes none
  pub spent-denied : (most : ℕ) (deals : List Deal) (want : Want) (at : ℕ) → IsSpent bound from most deals → most + 1 ≤ bound
      → IsSpent bound from most (deals ++ Denied want at ∷ [])
  spent-denied most deals want at before room = record {
    spent = spent-append bound from deals (Denied want at ∷ []) before.spent (omega (arith, before.out, room), tt);
    out = let is = out-append from deals (Denied want at ∷ []) in omega (arith, is, before.out);
  }

  -- frames are given back
  pub spent-given : (most n : ℕ) (deals : List Deal) → IsSpent bound from most deals → IsSpent bound from (most - n) (deals ++ replicate n Returned)
  spent-given most n deals before = record {
    spent = spent-append bound from deals (replicate n Returned) before.spent (returned-spent bound (out_after from deals) n);
    out = let is = out-append from deals (replicate n Returned) ∙ returned-out (out_after from deals) n in omega (arith, is, before.out);
  }

  -- requests in a row, for which there is room
  pub spent-row : (wants : List Want) (most : ℕ) (requests : Requests) → IsSpent bound from most requests.deals → most + length wants ≤ bound
      → IsSpent bound from (most + length wants) (asked_in_row wants requests).requests.deals
  spent-row [] most requests before room = spent-weaker most (most + 0) requests.deals before (omega arith)
  spent-row (want ∷ wants) most requests before room =
      let one = spent-deal most requests.deals want (next_answer requests) before (omega (arith, room)) in
      by (next_answer requests) one
      (spent-weaker (most + 1 + length wants) (most + suc (length wants)) _ (spent-row wants (most + 1) (asked want requests) one (omega (arith, room))) (omega arith))
    where
      by : (answer : Answer) → IsSpent bound from (most + 1) (requests.deals ++ deal_of want answer ∷ [])
          → IsSpent bound from (most + suc (length wants)) (asked_in_row wants (asked want requests)).requests.deals
          → let one : Requests = record { made = requests.made + 1; coming = (asked want requests).coming; deals = requests.deals ++ deal_of want answer ∷ [] } in
          IsSpent bound from (most + suc (length wants)) (row_end answer one (asked_in_row wants (asked want requests))).requests.deals
      by Yes one rest = rest
      by (No at) one rest = spent-weaker (most + 1) (most + suc (length wants)) _ one (omega arith)
