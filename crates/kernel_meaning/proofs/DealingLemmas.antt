-- Dealings behind others, and those of one asker.
use Rattle.std.proofs.Common.{◌≡◌, ◌∙◌, ℕ, zero, suc, ◌+◌, ◌≤◌, List, [], ◌∷◌, ◌++◌, refl, sym, ap, subst, arith}
use Rattle.std.specs.Prelude.{Bool, true, false, Option}
use Rattle.vm_base.specs.declared.frame_request.Asker.{Asker}
use Rattle.vm_base.specs.declared.frame_request.Asker.TheVariants.{Parent, Snapshot}
use Rattle.vm_base.specs.Counts.{next_count}
use Rattle.vm_base.specs.Deals.{Deal, Granted, Denied, Returned}
use Rattle.kernel_meaning.specs.RefusedRequests.{requests_of, out_after, count_after}
use Rattle.kernel_meaning.specs.Stretches.{Dealing, By, dealings_of, request_made, requests_among, made_among, out_among, is_same_asker, one_more_if, refused_among, requested_among, CarriesCount, AreCountedAmong, counted_up, IsCountedFrom}

-- ---- one more, where it counts

one_more-append : (b : Bool) (all front back : ℕ) → all ≡ front + back → one_more_if b all ≡ one_more_if b front + back
one_more-append true all front back same = omega (arith, same)
one_more-append false all front back same = same

one_more-grows : (b : Bool) (n : ℕ) → n ≤ one_more_if b n
one_more-grows true n = omega arith
one_more-grows false n = omega arith

-- ---- behind others

pub requests_among-append : (named : Option ℕ) (made out : ℕ) (xs ys : List Dealing)
    → requests_among named made out (xs ++ ys) ≡ requests_among named made out xs ++ requests_among named (made_among made xs) (out_among out xs) ys
requests_among-append named made out [] ys = refl
requests_among-append named made out (By asker (Granted want) ∷ xs) ys =
    ap (λ rest. request_made asker want named made out false ∷ rest) (requests_among-append named (made + 1) (out + 1) xs ys)
requests_among-append named made out (By asker (Denied want at) ∷ xs) ys =
    ap (λ rest. request_made asker want named made out true ∷ rest) (requests_among-append named (made + 1) out xs ys)
requests_among-append named made out (By asker Returned ∷ xs) ys = requests_among-append named made _ xs ys

pub made_among-append : (made : ℕ) (xs ys : List Dealing) → made_among made (xs ++ ys) ≡ made_among (made_among made xs) ys
made_among-append made [] ys = refl
made_among-append made (By asker (Granted want) ∷ xs) ys = made_among-append (made + 1) xs ys
made_among-append made (By asker (Denied want at) ∷ xs) ys = made_among-append (made + 1) xs ys
made_among-append made (By asker Returned ∷ xs) ys = made_among-append made xs ys

pub out_among-append : (out : ℕ) (xs ys : List Dealing) → out_among out (xs ++ ys) ≡ out_among (out_among out xs) ys
out_among-append out [] ys = refl
out_among-append out (By asker (Granted want) ∷ xs) ys = out_among-append (out + 1) xs ys
out_among-append out (By asker (Denied want at) ∷ xs) ys = out_among-append out xs ys
out_among-append out (By asker Returned ∷ xs) ys = out_among-append _ xs ys

pub refused_among-append : (asker : Asker) (xs ys : List Dealing) → refused_among asker (xs ++ ys) ≡ refused_among asker xs + refused_among asker ys
refused_among-append asker [] ys = omega arith
refused_among-append asker (By other (Granted want) ∷ xs) ys = refused_among-append asker xs ys
refused_among-append asker (By other (Denied want at) ∷ xs) ys =
    one_more-append (is_same_asker asker other) (refused_among asker (xs ++ ys)) (refused_among asker xs) (refused_among asker ys) (refused_among-append asker xs ys)
refused_among-append asker (By other Returned ∷ xs) ys = refused_among-append asker xs ys

-- a count that rose twice
pub counted_up-on : (one two count : ℕ) → counted_up (counted_up count one) two ≡ counted_up count (one + two)
counted_up-on zero two count =
    let same : two ≡ 0 + two = omega arith in
    ap (counted_up count) same
counted_up-on (suc one) two count =
    let more : suc (one + two) ≡ suc one + two = omega arith in
    counted_up-on one two (next_count count) ∙ ap (counted_up count) more

pub requested_among-append : (asker : Asker) (xs ys : List Dealing) → requested_among asker (xs ++ ys) ≡ requested_among asker xs + requested_among asker ys
requested_among-append asker [] ys = omega arith
requested_among-append asker (By other (Granted want) ∷ xs) ys =
    one_more-append (is_same_asker asker other) (requested_among asker (xs ++ ys)) (requested_among asker xs) (requested_among asker ys) (requested_among-append asker xs ys)
requested_among-append asker (By other (Denied want at) ∷ xs) ys =
    one_more-append (is_same_asker asker other) (requested_among asker (xs ++ ys)) (requested_among asker xs) (requested_among asker ys) (requested_among-append asker xs ys)
requested_among-append asker (By other Returned ∷ xs) ys = requested_among-append asker xs ys

-- no more of them are refused than made
pub refused-requested : (asker : Asker) (xs : List Dealing) → refused_among asker xs ≤ requested_among asker xs
refused-requested asker [] = omega arith
refused-requested asker (By other (Granted want) ∷ xs) =
    let rest : refused_among asker xs ≤ requested_among asker xs = refused-requested asker xs in
    let more : requested_among asker xs ≤ one_more_if (is_same_asker asker other) (requested_among asker xs) = one_more-grows (is_same_asker asker other) (requested_among asker xs) in
    omega (arith, rest, more)
refused-requested asker (By other (Denied want at) ∷ xs) = by (is_same_asker asker other) (refused_among asker xs) (requested_among asker xs) (refused-requested asker xs)
  where
    by : (b : Bool) (one two : ℕ) → one ≤ two → one_more_if b one ≤ one_more_if b two
    by true one two less = omega (arith, less)
    by false one two less = less
refused-requested asker (By other Returned ∷ xs) = refused-requested asker xs

-- counted dealings behind counted ones
pub counted-append : (asker : Asker) (count : ℕ) (xs ys : List Dealing) → AreCountedAmong asker count xs → AreCountedAmong asker (counted_up count (refused_among asker xs)) ys
    → AreCountedAmong asker count (xs ++ ys)
counted-append asker count [] ys first second = second
counted-append asker count (By other (Granted want) ∷ xs) ys first second = counted-append asker count xs ys first second
counted-append asker count (By other (Denied want at) ∷ xs) ys first second = by (is_same_asker asker other) first second (λ count. counted-append asker count xs ys)
  where
    by : (b : Bool) → CarriesCount b count at (λ count. AreCountedAmong asker count xs) → AreCountedAmong asker (counted_up count (one_more_if b (refused_among asker xs))) ys
        → ((count : ℕ) → AreCountedAmong asker count xs → AreCountedAmong asker (counted_up count (refused_among asker xs)) ys → AreCountedAmong asker count (xs ++ ys))
        → CarriesCount b count at (λ count. AreCountedAmong asker count (xs ++ ys))
    by true first second rest = (first.0, rest (next_count count) first.1 second)
    by false first second rest = rest count first second
counted-append asker count (By other Returned ∷ xs) ys first second = counted-append asker count xs ys first second

pub counted_from-on : (asker : Asker) (one two three : ℕ) (xs ys : List Dealing) → IsCountedFrom asker one xs two → IsCountedFrom asker two ys three → IsCountedFrom asker one (xs ++ ys) three
counted_from-on asker one two three xs ys a b = record {
  told = counted-append asker one xs ys a.told (subst (λ count. AreCountedAmong asker count ys) a.rose b.told);
  rose = b.rose ∙ ap (λ count. counted_up count (refused_among asker ys)) a.rose ∙ counted_up-on (refused_among asker xs) (refused_among asker ys) one
      ∙ ap (counted_up one) (sym (refused_among-append asker xs ys));
}

-- ---- of one asker

pub requests_among-of : (asker : Asker) (named : Option ℕ) (made out : ℕ) (deals : List Deal)
    → requests_among named made out (dealings_of asker deals) ≡ requests_of asker named made out deals
requests_among-of asker named made out [] = refl
requests_among-of asker named made out (Granted want ∷ deals) =
    ap (λ rest. request_made asker want named made out false ∷ rest) (requests_among-of asker named (made + 1) (out + 1) deals)
requests_among-of asker named made out (Denied want at ∷ deals) =
    ap (λ rest. request_made asker want named made out true ∷ rest) (requests_among-of asker named (made + 1) out deals)
requests_among-of asker named made out (Returned ∷ deals) = requests_among-of asker named made _ deals

pub out_among-of : (asker : Asker) (out : ℕ) (deals : List Deal) → out_among out (dealings_of asker deals) ≡ out_after out deals
out_among-of asker out [] = refl
out_among-of asker out (Granted want ∷ deals) = out_among-of asker (out + 1) deals
out_among-of asker out (Denied want at ∷ deals) = out_among-of asker out deals
out_among-of asker out (Returned ∷ deals) = out_among-of asker _ deals

-- the parent's count rises by its refused requests
pub counted_up-parent : (count : ℕ) (deals : List Deal) → count_after count deals ≡ counted_up count (refused_among Parent (dealings_of Parent deals))
counted_up-parent count [] = refl
counted_up-parent count (Granted want ∷ deals) = counted_up-parent count deals
counted_up-parent count (Denied want at ∷ deals) = counted_up-parent (next_count count) deals
counted_up-parent count (Returned ∷ deals) = counted_up-parent count deals

-- and none of a snapshot is among them
pub refused_among-parent : (n : ℕ) (deals : List Deal) → refused_among (Snapshot n) (dealings_of Parent deals) ≡ 0
refused_among-parent n [] = refl
refused_among-parent n (Granted want ∷ deals) = refused_among-parent n deals
refused_among-parent n (Denied want at ∷ deals) = refused_among-parent n deals
refused_among-parent n (Returned ∷ deals) = refused_among-parent n deals

-- nor does one ask
pub requested_among-parent : (n : ℕ) (deals : List Deal) → requested_among (Snapshot n) (dealings_of Parent deals) ≡ 0
requested_among-parent n [] = refl
requested_among-parent n (Granted want ∷ deals) = requested_among-parent n deals
requested_among-parent n (Denied want at ∷ deals) = requested_among-parent n deals
requested_among-parent n (Returned ∷ deals) = requested_among-parent n deals

-- so its count stays
pub counted-parent : (n count : ℕ) (deals : List Deal) → AreCountedAmong (Snapshot n) count (dealings_of Parent deals)
counted-parent n count [] = tt
counted-parent n count (Granted want ∷ deals) = counted-parent n count deals
counted-parent n count (Denied want at ∷ deals) = counted-parent n count deals
counted-parent n count (Returned ∷ deals) = counted-parent n count deals

pub stays-counted : (n count : ℕ) (deals : List Deal) → IsCountedFrom (Snapshot n) count (dealings_of Parent deals) count
stays-counted n count deals = record { told = counted-parent n count deals; rose = ap (counted_up count) (sym (refused_among-parent n deals)) }

-- the count of one that did not ask stays too
pub unasked : (asker : Asker) (count : ℕ) (xs : List Dealing) → requested_among asker xs ≡ 0 → IsCountedFrom asker count xs count
unasked asker count [] none = record { told = tt; rose = refl }
unasked asker count (By other (Granted want) ∷ xs) none =
    let grows : requested_among asker xs ≤ one_more_if (is_same_asker asker other) (requested_among asker xs) = one_more-grows (is_same_asker asker other) (requested_among asker xs) in
    let it = unasked asker count xs (omega (arith, none, grows)) in
    record { told = it.told; rose = it.rose }
unasked asker count (By other (Denied want at) ∷ xs) none = record {
  told = (by (is_same_asker asker other) none (unasked asker count xs)).0;
  rose = (by (is_same_asker asker other) none (unasked asker count xs)).1;
}
  where
    by : (b : Bool) → one_more_if b (requested_among asker xs) ≡ 0 → (requested_among asker xs ≡ 0 → IsCountedFrom asker count xs count)
        → CarriesCount b count at (λ count. AreCountedAmong asker count xs) × (count ≡ counted_up count (one_more_if b (refused_among asker xs)))
    by true none rest = absurd (omega (arith, none))
    by false none rest = ((rest none).told, (rest none).rose)
unasked asker count (By other Returned ∷ xs) none = let it = unasked asker count xs none in record { told = it.told; rose = it.rose }
