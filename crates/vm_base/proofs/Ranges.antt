-- Ranges of numbers, one after another, and the lowest number that passes a test.
use Rattle.std.proofs.Common.{◌≡◌, ℕ, zero, suc, ◌+◌, ◌-◌, ◌<◌, ◌≤◌, Bool, true, false, ◌∷◌, ◌++◌, Some, None, refl, ◌∙◌, ap, arith}
use Rattle.std.specs.List.{range_with_len, find}
use Rattle.std.proofs.lemmas.Bool.{cond-true, cond-false}
use Rattle.vm_base.specs.FlatStep.{lowest}

-- a range in two parts
pub range-split : (first j k : ℕ) → range_with_len first (j + k) ≡ range_with_len first j ++ range_with_len (first + j) k
range-split first zero k =
    let none : zero + k ≡ k = omega arith in
    let here : first ≡ first + zero = omega arith in
    ap (range_with_len first) none ∙ ap (λ a. range_with_len a k) here
range-split first (suc j) k =
    let more : suc j + k ≡ suc (j + k) = omega arith in
    let further : first + 1 + j ≡ first + suc j = omega arith in
    ap (range_with_len first) more
    ∙ ap (λ r. first ∷ r) (range-split (first + 1) j k ∙ ap (λ a. range_with_len (first + 1) j ++ range_with_len a k) further)

-- the first number of a range that is not empty
range_front : (n end : ℕ) → n < end → range_with_len n (end - n) ≡ n ∷ range_with_len (n + 1) (end - (n + 1))
range_front n end below = let step : end - n ≡ suc (end - (n + 1)) = omega arith in ap (range_with_len n) step

-- the number passes, so it is the lowest
pub lowest_here : (test : ℕ → Bool) (n end : ℕ) → n < end → test n ≡ true → lowest test n (end - n) ≡ Some n
lowest_here test n end below passes = ap (find test) (range_front n end below) ∙ cond-true (test n) _ _ passes

-- the number fails, so the lowest lies above
pub lowest_above : (test : ℕ → Bool) (n end : ℕ) → n < end → test n ≡ false → lowest test n (end - n) ≡ lowest test (n + 1) (end - (n + 1))
lowest_above test n end below fails = ap (find test) (range_front n end below) ∙ cond-false (test n) _ _ fails

-- no number is left
pub lowest_none : (test : ℕ → Bool) (n end : ℕ) → end ≤ n → lowest test n (end - n) ≡ None
lowest_none test n end past = let nothing : end - n ≡ 0 = omega arith in ap (lowest test n) nothing

-- no number of a range passes a test that none passes
pub lowest_fails : (n first : ℕ) (test : ℕ → Bool) → ((k : ℕ) → test k ≡ false) → lowest test first n ≡ None
lowest_fails zero first test fails = refl
lowest_fails (suc n) first test fails = cond-false (test first) _ _ (fails first) ∙ lowest_fails n (first + 1) test fails
