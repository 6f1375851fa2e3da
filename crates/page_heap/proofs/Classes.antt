-- The search for the least class of a size, from a class on.
use Rattle.std.proofs.Common.{◌≡◌, ◌⊎◌, ℕ, ◌+◌, ◌-◌, ◌^◌, ◌<◌, ◌≤◌, Bool, true, false, sym, ◌∙◌, ap, arith, inl, inr, unwrap_or}
use Rattle.std.specs.Prelude.{nat_le}
use Rattle.std.proofs.lemmas.Bool.{cases_Bool}
use Rattle.std.proofs.lemmas.Bool.Decides.{nat_tests}
use Rattle.vm_base.specs.FlatStep.{lowest}
use Rattle.vm_base.proofs.Ranges.{lowest_here, lowest_above}

-- the least class from this one on whose blocks hold so many bytes
abbrev pub class_from : ℕ → ℕ → ℕ
class_from class size = unwrap_or (lowest (λ c. nat_le size (2 ^ c)) class (22 - class)) 21

holds_size : (class size : ℕ) → size ≤ 2 ^ class → nat_le size (2 ^ class) ≡ true
holds_size class size less = grind (arith, nat_tests)

lacks_size : (class size : ℕ) → 2 ^ class < size → nat_le size (2 ^ class) ≡ false
lacks_size class size less = grind (arith, nat_tests)

-- the class holds them
pub class_from-here : (class size : ℕ) → class < 22 → size ≤ 2 ^ class → class_from class size ≡ class
class_from-here class size low less =
    ap (λ o. unwrap_or o 21) (lowest_here (λ c. nat_le size (2 ^ c)) class 22 low (holds_size class size less))

-- it does not, so the search goes on behind it
pub class_from-above : (class size : ℕ) → class < 22 → 2 ^ class < size → class_from class size ≡ class_from (class + 1) size
class_from-above class size low more =
    ap (λ o. unwrap_or o 21) (lowest_above (λ c. nat_le size (2 ^ c)) class 22 low (lacks_size class size more))

-- the last class is the answer where no other was
pub class_from-last : (class size : ℕ) → class ≡ 21 → class_from class size ≡ class
class_from-last class size last = ap (λ c. class_from c size) last ∙ at_last (cases_Bool (nat_le size (2 ^ 21))) ∙ sym last
  where
    use_test : (b : Bool) → nat_le size (2 ^ 21) ≡ b → class_from 21 size ≡ 21
    use_test true is = ap (λ o. unwrap_or o 21) (lowest_here (λ c. nat_le size (2 ^ c)) 21 22 (omega arith) is)
    use_test false is = ap (λ o. unwrap_or o 21) (lowest_above (λ c. nat_le size (2 ^ c)) 21 22 (omega arith) is)

    at_last : (nat_le size (2 ^ 21) ≡ true) ⊎ (nat_le size (2 ^ 21) ≡ false) → class_from 21 size ≡ 21
    at_last (inl is) = use_test true is
    at_last (inr is) = use_test false is
