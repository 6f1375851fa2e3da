-- What one more addition does to a sum.
use Rattle.std.proofs.Common.{◌≡◌, ℕ, ◌+◌, ◌%◌, ◌^◌, List, [], ◌∷◌, ◌++◌, ap, ◌∙◌, arith}
use Rattle.std.proofs.Math.Nat.{mod-add-mod}
use Rattle.turn_counter.specs.declared.counter.Addition.{Addition}
use Rattle.turn_counter.specs.Additions.{total}

pub total-push : (log : List Addition) (a : Addition) → total (log ++ a ∷ []) ≡ total log + a.amount
total-push [] a = omega arith
total-push (x ∷ xs) a = let e = total-push xs a in omega arith

-- the sum goes on from what it was
pub adds : (first sum x : ℕ) (log : List Addition) (a : Addition) → sum ≡ (first + total log) % 2 ^ 64 → x ≡ a.amount → (sum + x) % 2 ^ 64 ≡ (first + total (log ++ a ∷ [])) % 2 ^ 64
adds first sum x log a is same =
    let e : first + total log + x ≡ first + total (log ++ a ∷ []) = let p = total-push log a in omega arith in
    ap (λ (n : ℕ). (n + x) % 2 ^ 64) is ∙ (mod-add-mod (first + total log) (2 ^ 64) x ∙ ap (λ (n : ℕ). n % 2 ^ 64) e)
