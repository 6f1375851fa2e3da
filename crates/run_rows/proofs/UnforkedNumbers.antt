-- The last number of a kernel behind an event that is not run, or that forks nothing.
use Rattle.std.proofs.Common.{◌≡◌, ℕ, ◌≤◌, ◌<◌, Option, Some, None, sym, subst, arith}
use Rattle.std.specs.Prelude.{IfSome, unwrap_or}

-- the event is not run, and the last number stays
pub at-most-unrun : (number : Option ℕ) (last : ℕ) → IfSome number (λ n. last < n) → last ≤ unwrap_or number last
at-most-unrun None last above = omega arith
at-most-unrun (Some n) last above = omega (arith, above)

-- an event that forks nothing meets any last number, and leaves it where it was
pub above-unforked : (number : Option ℕ) (last : ℕ) → number ≡ None → IfSome number (λ n. last < n)
above-unforked number last none = subst (λ o. IfSome o (λ n. last < n)) (sym none) tt

pub at-most-unforked : (number : Option ℕ) (last now start : ℕ) → number ≡ None → now ≤ unwrap_or number last → last ≤ start → now ≤ start
at-most-unforked number last now start none most below = omega (arith, subst (λ o. now ≤ unwrap_or o last) none most, below)
