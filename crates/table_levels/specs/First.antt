-- What is found first from a number on.
use Rattle.std.specs.Prelude.{◌≡◌, ℕ, ◌<◌, ◌≤◌, Option, Some, None}

-- the first number from one on, below n, at which a look-up finds something, with what it finds
abbrev pub IsFirst : ℕ → (ℕ → Option ℕ) → ℕ → Option (ℕ × ℕ) → Type 0
IsFirst n look from None = (i : ℕ) → from ≤ i → i < n → look i ≡ None
IsFirst n look from (Some found) =
    (from ≤ found.0) × (found.0 < n) × (look found.0 ≡ Some found.1) × ((i : ℕ) → from ≤ i → i < found.0 → look i ≡ None)
