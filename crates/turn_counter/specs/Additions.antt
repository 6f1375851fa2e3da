-- What a counter stands for.
use Rattle.std.specs.Prelude.{◌≡◌, ℕ, ◌+◌, ◌%◌, ◌^◌, ◌<◌, ◌≤◌, List, [], ◌∷◌, length}
use Rattle.turn_cell.specs.History.{entries_of}
use Rattle.turn_counter.specs.declared.counter.Addition.{Addition}
use Rattle.turn_counter.specs.declared.counter.Counter.{Counter}

-- the number of the seat that added
abbrev pub made_by : Addition → ℕ
made_by a = a.seat

-- what the additions add up to
abbrev pub total : List Addition → ℕ
total [] = 0
total (a ∷ rest) = a.amount + total rest

-- the sum is what was there at first and the additions, modulo 2 ^ 64
abbrev pub IsSumOf : ℕ → List Addition → Counter → Type 0
IsSumOf first log c = c.sum ≡ (first + total log) % 2 ^ 64

-- There is one history with this sum, in which each of the seats has as many entries, and no one
-- else has any
pub record CountsTurns (seats turns sum : ℕ) : Type 0 where
  pub log : List Addition
  pub sum_is : sum ≡ total log % 2 ^ 64
  pub each : (n : ℕ) → n < seats → length (entries_of made_by n log) ≡ turns
  pub others : (n : ℕ) → seats ≤ n → entries_of made_by n log ≡ []
