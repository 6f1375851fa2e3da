-- What an addition answers, at its place in the one history.
use Rattle.std.specs.Prelude.{◌≡◌, ℕ, ◌+◌, ◌%◌, ◌^◌, List, [], ◌∷◌, ◌++◌, Some}
use Rattle.turn_cell.specs.declared.seat.Seat.{Seat}
use Rattle.turn_cell.specs.History.{IsPrefix}
use Rattle.turn_cell.specs.Seats.{CellId, IsSameSeat, seen, mine}
use Rattle.turn_counter.specs.declared.counter.Addition.{Addition}
use Rattle.turn_counter.specs.declared.counter.Counter.{Counter}
use Rattle.turn_counter.specs.Additions.{total}

abbrev Adder : Type 0
Adder = Seat Counter Addition

-- the addition of this amount by this seat
abbrev pub by_seat : Adder → ℕ → Addition
by_seat s amount = record { seat = s.number; amount = amount }

-- The reply is the sum of the entries before this one in a history that begins with all that the
-- seat had seen, and that the seat has seen now, with its own entry at the end
pub record IsAddition (c : CellId Counter) (s s' : Adder) (amount reply : ℕ) : Type 0 where
  pub before : List Addition
  pub begins : IsPrefix (seen s) before
  pub reply_is : (first : Counter) → c.first ≡ Some first
      → reply ≡ (first.sum + total before) % 2 ^ 64
  pub seen_is : seen s' ≡ before ++ by_seat s amount ∷ []
  pub mine_is : mine s' ≡ mine s ++ by_seat s amount ∷ []
  pub same : IsSameSeat s s'
