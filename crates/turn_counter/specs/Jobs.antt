-- What the jobs of a race, and the list of its seats at the end, have.
use Rattle.std.specs.Prelude.{◌≡◌, ℕ, ◌<◌, List, length, Some, slice_index_or}
use Rattle.turn_cell.specs.declared.seat.Seat.{Seat}
use Rattle.turn_cell.specs.declared.seat.SeatList.{SeatList}
use Rattle.turn_cell.specs.Seats.{CellId, IsSeatOf, mine}
use Rattle.turn_cell.specs.Lists.{slot_at}
use Rattle.turn_counter.specs.declared.counter.Addition.{Addition}
use Rattle.turn_counter.specs.declared.counter.Counter.{Counter}
use Rattle.turn_counter.specs.declared.race.Job.{Job}
use Rattle.turn_counter.specs.Additions.{made_by}

-- there is a job for each seat of the cell, in order, and each has made as many additions
pub record HaveMade (c : CellId Counter) (count : ℕ) (jobs : List Job) : Type 0 where
  pub long : length jobs ≡ c.seats
  pub each : (n : ℕ) (d : Job) → n < length jobs
      → IsSeatOf made_by c (slice_index_or jobs n d).seat
      × ((slice_index_or jobs n d).seat.number ≡ n)
      × (length (mine (slice_index_or jobs n d).seat) ≡ count)

-- each seat in the list has made as many additions
abbrev pub HasMadeAdditions : SeatList Counter Addition → ℕ → Type 0
HasMadeAdditions l count =
    (n : ℕ) (s : Seat Counter Addition) → slot_at l n ≡ Some s → length (mine s) ≡ count
