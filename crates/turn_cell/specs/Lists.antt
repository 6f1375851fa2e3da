-- What a contract sees of a list of seats.
use Rattle.std.specs.Prelude.{◌≡◌, ℕ, ◌<◌, ◌≤◌, List, [], Option, Some, None, length, slice_index_or}
use Rattle.atomic_table.specs.Seated.{TableId}
use Rattle.atomic_table.specs.declared.shared.Seat as table
use Rattle.turn_cell.specs.declared.known.Known.{Known}
use Rattle.turn_cell.specs.declared.known.Role.TheVariants.{Maker}
use Rattle.turn_cell.specs.declared.cell.Start.{Start}
use Rattle.turn_cell.specs.declared.seat.Seat.{Seat}
use Rattle.turn_cell.specs.declared.seat.SeatList.{SeatList}
use Rattle.turn_cell.specs.History.{IsPrefix, entries_of}
use Rattle.turn_cell.specs.Rule.{first_value}
use Rattle.turn_cell.specs.Seats.{CellId, IsSeatOf, seen, mine, found, Stands}

-- the cell of a table and a key
abbrev pub start_id : {T : Type 0} → TableId → Start T → CellId T
start_id table key = record { table = table; first = Some (first_value key); seats = key.seats }

abbrev Place : Type 0 → Type 0 → Type 0
Place T E = table.Seat (Option T) (Known T E)

module _ {T E : Type 0} where
  -- the places for the seats, by their numbers
  abbrev pub list_slots : SeatList T E → List (Option (Seat T E))
  list_slots l = l.slots.items

  -- the seat of this number, where it is in the list
  abbrev pub slot_at : SeatList T E → ℕ → Option (Seat T E)
  slot_at l n = slice_index_or (list_slots l) n None

  -- the cell whose seats these are
  abbrev pub list_id : SeatList T E → CellId T
  list_id l = record {
    table = l.maker.table_id;
    first = l.maker.me.0.first;
    seats = l.maker.me.0.seats;
  }

  -- no seat has a number below this
  abbrev pub HasNone : List (Option (Seat T E)) → ℕ → Type 0
  HasNone slots at = (n : ℕ) → n < at → slice_index_or slots n None ≡ None

  -- some seat has this number
  abbrev pub IsSeatIn : List (Option (Seat T E)) → ℕ → Type 0
  IsSeatIn slots at = (s : Seat T E) × (slice_index_or slots at None ≡ Some s)

  -- the seat is in the list, and none with a lesser number
  pub record IsLeastOf (l : SeatList T E) (s : Seat T E) : Type 0 where
    pub here : slot_at l s.number ≡ Some s
    pub least : HasNone (list_slots l) s.number

  -- every seat of the cell is in the list
  abbrev pub IsWhole : SeatList T E → Type 0
  IsWhole l = (n : ℕ) → n < (list_id l).seats → IsSeatIn (list_slots l) n

  -- a seat that has seen nothing and made nothing
  pub record IsNew (s : Seat T E) : Type 0 where
    pub seen_none : seen s ≡ []
    pub mine_none : mine s ≡ []
    pub found_none : found s ≡ []

  -- every seat is in the list, and each is new
  abbrev pub IsNewList : SeatList T E → Type 0
  IsNewList l = (n : ℕ) → n < (list_id l).seats → (s : Seat T E) × (slot_at l n ≡ Some s) × IsNew s

  -- the maker has taken in the seats of these places, each with what it has seen and made
  pub record IsGathered (maker : Place T E) (slots : List (Option (Seat T E)))
      (now : Place T E) : Type 0 where
    pub table : now.table_id ≡ maker.table_id
    pub none : now.me.1 ≡ []
    pub role : now.me.0.role ≡ Maker
    pub number : now.me.0.number ≡ maker.me.0.number
    pub first : now.me.0.first ≡ maker.me.0.first
    pub count : length now.me.0.parts ≡ length slots
    pub long : length now.me.0.heard ≡ length slots
    pub made : (n : ℕ) (s : Seat T E) → slice_index_or slots n None ≡ Some s
        → slice_index_or now.me.0.parts n [] ≡ mine s
    pub told : (n : ℕ) (s : Seat T E) → slice_index_or slots n None ≡ Some s
        → slice_index_or now.me.0.heard n [] ≡ seen s

module _ {T E : Type 0} (by : E → ℕ) where
  -- each seat in the list is one of the cell, at its number, and there is a place for each number
  pub record IsList (l : SeatList T E) : Type 0 where
    pub role : l.maker.me.0.role ≡ Maker
    pub made : l.maker.me.0.number ≡ l.maker.me.0.seats
    pub parts : l.maker.me.0.parts ≡ []
    pub heard : l.maker.me.0.heard ≡ []
    pub none : l.maker.me.1 ≡ []
    pub size : length (list_slots l) ≡ (list_id l).seats
    pub each : (n : ℕ) (s : Seat T E) → slot_at l n ≡ Some s
        → IsSeatOf by (list_id l) s × (s.number ≡ n)

module _ {T E Opening : Type 0}
    (opening : T → Opening) (stands : Opening → List E → T → Type 0) (by : E → ℕ) where
  -- The value stands for the whole history: what each seat has seen begins it, its entries of each
  -- seat are just those that the seat made, in order, and it has no others
  pub record IsWholeHistory (l : SeatList T E) (x : T) : Type 0 where
    pub log : List E
    pub means : Stands opening stands by (list_id l) log x
    pub begins : (n : ℕ) (s : Seat T E) → slot_at l n ≡ Some s → IsPrefix (seen s) log
    pub made : (n : ℕ) (s : Seat T E) → slot_at l n ≡ Some s → mine s ≡ entries_of by n log
    pub others : (n : ℕ) → (list_id l).seats ≤ n → entries_of by n log ≡ []
