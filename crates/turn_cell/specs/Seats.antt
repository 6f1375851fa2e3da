-- What a contract sees of a cell, a seat and a turn.
use Rattle.std.specs.Prelude.{◌≡◌, ◌≢◌, ℕ, ◌+◌, ◌<◌, List, [], ◌∷◌, ◌++◌, true, false, Option, Some, None}
use mir.Syntax.{named}
use Rattle.std.specs.Borrow.{Lends, MutBor, Fml, RattleType}
use Rattle.atomic_table.specs.Seated.{TableId}
use Rattle.turn_cell.specs.declared.known.Role.TheVariants.{Numbered}
use Rattle.turn_cell.specs.declared.cell.TurnCell.{TurnCell}
use Rattle.turn_cell.specs.declared.seat.Seat.{Seat}
use Rattle.turn_cell.specs.declared.turns.Turn.{Turn}
use Rattle.turn_cell.specs.declared.told.Told.{Ghosts}
use Rattle.turn_cell.specs.contracts.turns.Turn.{the_row}
use Rattle.turn_cell.specs.History.{IsPrefix, longer, entries_of}
use Rattle.turn_cell.specs.Rule.{first_value}
use Rattle.turn_cell.specs.Steps.{StandsSince}

-- Which cell it is: its table, the value that it was made with, and how many seats it has
pub record CellId (T : Type 0) : Type 0 where
  pub table : TableId
  pub first : Option T
  pub seats : ℕ

module _ {T E : Type 0} where
  -- which cell a cell is
  abbrev pub cell_id : TurnCell T E → CellId T
  cell_id c = record {
    table = c.table.shared.table_id;
    first = Some (first_value c.table.shared.key);
    seats = c.table.shared.key.seats;
  }

  -- the cell that a seat is of
  abbrev pub seat_id : Seat T E → CellId T
  seat_id s = record {
    table = s.place.table_id;
    first = s.place.me.0.first;
    seats = s.place.me.0.seats;
  }

  -- what a seat has seen of the history
  abbrev pub seen : Seat T E → List E
  seen s = s.place.me.0.seen

  -- the entries that a seat has made, in order
  abbrev pub mine : Seat T E → List E
  mine s = s.place.me.0.mine

  -- what the exchanges of a seat have found in the word, in order: 0, or 1 more than the holder
  abbrev pub found : Seat T E → List ℕ
  found s = s.place.me.0.met

  -- t with another value
  abbrev pub with_value : Turn T E → T → Turn T E
  with_value t x = record { seat = t.seat; cell = t.cell; value = x }

-- what no call changes of a seat
pub record IsSameSeat {T E : Type 0} (s s' : Seat T E) : Type 0 where
  pub cell : seat_id s' ≡ seat_id s
  pub number : s'.number ≡ s.number

module _ {T E : Type 0} (by : E → ℕ) where
  -- a seat with a number, whose entries are those of its number in what it has seen
  pub record IsNumbered (s : Seat T E) : Type 0 where
    pub role : s.place.me.0.role ≡ Numbered
    pub number : s.place.me.0.number ≡ s.number
    pub small : s.number < s.place.me.0.seats
    pub own : mine s ≡ entries_of by s.number (seen s)

  -- a seat of this cell that has no turn
  pub record IsSeatOf (c : CellId T) (s : Seat T E) : Type 0 where
    pub cell : seat_id s ≡ c
    pub numbered : IsNumbered s
    pub slots : s.place.me.1 ≡ []
    pub resting : s.place.me.0.holds ≡ false

  -- the seat has the turn of this cell, and its value is out
  pub record IsHolder (c : CellId T) (s : Seat T E) : Type 0 where
    pub cell : seat_id s ≡ c
    pub numbered : IsNumbered s
    pub slots : s.place.me.1 ≡ (0, None) ∷ []
    pub holds : s.place.me.0.holds ≡ true

  -- the turn is one of its own cell
  abbrev pub IsHeld : Turn T E → Type 0
  IsHeld t = IsHolder (cell_id t.cell.now) t.seat.now

  -- the seat knows what it knew
  pub record Rests (c : CellId T) (s s' : Seat T E) : Type 0 where
    pub seat : IsSeatOf c s'
    pub same : IsSameSeat s s'
    pub seen_is : seen s' ≡ seen s
    pub mine_is : mine s' ≡ mine s

  -- another seat had the turn, and the one exchange of this call found its number in the word
  pub record WasBusy (c : CellId T) (s s' : Seat T E) (holder : ℕ) : Type 0 where
    pub rests : Rests c s s'
    pub found_is : found s' ≡ found s ++ (holder + 1) ∷ []
    pub other : holder ≢ s.number
    pub small : holder < c.seats

  -- the seat gave the turn back with these entries, which both its lists have now at their ends
  pub record GaveBack (c : CellId T) (s : Seat T E) (es : List E) (s' : Seat T E) : Type 0 where
    pub seat : IsSeatOf c s'
    pub same : IsSameSeat s s'
    pub seen_is : seen s' ≡ seen s ++ es
    pub mine_is : mine s' ≡ mine s ++ es

  -- the seat has seen the longer of what it and the other had seen, and both begin it
  pub record WasTold (c : CellId T) (from s s' : Seat T E) : Type 0 where
    pub seat : IsSeatOf c s'
    pub same : IsSameSeat s s'
    pub longer_is : seen s' ≡ longer (seen s) (seen from)
    pub begins : IsPrefix (seen s) (seen s')
    pub other_begins : IsPrefix (seen from) (seen s')
    pub mine_is : mine s' ≡ mine s
    pub found_is : found s' ≡ found s

module _ {T E Opening : Type 0}
    (opening : T → Opening) (stands : Opening → List E → T → Type 0) (by : E → ℕ) where
  -- the value stands for the list, since the opening of this cell
  abbrev pub Stands : CellId T → List E → T → Type 0
  Stands c log x = StandsSince opening stands by c.first log x

  -- The seat has the turn, and the value stands for a history that begins with what the seat had
  -- seen. It is what the seat has seen now
  pub record Began (c : CellId T) (s s' : Seat T E) (x : T) : Type 0 where
    pub held : IsHolder by c s'
    pub same : IsSameSeat s s'
    pub begins : IsPrefix (seen s) (seen s')
    pub mine_is : mine s' ≡ mine s
    pub means : Stands c (seen s') x

module _ (R E : RattleType) (g : Ghosts R.Denot E.Denot) where
  -- the turn ends with the last value behind the loan
  abbrev pub LendsValue : MutBor (Turn R.Denot E.Denot) → MutBor R.Denot → Fml
  LendsValue s r =
      Lends (the_row (record { mir = named 1; lft = [] }) R E g) R s r (with_value s.now)
