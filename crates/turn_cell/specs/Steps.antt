-- What each step on the table tells the seat that makes it, and how a view is cut and joined.
use Rattle.std.specs.Prelude.{◌≡◌, ◌≢◌, ℕ, ◌+◌, ◌≤◌, List, [], ◌∷◌, ◌++◌, true, false, Option, Some, None}
use Rattle.atomic_table.specs.Table.{Me}
use Rattle.turn_cell.specs.declared.known.Known.{Known}
use Rattle.turn_cell.specs.declared.known.Role.{Role}
use Rattle.turn_cell.specs.declared.known.Role.TheVariants.{Numbered, Guest, Spent}
use Rattle.turn_cell.specs.History.{IsPrefix, longer, entries_of}

-- what a seat knows, and what it holds of the slot
abbrev pub Holder : Type 0 → Type 0 → Type 0
Holder T E = Me (Option T) (Known T E)

module _ {T E Opening : Type 0}
    (opening : T → Opening) (stands : Opening → List E → T → Type 0) (by : E → ℕ) where
  -- the value stands for the list, since the opening that the first value gives
  abbrev pub StandsSince : Option T → List E → T → Type 0
  StandsSince first log x = (f : T) → first ≡ Some f → stands (opening f) log x

  -- the seat has the turn, and in the slot a value that stands for all of the history
  pub record Took (m m' : Holder T E) : Type 0 where
    pub log : List E
    pub value : T
    pub view : m'.0 ≡ record m.0 { holds = true; seen = log; met = m.0.met ++ 0 ∷ [] }
    pub slot : m'.1 ≡ (0, Some value) ∷ []
    pub begins : IsPrefix m.0.seen log
    pub own : m.0.mine ≡ entries_of by m.0.number log
    pub meaning : StandsSince m.0.first log value

  -- another seat has the turn
  pub record Missed (m : Holder T E) (found : ℕ) (m' : Holder T E) : Type 0 where
    pub view : m'.0 ≡ record m.0 { met = m.0.met ++ found ∷ [] }
    pub slot : m'.1 ≡ m.1
    pub within : found ≤ m.0.seats
    pub other : found ≢ m.0.number + 1

  -- an exchange of the word took the turn, or found it taken
  abbrev pub tried : Holder T E → ℕ → Holder T E → Type 0
  tried m found m' = (found ≡ 0 → Took m m') × (found ≢ 0 → Missed m found m')

module _ {T E : Type 0} (by : E → ℕ) where
  -- the seat has seen as much as another told it
  pub record Heard (l : List E) (m m' : Holder T E) : Type 0 where
    pub view : m'.0 ≡ record m.0 { seen = longer m.0.seen l; heard = [] }
    pub slot : m'.1 ≡ m.1
    pub begins : IsPrefix m.0.seen (longer m.0.seen l)
    pub other : IsPrefix l (longer m.0.seen l)
    pub own : m.0.mine ≡ entries_of by m.0.number (longer m.0.seen l)

  -- a look at the lock, after a seat was joined
  abbrev pub looked : Holder T E → Holder T E → Type 0
  looked m m' = (l : List E) → m.0.heard ≡ l ∷ [] → Heard l m m'

module _ {T E : Type 0} where
  -- the turn was given back, with these entries
  abbrev pub gave : List E → Holder T E → Holder T E → Type 0
  gave es m m' =
      (m'.0 ≡ record m.0 { holds = false; seen = m.0.seen ++ es; mine = m.0.mine ++ es })
      × (m'.1 ≡ [])

  -- a view that has seen as much, with no entry of its own
  abbrev pub fresh : Role → ℕ → Known T E → Known T E
  fresh role n v = record {
    role = role;
    first = v.first;
    seats = v.seats;
    number = n;
    holds = false;
    seen = v.seen;
    mine = [];
    heard = [];
    parts = [];
    met = [];
  }

  -- the maker after it gave a number
  abbrev pub numbering : Known T E → Known T E
  numbering v = record v { number = v.number + 1 }

  -- a seat of the number that the maker gives
  abbrev pub numbered : Known T E → Known T E
  numbered v = fresh Numbered v.number v

  -- a view with no number, that tells what v has seen
  abbrev pub guest : Known T E → Known T E
  guest v = fresh Guest 0 v

  -- v was told what w has seen
  abbrev pub told : Known T E → Known T E → Known T E
  told v w = record v { heard = w.seen ∷ [] }

  -- the maker has taken in the seat of the next number
  abbrev pub gathered : Known T E → Known T E → Known T E
  gathered v w = record v { heard = v.heard ++ w.seen ∷ []; parts = v.parts ++ w.mine ∷ [] }

  -- what is left of a seat that was joined
  abbrev pub spent : Known T E
  spent = record {
    role = Spent;
    first = None;
    seats = 0;
    number = 0;
    holds = false;
    seen = [];
    mine = [];
    heard = [];
    parts = [];
    met = [];
  }
