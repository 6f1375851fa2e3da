-- The rule of the lock: its word, its slot, and what each seat knows.
use Rattle.std.specs.Prelude.{◌≡◌, ◌≢◌, ℕ, ◌+◌, ◌<◌, ◌≤◌, List, [], true, false, Option, Some, length, slice_index, slice_index_or}
use mathlib.Core.Option.{some}
use lib.ListN.{get_elem?}
use Rattle.atomic_table.specs.Table.{State}
use Rattle.turn_cell.specs.declared.known.Known.{Known}
use Rattle.turn_cell.specs.declared.known.Role.TheVariants.{Maker, Numbered, Spent}
use Rattle.turn_cell.specs.declared.cell.Start.{Start}
use Rattle.turn_cell.specs.History.{IsPrefix, AllBegin, entries_of}

-- the value that the lock was made with
abbrev pub first_value : {T : Type 0} → Start T → T
first_value key = key.value.value

-- the first seat has given no number and has seen nothing
abbrev pub first_view : {T E : Type 0} → Start T → Known T E
first_view key = record {
  role = Maker;
  first = Some (first_value key);
  seats = key.seats;
  number = 0;
  holds = false;
  seen = [];
  mine = [];
  heard = [];
  parts = [];
  met = [];
}

module _ {T E Opening : Type 0}
    (opening : T → Opening) (stands : Opening → List E → T → Type 0) (by : E → ℕ) where
  -- What the seat at a place knows is so. The word is 0, or 1 more than the number of the seat
  -- that has the turn. So many numbers were made, by the seat at the place `maker`, and `place`
  -- says where the seat of each number is: a number has one seat
  pub record Fits (key : Start T) (word made maker : ℕ) (place : ℕ → ℕ) (log : List E) (id : ℕ)
      (v : Known T E) : Type 0 where
    pub begins : IsPrefix v.seen log
    pub heard : AllBegin v.heard log
    pub same : v.role ≢ Spent → (v.first ≡ Some (first_value key)) × (v.seats ≡ key.seats)
    pub numbered : v.role ≡ Numbered → (v.number < made) × (place v.number ≡ id)
        × (v.mine ≡ entries_of by v.number log)
    pub holding : v.holds ≡ true → (v.role ≡ Numbered) × (word ≡ v.number + 1) × (v.seen ≡ log)
    pub resting : v.role ≡ Numbered → v.holds ≡ false → word ≢ v.number + 1
    pub making : v.role ≡ Maker → (id ≡ maker) × (v.number ≡ made)
        × ((n : ℕ) → n < length v.parts → (place n ≡ id) × (word ≢ n + 1)
        × (entries_of by n log ≡ slice_index_or v.parts n []))

  -- There is one history, which no field keeps. While the word is 0 the value in the slot stands
  -- for it, and numbers that were not made have no entry in it
  pub record Standing (key : Start T) (s : State (Option T) (Known T E)) : Type 0 where
    pub log : List E
    pub made : ℕ
    pub maker : ℕ
    pub place : ℕ → ℕ
    pub wide : length s.words ≡ 2
    pub within : made ≤ key.seats
    pub word : slice_index s.words 0 ≤ made
    pub free : slice_index s.words 0 ≡ 0 → (x : T) × (get_elem? s.homes 0 ≡ some (some (Some x)))
        × stands (opening (first_value key)) log x
    pub others : (n : ℕ) → made ≤ n → entries_of by n log ≡ []
    pub each : (id : ℕ) (v : Known T E) → get_elem? s.views id ≡ some v
        → Fits key (slice_index s.words 0) made maker place log id v
