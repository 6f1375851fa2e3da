-- The frame requests of a directory, in their order, and what they leave of an allot.
use Rattle.std.specs.Prelude.{◌≡◌, ℕ, ◌+◌, ◌/◌, ◌^◌, ◌==◌, Bool, not, List, [], ◌∷◌, ◌++◌, map, length, replicate, Result, Ok, Err, if◌then◌else◌}
use Rattle.std.specs.List.{list_any}
use Rattle.vm_base.specs.declared.frame_request.Want.{Want}
use Rattle.vm_base.specs.declared.frame_request.Want.TheVariants.{Top, Upper, Middle}
use Rattle.table_levels.specs.declared.frames.Wanted.{Wanted}
use Rattle.vm_base.specs.declared.refusals.Refused.{Refused}
use Rattle.vm_base.specs.Places.{distinct}
use Rattle.vm_base.specs.Deals.{Deal, Granted, Denied, Returned, LeadsAlong}

-- one of the cells lies with this cell under one table that spans so many cells
abbrev pub shares : ℕ → List ℕ → ℕ → Bool
shares span cells cell = list_any (λ other. other / span == cell / span) cells

-- one table is asked for, unless it is there
abbrev pub unless : Bool → Want → List Want
unless there want = if there then [] else want ∷ []

-- the tables that a cell needs beside those of the cells that are there, top first: one of each level for the first cell
abbrev pub missing_tables : List ℕ → ℕ → List Want
missing_tables cells cell =
    unless (not (length cells == 0)) Top
    ++ unless (shares (2 ^ 18) cells cell) Upper
    ++ unless (shares (2 ^ 9) cells cell) Middle

-- the tables of a directory of these cells, level after level from the top
abbrev pub directory_wants : List ℕ → List Want
directory_wants [] = []
directory_wants (cell ∷ cells) =
    Top ∷ replicate (length (distinct (map (λ c. c / 2 ^ 18) (cell ∷ cells)))) Upper
    ++ replicate (length (distinct (map (λ c. c / 2 ^ 9) (cell ∷ cells)))) Middle

-- one table is asked for where it is wanted
abbrev pub wanted_if : Bool → Want → List Want
wanted_if is_wanted want = if is_wanted then want ∷ [] else []

-- the upper and the middle table, as far as they are wanted
abbrev pub wanted_lower : Wanted → List Want
wanted_lower wanted = wanted_if wanted.upper Upper ++ wanted_if wanted.middle Middle

-- the tables that are wanted, top first
abbrev pub wanted_tables : Wanted → List Want
wanted_tables wanted = wanted_if wanted.top Top ++ wanted_lower wanted

-- each want was granted
abbrev pub granted : List Want → List Deal
granted wants = map Granted wants

-- so many frames were given back
abbrev pub returned : ℕ → List Deal
returned n = replicate n Returned

-- the wants in front were granted, the next was refused, and what was granted was given back
pub record RefusesOne {State : Type 0} (goes : State → Deal → State → Type 0) (old : State) (wants : List Want) (at : ℕ) (new : State) : Type 0 where
  pub front : List Want
  pub want : Want
  pub rest : List Want
  pub order : wants ≡ front ++ want ∷ rest
  pub deals : LeadsAlong goes old (granted front ++ Denied want at ∷ returned (length front)) new

-- the wants were asked for in their order: all were granted, or one was refused
abbrev pub Asks : {State X : Type 0} → (State → Deal → State → Type 0) → State → List Want → Result X Refused → State → Type 0
Asks goes old wants (Ok done) new = LeadsAlong goes old (granted wants) new
Asks goes old wants (Err e) new = RefusesOne goes old wants e.at new

-- the frames of this user are more by so many where the call was granted, and as many as before where it was refused
abbrev pub AddsFrames : {State X : Type 0}
    → (State → ℕ) → State → ℕ → Result X Refused → State → Type 0
AddsFrames out old n (Ok done) new = out new ≡ out old + n
AddsFrames out old n (Err e) new = out new ≡ out old
