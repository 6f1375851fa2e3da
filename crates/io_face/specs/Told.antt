-- Bytes that a source or a sink may tell: what is left to read, and what was written.
use Rattle.std.specs.Prelude.{◌≡◌, ℕ, ◌≤◌, List, [], ◌++◌, length, take, Option, IfSome}
use Rattle.std.specs.Option.{option_map}

-- these bytes were taken off the front of what was left, where that is told
abbrev pub Takes : Option (List ℕ) → Option (List ℕ) → List ℕ → Type 0
Takes old new piece = old ≡ option_map (λ rest. piece ++ rest) new

-- so many bytes were taken off the front
abbrev pub TakesCount : Option (List ℕ) → Option (List ℕ) → ℕ → Type 0
TakesCount old new count = (piece : List ℕ) × ((length piece ≡ count) × Takes old new piece)

-- no more than so many bytes were taken off the front
abbrev pub TakesAtMost : Option (List ℕ) → Option (List ℕ) → ℕ → Type 0
TakesAtMost old new most = (piece : List ℕ) × ((length piece ≤ most) × Takes old new piece)

-- some bytes were taken off the front
abbrev pub TakesSome : Option (List ℕ) → Option (List ℕ) → Type 0
TakesSome old new = (piece : List ℕ) × Takes old new piece

-- nothing is left, where that is told
abbrev pub IsAtEnd : Option (List ℕ) → Type 0
IsAtEnd left = IfSome left (λ rest. rest ≡ [])

-- these bytes were added at the end of what was written, where that is told
abbrev pub Adds : Option (List ℕ) → Option (List ℕ) → List ℕ → Type 0
Adds old new piece = new ≡ option_map (λ before. before ++ piece) old

-- a prefix of the text was added, and it may be all or nothing of it
abbrev pub AddsPrefix : Option (List ℕ) → Option (List ℕ) → List ℕ → Type 0
AddsPrefix old new text = (count : ℕ) × ((count ≤ length text) × Adds old new (take count text))
