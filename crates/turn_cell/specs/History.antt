-- Histories as lists of entries, and the part of one that a seat made.
use Rattle.std.specs.Prelude.{◌≡◌, ℕ, ◌==◌, List, [], ◌∷◌, ◌++◌, filter, length, nat_lt, if◌then◌else◌}

-- the second list begins with the first
pub record IsPrefix {E : Type 0} (xs ys : List E) : Type 0 where
  pub rest : List E
  pub whole : ys ≡ xs ++ rest

-- each of the lists begins the history
abbrev pub AllBegin : {E : Type 0} → List (List E) → List E → Type 0
AllBegin [] log = Unit {0}
AllBegin (l ∷ ls) log = IsPrefix l log × AllBegin ls log

-- the longer of two lists, and the first where they are as long
abbrev pub longer : {E : Type 0} → List E → List E → List E
longer xs ys = if nat_lt (length xs) (length ys) then ys else xs

-- the entries of the seat with this number, in order
abbrev pub entries_of : {E : Type 0} → (E → ℕ) → ℕ → List E → List E
entries_of by n log = filter (λ e. by e == n) log

-- the seat with this number made each of these entries
abbrev pub AllMadeBy : {E : Type 0} → (E → ℕ) → ℕ → List E → Type 0
AllMadeBy by n [] = Unit {0}
AllMadeBy by n (e ∷ es) = (by e ≡ n) × AllMadeBy by n es
