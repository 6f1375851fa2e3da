-- What reading a source to its end took and counted before it met an error.
use Rattle.std.specs.Prelude.{◌≡◌, ℕ, ◌+◌, List, Option}
use Rattle.io_face.specs.Faults.{Rose}
use Rattle.io_face.specs.Told.{TakesAtMost, TakesCount}
use Rattle.io_face.specs.declared.source.ReadAllError.{ReadAllError}
use Rattle.io_face.specs.declared.source.ReadAllError.TheVariants.{TooLong, ReadFault, NoMemory}

-- one byte past the limit was taken where the input was too long, and none where it was not
abbrev pub TakenBefore : ReadAllError → ℕ → Option (List ℕ) → Option (List ℕ) → Type 0
TakenBefore TooLong limit old new = TakesCount old new (limit + 1)
TakenBefore ReadFault limit old new = TakesAtMost old new limit
TakenBefore NoMemory limit old new = TakesAtMost old new limit

-- the count rose where a read failed, and is as it was where none did
abbrev pub CountedBefore : ReadAllError → ℕ → ℕ → Type 0
CountedBefore TooLong old new = new ≡ old
CountedBefore ReadFault old new = Rose old new
CountedBefore NoMemory old new = new ≡ old
