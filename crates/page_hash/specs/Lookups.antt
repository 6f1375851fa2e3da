-- What a lookup answers.
use Rattle.std.specs.Prelude.{◌≡◌, ⊤, ℕ, List, ◌++◌, length, take, drop, Option, Some, None}
use Rattle.vm_base.specs.FlatMemory.{FlatMemory, bytes_at}
use Rattle.page_hash.specs.declared.found.Found.{Found}

-- the answer of a lookup: where the value of the key stands and how long it is, or that there is
-- none
abbrev pub FoundFor : FlatMemory → Option Found → Option (List ℕ) → Type 0
FoundFor memory None None = ⊤
FoundFor memory None (Some value) = ⊥
FoundFor memory (Some found) None = ⊥
FoundFor memory (Some found) (Some value) =
    (found.length ≡ length value) × (bytes_at memory.present found.addr found.length ≡ value)

-- a buffer with as much of the value in front as fits
abbrev pub filled_by : List ℕ → Option (List ℕ) → List ℕ
filled_by buffer None = buffer
filled_by buffer (Some value) = take (length buffer) value ++ drop (length value) buffer
