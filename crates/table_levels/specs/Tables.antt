-- A table: 4096 bytes as 512 entries of 8 bytes, the least significant byte first.
use Rattle.std.specs.Prelude.{◌≡◌, ◌≢◌, ℕ, ◌*◌, ◌<◌, ◌==◌, List, drop, Option, Some, None, if◌then◌else◌}
use Rattle.byteorder.specs.Endian.{little_number}
use Rattle.vm_base.specs.Entries.{number_of, bits_of}

-- the number of an entry, where it is present; an entry above the leaf tables has no other bit
abbrev pub entry_value : ℕ → Option ℕ
entry_value word = if bits_of word == 1 then Some (number_of word) else None

-- the number of the entry at a place of a table, where it is present
unfoldable pub entry_at : List ℕ → ℕ → Option ℕ
entry_at bytes i = entry_value (little_number 8 (drop (8 * i) bytes))

-- one entry of a table was set, and the others stay
pub record SetsEntry (old new : List ℕ) (i : ℕ) (number : Option ℕ) : Type 0 where
  pub here : entry_at new i ≡ number
  pub others : (j : ℕ) → j < 512 → j ≢ i → entry_at new j ≡ entry_at old j
