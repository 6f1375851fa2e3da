-- What is stored of a pair in its block.
use Rattle.std.specs.Prelude.{ℕ, ◌+◌, ◌==◌, if◌then◌else◌, List, ◌++◌, length}
use Rattle.byteorder.specs.Endian.{big_bytes}
use Rattle.vm_base.specs.MemoryState.{MemoryState}
use Rattle.vm_base.specs.MemoryCalls.{after_store}

-- the 16 bytes in front of a block's key: the next block's address and both lengths
unfoldable pub head_bytes : ℕ → ℕ → ℕ → List ℕ
head_bytes next key_length value_length =
    big_bytes 8 next ++ (big_bytes 4 key_length ++ big_bytes 4 value_length)

-- these and the key
abbrev pub front_bytes : ℕ → List ℕ → ℕ → List ℕ
front_bytes next key value_length = head_bytes next (length key) value_length ++ key

-- all bytes of a block that are in use
abbrev pub pair_bytes : ℕ → List ℕ → List ℕ → List ℕ
pair_bytes next key value = front_bytes next key (length value) ++ value

-- the memory with another length of the value in a block, where it is another one
abbrev pub length_stored : MemoryState → ℕ → ℕ → ℕ → MemoryState
length_stored state at old_length value_length =
    if value_length == old_length then state
    else after_store state (at + 12) (big_bytes 4 value_length)

-- the memory with another value in a block
abbrev pub value_stored : MemoryState → ℕ → ℕ → ℕ → List ℕ → MemoryState
value_stored state at old_length key_length value =
    after_store (length_stored state at old_length (length value)) (at + 16 + key_length) value
