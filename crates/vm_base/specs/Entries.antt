-- Table entries as numbers: the number from bit 12 on, and below it the bits that have a name.
use Rattle.std.specs.Prelude.{◌≡◌, ℕ, ◌+◌, ◌*◌, ◌/◌, ◌%◌, ◌^◌, ◌<◌, bit_and}

-- the bits that have a name: present at 0, write at 1, shared at 9, marked at 10
abbrev pub named_bits : ℕ
named_bits = 1 + 2 + 2 ^ 9 + 2 ^ 10

-- the entry of a number below 2^32 and a set of bits
abbrev pub entry_of : ℕ → ℕ → ℕ
entry_of number bits = number * 2 ^ 12 + bit_and bits named_bits

-- the number of an entry, in bits 12 to 43
abbrev pub number_of : ℕ → ℕ
number_of word = word / 2 ^ 12 % 2 ^ 32

-- the bits of an entry that have a name
abbrev pub bits_of : ℕ → ℕ
bits_of word = bit_and (word % 2 ^ 12) named_bits

-- all bits without a name, and those above the number, are 0
abbrev pub IsEntry : ℕ → Type 0
IsEntry word = (word < 2 ^ 44) × (bits_of word ≡ word % 2 ^ 12)
