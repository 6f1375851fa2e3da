-- Nothing of a number and of bits with a name is lost in a table entry.
use Rattle.std.proofs.Common.{◌≡◌, ℕ, ◌+◌, ◌*◌, ◌/◌, ◌%◌, ◌^◌, ◌<◌, ◌≤◌, arith, ap, bit_and, ◌∙◌}
use Rattle.std.proofs.lemmas.Nat.{and_le_r, and_assoc}
use Rattle.std.specs.Int.Bits.{and_self}
use Rattle.vm_base.specs.Entries.{named_bits, entry_of, number_of, bits_of, IsEntry}

-- naming bits twice is naming them once
pub named-named : (bits : ℕ) → bit_and (bit_and bits named_bits) named_bits ≡ bit_and bits named_bits
named-named bits = and_assoc named_bits bits named_bits ∙ ap (bit_and bits) (and_self named_bits)

number_again : (number low : ℕ) → number < 2 ^ 32 → low ≤ named_bits → (number * 2 ^ 12 + low) / 2 ^ 12 % 2 ^ 32 ≡ number
number_again number low fits small = omega arith

low_again : (number low : ℕ) → low ≤ named_bits → (number * 2 ^ 12 + low) % 2 ^ 12 ≡ low
low_again number low small = omega arith

pub number_of-entry : (number bits : ℕ) → number < 2 ^ 32 → number_of (entry_of number bits) ≡ number
number_of-entry number bits fits = number_again number (bit_and bits named_bits) fits (and_le_r bits named_bits)

pub bits_of-entry : (number bits : ℕ) → bits_of (entry_of number bits) ≡ bit_and bits named_bits
bits_of-entry number bits =
    ap (λ low. bit_and low named_bits) (low_again number (bit_and bits named_bits) (and_le_r bits named_bits)) ∙ named-named bits

whole_again : (word : ℕ) → word < 2 ^ 44 → word / 2 ^ 12 % 2 ^ 32 * 2 ^ 12 + word % 2 ^ 12 ≡ word
whole_again word fits = omega arith

-- an entry is the one of its number and its bits
pub entry_of-parts : (word : ℕ) → IsEntry word → entry_of (number_of word) (bits_of word) ≡ word
entry_of-parts word is =
    ap (λ low. number_of word * 2 ^ 12 + low) (named-named (word % 2 ^ 12) ∙ is.1) ∙ whole_again word is.0
