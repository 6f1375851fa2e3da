-- The words of a memory behind touches and stores.
use Rattle.std.proofs.Common.{◌≡◌, ℕ, ◌^◌, ◌<◌, [], sym, ◌∙◌, ap, append-nil}
use Rattle.byteorder.specs.Endian.{big_bytes, big_number}
use Rattle.byteorder.specs.Numbers.{big_number-reads_back}
use Rattle.vm_base.specs.FlatMemory.{FlatMemory}
use Rattle.vm_base.specs.FlatStep.{with_bytes}
use Rattle.vm_base.specs.FlatLaws.{AreFullPages, AreApart}
use Rattle.vm_base.proofs.FlatLaws.{bytes_at-with_bytes, bytes_at-with_bytes_apart}
use Rattle.store_meaning.specs.Layout.{word_at}

-- the number that 8 bytes spell is the one that they were made of
pub number-of_bytes : (word : ℕ) → word < 2 ^ 64 → big_number 8 (big_bytes 8 word) ≡ word
number-of_bytes word small = sym (ap (big_number 8) (append-nil (big_bytes 8 word))) ∙ big_number-reads_back 8 word [] small

-- a memory with bytes stored
abbrev pub storing : FlatMemory → ℕ → ℕ → FlatMemory
storing memory address word = record memory { present = with_bytes memory.present address (big_bytes 8 word) }

-- a word that was stored is read
pub word_at-stored : (memory : FlatMemory) (address word : ℕ) → AreFullPages memory.present address 8 → word < 2 ^ 64
    → word_at (storing memory address word) address ≡ word
word_at-stored memory address word full small =
    ap (big_number 8) (bytes_at-with_bytes memory.present address (big_bytes 8 word) full) ∙ number-of_bytes word small

-- a word that lies apart from it stays
pub word_at-apart : (memory : FlatMemory) (address word other : ℕ) → AreApart address 8 other 8
    → word_at (storing memory address word) other ≡ word_at memory other
word_at-apart memory address word other apart =
    ap (big_number 8) (bytes_at-with_bytes_apart memory.present address (big_bytes 8 word) other 8 apart)
