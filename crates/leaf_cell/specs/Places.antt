-- A leaf table in a frame: 512 entries of 64 bits, least significant byte first, each 0 or with the place of a page's frame.
use Rattle.std.specs.Prelude.{◌≡◌, ◌⊎◌, ◌<◌, ◌^◌, ℕ, ◌*◌, ◌==◌, cond, length, bit_and, bit_or, if◌then◌else◌, Bool, List, drop, replicate, map, slice_set, Option, Some, None}
use Rattle.std.specs.List.{range_with_len}
use Rattle.byteorder.specs.Endian.{little_number, little_bytes}
use Rattle.vm_base.specs.FlatMemory.{spliced}
use Rattle.vm_base.specs.Entries.{entry_of, number_of, bits_of}
use Rattle.kernel_meaning.specs.Leaves.{Versions, no_versions, with_version, without_versions}
use Rattle.leaf_cell.specs.Writable.{none_writable, without_writable}

-- the entry at a place of a table, as a word
abbrev pub word_at : List ℕ → ℕ → ℕ
word_at bytes i = little_number 8 (drop (8 * i) bytes)

-- the bytes of a table with another entry at a place
abbrev pub with_word : List ℕ → ℕ → ℕ → List ℕ
with_word bytes i word = spliced bytes (8 * i) (little_bytes 8 word)

-- the bytes of a table without the entries of n pages
abbrev pub without_words : List ℕ → ℕ → ℕ → List ℕ
without_words bytes first n = spliced bytes (8 * first) (replicate (8 * n) 0)

-- an entry of a leaf table is 0, or has the place of a present page's frame, of 32 bits, the bit for presence, and that for writing or not
abbrev pub IsLeafEntry : ℕ → Type 0
IsLeafEntry word = (word ≡ 0) ⊎ ((place : ℕ) × (place < 2 ^ 32) × (may : Bool) × (word ≡ entry_of place (cond may 3 1)))

-- the bytes of a table: each of its entries is one of a leaf table
pub record IsLeafTable (bytes : List ℕ) : Type 0 where
  pub size : length bytes ≡ 4096
  pub entries : (i : ℕ) → i < 512 → IsLeafEntry (word_at bytes i)

-- whether an entry tells that its page is present, and nothing else but that it may be written to: its bits are of value 1 or 3
abbrev pub is_of_page : ℕ → Bool
is_of_page word = bit_or (bits_of word) 2 == 3

-- the place of a frame that an entry holds, which only an entry of a present page does
abbrev pub place_in : ℕ → Option ℕ
place_in word = if is_of_page word then Some (number_of word) else None

-- the places that the bytes of a table hold, page after page
unfoldable pub places_of : List ℕ → Versions
places_of bytes = map (λ i. place_in (word_at bytes i)) (range_with_len 0 512)

-- whether an entry tells that its page may be written to: its bit of value 2
abbrev pub entry_may_write : ℕ → Bool
entry_may_write word = bit_and (bits_of word) 2 == 2

-- whether the bytes of a table tell that a page may be written to, page after page
unfoldable pub writable_of : List ℕ → List Bool
writable_of bytes = map (λ i. entry_may_write (word_at bytes i)) (range_with_len 0 512)

-- a table as contracts see it: the places of its pages, and which of them may be written to
pub record TableView : Type 0 where
  pub places : Versions
  pub writable : List Bool

-- a table without a page
abbrev pub no_table : TableView
no_table = record { places = no_versions; writable = none_writable }

-- a table with a page at a place, which may be written to or not
abbrev pub with_entry : TableView → ℕ → ℕ → Bool → TableView
with_entry table page place may = record { places = with_version table.places page place; writable = slice_set table.writable page may }

-- a table without n pages
abbrev pub without_entries : TableView → ℕ → ℕ → TableView
without_entries table first n = record { places = without_versions table.places first n; writable = without_writable first n table.writable }
