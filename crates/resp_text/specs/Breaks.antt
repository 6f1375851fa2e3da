-- In which part of an item a byte stands, told by the bytes of the item before it.
use Rattle.std.specs.Prelude.{◌≡◌, ◌⊎◌, ℕ, ◌+◌, ◌<◌, List, [], ◌∷◌, ◌++◌, length}
use Rattle.resp_text.specs.Grammar.{IsLine, AreWords, IsStream, IsUnfinished}
use Rattle.resp_text.specs.declared.fault.ProtocolKind.{ProtocolKind}
use Rattle.resp_text.specs.declared.fault.ProtocolKind.TheVariants.{Start, Count, Dollar, Length, Ending}

-- none of the bytes is a line feed
abbrev pub HasNoLineFeed : List ℕ → Type 0
HasNoLineFeed [] = Unit {0}
HasNoLineFeed (byte ∷ bytes) = (byte ≡ 10 → ⊥) × HasNoLineFeed bytes

-- the bytes are the line of `*`, some whole words of which so many more are due, and then these
pub record HasWords (bytes : List ℕ) (due : ℕ) (behind : List ℕ) : Type 0 where
  pub line : List ℕ
  pub count : ℕ
  pub words : List (List ℕ)
  pub text : List ℕ
  pub first : IsLine 42 line count
  pub spelled : AreWords text words
  pub together : length words + due ≡ count
  pub is : bytes ≡ line ++ (text ++ behind)

-- the bytes of a word before its next one: none; the `$` with its line not at an end; or all but
-- the line end behind the word, or but the line feed of it
abbrev pub IsInWord : List ℕ → ProtocolKind → Type 0
IsInWord behind Start = ⊥
IsInWord behind Count = ⊥
IsInWord behind Dollar = behind ≡ []
IsInWord behind Length = (more : List ℕ) × (behind ≡ 36 ∷ more) × HasNoLineFeed more
IsInWord behind Ending = (line word ending : List ℕ) × IsLine 36 line (length word)
    × (behind ≡ line ++ (word ++ ending)) × ((ending ≡ []) ⊎ (ending ≡ 13 ∷ []))

-- a byte behind these bytes of an item stands in this part: at its start, in its first line, or in
-- a word that is due
abbrev pub IsPartBehind : List ℕ → ProtocolKind → Type 0
IsPartBehind rest Start = rest ≡ []
IsPartBehind rest Count = (more : List ℕ) × (rest ≡ 42 ∷ more) × HasNoLineFeed more
IsPartBehind rest kind = (due : ℕ) × (behind : List ℕ) × (0 < due) × HasWords rest due behind
    × IsInWord behind kind

-- the bytes are whole items and those of an unfinished one behind which this part goes on
pub record EndsIn (bytes : List ℕ) (kind : ProtocolKind) : Type 0 where
  pub whole : List ℕ
  pub rest : List ℕ
  pub requests : List (List (List ℕ))
  pub is : bytes ≡ whole ++ rest
  pub stream : IsStream whole requests
  pub unfinished : IsUnfinished rest
  pub part : IsPartBehind rest kind
