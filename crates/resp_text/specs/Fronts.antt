-- What stands whole at the front of a text: a line, a word, a request.
use Rattle.std.specs.Prelude.{◌≡◌, ℕ, ◌+◌, ◌-◌, ◌<◌, ◌≤◌, List, [], ◌∷◌, ◌++◌, length, take, Option, Some, None}
use Rattle.resp_text.specs.Grammar.{IsLine, IsWord, IsRequest}
use Rattle.resp_text.specs.Words.{bytes_at, words_at, AreWithin}
use Rattle.resp_text.specs.declared.front.Line.{Line}
use Rattle.resp_text.specs.declared.request.Span.{Span}

-- a line with this first byte, whose number is at most so great
pub record HasFrontLine (text : List ℕ) (first most : ℕ) (line : Line) : Type 0 where
  pub few : line.number ≤ most
  pub within : line.length ≤ length text
  pub is_line : IsLine first (take line.length text) line.number

-- a word whose bytes stand at this place, and are at most so many
pub record HasFrontWord (text : List ℕ) (room : ℕ) (span : Span) : Type 0 where
  pub order : span.start ≤ span.end
  pub few : span.end - span.start ≤ room
  pub within : span.end + 2 ≤ length text
  pub is_word : IsWord (take (span.end + 2) text) (bytes_at text span)

-- a request of so many bytes whose words stand at these places
pub record HasFrontRequest (text : List ℕ) (spans : List Span) (taken : ℕ) : Type 0 where
  pub some : 0 < taken
  pub fits : taken ≤ length text
  pub within : AreWithin spans taken
  pub request : IsRequest (take taken text) (words_at text spans)

-- what a queue of requests has gained of a text: the one at its front, of so many bytes; or none
abbrev pub TakesFront : List (List (List ℕ)) → List (List (List ℕ)) → List ℕ → Option ℕ → Type 0
TakesFront old new text None = new ≡ old
TakesFront old new text (Some taken) = (0 < taken) × (taken ≤ length text)
    × ((words : List (List ℕ)) × IsRequest (take taken text) words × (new ≡ old ++ words ∷ []))
