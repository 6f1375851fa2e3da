-- What a call reads of the bytes that it is given.
use Rattle.std.specs.Prelude.{◌≡◌, ℕ, ◌+◌, ◌<◌, ◌≤◌, ◌↔◌, List, ◌++◌, length, take, drop, Option, Some, None, option_to_list}
use Rattle.resp_text.specs.Grammar.{IsItem, IsStream, IsWholeItem}
use Rattle.resp_text.specs.Breaks.{IsPartBehind}
use Rattle.resp_text.specs.Residual.{IsSoundScan, Finishes, HasRead}
use Rattle.resp_text.specs.declared.scan.Scan.{Scan}
use Rattle.resp_text.specs.declared.scan.Outcome.{Outcome}
use Rattle.resp_text.specs.declared.scan.Outcome.TheVariants.{Open, End, Broken}
use Rattle.resp_text.specs.declared.requests.Reached.{Reached}
use Rattle.resp_text.specs.declared.fault.ProtocolKind.{ProtocolKind}

-- a reader stands behind these bytes of an item: where it stands tells what finishes the item, and
-- what was read of it
pub record StandsBehind (scan : Scan) (bytes : List ℕ) : Type 0 where
  pub sound : IsSoundScan scan
  pub leads : (tail : List ℕ) → IsWholeItem (bytes ++ tail) ↔ Finishes scan tail
  pub read : HasRead scan bytes

-- all bytes were read; or the byte behind those that were read is one with which the item is none,
-- and it stands in this part of it
abbrev pub EndsFor : List ℕ → ℕ → ℕ → Option ProtocolKind → Type 0
EndsFor bytes whole end None = end ≡ length bytes
EndsFor bytes whole end (Some kind) = (end < length bytes)
    × ((tail : List ℕ) → IsWholeItem (drop whole (take (end + 1) bytes) ++ tail) → ⊥)
    × IsPartBehind (drop whole (take end bytes)) kind

-- up to a place the bytes are whole items, whose requests wait now; up to another they are the item
-- in which the reader stands
pub record Reads (old new : List (List (List ℕ))) (bytes : List ℕ)
    (reached : Reached) : Type 0 where
  pub came : List (List (List ℕ))
  pub stream : IsStream (take reached.whole bytes) came
  pub waiting : new ≡ old ++ came
  pub order : reached.whole ≤ reached.end
  pub within : reached.end ≤ length bytes
  pub stands : StandsBehind reached.scan (drop reached.whole (take reached.end bytes))
  pub ends : EndsFor bytes reached.whole reached.end reached.kind

-- an item that began in earlier bytes was read on: those bytes and the piece's are one item, or the
-- reader stands behind them, or behind those before the byte with which they are none, which
-- stands in this part of it
abbrev pub EndsItem : List (List (List ℕ)) → List (List (List ℕ)) → List ℕ → List ℕ → List ℕ →
    Outcome → Type 0
EndsItem old new rest rest' piece (End taken) = (taken ≤ length piece)
    × (rest' ≡ rest ++ take taken piece)
    × ((item : Option (List (List ℕ))) × IsItem rest' item × (new ≡ old ++ option_to_list item))
EndsItem old new rest rest' piece (Open scan) = (new ≡ old) × (rest' ≡ rest ++ piece)
    × StandsBehind scan rest'
EndsItem old new rest rest' piece (Broken at scan kind) = (new ≡ old) × (at < length piece)
    × (rest' ≡ rest ++ take at piece) × StandsBehind scan rest'
    × ((tail : List ℕ) → IsWholeItem ((rest ++ take (at + 1) piece) ++ tail) → ⊥)
    × IsPartBehind rest' kind

-- a list has these first, whatever came behind
abbrev pub BeginsRequests : List (List (List ℕ)) → List (List (List ℕ)) → Type 0
BeginsRequests old new = (added : List (List (List ℕ))) × (new ≡ old ++ added)

-- the same of bytes
abbrev pub BeginsBytes : List ℕ → List ℕ → Type 0
BeginsBytes old new = (added : List ℕ) × (new ≡ old ++ added)
