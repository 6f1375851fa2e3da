-- What a reader of requests has, and what it says of the bytes that it was fed.
use Rattle.std.specs.Prelude.{◌≡◌, ℕ, ◌+◌, ◌<◌, List, [], ◌++◌, length, take, Option, Some, None, Result, Ok, Err}
use Rattle.resp_text.specs.Grammar.{IsStream, IsBegun, IsUnfinished}
use Rattle.resp_text.specs.Breaks.{EndsIn}
use Rattle.resp_text.specs.declared.fault.FeedFault.{FeedFault}
use Rattle.resp_text.specs.declared.fault.ProtocolKind.{ProtocolKind}
use Rattle.resp_text.specs.declared.fault.FeedFault.TheVariants.{Protocol, NoMemory}

-- the requests that are whole and were not given yet, the bytes behind the last whole item, how
-- many bytes stand before those, and where the bytes broke
pub record Reading : Type 0 where
  pub waiting : List (List (List ℕ))
  pub rest : List ℕ
  pub before : ℕ
  pub fault : Option FeedFault

-- a reader that was fed nothing
abbrev pub unfed_reading : Reading
unfed_reading = record { waiting = []; rest = []; before = 0; fault = None }

-- the bytes taken so far are whole items and then an unfinished one; the requests among the whole
-- ones are those that were given and those that wait
pub record StandsForBytes (reader : Reading) (taken : List ℕ)
    (given : List (List (List ℕ))) : Type 0 where
  pub whole : List ℕ
  pub is : taken ≡ whole ++ reader.rest
  pub stream : IsStream whole (given ++ reader.waiting)
  pub before : reader.before ≡ length whole
  pub unfinished : IsUnfinished reader.rest

-- the bytes before the place begin a stream, with the byte at the place they begin none, and it
-- stands in this part of an item
pub record BreaksAt (bytes : List ℕ) (place : ℕ) (kind : ProtocolKind) : Type 0 where
  pub within : place < length bytes
  pub begun : IsBegun (take place bytes)
  pub broken : IsBegun (take (place + 1) bytes) → ⊥
  pub part : EndsIn (take place bytes) kind

-- what a feed of a piece leaves of a reader that stood for these bytes: at `Ok` it stands for the
-- piece too, at a break for the bytes before it, and without memory nothing has changed
abbrev pub FeedsOn : Reading → Reading → List ℕ → List (List (List ℕ)) →
    Result (Unit {0}) FeedFault → Type 0
FeedsOn old new fed given (Ok x) = StandsForBytes new fed given × (new.fault ≡ None)
FeedsOn old new fed given (Err NoMemory) = new ≡ old
FeedsOn old new fed given (Err (Protocol place kind)) = BreaksAt fed place kind
    × StandsForBytes new (take place fed) given × (new.fault ≡ Some (Protocol place kind))

-- what a reader with this fault has of the bytes fed: all of them; or those before their break
abbrev pub HasTaken : Option FeedFault → Reading → List ℕ → List (List (List ℕ)) → Type 0
HasTaken None reader fed given = StandsForBytes reader fed given
HasTaken (Some NoMemory) reader fed given = ⊥
HasTaken (Some (Protocol place kind)) reader fed given = BreaksAt fed place kind
    × StandsForBytes reader (take place fed) given

-- a reader was fed these bytes, in whatever pieces, and gave these requests
abbrev pub WasFed : Reading → List ℕ → List (List (List ℕ)) → Type 0
WasFed reader fed given = HasTaken reader.fault reader fed given

-- what a feed answers that found memory
abbrev pub answer_of : Option FeedFault → Result (Unit {0}) FeedFault
answer_of None = Ok tt
answer_of (Some fault) = Err fault

-- a feed of a piece behind bytes that were fed before, be they broken or not
abbrev pub FeedsBehind : Reading → Reading → List ℕ → List ℕ → List (List (List ℕ)) →
    Result (Unit {0}) FeedFault → Type 0
FeedsBehind old new fed piece given (Err NoMemory) = new ≡ old
FeedsBehind old new fed piece given result = WasFed new (fed ++ piece) given
    × (result ≡ answer_of new.fault)

-- two readers have the same: all their requests, those given with those that wait, the bytes behind
-- the last whole item, how many stand before them, and the break
pub record ReadAlike (reader other : Reading) (given others : List (List (List ℕ))) : Type 0 where
  pub requests : given ++ reader.waiting ≡ others ++ other.waiting
  pub rest : reader.rest ≡ other.rest
  pub before : reader.before ≡ other.before
  pub fault : reader.fault ≡ other.fault
