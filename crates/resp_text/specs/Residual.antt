-- How a reader stands in an item: what was read of it, what may still follow, and how one byte
-- moves it on.
use Rattle.std.specs.Prelude.{◌≡◌, ℕ, ◌+◌, ◌-◌, ◌*◌, ◌<◌, ◌≤◌, ◌↔◌, List, [], ◌∷◌, ◌++◌, length, take, min, Option, Some, None, if◌then◌else◌, ◌&&◌, nat_le, ◌==◌}
use Rattle.resp_text.specs.Grammar.{line_end, DigitsGoOn, IsNumber, IsLine, AreWords, total_bytes, IsWholeItem}
use Rattle.resp_text.specs.Breaks.{HasNoLineFeed, HasWords, IsPartBehind}
use Rattle.resp_text.specs.declared.scan.Scan.{Scan}
use Rattle.resp_text.specs.declared.scan.Part.{Part}
use Rattle.resp_text.specs.declared.scan.Part.TheVariants.{Start, Star, Zero, Minus, MinusOne, SkipEnd, Count, CountEnd, Dollar, Sign, Length, LengthEnd, Body, Ending}
use Rattle.resp_text.specs.declared.scan.Step.{Step}
use Rattle.resp_text.specs.declared.scan.Step.TheVariants.{Go, Whole, Break}
use Rattle.resp_text.specs.declared.scan.Run.{Run}
use Rattle.resp_text.specs.declared.scan.Outcome.{Outcome}
use Rattle.resp_text.specs.declared.scan.Outcome.TheVariants.{Open, End, Broken}
use Rattle.resp_text.specs.declared.fault.ProtocolKind.{ProtocolKind}
use Rattle.resp_text.specs.declared.fault.ProtocolKind.TheVariants as kind

-- the text is so many words, which together have at most so many bytes
abbrev pub AreWordsWithin : ℕ → ℕ → List ℕ → Type 0
AreWordsWithin count room text = (words : List (List ℕ)) × AreWords text words
    × (length words ≡ count) × (total_bytes words ≤ room)

-- the rest of a count behind the digits of n, and its words
abbrev pub FinishesCount : ℕ → List ℕ → Type 0
FinishesCount n tail = (digits rest : List ℕ) × (m : ℕ) × DigitsGoOn n digits m × (m ≤ 1024)
    × (tail ≡ digits ++ 13 ∷ 10 ∷ rest) × AreWordsWithin m 2097152 rest

-- so many bytes of a word, its line end, and the words behind it
abbrev pub FinishesBody : ℕ → ℕ → ℕ → List ℕ → Type 0
FinishesBody left words room tail = (bytes rest : List ℕ) × (length bytes ≡ left)
    × (tail ≡ bytes ++ 13 ∷ 10 ∷ rest) × AreWordsWithin words room rest

-- the rest of a length behind the digits of n, its word, and the words behind it
abbrev pub FinishesLength : ℕ → ℕ → ℕ → List ℕ → Type 0
FinishesLength n words room tail = (digits rest : List ℕ) × (m : ℕ) × DigitsGoOn n digits m
    × (n ≡ 0 → digits ≡ []) × (m ≤ 1048576) × (m ≤ room)
    × (tail ≡ digits ++ 13 ∷ 10 ∷ rest) × FinishesBody m (words - 1) (room - m) rest

-- the bytes that finish an item from this part of it on
abbrev pub FinishesPart : Part → ℕ → ℕ → List ℕ → Type 0
FinishesPart Start words room tail = IsWholeItem tail
FinishesPart Star words room tail = IsWholeItem (42 ∷ tail)
FinishesPart Zero words room tail = tail ≡ line_end
FinishesPart Minus words room tail = tail ≡ 49 ∷ line_end
FinishesPart MinusOne words room tail = tail ≡ line_end
FinishesPart SkipEnd words room tail = tail ≡ 10 ∷ []
FinishesPart (Count n) words room tail = FinishesCount n tail
FinishesPart (CountEnd n) words room tail = (rest : List ℕ) × (tail ≡ 10 ∷ rest)
    × AreWordsWithin n 2097152 rest
FinishesPart Dollar words room tail = AreWordsWithin words room tail
FinishesPart Sign words room tail = AreWordsWithin words room (36 ∷ tail)
FinishesPart (Length n) words room tail = FinishesLength n words room tail
FinishesPart (LengthEnd n) words room tail = (rest : List ℕ) × (tail ≡ 10 ∷ rest)
    × FinishesBody n (words - 1) (room - n) rest
FinishesPart (Body left) words room tail = FinishesBody left words room tail
FinishesPart Ending words room tail = (rest : List ℕ) × (tail ≡ 10 ∷ rest)
    × AreWordsWithin words room rest

-- the bytes that finish the item in which a reader stands
abbrev pub Finishes : Scan → List ℕ → Type 0
Finishes scan tail = FinishesPart scan.part scan.words scan.room tail

-- the bytes of an item before this part of it
abbrev pub HasReadPart : Part → ℕ → List ℕ → Type 0
HasReadPart Start words bytes = bytes ≡ []
HasReadPart Star words bytes = bytes ≡ 42 ∷ []
HasReadPart (Count n) words bytes = (digits : List ℕ) × IsNumber digits n × (bytes ≡ 42 ∷ digits)
HasReadPart (CountEnd n) words bytes = (digits : List ℕ) × IsNumber digits n
    × (bytes ≡ 42 ∷ (digits ++ 13 ∷ []))
HasReadPart Dollar words bytes = HasWords bytes words []
HasReadPart Sign words bytes = HasWords bytes words (36 ∷ [])
HasReadPart (Length n) words bytes = (digits : List ℕ) × IsNumber digits n
    × HasWords bytes words (36 ∷ digits)
HasReadPart (LengthEnd n) words bytes = (digits : List ℕ) × IsNumber digits n
    × HasWords bytes words (36 ∷ (digits ++ 13 ∷ []))
HasReadPart (Body left) words bytes = (line word : List ℕ) × IsLine 36 line (length word + left)
    × (length word + left ≤ 1048576) × HasWords bytes (words + 1) (line ++ word)
HasReadPart Ending words bytes = (line word : List ℕ) × IsLine 36 line (length word)
    × (length word ≤ 1048576) × HasWords bytes (words + 1) (line ++ (word ++ 13 ∷ []))
HasReadPart _ words bytes = (more : List ℕ) × (bytes ≡ 42 ∷ more) × HasNoLineFeed more

-- the bytes of the item in which a reader stands, up to there
abbrev pub HasRead : Scan → List ℕ → Type 0
HasRead scan bytes = HasReadPart scan.part scan.words bytes

-- these bytes behind what was read up to one place are what is read up to the other
abbrev pub ReadsOn : Scan → List ℕ → Scan → Type 0
ReadsOn scan bytes next = (front : List ℕ) → HasRead scan front → HasRead next (front ++ bytes)

-- a byte behind what was read stands in this part of the item
abbrev pub Tells : Scan → ProtocolKind → Type 0
Tells scan kind = (front : List ℕ) → HasRead scan front → IsPartBehind front kind

-- numbers that are still within the limits
abbrev pub IsSoundPart : Part → ℕ → ℕ → Type 0
IsSoundPart (Count n) words room = (0 < n) × (n ≤ 1024)
IsSoundPart (CountEnd n) words room = (0 < n) × (n ≤ 1024)
IsSoundPart Dollar words room = 0 < words
IsSoundPart Sign words room = 0 < words
IsSoundPart (Length n) words room = (0 < words) × (n ≤ 1048576) × (n ≤ room)
IsSoundPart (LengthEnd n) words room = (0 < words) × (n ≤ 1048576) × (n ≤ room)
IsSoundPart _ words room = Unit {0}

-- a reader stands where numbers are within the limits
abbrev pub IsSoundScan : Scan → Type 0
IsSoundScan scan = IsSoundPart scan.part scan.words scan.room

-- a number with one more digit, where the byte is one and the number stays within the limit
abbrev pub digit_behind : ℕ → ℕ → ℕ → Option ℕ
digit_behind high byte most =
    if nat_le 48 byte && nat_le byte 57 && nat_le (high * 10 + (byte - 48)) most
    then Some (high * 10 + (byte - 48)) else None

-- one step on to a part with that number, where there is one
abbrev pub number_step : Scan → Option ℕ → (ℕ → Part) → ProtocolKind → Step
number_step scan (Some n) part kind = Go (record scan { part = part n })
number_step scan None part kind = Break kind

-- one step on where the byte is the one that is due
abbrev pub step_if : ℕ → ℕ → Step → ProtocolKind → Step
step_if byte due step kind = if byte == due then step else Break kind

-- how a byte moves a reader on
abbrev pub step_of : Scan → Part → ℕ → Step
step_of scan Start byte = step_if byte 42 (Go (record scan { part = Star })) kind.Start
step_of scan Star byte =
    if byte == 48 then Go (record scan { part = Zero })
    else (if byte == 45 then Go (record scan { part = Minus })
    else number_step scan (digit_behind 0 byte 1024) Count kind.Count)
step_of scan Zero byte = step_if byte 13 (Go (record scan { part = SkipEnd })) kind.Count
step_of scan Minus byte = step_if byte 49 (Go (record scan { part = MinusOne })) kind.Count
step_of scan MinusOne byte = step_if byte 13 (Go (record scan { part = SkipEnd })) kind.Count
step_of scan SkipEnd byte = step_if byte 10 Whole kind.Count
step_of scan (Count n) byte =
    if byte == 13 then Go (record scan { part = CountEnd n })
    else number_step scan (digit_behind n byte 1024) Count kind.Count
step_of scan (CountEnd n) byte =
    step_if byte 10 (Go (record { part = Dollar; words = n; room = 2097152 })) kind.Count
step_of scan Dollar byte = step_if byte 36 (Go (record scan { part = Sign })) kind.Dollar
step_of scan Sign byte =
    number_step scan (digit_behind 0 byte (min 1048576 scan.room)) Length kind.Length
step_of scan (Length n) byte =
    if byte == 13 then Go (record scan { part = LengthEnd n })
    else (if n == 0 then Break kind.Length
    else number_step scan (digit_behind n byte (min 1048576 scan.room)) Length kind.Length)
step_of scan (LengthEnd n) byte =
    step_if byte 10 (Go (record { part = Body n; words = scan.words - 1; room = scan.room - n }))
    kind.Length
step_of scan (Body left) byte = step_if byte 13 (Go (record scan { part = Ending })) kind.Ending
step_of scan Ending byte =
    step_if byte 10 (if scan.words == 0 then Whole else Go (record scan { part = Dollar }))
    kind.Ending

-- what a step says of the bytes that finish the item
abbrev pub StepMeans : Scan → ℕ → Step → Type 0
StepMeans scan byte (Go next) = IsSoundScan next
    × ((tail : List ℕ) → Finishes scan (byte ∷ tail) ↔ Finishes next tail)
StepMeans scan byte Whole = (tail : List ℕ) → Finishes scan (byte ∷ tail) ↔ (tail ≡ [])
StepMeans scan byte (Break kind) = (tail : List ℕ) → Finishes scan (byte ∷ tail) → ⊥

-- what a step says of the bytes that were read
abbrev pub StepReads : Scan → ℕ → Step → Type 0
StepReads scan byte (Go next) = ReadsOn scan (byte ∷ []) next
StepReads scan byte Whole = Unit {0}
StepReads scan byte (Break kind) = Tells scan kind

-- only the line end of a word is due
abbrev pub IsAtByte : Part → Type 0
IsAtByte (Body left) = left ≡ 0
IsAtByte _ = Unit {0}

-- the bytes lead a reader on: what finishes the item behind them finishes it from there
abbrev pub LeadsOn : Scan → List ℕ → Scan → Type 0
LeadsOn scan bytes next = (tail : List ℕ) → Finishes scan (bytes ++ tail) ↔ Finishes next tail

-- bytes of a word are passed over without a look at them
pub record PassesOver (scan : Scan) (available : ℕ) (run : Run) : Type 0 where
  pub within : run.taken ≤ available
  pub sound : IsSoundScan run.scan
  pub leads : (bytes : List ℕ) → length bytes ≡ run.taken → LeadsOn scan bytes run.scan
  pub reads : (bytes : List ℕ) → length bytes ≡ run.taken → ReadsOn scan bytes run.scan
  pub due : run.taken < available → IsAtByte run.scan.part

-- what a scan of these bytes says of the item
abbrev pub OutcomeMeans : Scan → List ℕ → Outcome → Type 0
OutcomeMeans scan bytes (Open next) = IsSoundScan next × LeadsOn scan bytes next
    × ReadsOn scan bytes next
OutcomeMeans scan bytes (End taken) = (0 < taken) × (taken ≤ length bytes)
    × Finishes scan (take taken bytes)
OutcomeMeans scan bytes (Broken at next kind) = (at < length bytes) × IsSoundScan next
    × LeadsOn scan (take at bytes) next
    × ((tail : List ℕ) → Finishes scan (take (at + 1) bytes ++ tail) → ⊥)
    × ReadsOn scan (take at bytes) next × Tells next kind
