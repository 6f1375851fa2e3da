-- Which bytes are a stream of requests: RESP2's arrays of bulk strings, with this project's limits.
use Rattle.std.specs.Prelude.{◌≡◌, ℕ, ◌+◌, ◌-◌, ◌*◌, ◌<◌, ◌≤◌, ◌⊎◌, List, [], ◌∷◌, ◌++◌, length, Option, Some, None, option_to_list}
use Rattle.std.specs.List.{flat_map}

-- a carriage return and a line feed
abbrev pub line_end : List ℕ
line_end = 13 ∷ 10 ∷ []

-- decimal digits behind those of high make n: each puts what stands before it one place up
abbrev pub DigitsGoOn : ℕ → List ℕ → ℕ → Type 0
DigitsGoOn high [] n = n ≡ high
DigitsGoOn high (digit ∷ digits) n = (48 ≤ digit) × (digit ≤ 57)
    × DigitsGoOn (high * 10 + (digit - 48)) digits n

-- the bytes are the decimal digits of n: at least one, and no leading zero but in 0 itself
abbrev pub IsNumber : List ℕ → ℕ → Type 0
IsNumber [] n = ⊥
IsNumber (digit ∷ digits) n = (48 ≤ digit) × (digit ≤ 57)
    × (digit ≡ 48 → digits ≡ []) × DigitsGoOn (digit - 48) digits n

-- a line: its first byte, a number and a line end
abbrev pub IsLine : ℕ → List ℕ → ℕ → Type 0
IsLine first text n = (digits : List ℕ) × IsNumber digits n × (text ≡ first ∷ (digits ++ line_end))

-- a word: the line of `$` and its length, its bytes, and a line end
abbrev pub IsWord : List ℕ → List ℕ → Type 0
IsWord text word = (line : List ℕ) × IsLine 36 line (length word) × (length word ≤ 1048576)
    × (text ≡ line ++ (word ++ line_end))

-- the text is these words, one behind another
abbrev pub AreWords : List ℕ → List (List ℕ) → Type 0
AreWords text [] = text ≡ []
AreWords text (word ∷ words) = (front rest : List ℕ) × IsWord front word
    × (text ≡ front ++ rest) × AreWords rest words

-- how many bytes the words have together
abbrev pub total_bytes : List (List ℕ) → ℕ
total_bytes [] = 0
total_bytes (word ∷ words) = length word + total_bytes words

-- a request: the line of `*` and the number of its words, and then the words
pub record IsRequest (text : List ℕ) (words : List (List ℕ)) : Type 0 where
  pub line : List ℕ
  pub rest : List ℕ
  pub is : text ≡ line ++ rest
  pub count : IsLine 42 line (length words)
  pub some : 0 < length words
  pub few : length words ≤ 1024
  pub short : total_bytes words ≤ 2097152
  pub spelled : AreWords rest words

-- `*0` or `*-1` and a line end
abbrev pub IsSkipped : List ℕ → Type 0
IsSkipped text = (text ≡ 42 ∷ 48 ∷ line_end) ⊎ (text ≡ 42 ∷ 45 ∷ 49 ∷ line_end)

-- an item of a stream: a request, or one that is skipped
abbrev pub IsItem : List ℕ → Option (List (List ℕ)) → Type 0
IsItem text None = IsSkipped text
IsItem text (Some words) = IsRequest text words

-- the text is these items, one behind another
abbrev pub AreItems : List ℕ → List (Option (List (List ℕ))) → Type 0
AreItems text [] = text ≡ []
AreItems text (item ∷ items) = (front rest : List ℕ) × IsItem front item
    × (text ≡ front ++ rest) × AreItems rest items

-- the requests among the items, in order
abbrev pub item_requests : List (Option (List (List ℕ))) → List (List (List ℕ))
item_requests = flat_map option_to_list

-- the bytes are whole items, and the requests among them are these
abbrev pub IsStream : List ℕ → List (List (List ℕ)) → Type 0
IsStream text requests = (items : List (Option (List (List ℕ)))) × AreItems text items
    × (requests ≡ item_requests items)

-- the bytes begin a stream
abbrev pub IsBegun : List ℕ → Type 0
IsBegun bytes = (more : List ℕ) × (requests : List (List (List ℕ)))
    × IsStream (bytes ++ more) requests

-- the bytes are one whole item
abbrev pub IsWholeItem : List ℕ → Type 0
IsWholeItem text = (item : Option (List (List ℕ))) × IsItem text item

-- the bytes begin an item and lack at least one byte of it; no bytes are such too
abbrev pub IsUnfinished : List ℕ → Type 0
IsUnfinished bytes = (byte : ℕ) × (more : List ℕ) × IsWholeItem (bytes ++ byte ∷ more)
