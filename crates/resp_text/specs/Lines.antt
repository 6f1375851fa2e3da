-- What stands at the front of whole items: lines and words.
use Rattle.std.specs.Prelude.{◌≡◌, ℕ, ◌^◌, ◌<◌, List, ◌∷◌, ◌++◌, length}
use Rattle.resp_text.specs.Grammar.{IsNumber, AreWords}

-- the text begins with a line: a byte, these digits of n, a line end, and then more
pub record HasLine (text : List ℕ) (n : ℕ) (digits more : List ℕ) : Type 0 where
  pub first : ℕ
  pub number : IsNumber digits n
  pub is : text ≡ first ∷ (digits ++ 13 ∷ 10 ∷ more)

-- the text begins with the line of a number that fits 32 bits
abbrev pub BeginsWithLine : List ℕ → Type 0
BeginsWithLine text = (n : ℕ) × (digits more : List ℕ) × (n < 2 ^ 32) × HasLine text n digits more

-- the text is words, of which there is at least one
abbrev pub BeginsWithWord : List ℕ → Type 0
BeginsWithWord text = (words : List (List ℕ)) × AreWords text words × (0 < length text)
