-- What the table of the commands says of one besides its name.
use Rattle.std.specs.Prelude.{ℕ, Bool, true, nat_le, ◌&&◌, List, [], take, drop, Option, Some, None}
use Rattle.service_meaning.specs.declared.shape.Keys.{Keys}
use Rattle.service_meaning.specs.declared.shape.Keys.TheVariants as keys
use Rattle.service_meaning.specs.declared.shape.Frames.{Frames}
use Rattle.service_meaning.specs.declared.shape.Shape.{Shape}

-- a line of the table: least and most number of words, keys, and what frames are wanted for
abbrev pub shape : ℕ → Option ℕ → Keys → Frames → Shape
shape least most keys frames = record { least = least; most = most; keys = keys; frames = frames }

-- so many words are no more than the most
abbrev pub is_at_most : Option ℕ → ℕ → Bool
is_at_most None words = true
is_at_most (Some most) words = nat_le words most

-- there may be so many words, the name counted
abbrev pub has_words : Shape → ℕ → Bool
has_words shape words = nat_le shape.least words && is_at_most shape.most words

-- the keys among the words of a request
abbrev pub keys_among : Keys → List (List ℕ) → List (List ℕ)
keys_among keys.None words = []
keys_among keys.First words = take 1 (drop 1 words)
keys_among keys.All words = drop 1 words
