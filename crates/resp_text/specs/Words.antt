-- A list of words that lie in one buffer, each at a place of its own.
use Rattle.std.specs.Prelude.{ℕ, ◌-◌, ◌≤◌, List, [], ◌∷◌, take, drop}
use Rattle.resp_text.specs.declared.request.Span.{Span}

-- the bytes at a place of a buffer
abbrev pub bytes_at : List ℕ → Span → List ℕ
bytes_at bytes span = take (span.end - span.start) (drop span.start bytes)

-- the words at these places of a buffer
abbrev pub words_at : List ℕ → List Span → List (List ℕ)
words_at bytes [] = []
words_at bytes (span ∷ spans) = bytes_at bytes span ∷ words_at bytes spans

-- each place ends not before it starts, and within so many bytes
abbrev pub AreWithin : List Span → ℕ → Type 0
AreWithin [] len = Unit {0}
AreWithin (span ∷ spans) len = (span.start ≤ span.end) × (span.end ≤ len)
    × AreWithin spans len
