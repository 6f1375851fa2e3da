-- From each part of an item on, some bytes finish it.
use Rattle.std.proofs.Common.{◌≡◌, ℕ, ◌-◌, zero, suc, inl, List, [], ◌∷◌, ◌++◌, length, replicate, refl, ap, arith, None}
use Rattle.std.proofs.lemmas.List.{length-replicate}
use Rattle.resp_text.specs.Grammar.{line_end, AreWords, total_bytes, IsWord, IsUnfinished}
use Rattle.resp_text.specs.Residual.{AreWordsWithin, FinishesBody, FinishesPart, IsSoundPart}
use Rattle.resp_text.specs.Pieces.{StandsBehind}
use Rattle.resp_text.specs.declared.scan.Scan.{Scan}
use Rattle.resp_text.specs.declared.scan.Part.{Part}
use Rattle.resp_text.specs.declared.scan.Part.TheVariants.{Start, Star, Zero, Minus, MinusOne, SkipEnd, Count, CountEnd, Dollar, Sign, Length, LengthEnd, Body, Ending}

-- so many words without bytes
empty_words : ℕ → List ℕ
empty_words zero = []
empty_words (suc n) = 36 ∷ 48 ∷ 13 ∷ 10 ∷ 13 ∷ 10 ∷ empty_words n

empty_word : IsWord (36 ∷ 48 ∷ 13 ∷ 10 ∷ 13 ∷ 10 ∷ []) []
empty_word = (
  36 ∷ 48 ∷ 13 ∷ 10 ∷ [],
  (
    48 ∷ [],
    (
      omega arith,
      omega arith,
      (λ z. refl),
      refl,
    ),
    refl,
  ),
  omega arith,
  refl,
)

no_bytes : ℕ → List (List ℕ)
no_bytes zero = []
no_bytes (suc n) = [] ∷ no_bytes n

are_words : (n : ℕ) → AreWords (empty_words n) (no_bytes n)
unfolding empty_words no_bytes
are_words zero = refl
are_words (suc n) = (36 ∷ 48 ∷ 13 ∷ 10 ∷ 13 ∷ 10 ∷ [], empty_words n, empty_word, refl, are_words n)

length-no_bytes : (n : ℕ) → length (no_bytes n) ≡ n
unfolding no_bytes
length-no_bytes zero = refl
length-no_bytes (suc n) = ap suc (length-no_bytes n)

total-no_bytes : (n : ℕ) → total_bytes (no_bytes n) ≡ 0
unfolding no_bytes
total-no_bytes zero = refl
total-no_bytes (suc n) = omega (arith, total-no_bytes n)

within : (n room : ℕ) → AreWordsWithin n room (empty_words n)
within n room = (no_bytes n, are_words n, length-no_bytes n, omega (arith, total-no_bytes n))

body : (left words room : ℕ) → FinishesBody left words room
    (replicate left 0 ++ 13 ∷ 10 ∷ empty_words words)
body left words room = (
  replicate left 0,
  empty_words words,
  length-replicate left 0,
  refl,
  within
      words room,
)

-- at least one byte finishes the item
abbrev IsFinished : Part → ℕ → ℕ → Type 0
IsFinished part words room = (byte : ℕ) × (more : List ℕ)
    × FinishesPart part words room (byte ∷ more)

finished : (part : Part) (words room : ℕ) → IsSoundPart part words room → IsFinished part words room
unfolding empty_words
finished Start words room s = (42, 48 ∷ line_end, (None, inl refl))
finished Star words room s = (48, line_end, (None, inl refl))
finished Zero words room s = (13, 10 ∷ [], refl)
finished Minus words room s = (49, line_end, refl)
finished MinusOne words room s = (13, 10 ∷ [], refl)
finished SkipEnd words room s = (10, [], refl)
finished (Count n) words room s = (
  13,
  10 ∷ empty_words n,
  ([], empty_words n, n, refl, s.1, refl, within n 2097152),
)
finished (CountEnd n) words room s = (10, empty_words n, (empty_words n, refl, within n 2097152))
finished Dollar zero room s = absurd (omega (arith, s))
finished Dollar (suc n) room s = (36, 48 ∷ 13 ∷ 10 ∷ 13 ∷ 10 ∷ empty_words n, within (suc n) room)
finished Sign zero room s = absurd (omega (arith, s))
finished Sign (suc n) room s = (48, 13 ∷ 10 ∷ 13 ∷ 10 ∷ empty_words n, within (suc n) room)
finished (Length n) words room s = (
  13,
  10 ∷ (replicate n 0 ++ 13 ∷ 10 ∷ empty_words
      (words - 1)),
  (
    [],
    replicate n 0 ++ 13 ∷ 10 ∷ empty_words (words - 1),
    n,
    refl,
    (λ z. refl),
    s.1,
    s.2,
    refl,
    body n (words - 1) (room - n),
  ),
)
finished (LengthEnd n) words room s = (
  10,
  replicate n 0 ++ 13 ∷ 10 ∷ empty_words (words - 1),
  (replicate n 0 ++ 13 ∷ 10 ∷ empty_words (words - 1), refl, body n (words - 1) (room - n)),
)
finished (Body zero) words room s = (13, 10 ∷ empty_words words, body zero words room)
finished (Body (suc n)) words room s = (
  0,
  replicate n 0 ++ 13 ∷ 10 ∷ empty_words words,
  body
      (suc n) words room,
)
finished Ending words room s = (10, empty_words words, (empty_words words, refl, within words room))

-- where a reader stands, the item is unfinished
pub unfinished : (scan : Scan) (bytes : List ℕ) → StandsBehind scan bytes → IsUnfinished bytes
unfinished scan bytes stands =
    let f = finished scan.part scan.words scan.room stands.sound in
    (f.0, f.1, (stands.leads (f.0 ∷ f.1)).1 f.2)
