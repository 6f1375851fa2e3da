-- Each request has one spelling.
use Rattle.std.proofs.Common.{◌≡◌, ℕ, ◌+◌, ◌-◌, ◌*◌, ◌/◌, ◌%◌, ◌^◌, ◌<◌, ◌≤◌, inl, inr, List, [], ◌∷◌, ◌++◌, length, sym, ap, subst, ◌∙◌, arith, decimal}
use Rattle.std.proofs.lemmas.List.{append_assoc, append-nil}
use Rattle.std.proofs.lemmas.Fmt.{decimal_digit, decimal_step}
use Rattle.std.proofs.lemmas.Bool.{cases_eq}
use Rattle.resp_text.specs.Grammar.{line_end, DigitsGoOn, IsNumber, IsLine, IsWord, AreWords, IsRequest}
use Rattle.resp_text.proofs.Residuals.{DigitsGoOn-le}

-- digits behind those of a number that is not 0
decimal_on : (h n : ℕ) (ds : List ℕ) → 0 < h → n < 2 ^ 64 → DigitsGoOn h ds n →
    decimal n ≡ decimal h ++ ds
decimal_on h n [] some small goes = ap decimal goes ∙ sym (append-nil (decimal h))
decimal_on h n (d ∷ ds) some small goes =
    let more : ℕ = h * 10 + (d - 48) in
    let fits : h * 10 + (d - 48) ≤ n = DigitsGoOn-le (h * 10 + (d - 48)) ds n goes.2 in
    let high : (h * 10 + (d - 48)) / 10 ≡ h = omega (arith, goes.0, goes.1) in
    let low : 48 + (h * 10 + (d - 48)) % 10 ≡ d = omega (arith, goes.0, goes.1) in
    decimal_on (h * 10 + (d - 48)) n ds (omega (arith, some)) small goes.2
    ∙ ap (λ (t : List ℕ). t ++ ds) (decimal_step (h * 10 + (d - 48)) (omega (arith, some)) (omega
    (arith, fits, small)) ∙ ap (λ (q : ℕ). decimal q ++ (48 + (h * 10 +
    (d - 48)) % 10) ∷ []) high ∙ ap (λ (c : ℕ). decimal h ++ c ∷ []) low)
    ∙ append_assoc (decimal h) (d ∷ []) ds

-- the digits of a number are those that are printed
pub number_is_decimal : (digits : List ℕ) (n : ℕ) → n < 2 ^ 64 → IsNumber digits n →
    digits ≡ decimal n
number_is_decimal [] n small h = absurd h
number_is_decimal (d ∷ ds) n small h = elim (cases_eq d 48) [
  | inl zero ↦ (let nil : ds ≡ [] = h.2 zero in
      let value : n ≡ 0 = subst (λ (k : ℕ). n ≡ k) (omega (arith, zero)) (subst (λ
      (ds : List ℕ). DigitsGoOn (d - 48) ds n) nil h.3) in
      ap (λ (c : ℕ). c ∷ ds) zero ∙ ap (λ (t : List ℕ). 48 ∷ t) nil ∙ sym (ap decimal value
      ∙ decimal_digit 0 (omega arith)))
  | inr other ↦ (let value : 48 + (d - 48) ≡ d = omega (arith, h.0) in
      sym (decimal_on (d - 48) n ds (omega (arith, h.0, other)) small h.3
      ∙ ap (λ (t : List ℕ). t ++ ds) (decimal_digit (d - 48) (omega (arith, h.1))
      ∙ ap (λ (c : ℕ). c ∷ []) value)))
]

one_number : (a b : List ℕ) (n : ℕ) → n < 2 ^ 64 → IsNumber a n → IsNumber b n → a ≡ b
one_number a b n small p q = number_is_decimal a n small p ∙ sym (number_is_decimal b n small q)

one_line_text : (first : ℕ) (a b : List ℕ) (n : ℕ) → n < 2 ^ 64 → IsLine first a n →
    IsLine first b n → a ≡ b
one_line_text first a b n small p q = p.2 ∙ ap (λ (ds : List ℕ). first ∷ (ds ++ line_end))
    (one_number p.0 q.0 n small p.1 q.1) ∙ sym q.2

one_word_text : (a b word : List ℕ) → IsWord a word → IsWord b word → a ≡ b
one_word_text a b word p q = p.3 ∙ ap (λ (line : List ℕ). line ++ (word ++ line_end))
    (one_line_text 36 p.0 q.0 (length word) (omega (arith, p.2)) p.1 q.1) ∙ sym q.3

one_words_text : (a b : List ℕ) (words : List (List ℕ)) → AreWords a words → AreWords b words →
    a ≡ b
one_words_text a b [] p q = p ∙ sym q
one_words_text a b (w ∷ ws) (front, rest, word, e, more) (front', rest', word', e', more') =
    e ∙ ap (λ (f : List ℕ). f ++ rest) (one_word_text front front' w word word')
    ∙ ap (λ (r : List ℕ). front' ++ r) (one_words_text rest rest' ws more more') ∙ sym e'

pub one_spelling : (a b : List ℕ) (words : List (List ℕ)) → IsRequest a words →
    IsRequest b words → a ≡ b
one_spelling a b words p q =
    p.is ∙ ap (λ (line : List ℕ). line ++ p.rest) (one_line_text 42 p.line q.line (length words)
    (omega (arith, p.few)) p.count q.count)
    ∙ ap (λ (r : List ℕ). q.line ++ r) (one_words_text p.rest q.rest words p.spelled q.spelled)
    ∙ sym q.is
