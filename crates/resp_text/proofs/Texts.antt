-- What stands at the front of a text of words.
use Rattle.std.proofs.Common.{◌≡◌, ℕ, ◌+◌, ◌-◌, ◌*◌, ◌<◌, ◌≤◌, ◌≢◌, ◌^◌, List, [], ◌∷◌, ◌++◌, length, take, drop, get_or, refl, sym, ap, subst, ◌∙◌, arith, length-append}
use Rattle.std.proofs.lemmas.List.{append_assoc, length-drop, drop_more, drop_at, take_at, nil_from_length, append-nil}
use Rattle.resp_text.specs.Grammar.{line_end, DigitsGoOn, IsNumber, AreWords, IsRequest}
use Rattle.resp_text.specs.Lines.{HasLine, BeginsWithLine, BeginsWithWord}
use Rattle.resp_text.proofs.Residuals.{DigitsGoOn-le, head_is, tail_is}

-- behind the digits so far, the others stand for the rest of each number that the line may have
abbrev pub StandsInLine : List ℕ → ℕ → ℕ → Type 0
StandsInLine text at number = (n : ℕ) (digits more : List ℕ) → HasLine text n digits more →
    (left : List ℕ) × DigitsGoOn number left n × (drop at text ≡ left ++ 13 ∷ 10 ∷ more)
    × (at + length left ≡ length digits + 1)

-- a number goes on from nothing
pub DigitsGoOn-number : (digits : List ℕ) (n : ℕ) → IsNumber digits n → DigitsGoOn 0 digits n
DigitsGoOn-number [] n h = absurd h
DigitsGoOn-number (d ∷ ds) n h = (h.0, h.1, subst (λ (high : ℕ). DigitsGoOn high ds n) (omega arith) h.3)

pub line_begins : (text : List ℕ) → StandsInLine text 1 0
line_begins text n digits more line = (
  digits,
  DigitsGoOn-number digits n line.number,
  ap
      (drop 1) line.is,
  omega arith,
)

-- a line is not at its end before the carriage return
pub in_text : (text : List ℕ) (at number : ℕ) → BeginsWithLine text →
    StandsInLine text at number → at < length text
in_text text at number (n, digits, more, small, line) here = longer (here n digits more line) where
  longer : (left : List ℕ) × DigitsGoOn number left n × (drop at text ≡ left ++ 13 ∷ 10 ∷ more)
      × (at + length left ≡ length digits + 1) → at < length text
  longer (left, goes, is, len) = omega (
    arith,
    length-drop at text,
    ap length is,
    length-append
        left (13 ∷ 10 ∷ more),
  )

-- the byte at the place is a digit, or the line ends there
abbrev Left : List ℕ → ℕ → ℕ → ℕ → List ℕ → List ℕ → Type 0
Left text at number n digits more = (left : List ℕ) × DigitsGoOn number left n
    × (drop at text ≡ left ++ 13 ∷ 10 ∷ more) × (at + length left ≡ length digits + 1)

goes_on : (text : List ℕ) (at number n : ℕ) (digits more : List ℕ) → at < length text →
    get_or text at 0 ≢ 13 → Left text at number n digits more →
    Left text (at + 1) (number * 10 + (get_or text at 0 - 48)) n digits more
    × (48 ≤ get_or text at 0) × (number * 10 + (get_or text at 0 - 48) ≤ n)
goes_on text at number n digits more within other ([], goes, is, len) = absurd (other
    (head_is _ 13 _ _ (sym (drop_more text at 0 within) ∙ is)))
goes_on text at number n digits more within other (d ∷ ds, goes, is, len) =
    let same : get_or text at 0 ∷ drop (at + 1) text ≡ d ∷ (ds ++ 13 ∷ 10 ∷ more) = sym
    (drop_more text at 0 within) ∙ is in
    let b : get_or text at 0 ≡ d = head_is _ d _ _ same in
    let high : number * 10 + (d - 48) ≤ n = DigitsGoOn-le _ ds n goes.2 in (
      (
        ds,
        subst (λ (d : ℕ). DigitsGoOn (number * 10 + (d - 48)) ds n)
            (sym b) goes.2,
        tail_is _ d _ _ same,
        omega (arith, len),
      ),
      omega (arith, b, goes.0),
      omega
          (arith, b, high),
    )

pub line_goes_on : (text : List ℕ) (at number : ℕ) → at < length text → get_or text at 0 ≢ 13 →
    StandsInLine text at number → StandsInLine text (at + 1) (number * 10 + (get_or text at 0 - 48))
line_goes_on text at number within other here n digits more line =
    (goes_on text at number n digits more within other (here n digits more line)).0

pub digit_fits : (text : List ℕ) (at number : ℕ) → at < length text → get_or text at 0 ≢ 13 →
    BeginsWithLine text → StandsInLine text at number →
    (48 ≤ get_or text at 0) × (number * 10 + (get_or text at 0 - 48) < 2 ^ 32)
digit_fits text at number within other (n, digits, more, small, line) here =
    let g = goes_on text at number n digits more within other (here n digits more line) in
    (g.1, omega (arith, g.2, small))

-- at the carriage return the number is whole
ends : (text : List ℕ) (at number n : ℕ) (digits more : List ℕ) → at < length text →
    get_or text at 0 ≡ 13 → Left text at number n digits more →
    (number ≡ n) × (at + 2 ≡ length digits + 3)
ends text at number n digits more within here ([], goes, is, len) = (sym goes, omega (arith, len))
ends text at number n digits more within here (d ∷ ds, goes, is, len) = absurd (omega
    (arith, goes.0, here, head_is _ d _ _ (sym (drop_more text at 0 within) ∙ is)))

pub line_ends : (text : List ℕ) (at number : ℕ) → at < length text → get_or text at 0 ≡ 13 →
    StandsInLine text at number → (n : ℕ) (digits more : List ℕ) → HasLine text n digits more →
    (number ≡ n) × (at + 2 ≡ length digits + 3)
line_ends text at number within here stands n digits more line = ends text at number n digits more
    within here (stands n digits more line)

-- what stands behind a line
pub line_behind : (text : List ℕ) (n : ℕ) (digits more : List ℕ) → HasLine text n digits more →
    (drop (length digits + 3) text ≡ more) × (length digits + 3 ≤ length text)
line_behind text n digits more line =
    let front : List ℕ = line.first ∷ (digits ++ line_end) in
    let split : text ≡ front ++ more = line.is
    ∙ ap (λ (t : List ℕ). line.first ∷ t) (sym (append_assoc digits line_end more)) in
    let len : length front ≡ length digits + 3 = omega (arith, length-append digits line_end) in (
      ap (drop (length digits + 3)) split ∙ drop_at front more (length digits + 3) len,
      omega
          (arith, ap length split, length-append front more, len),
    )

-- a text of words begins with this one
pub record FirstWord (text word : List ℕ) (words : List (List ℕ)) : Type 0 where
  pub digits : List ℕ
  pub after : List ℕ
  pub line : HasLine text (length word) digits (word ++ 13 ∷ 10 ∷ after)
  pub short : length word ≤ 1048576
  pub more : AreWords after words

pub word_first : (text word : List ℕ) (words : List (List ℕ)) → AreWords text (word ∷ words) →
    FirstWord text word words
word_first text word words (
  front,
  rest,
  (
    line,
    (digits, number, line_is),
    short,
    front_is,
  ),
  is,
  more,
) = record {
  digits = digits;
  after = rest;
  line = record {
    first = 36;
    number = number;
    is = is ∙ ap (λ (t : List ℕ). t ++ rest) (front_is
        ∙ ap (λ (t : List ℕ). t ++ (word ++ line_end)) line_is)
        ∙ ap (λ (t : List ℕ). 36 ∷ t) (append_assoc (digits ++ line_end) (word ++ line_end) rest
        ∙ append_assoc digits line_end ((word ++ line_end) ++ rest)
        ∙ ap (λ (t : List ℕ). digits ++ 13 ∷ 10 ∷ t) (append_assoc word line_end rest));
  };
  short = short;
  more = more;
}

pub some_word : (text : List ℕ) → BeginsWithWord text →
    (word : List ℕ) × (words : List (List ℕ)) × FirstWord text word words
some_word text ([], nil, some) = absurd (omega (arith, some, ap length nil))
some_word text (word ∷ words, spelled, some) = (word, words, word_first text word words spelled)

pub word_line : (text : List ℕ) → BeginsWithWord text → BeginsWithLine text
word_line text h = let w = some_word text h in
    (length w.0, w.2.digits, w.0 ++ 13 ∷ 10 ∷ w.2.after, omega (arith, w.2.short), w.2.line)

-- the parts into which a first word is split
pub record WordParts (text word : List ℕ) (words : List (List ℕ)) (len n : ℕ) : Type 0 where
  pub line_fits : len ≤ length text
  pub word_fits : n ≤ length (drop len text)
  pub end_fits : 2 ≤ length (drop n (drop len text))
  pub word_is : take n (drop len text) ≡ word
  pub more : AreWords (drop 2 (drop n (drop len text))) words
  pub shorter : length (drop 2 (drop n (drop len text))) < length text

pub word_parts : (text word : List ℕ) (words : List (List ℕ)) (len n : ℕ)
    (w : FirstWord text word words) → n ≡ length word → len ≡ length w.digits + 3 →
    WordParts text word words len n
word_parts text word words len n w word_len line_len =
    let line = line_behind text (length word) w.digits (word ++ 13 ∷ 10 ∷ w.after) w.line in
    let behind : drop len text ≡ word ++ 13 ∷ 10 ∷ w.after = ap (λ
    (k : ℕ). drop k text) line_len ∙ line.0 in
    let past : drop n (drop len text) ≡ 13 ∷ 10 ∷ w.after = ap (drop n) behind
    ∙ drop_at word (13 ∷ 10 ∷ w.after) n (sym word_len) in
    record {
      line_fits = omega (arith, line.1, line_len);
      word_fits = omega (arith, ap length behind, length-append word (13 ∷ 10 ∷ w.after), word_len);
      end_fits = omega (arith, ap length past);
      word_is = ap (take n) behind ∙ take_at word (13 ∷ 10 ∷ w.after) n (sym word_len);
      more = subst (λ (t : List ℕ). AreWords t words) (sym (ap (drop 2) past)) w.more;
      shorter = omega (
        arith,
        ap length (ap
            (drop 2) past),
        length-drop len text,
        ap length behind,
        length-append word
            (13 ∷ 10 ∷ w.after),
      );
    }

-- the line of a request
pub request_line : (text : List ℕ) (words : List (List ℕ)) (r : IsRequest text words) →
    HasLine text (length words) r.count.0 r.rest
request_line text words r = record {
  first = 42;
  number = r.count.1;
  is = r.is ∙ ap (λ (t : List ℕ). t ++ r.rest) r.count.2
      ∙ ap (λ (t : List ℕ). 42 ∷ t) (append_assoc r.count.0 line_end r.rest);
}

-- a text without bytes has no words
pub no_words_left : (left : List (List ℕ)) → AreWords [] left → left ≡ []
no_words_left [] h = refl
no_words_left (w ∷ ws) h = let line = line_behind [] (length w) _ _
    (word_first [] w ws h).line in absurd (omega (arith, line.1))

-- the words so far, and one more
abbrev LeftOf : List ℕ → List (List ℕ) → List (List ℕ) → Type 0
LeftOf rest request words = (left : List (List ℕ)) × AreWords rest left × (words ≡ request ++ left)

pub words_more : (rest behind word : List ℕ) (request new words : List (List ℕ)) → 0 < length rest →
    ((w : List ℕ) (ws : List (List ℕ)) → AreWords rest (w ∷ ws) →
    (word ≡ w) × AreWords behind ws) → new ≡ request ++ word ∷ [] → LeftOf rest request words →
    LeftOf behind new words
words_more rest behind word request new words some split pushed ([], nil, is) = absurd (omega
    (arith, some, ap length nil))
words_more rest behind word request new words some split pushed (w ∷ ws, spelled, is) =
    let s = split w ws spelled in (
      ws,
      s.1,
      is ∙ sym (append_assoc request (w ∷ []) ws)
          ∙ ap (λ (v : List ℕ). (request ++ v ∷ []) ++ ws) (sym s.0)
          ∙ ap (λ (r : List (List ℕ)). r ++ ws) (sym pushed),
    )

-- all the words
pub words_all : (text rest : List ℕ) (request words : List (List ℕ)) → length rest ≡ 0 →
    LeftOf rest request words → IsRequest text words → IsRequest text request
words_all text rest request words none (left, spelled, is) r =
    let nil : left ≡ [] = no_words_left left (subst (λ (t : List ℕ). AreWords t left)
    (nil_from_length rest none) spelled) in
    subst (IsRequest text) (is ∙ ap (λ (l : List (List ℕ)). request ++ l) nil
    ∙ append-nil request) r
