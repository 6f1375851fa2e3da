-- How one byte, and bytes of a word, lengthen what was read of an item.
use Rattle.std.proofs.Common.{◌≡◌, ℕ, ◌+◌, ◌-◌, ◌*◌, ◌<◌, ◌≤◌, ◌≢◌, ◌==◌, inl, inr, min, List, [], ◌∷◌, ◌++◌, length, refl, sym, ap, subst, ◌∙◌, arith, length-append, Option}
use Rattle.std.proofs.lemmas.Bool.{eqb-true, eqb-false}
use Rattle.std.proofs.lemmas.List.{append_assoc, append-nil}
use Rattle.resp_text.specs.Grammar.{line_end, DigitsGoOn, IsNumber, IsLine, IsWord, AreWords}
use Rattle.resp_text.specs.Breaks.{HasNoLineFeed, HasWords}
use Rattle.resp_text.specs.Residual.{HasReadPart, Tells, StepReads, IsSoundPart, IsSoundScan, IsAtByte, number_step, step_if, step_of}
use Rattle.resp_text.specs.declared.scan.Scan.{Scan}
use Rattle.resp_text.specs.declared.scan.Part.{Part}
use Rattle.resp_text.specs.declared.scan.Part.TheVariants.{Start, Star, Zero, Minus, MinusOne, SkipEnd, Count, CountEnd, Dollar, Sign, Length, LengthEnd, Body, Ending}
use Rattle.resp_text.specs.declared.scan.Step.{Step}
use Rattle.resp_text.specs.declared.scan.Step.TheVariants.{Go, Whole, Break}
use Rattle.resp_text.specs.declared.fault.ProtocolKind.{ProtocolKind}
use Rattle.resp_text.specs.declared.fault.ProtocolKind.TheVariants as kind
use Rattle.resp_text.proofs.Texts.{DigitsGoOn-number}
use Rattle.resp_text.proofs.Steps.{at, on_test, on_digit}

-- bytes of a line
no_feed_append : (a b : List ℕ) → HasNoLineFeed a → HasNoLineFeed b → HasNoLineFeed (a ++ b)
no_feed_append [] b h k = k
no_feed_append (x ∷ a) b h k = (h.0, no_feed_append a b h.1 k)

no_feed_digits : (high n : ℕ) (ds : List ℕ) → DigitsGoOn high ds n → HasNoLineFeed ds
no_feed_digits high n [] h = tt
no_feed_digits high n (d ∷ ds) h = (
  λ e. omega (arith, e, h.0),
  no_feed_digits (high * 10 + (d - 48)) n ds h.2,
)

no_feed_number : (digits : List ℕ) (n : ℕ) → IsNumber digits n → HasNoLineFeed digits
no_feed_number digits n h = no_feed_digits 0 n digits (DigitsGoOn-number digits n h)

no_feed_line : (digits : List ℕ) (n : ℕ) → IsNumber digits n → HasNoLineFeed (digits ++ 13 ∷ [])
no_feed_line digits n h = no_feed_append digits (13 ∷ []) (no_feed_number digits n h) (
  λ e. omega (arith, e),
  tt,
)

-- one more digit
pub DigitsGoOn-more : (high n d : ℕ) (ds : List ℕ) → DigitsGoOn high ds n → 48 ≤ d → d ≤ 57 →
    DigitsGoOn high (ds ++ d ∷ []) (n * 10 + (d - 48))
DigitsGoOn-more high n d [] h low top = (low, top, ap (λ (n : ℕ). n * 10 + (d - 48)) h)
DigitsGoOn-more high n d (e ∷ ds) h low top = (
  h.0,
  h.1,
  DigitsGoOn-more (high * 10 + (e - 48)) n d ds h.2 low top,
)

number_more : (digits : List ℕ) (n d : ℕ) → IsNumber digits n → 0 < n → 48 ≤ d → d ≤ 57 →
    IsNumber (digits ++ d ∷ []) (n * 10 + (d - 48))
number_more [] n d h some low top = absurd h
number_more (e ∷ ds) n d h some low top = (
  h.0,
  h.1,
  λ z. (let none : n ≡ e - 48 = subst (λ (ds : List ℕ). DigitsGoOn (e - 48) ds n) (h.2 z) h.3 in
      absurd (omega (arith, none, z, some))),
  DigitsGoOn-more (e - 48) n d ds h.3 low top,
)

number_one : (d : ℕ) → 48 ≤ d → d ≤ 57 → IsNumber (d ∷ []) (0 * 10 + (d - 48))
number_one d low top = (low, top, (λ z. refl), omega arith)

-- more bytes behind the words
words_longer : (bytes behind x : List ℕ) (due : ℕ) → HasWords bytes due behind →
    HasWords (bytes ++ x) due (behind ++ x)
words_longer bytes behind x due w = record {
  line = w.line;
  count = w.count;
  words = w.words;
  text = w.text;
  first = w.first;
  spelled = w.spelled;
  together = w.together;
  is = ap (λ (t : List ℕ). t ++ x) w.is ∙ append_assoc w.line (w.text ++ behind) x
      ∙ ap (λ (t : List ℕ). w.line ++ t) (append_assoc w.text behind x);
}

-- one word more
pub words_more : (text front : List ℕ) (ws : List (List ℕ)) (w : List ℕ) → AreWords text ws →
    IsWord front w → AreWords (text ++ front) (ws ++ w ∷ [])
words_more text front [] w h word = subst (λ (t : List ℕ). AreWords (t ++ front) (w ∷ []))
    (sym h) (front, [], word, sym (append-nil front), refl)
words_more text front (v ∷ ws) w (f, r, first, e, more) word = (
  f,
  r ++ front,
  first,
  ap (λ (t : List ℕ). t ++ front) e ∙ append_assoc f r front,
  words_more r front ws w more word,
)

word_done : (bytes front word : List ℕ) (due : ℕ) → IsWord front word →
    HasWords bytes (due + 1) front → HasWords bytes due []
word_done bytes front word due is_word w = record {
  line = w.line;
  count = w.count;
  words = w.words ++ word ∷ [];
  text = w.text ++ front;
  first = w.first;
  spelled = words_more w.text front w.words word w.spelled is_word;
  together = omega (arith, length-append w.words (word ∷ []), w.together);
  is = w.is ∙ ap (λ (t : List ℕ). w.line ++ t) (sym (append-nil (w.text ++ front)));
}

-- the first line of a request
count_done : (bytes digits : List ℕ) (n : ℕ) → IsNumber digits n →
    bytes ≡ 42 ∷ (digits ++ 13 ∷ []) → HasWords (bytes ++ 10 ∷ []) n []
count_done bytes digits n number e = record {
  line = 42 ∷ (digits ++ line_end);
  count = n;
  words = [];
  text = [];
  first = (digits, number, refl);
  spelled = refl;
  together = omega arith;
  is = ap (λ (t : List ℕ). t ++ 10 ∷ []) e ∙ ap (λ (t : List ℕ). 42 ∷ t)
      (append_assoc digits (13 ∷ []) (10 ∷ [])) ∙ sym (append-nil (42 ∷ (digits ++ line_end)));
}

-- the first line of a word
length_done : (bytes digits : List ℕ) (n words : ℕ) → 0 < words → n ≤ 1048576 →
    IsNumber digits n → HasWords bytes words (36 ∷ (digits ++ 13 ∷ [])) →
    HasReadPart (Body n) (words - 1) (bytes ++ 10 ∷ [])
length_done bytes digits n words some short number w =
    let all : 0 + n ≡ n = omega arith in
    let due : words ≡ (words - 1) + 1 = omega (arith, some) in
    let is : (36 ∷ (digits ++ 13 ∷ [])) ++ 10 ∷ [] ≡ (36 ∷ (digits ++ line_end)) ++ [] =
    ap (λ (t : List ℕ). 36 ∷ t) (append_assoc digits (13 ∷ []) (10 ∷ []))
    ∙ sym (append-nil (36 ∷ (digits ++ line_end))) in (
      36 ∷ (digits ++ line_end),
      [],
      (digits, subst (IsNumber digits) (sym all) number, refl),
      omega (arith, short),
      subst (λ (behind : List ℕ). HasWords (bytes ++ 10 ∷ []) ((words - 1) + 1) behind) is
          (subst (λ (due : ℕ). HasWords (bytes ++ 10 ∷ []) due ((36 ∷ (digits ++ 13 ∷ []))
          ++ 10 ∷ [])) due (words_longer bytes (36 ∷ (digits ++ 13 ∷ [])) (10 ∷ []) words w)),
    )

-- bytes of a word
pub body_longer : (bytes x : List ℕ) (left words : ℕ) → length x ≤ left →
    HasReadPart (Body left) words bytes →
    HasReadPart (Body (left - length x)) words (bytes ++ x)
body_longer bytes x left words fits (line, word, is_line, short, w) =
    let len : length word + left ≡ length (word ++ x) + (left - length x) = omega
    (arith, length-append word x, fits) in (
      line,
      word ++ x,
      subst (IsLine 36 line) len is_line,
      omega (arith, short, len),
      subst (λ (behind : List ℕ). HasWords (bytes ++ x) (words + 1) behind)
          (append_assoc line word x) (words_longer bytes (line ++ word) x (words + 1) w),
    )

-- behind the last byte of a word
body_done : (bytes : List ℕ) (words : ℕ) → HasReadPart (Body 0) words bytes →
    HasReadPart Ending words (bytes ++ 13 ∷ [])
body_done bytes words (line, word, is_line, short, w) =
    let len : length word + 0 ≡ length word = omega arith in (
      line,
      word,
      subst (IsLine 36 line) len is_line,
      omega (arith, short),
      subst (λ (behind : List ℕ). HasWords (bytes ++ 13 ∷ []) (words + 1) behind)
          (append_assoc line word (13 ∷ [])) (words_longer bytes (line ++ word) (13 ∷ [])
          (words + 1) w),
    )

ending_done : (bytes : List ℕ) (words : ℕ) → HasReadPart Ending words bytes →
    HasWords (bytes ++ 10 ∷ []) words []
ending_done bytes words (line, word, is_line, short, w) =
    let is : (line ++ (word ++ 13 ∷ [])) ++ 10 ∷ [] ≡ line ++ (word ++ line_end) =
    append_assoc line (word ++ 13 ∷ []) (10 ∷ [])
    ∙ ap (λ (t : List ℕ). line ++ t) (append_assoc word (13 ∷ []) (10 ∷ [])) in
    word_done (bytes ++ 10 ∷ []) (line ++ (word ++ line_end)) word words
    (line, is_line, short, refl)
    (subst (λ (behind : List ℕ). HasWords (bytes ++ 10 ∷ []) (words + 1) behind) is
    (words_longer bytes (line ++ (word ++ 13 ∷ [])) (10 ∷ []) (words + 1) w))

-- a byte that is no line feed, in an item's first line
line_longer : (bytes : List ℕ) (byte : ℕ) → byte ≢ 10 →
    ((more : List ℕ) × (bytes ≡ 42 ∷ more) × HasNoLineFeed more) →
    (more : List ℕ) × (bytes ++ byte ∷ [] ≡ 42 ∷ more) × HasNoLineFeed more
line_longer bytes byte other (more, e, none) = (
  more ++ byte ∷ [],
  ap (λ (t : List ℕ). t ++ byte ∷ []) e,
  no_feed_append more (byte ∷ []) none (other, tt),
)

-- the kind of a break in each part
kind_in : Part → ProtocolKind
kind_in Start = kind.Start
kind_in Dollar = kind.Dollar
kind_in Sign = kind.Length
kind_in (Length n) = kind.Length
kind_in (LengthEnd n) = kind.Length
kind_in (Body left) = kind.Ending
kind_in Ending = kind.Ending
kind_in _ = kind.Count

tells_at : (part : Part) (words room : ℕ) → IsSoundPart part words room → IsAtByte part →
    Tells (at part words room) (kind_in part)
unfolding kind_in
tells_at Start words room sound due front h = h
tells_at Star words room sound due front h = ([], h, tt)
tells_at Zero words room sound due front h = h
tells_at Minus words room sound due front h = h
tells_at MinusOne words room sound due front h = h
tells_at SkipEnd words room sound due front h = h
tells_at (Count n) words room sound due front (digits, number, e) = (
  digits,
  e,
  no_feed_number digits n number,
)
tells_at (CountEnd n) words room sound due front (digits, number, e) = (
  digits ++ 13 ∷ [],
  e,
  no_feed_line digits n number,
)
tells_at Dollar words room sound due front h = (words, [], sound, h, refl)
tells_at Sign words room sound due front h = (words, 36 ∷ [], sound, h, ([], refl, tt))
tells_at (Length n) words room sound due front (digits, number, w) = (
  words,
  36 ∷ digits,
  sound.0,
  w,
  (digits, refl, no_feed_number digits n number),
)
tells_at (LengthEnd n) words room sound due front (digits, number, w) = (
  words,
  36 ∷ (digits ++ 13 ∷ []),
  sound.0,
  w,
  (digits ++ 13 ∷ [], refl, no_feed_line digits n number),
)
tells_at (Body left) words room sound due front (line, word, is_line, short, w) = (
  words + 1,
  line ++ word,
  omega arith,
  w,
  (
    line,
    word,
    [],
    subst (IsLine 36 line) (omega (arith, due)) is_line,
    ap (λ (t : List ℕ). line ++ t) (sym (append-nil word)),
    inl refl,
  ),
)
tells_at Ending words room sound due front (line, word, is_line, short, w) = (
  words + 1,
  line ++ (word ++ 13 ∷ []),
  omega arith,
  w,
  (line, word, 13 ∷ [], is_line, refl, inr refl),
)

-- the step of the byte that is due, and of any other
on_due : (scan : Scan) (byte due : ℕ) (next : Step) (what : ProtocolKind) →
    StepReads scan due next → Tells scan what → StepReads scan byte (step_if byte due next what)
on_due scan byte due next what holds tells =
    on_test (byte == due) (StepReads scan byte) next (Break what)
    (λ t. subst (λ (b : ℕ). StepReads scan b next) (sym (eqb-true byte due t)) holds)
    (λ t. tells)

-- behind the `*`
star_reads : (words room byte : ℕ) → Tells (at Star words room) kind.Count →
    StepReads (at Star words room) byte (step_of (at Star words room) Star byte)
star_reads words room byte tells =
    on_test (byte == 48) (StepReads (at Star words room) byte) _ _
    (λ t. subst (λ (b : ℕ). StepReads (at Star words room) b (Go (at Zero words room))) (sym
    (eqb-true byte 48 t)) (λ front h. line_longer front 48 (λ e. omega (arith, e)) ([], h, tt)))
    (λ not_zero. on_test (byte == 45) (StepReads (at Star words room) byte) _ _
    (λ t. subst (λ (b : ℕ). StepReads (at Star words room) b (Go (at Minus words room))) (sym
    (eqb-true byte 45 t)) (λ front h. line_longer front 45 (λ e. omega (arith, e)) ([], h, tt)))
    (λ not_minus. on_digit 0 byte 1024 (λ (n : Option ℕ). StepReads (at Star words room) byte
    (number_step (at Star words room) n Count kind.Count))
    (λ digit front h. (
      byte ∷ [],
      number_one byte digit.0 digit.1,
      ap (λ (t : List ℕ). t ++ byte ∷ []) h,
    ))
    (λ none. tells)))

-- behind digits of a count
count_reads : (n words room byte : ℕ) → 0 < n → Tells (at (Count n) words room) kind.Count →
    StepReads (at (Count n) words room) byte (step_of (at (Count n) words room) (Count n) byte)
count_reads n words room byte some tells =
    on_test (byte == 13) (StepReads (at (Count n) words room) byte) _ _
    (λ t. subst (λ (b : ℕ). StepReads (at (Count n) words room) b (Go (at
    (CountEnd n) words room))) (sym (eqb-true byte 13 t))
    (λ front h. (h.0, h.1, ap (λ (t : List ℕ). t ++ 13 ∷ []) h.2)))
    (λ other. on_digit n byte 1024 (λ (m : Option ℕ). StepReads (at (Count n) words room) byte
    (number_step (at (Count n) words room) m Count kind.Count))
    (λ digit front h. (
      h.0 ++ byte ∷ [],
      number_more h.0 n byte h.1 some digit.0 digit.1,
      ap (λ (t : List ℕ). t ++ byte ∷ []) h.2,
    ))
    (λ none. tells))

-- behind a `$` and digits of a length
sign_reads : (words room byte : ℕ) → Tells (at Sign words room) kind.Length →
    StepReads (at Sign words room) byte (step_of (at Sign words room) Sign byte)
sign_reads words room byte tells =
    on_digit 0 byte (min 1048576 room) (λ (n : Option ℕ). StepReads (at Sign words room) byte
    (number_step (at Sign words room) n Length kind.Length))
    (λ digit front h. (
      byte ∷ [],
      number_one byte digit.0 digit.1,
      words_longer front (36 ∷ []) (byte ∷ []) words h,
    ))
    (λ none. tells)

length_reads : (n words room byte : ℕ) → Tells (at (Length n) words room) kind.Length →
    StepReads (at (Length n) words room) byte (step_of (at (Length n) words room) (Length n) byte)
length_reads n words room byte tells =
    on_test (byte == 13) (StepReads (at (Length n) words room) byte) _ _
    (λ t. subst (λ (b : ℕ). StepReads (at (Length n) words room) b (Go (at
    (LengthEnd n) words room))) (sym (eqb-true byte 13 t))
    (λ front h. (h.0, h.1, words_longer front (36 ∷ h.0) (13 ∷ []) words h.2)))
    (λ other. on_test (n == 0) (StepReads (at (Length n) words room) byte) _ _
    (λ z. tells)
    (λ positive. on_digit n byte (min 1048576 room) (λ (m : Option ℕ). StepReads (at
    (Length n) words room) byte (number_step (at (Length n) words room) m Length kind.Length))
    (λ digit front h. let not_none : n ≢ 0 = eqb-false n 0 positive in (
      h.0 ++ byte ∷ [],
      number_more h.0 n byte h.1 (omega (arith, not_none)) digit.0 digit.1,
      words_longer front (36 ∷ h.0) (byte ∷ []) words h.2,
    ))
    (λ none. tells)))

-- behind a word
ending_reads : (words room byte : ℕ) → Tells (at Ending words room) kind.Ending →
    StepReads (at Ending words room) byte (step_of (at Ending words room) Ending byte)
ending_reads words room byte tells = on_due (at Ending words room) byte 10 _ _
    (on_test (words == 0) (StepReads (at Ending words room) 10) Whole (Go (at Dollar words room))
    (λ z. tt)
    (λ some front h. ending_done front words h))
    tells

step_reads_at : (part : Part) (words room byte : ℕ) → IsSoundPart part words room →
    IsAtByte part → Tells (at part words room) (kind_in part) →
    StepReads (at part words room) byte (step_of (at part words room) part byte)
unfolding kind_in
step_reads_at Start words room byte sound due tells = on_due (at Start words room) byte 42 _ _
    (λ front h. ap (λ (t : List ℕ). t ++ 42 ∷ []) h) tells
step_reads_at Star words room byte sound due tells = star_reads words room byte tells
step_reads_at Zero words room byte sound due tells = on_due (at Zero words room) byte 13 _ _
    (λ front h. line_longer front 13 (λ e. omega (arith, e)) h) tells
step_reads_at Minus words room byte sound due tells = on_due (at Minus words room) byte 49 _ _
    (λ front h. line_longer front 49 (λ e. omega (arith, e)) h) tells
step_reads_at MinusOne words room byte sound due tells = on_due
    (at MinusOne words room) byte 13 _ _
    (λ front h. line_longer front 13 (λ e. omega (arith, e)) h) tells
step_reads_at SkipEnd words room byte sound due tells = on_due (at SkipEnd words room) byte 10 _ _
    tt tells
step_reads_at (Count n) words room byte sound due tells = count_reads n words room byte sound.0
    tells
step_reads_at (CountEnd n) words room byte sound due tells = on_due
    (at (CountEnd n) words room) byte 10 _ _
    (λ front h. count_done front h.0 n h.1 h.2) tells
step_reads_at Dollar words room byte sound due tells = on_due (at Dollar words room) byte 36 _ _
    (λ front h. words_longer front [] (36 ∷ []) words h) tells
step_reads_at Sign words room byte sound due tells = sign_reads words room byte tells
step_reads_at (Length n) words room byte sound due tells = length_reads n words room byte tells
step_reads_at (LengthEnd n) words room byte sound due tells = on_due
    (at (LengthEnd n) words room) byte 10 _ _
    (λ front h. length_done front h.0 n words sound.0 sound.1 h.1 h.2) tells
step_reads_at (Body left) words room byte sound due tells = on_due
    (at (Body left) words room) byte 13 _ _
    (λ front h. body_done front words (subst (λ (left : ℕ). HasReadPart (Body left) words front)
    due h)) tells
step_reads_at Ending words room byte sound due tells = ending_reads words room byte tells

-- each step lengthens what was read, or breaks in the part of its kind
pub step_reads : (scan : Scan) (byte : ℕ) → IsSoundScan scan → IsAtByte scan.part →
    StepReads scan byte (step_of scan scan.part byte)
step_reads scan byte sound due = step_reads_at scan.part scan.words scan.room byte sound due
    (tells_at scan.part scan.words scan.room sound due)
