-- What stands whole at the front of a text: its digits, its line, its words.
use Rattle.std.proofs.Common.{◌≡◌, ℕ, ◌+◌, ◌-◌, ◌*◌, ◌<◌, ◌≤◌, min, suc, List, [], ◌∷◌, ◌++◌, length, get_or, take, drop, refl, sym, ap, subst, ◌∙◌, arith, Option, Some}
use Rattle.std.proofs.lemmas.List.{nil_from_length, drop_more, take_more, length-take-le, length-drop, drop-drop, drop-append-le, take-append-drop, take-take, get_or-take}
use Rattle.std.proofs.lemmas.Option.{none-some}
use Rattle.std.proofs.Math.Seq.{take-add}
use Rattle.resp_text.specs.Grammar.{DigitsGoOn, IsNumber, IsLine, AreWords, total_bytes}
use Rattle.resp_text.specs.Residual.{digit_behind}
use Rattle.resp_text.specs.Words.{bytes_at, words_at, AreWithin}
use Rattle.resp_text.specs.Fronts.{HasFrontLine, HasFrontWord, HasFrontRequest}
use Rattle.resp_text.specs.declared.front.Line.{Line}
use Rattle.resp_text.specs.declared.request.Span.{Span}
use Rattle.resp_text.proofs.Steps.{GivesDigit, on_digit}
use Rattle.resp_text.proofs.Histories.{DigitsGoOn-more, words_more}
use Rattle.resp_text.proofs.Buffers.{length-words_at, AreWithin-le, AreWithin-push, words_at-push}

-- what a digit makes of a number
digit_is : (high byte most n : ℕ) → digit_behind high byte most ≡ Some n →
    GivesDigit high byte most × (n ≡ high * 10 + (byte - 48))
digit_is high byte most n = on_digit high byte most (λ (o : Option ℕ). o ≡ Some n →
    GivesDigit high byte most × (n ≡ high * 10 + (byte - 48)))
    (λ h e. (h, some_is _ n e))
    (λ fails e. absurd (none-some n e)) where
      some_is : (a b : ℕ) → Some a ≡ Some b → b ≡ a
      some_is a b e = cc

-- one digit more
pub digits_more : (digits : List ℕ) (at number next most : ℕ) → at < length digits →
    digit_behind number (get_or digits at 0) most ≡ Some next →
    DigitsGoOn 0 (take at digits) number →
    DigitsGoOn 0 (take (at + 1) digits) next × (next ≤ most)
digits_more digits at number next most within e h =
    let d = digit_is number (get_or digits at 0) most next e in (
      subst (λ (n : ℕ). DigitsGoOn 0 (take (at + 1) digits) n) (sym d.1)
          (subst (λ (ds : List ℕ). DigitsGoOn 0 ds (number * 10 + (get_or digits at 0 - 48)))
          (sym (take_more digits at 0 within))
          (DigitsGoOn-more 0 number (get_or digits at 0) (take at digits) h d.0.0 d.0.1)),
      omega (arith, d.1, d.0.2),
    )

-- digits from nothing on are a number where there is one, and a leading zero stands alone
number_from : (digits : List ℕ) (n : ℕ) → 0 < length digits →
    (get_or digits 0 0 ≡ 48 → length digits ≤ 1) → DigitsGoOn 0 digits n → IsNumber digits n
number_from [] n some alone h = absurd (omega (arith, some))
number_from (d ∷ ds) n some alone h = (
  h.0,
  h.1,
  λ zero. nil_from_length ds (omega (arith, alone zero)),
  subst (λ (high : ℕ). DigitsGoOn high ds n) (omega arith) h.2,
)

-- two bytes in a row
two_at : (bytes : List ℕ) (at a b : ℕ) → at + 2 ≤ length bytes → get_or bytes at 0 ≡ a →
    get_or bytes (at + 1) 0 ≡ b → take 2 (drop at bytes) ≡ a ∷ b ∷ []
two_at bytes at a b fits first second =
    ap (take 2) (drop_more bytes at 0 (omega (arith, fits))
    ∙ ap (λ (t : List ℕ). get_or bytes at 0 ∷ t) (drop_more bytes (at + 1) 0 (omega (arith, fits))))
    ∙ ap (λ (x : ℕ). x ∷ get_or bytes (at + 1) 0 ∷ []) first
    ∙ ap (λ (y : ℕ). a ∷ y ∷ []) second

-- the line at the front
pub front_line : (text digits : List ℕ) (first at number most : ℕ) → 0 < length text →
    get_or text 0 0 ≡ first → digits ≡ drop 1 text → at + 2 ≤ length digits → number ≤ most →
    get_or digits at 0 ≡ 13 → get_or digits (at + 1) 0 ≡ 10 → 0 < at →
    (get_or digits 0 0 ≡ 48 → at ≤ 1) → DigitsGoOn 0 (take at digits) number →
    HasFrontLine text first most (record { number = number; length = at + 3 })
front_line text digits first at number most some lead is fits few cr lf one alone goes =
    let split : text ≡ first ∷ digits = drop_more text 0 0 some
    ∙ ap (λ (x : ℕ). x ∷ drop 1 text) lead ∙ ap (λ (t : List ℕ). first ∷ t) (sym is) in
    let len : length (take at digits) ≡ at = length-take-le at digits (omega (arith, fits)) in
    let head : get_or (take at digits) 0 0 ≡ get_or digits 0 0 = get_or-take at digits 0 0 one in
    record {
      few = few;
      within = omega (arith, fits, ap length split);
      is_line = (
        take at digits,
        number_from (take at digits) number (omega (arith, len, one))
            (λ zero. omega (arith, len, alone (sym head ∙ zero))) goes,
        ap (take (at + 3)) split
            ∙ ap (λ (k : ℕ). take k (first ∷ digits)) three
            ∙ ap (λ (t : List ℕ). first ∷ t) (take-add at 2 digits
            ∙ ap (λ (t : List ℕ). take at digits ++ t) (two_at digits at 13 10 fits cr lf)),
      );
    } where
      three : at + 3 ≡ suc (at + 2)
      three = omega arith

-- a line has bytes
pub line_some : (text : List ℕ) (first most : ℕ) (line : Line) →
    HasFrontLine text first most line → 0 < line.length
line_some text first most line h = omega (
  arith,
  ap length h.is_line.2,
  length-take-le line.length text h.within,
)

-- the word at the front
pub front_word : (text : List ℕ) (room : ℕ) (line : Line) →
    HasFrontLine text 36 (min 1048576 room) line → line.length + line.number + 2 ≤ length text →
    get_or text (line.length + line.number) 0 ≡ 13 →
    get_or text (line.length + line.number + 1) 0 ≡ 10 →
    HasFrontWord text room (record {
      start = line.length;
      end = line.length + line.number;
    })
front_word text room line h fits cr lf =
    let end : ℕ = line.length + line.number in
    let word : List ℕ = take (end - line.length) (drop line.length text) in
    let same : end - line.length ≡ line.number = omega arith in
    let len : length word ≡ line.number = length-take-le (end - line.length) (drop line.length text)
    (omega (arith, length-drop line.length text, fits)) ∙ same in
    let behind : drop line.number (drop line.length text) ≡ drop end text = drop-drop line.number
    line.length text in
    record {
      order = omega arith;
      few = omega (arith, h.few, same);
      within = omega (arith, fits);
      is_word = (
        take line.length text,
        subst (IsLine 36 (take line.length text)) (sym len) h.is_line,
        omega (arith, len, h.few),
        ap (λ (k : ℕ). take k text) (omega arith)
            ∙ take-add line.length (line.number + 2) text
            ∙ ap (λ (t : List ℕ). take line.length text ++ t)
            (take-add line.number 2 (drop line.length text)
            ∙ ap (λ (k : ℕ). take k (drop line.length text) ++ take 2 (drop line.number (drop
            line.length text))) (sym same)
            ∙ ap (λ (t : List ℕ). word ++ t) (ap (take 2) behind ∙ two_at text end 13 10
            (omega (arith, fits)) cr lf)),
      );
    }

-- the words so far of a request, with the room that is left
pub record ReadsWords (text : List ℕ) (first at room : ℕ) (spans : List Span) : Type 0 where
  pub order : first ≤ at
  pub within : at ≤ length text
  pub spelled : AreWords (drop first (take at text)) (words_at text spans)
  pub total : total_bytes (words_at text spans) + room ≡ 2097152
  pub inside : AreWithin spans at

pub reads_none : (text : List ℕ) (at : ℕ) → at ≤ length text → ReadsWords text at at 2097152 []
reads_none text at within = record {
  order = omega arith;
  within = within;
  spelled = nil_from_length (drop at (take at text)) (omega
      (arith, length-drop at (take at text), length-take-le at text within));
  total = refl;
  inside = tt;
}

total_bytes-push : (words : List (List ℕ)) (word : List ℕ) →
    total_bytes (words ++ word ∷ []) ≡ total_bytes words + length word
total_bytes-push [] word = omega arith
total_bytes-push (w ∷ ws) word = omega (arith, total_bytes-push ws word)

-- one word more
pub reads_word : (text behind : List ℕ) (first at room : ℕ) (spans : List Span) (word : Span) →
    behind ≡ drop at text → HasFrontWord behind room word → ReadsWords text first at room spans →
    ReadsWords text first (at + (word.end + 2)) (room - (word.end - word.start))
    (spans ++ (record { start = at + word.start; end = at + word.end }) ∷ [])
reads_word text behind first at room spans word is h r =
    let span : Span = record { start = at + word.start; end = at + word.end } in
    let taken : ℕ = word.end + 2 in
    let left : length behind ≡ length text - at = ap length is ∙ length-drop at text in
    let fits : at + taken ≤ length text = omega (arith, h.within, left, r.within) in
    let same : bytes_at text span ≡ bytes_at behind word =
    ap (λ (k : ℕ). take k (drop (at + word.start) text)) (omega (arith, h.order))
    ∙ ap (take (word.end - word.start)) (sym (drop-drop word.start at text)
    ∙ ap (drop word.start) (sym is)) in
    let words : words_at text (spans ++ span ∷ []) ≡ words_at text spans ++ bytes_at behind word ∷
    [] = words_at-push text spans span
    ∙ ap (λ (w : List ℕ). words_at text spans ++ w ∷ []) same in
    let bytes : drop first (take (at + taken) text) ≡ drop first (take at text) ++ take taken behind =
    ap (drop first) (take-add at taken text
    ∙ ap (λ (t : List ℕ). take at text ++ take taken t) (sym is))
    ∙ drop-append-le first (take at text) (take taken behind) (omega
    (arith, length-take-le at text r.within, r.order)) in
    let len : length (bytes_at behind word) ≡ word.end - word.start = length-take-le
    (word.end - word.start) (drop word.start behind) (omega
    (arith, length-drop word.start behind, h.within, h.order)) in
    record {
      order = omega (arith, r.order);
      within = fits;
      spelled = subst (AreWords (drop first (take (at + taken) text))) (sym words)
          (subst (λ (t : List ℕ). AreWords t (words_at text spans ++ bytes_at behind word ∷ []))
          (sym bytes) (words_more (drop first (take at text)) (take taken behind)
          (words_at text spans) (bytes_at behind word) r.spelled h.is_word));
      total = omega (
        arith,
        ap total_bytes words,
        total_bytes-push (words_at text spans) (bytes_at behind word),
        len,
        h.few,
        r.total,
      );
      inside = AreWithin-push spans span (at + taken) (omega (arith, h.order)) (omega arith)
          (AreWithin-le spans at (at + taken) (omega arith) r.inside);
    }

-- all the words
pub reads_request : (text : List ℕ) (line : Line) (at room : ℕ) (spans : List Span) →
    HasFrontLine text 42 1024 line → 0 < line.number → length spans ≡ line.number →
    0 < line.length → ReadsWords text line.length at room spans → HasFrontRequest text spans at
reads_request text line at room spans h some all long r =
    let count : length (words_at text spans) ≡ line.number = length-words_at text spans ∙ all in
    record {
      some = omega (arith, r.order, long);
      fits = r.within;
      within = r.inside;
      request = record {
        line = take line.length text;
        rest = drop line.length (take at text);
        is = sym (take-append-drop line.length (take at text))
            ∙ ap (λ (t : List ℕ). t ++ drop line.length (take at text))
            (take-take line.length at text r.order);
        count = subst (IsLine 42 (take line.length text)) (sym count) h.is_line;
        some = omega (arith, count, some);
        few = omega (arith, count, h.few);
        short = omega (arith, r.total);
        spelled = r.spelled;
      };
    }
