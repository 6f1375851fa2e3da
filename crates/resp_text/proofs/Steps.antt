-- How one byte changes what may follow.
use Rattle.std.proofs.Common.{◌≡◌, ℕ, ◌+◌, ◌-◌, ◌*◌, ◌<◌, ◌≤◌, ◌≢◌, ◌↔◌, ◌==◌, ◌&&◌, inl, inr, Bool, true, false, cond, leb, nat_le, min, List, [], ◌∷◌, ◌++◌, refl, sym, ap, subst, ◌∙◌, arith, Option, Some, None}
use Rattle.std.proofs.lemmas.Bool.{eqb-true, eqb-false, leb-true, leb-false}
use Rattle.std.proofs.lemmas.List.{nil_from_length}
use Rattle.resp_text.specs.Grammar.{DigitsGoOn, IsWholeItem}
use Rattle.resp_text.specs.Residual.{AreWordsWithin, FinishesCount, FinishesBody, FinishesLength, Finishes, IsSoundPart, IsSoundScan, IsAtByte, StepMeans, digit_behind, number_step, step_if, step_of}
use Rattle.resp_text.specs.declared.scan.Scan.{Scan}
use Rattle.resp_text.specs.declared.scan.Part.{Part}
use Rattle.resp_text.specs.declared.scan.Part.TheVariants.{Start, Star, Zero, Minus, MinusOne, SkipEnd, Count, CountEnd, Dollar, Sign, Length, LengthEnd, Body, Ending}
use Rattle.resp_text.specs.declared.scan.Step.{Step}
use Rattle.resp_text.specs.declared.scan.Step.TheVariants.{Go, Whole, Break}
use Rattle.resp_text.specs.declared.fault.ProtocolKind.{ProtocolKind}
use Rattle.resp_text.specs.declared.fault.ProtocolKind.TheVariants as kind
use Rattle.resp_text.proofs.Residuals.{DigitsGoOn-le, head_is, tail_is, whole_begins, star_follows, star_followed, words_begin, sign_follows, sign_followed}

-- a reader at a part
abbrev pub at : Part → ℕ → ℕ → Scan
at part words room = record { part = part; words = words; room = room }

-- both sides of a choice
pub on_test : (t : Bool) (P : Step → Type 0) (x y : Step) → (t ≡ true → P x) → (t ≡ false → P y) →
    P (cond t x y)
on_test true P x y holds fails = holds refl
on_test false P x y holds fails = fails refl

-- the step of the byte that is due, and of any other
on_due : (scan : Scan) (byte due : ℕ) (next : Step) (what : ProtocolKind) →
    StepMeans scan due next → ((tail : List ℕ) → Finishes scan (byte ∷ tail) → byte ≡ due) →
    StepMeans scan byte (step_if byte due next what)
on_due scan byte due next what holds fails =
    on_test (byte == due) (StepMeans scan byte) next (Break what)
    (λ t. subst (λ (b : ℕ). StepMeans scan b next) (sym (eqb-true byte due t)) holds)
    (λ t tail h. eqb-false byte due t (fails tail h))

-- the byte is a digit, and the number with it is within the limit
abbrev pub GivesDigit : ℕ → ℕ → ℕ → Type 0
GivesDigit high byte most = (48 ≤ byte) × (byte ≤ 57) × (high * 10 + (byte - 48) ≤ most)

on_three : (a b c : Bool) (P : Option ℕ → Type 0) (n : ℕ) → (a ≡ true → b ≡ true → c ≡ true →
    P (Some n)) → ((a ≡ true → b ≡ true → c ≡ true → ⊥) → P None) →
    P (cond (a && b && c) (Some n) None)
on_three true true true P n holds fails = holds refl refl refl
on_three true true false P n holds fails = fails (λ x y z. cc)
on_three true false c P n holds fails = fails (λ x y z. cc)
on_three false b c P n holds fails = fails (λ x y z. cc)

le-leb : (a b : ℕ) → a ≤ b → leb a b ≡ true
le-leb a b h = elim (leb a b) as (λ t. leb a b ≡ t →
    t ≡ true) [
      | true ↦ (λ e. refl)
      | false ↦ (λ e. absurd (omega
          (arith, h, leb-false a b e)))
    ] refl

pub on_digit : (high byte most : ℕ) (P : Option ℕ → Type 0) → (GivesDigit high byte most →
    P (Some (high * 10 + (byte - 48)))) → ((GivesDigit high byte most → ⊥) → P None) →
    P (digit_behind high byte most)
on_digit high byte most P holds fails =
    on_three (nat_le 48 byte) (nat_le byte 57) (nat_le (high * 10 + (byte - 48)) most) P
    (high * 10 + (byte - 48))
    (λ a b c. holds (leb-true _ _ a, leb-true _ _ b, leb-true _ _ c))
    (λ none. fails (λ h. none (le-leb _ _ h.0) (le-leb _ _ h.1) (le-leb _ _ h.2)))

-- a byte that stands in front of what follows
after_byte : (P : List ℕ → Type 0) (byte : ℕ) (tail : List ℕ) →
    ((rest : List ℕ) × (byte ∷ tail ≡ byte ∷ rest) × P rest) ↔ P tail
after_byte P byte tail = (
  λ h. subst P (sym (tail_is byte byte tail h.0 h.1)) h.2,
  λ h.
      (tail, refl, h),
)

same : (P : Type 0) → P ↔ P
same P = (λ h. h, λ h. h)

-- behind the `*`
star_zero : (words room : ℕ) → StepMeans (at Star words room) 48 (Go (at Zero words room))
star_zero words room = (
  tt,
  λ tail. (
    λ h. elim (star_follows (48 ∷ tail) h) [
      | inl e ↦ tail_is 48 48 _ _ e
      | inr (inl e) ↦ absurd
          (omega (arith, head_is 48 45 _ _ e))
      | inr (inr s) ↦ absurd (omega
          (arith, s.2, head_is 48 s.0 _ _ s.4))
    ],
    λ e. star_followed (48 ∷ tail) (inl (ap (λ (t : List ℕ). 48 ∷ t) e)),
  ),
)

star_minus : (words room : ℕ) → StepMeans (at Star words room) 45 (Go (at Minus words room))
star_minus words room = (
  tt,
  λ tail. (
    λ h. elim (star_follows (45 ∷ tail) h) [
      | inl e ↦ absurd (omega
          (arith, head_is 45 48 _ _ e))
      | inr (inl e) ↦ tail_is 45 45 _ _ e
      | inr (inr s) ↦ absurd
          (omega (arith, s.2, head_is 45 s.0 _ _ s.4))
    ],
    λ e. star_followed (45 ∷ tail) (inr (inl (ap (λ (t : List ℕ). 45 ∷ t) e))),
  ),
)

star_digit : (words room byte : ℕ) → 49 ≤ byte → byte ≤ 57 →
    StepMeans (at Star words room) byte (Go (at (Count (0 * 10 + (byte - 48))) words room))
star_digit words room byte low high =
    let n : 0 * 10 + (byte - 48) ≡ byte - 48 = omega arith in (
      (omega (arith, low), omega (arith, high)),
      λ tail. (
        λ h. elim (star_follows (byte ∷ tail) h) [
          | inl e ↦ absurd (omega (arith, low, head_is byte 48 _ _ e))
          | inr (inl e) ↦ absurd (omega (arith, low, head_is byte 45 _ _ e))
          | inr (inr s) ↦ subst (λ (n : ℕ). FinishesCount n tail) (sym n) (subst (λ
              (b : ℕ). FinishesCount (b - 48) tail) (sym (head_is byte s.0 _ _ s.4)) (subst
              (FinishesCount (s.0 - 48)) (sym (tail_is byte s.0 _ _ s.4)) s.5))
        ],
        λ h. star_followed (byte ∷ tail) (inr (inr (
          byte,
          tail,
          low,
          high,
          refl,
          subst (λ
              (n : ℕ). FinishesCount n tail) n h,
        ))),
      ),
    )

star_means : (words room byte : ℕ) → StepMeans (at Star words room) byte (step_of
    (at Star words room) Star byte)
star_means words room byte =
    on_test (byte == 48) (StepMeans (at Star words room) byte) _ _
    (λ t. subst (λ (b : ℕ). StepMeans (at Star words room) b (Go (at Zero words room))) (sym
    (eqb-true byte 48 t)) (star_zero words room))
    (λ not_zero. on_test (byte == 45) (StepMeans (at Star words room) byte) _ _
    (λ t. subst (λ (b : ℕ). StepMeans (at Star words room) b (Go (at Minus words room))) (sym
    (eqb-true byte 45 t)) (star_minus words room))
    (λ not_minus. on_digit 0 byte 1024 (λ (n : Option ℕ). StepMeans (at Star words room) byte
    (number_step (at Star words room) n Count kind.Count))
    (λ digit. let other : byte ≢ 48 = eqb-false byte 48 not_zero in star_digit words room byte
    (omega (arith, digit.0, other)) digit.1)
    (λ none tail h. elim (star_follows (byte ∷ tail) h) [
      | inl e ↦ eqb-false byte 48 not_zero (head_is byte 48 _ _ e)
      | inr (inl e) ↦ eqb-false byte 45 not_minus (head_is byte 45 _ _ e)
      | inr (inr s) ↦ let b : byte ≡ s.0 = head_is byte s.0 _ _ s.4 in none (
        omega
            (arith, b, s.2),
        omega (arith, b, s.3),
        omega (arith, b, s.3),
      )
    ])))

-- behind digits of a count
count_end : (n words room : ℕ) → (0 < n) × (n ≤ 1024) →
    StepMeans (at (Count n) words room) 13 (Go (at (CountEnd n) words room))
count_end n words room sound = (
  sound,
  λ tail. (
    λ h. ended tail h,
    λ h.
        ([], h.0, n, refl, sound.1, ap (λ (t : List ℕ). 13 ∷ t) h.1, h.2),
  ),
) where
  ended : (tail : List ℕ) → FinishesCount n (13 ∷ tail) →
      (rest : List ℕ) × (tail ≡ 10 ∷ rest) × AreWordsWithin n 2097152 rest
  ended tail ([], rest, m, goes, few, is, words) = (
    rest,
    tail_is 13 13 _ _ is,
    subst (λ
        (m : ℕ). AreWordsWithin m 2097152 rest) goes words,
  )
  ended tail (d ∷ ds, rest, m, goes, few, is, words) = absurd (omega
      (arith, goes.0, head_is 13 d _ _ is))

count_digit : (n words room byte : ℕ) → 0 < n → GivesDigit n byte 1024 →
    StepMeans (at (Count n) words room) byte (Go (at (Count (n * 10 + (byte - 48))) words room))
count_digit n words room byte some digit = (
  (omega (arith, some), digit.2),
  λ tail. (
    λ h. goes_on tail h,
    λ h. (
      byte ∷ h.0,
      h.1,
      h.2,
      (digit.0, digit.1, h.3),
      h.4,
      ap (λ (t : List ℕ). byte ∷ t) h.5,
      h.6,
    ),
  ),
) where
  goes_on : (tail : List ℕ) → FinishesCount n (byte ∷ tail) →
      FinishesCount (n * 10 + (byte - 48)) tail
  goes_on tail ([], rest, m, goes, few, is, words) = absurd (omega
      (arith, digit.0, head_is byte 13 _ _ is))
  goes_on tail (d ∷ ds, rest, m, goes, few, is, words) = (
    ds,
    rest,
    m,
    subst (λ (d : ℕ). DigitsGoOn (n * 10 + (d - 48)) ds m) (sym
        (head_is byte d _ _ is)) goes.2,
    few,
    tail_is byte d _ _ is,
    words,
  )

count_breaks : (n byte : ℕ) (tail : List ℕ) → byte ≢ 13 → (GivesDigit n byte 1024 → ⊥) →
    FinishesCount n (byte ∷ tail) → ⊥
count_breaks n byte tail other none ([], rest, m, goes, few, is, words) = other
    (head_is byte 13 _ _ is)
count_breaks n byte tail other none (d ∷ ds, rest, m, goes, few, is, words) =
    let b : byte ≡ d = head_is byte d _ _ is in
    let high : n * 10 + (d - 48) ≤ m = DigitsGoOn-le _ ds m goes.2 in
    none (omega (arith, b, goes.0), omega (arith, b, goes.1), omega (arith, b, high, few))

count_means : (n words room byte : ℕ) → (0 < n) × (n ≤ 1024) →
    StepMeans (at (Count n) words room) byte (step_of (at (Count n) words room) (Count n) byte)
count_means n words room byte sound =
    on_test (byte == 13) (StepMeans (at (Count n) words room) byte) _ _
    (λ t. subst (λ (b : ℕ). StepMeans (at (Count n) words room) b (Go (at
    (CountEnd n) words room))) (sym (eqb-true byte 13 t)) (count_end n words room sound))
    (λ other. on_digit n byte 1024 (λ (m : Option ℕ). StepMeans (at (Count n) words room) byte
    (number_step (at (Count n) words room) m Count kind.Count))
    (λ digit. count_digit n words room byte sound.0 digit)
    (λ none tail h. count_breaks n byte tail (eqb-false byte 13 other) none h))

-- behind a `$` and digits of a length
length_end : (n words room : ℕ) → (0 < words) × (n ≤ 1048576) × (n ≤ room) →
    StepMeans (at (Length n) words room) 13 (Go (at (LengthEnd n) words room))
length_end n words room sound = (
  sound,
  λ tail. (
    λ h. ended tail h,
    λ h. (
      [],
      h.0,
      n,
      refl,
      (λ z. refl),
      sound.1,
      sound.2,
      ap (λ (t : List ℕ). 13 ∷ t) h.1,
      h.2,
    ),
  ),
) where
  ended : (tail : List ℕ) → FinishesLength n words room (13 ∷ tail) →
      (rest : List ℕ) × (tail ≡ 10 ∷ rest) × FinishesBody n (words - 1) (room - n) rest
  ended tail ([], rest, m, goes, zero_alone, short, fits, is, body) = (
    rest,
    tail_is 13 13 _ _ is,
    subst (λ (m : ℕ). FinishesBody m (words - 1)
        (room - m) rest) goes body,
  )
  ended tail (d ∷ ds, rest, m, goes, zero_alone, short, fits, is, body) = absurd (omega
      (arith, goes.0, head_is 13 d _ _ is))

length_digit : (n words room byte : ℕ) → 0 < words → 0 < n →
    GivesDigit n byte (min 1048576 room) → StepMeans (at (Length n) words room) byte (Go (at
    (Length (n * 10 + (byte - 48))) words room))
length_digit n words room byte some positive digit = (
  (some, omega (arith, digit.2), omega (arith, digit.2)),
  λ tail. (
    λ h. goes_on tail h,
    λ h. (
      byte ∷ h.0,
      h.1,
      h.2,
      (digit.0, digit.1, h.3),
      (λ z. absurd (omega
          (arith, z, positive))),
      h.5,
      h.6,
      ap (λ (t : List ℕ). byte ∷ t) h.7,
      h.8,
    ),
  ),
) where
  goes_on : (tail : List ℕ) → FinishesLength n words room (byte ∷ tail) →
      FinishesLength (n * 10 + (byte - 48)) words room tail
  goes_on tail ([], rest, m, goes, zero_alone, short, fits, is, body) = absurd (omega
      (arith, digit.0, head_is byte 13 _ _ is))
  goes_on tail (d ∷ ds, rest, m, goes, zero_alone, short, fits, is, body) = (
    ds,
    rest,
    m,
    subst (λ (d : ℕ). DigitsGoOn (n * 10 + (d - 48)) ds m) (sym
        (head_is byte d _ _ is)) goes.2,
    (λ z. absurd (omega
        (arith, z, positive))),
    short,
    fits,
    tail_is byte d _ _ is,
    body,
  )

length_breaks : (n words room byte : ℕ) (tail : List ℕ) → byte ≢ 13 → ((0 < n) →
    GivesDigit n byte (min 1048576 room) → ⊥) → FinishesLength n words room (byte ∷ tail) → ⊥
length_breaks n words room byte tail other none
    ([], rest, m, goes, zero_alone, short, fits, is, body) = other (head_is byte 13 _ _ is)
length_breaks n words room byte tail other none
    (d ∷ ds, rest, m, goes, zero_alone, short, fits, is, body) =
    let b : byte ≡ d = head_is byte d _ _ is in
    let high : n * 10 + (d - 48) ≤ m = DigitsGoOn-le _ ds m goes.2 in
    let positive : n ≢ 0 = λ z. (let nil : d ∷ ds ≡ [] = zero_alone z in cc) in
    none (omega (arith, positive)) (
      omega (arith, b, goes.0),
      omega (arith, b, goes.1),
      omega
          (arith, b, high, short, fits),
    )

length_means : (n words room byte : ℕ) → (0 < words) × (n ≤ 1048576) × (n ≤ room) →
    StepMeans (at (Length n) words room) byte (step_of (at (Length n) words room) (Length n) byte)
length_means n words room byte sound =
    on_test (byte == 13) (StepMeans (at (Length n) words room) byte) _ _
    (λ t. subst (λ (b : ℕ). StepMeans (at (Length n) words room) b (Go (at
    (LengthEnd n) words room))) (sym (eqb-true byte 13 t)) (length_end n words room sound))
    (λ other. on_test (n == 0) (StepMeans (at (Length n) words room) byte) _ _
    (λ z tail h. length_breaks n words room byte tail (eqb-false byte 13 other)
    (λ some digit. omega (arith, some, eqb-true n 0 z)) h)
    (λ positive. on_digit n byte (min 1048576 room) (λ (m : Option ℕ). StepMeans (at
    (Length n) words room) byte (number_step (at (Length n) words room) m Length kind.Length))
    (λ digit. let other_than : n ≢ 0 = eqb-false n 0 positive in length_digit n words room byte
    sound.0 (omega (arith, other_than)) digit)
    (λ none tail h. length_breaks n words room byte tail (eqb-false byte 13 other)
    (λ some digit. none digit) h)))

sign_digit : (words room byte : ℕ) → 0 < words → GivesDigit 0 byte (min 1048576 room) →
    StepMeans (at Sign words room) byte (Go (at (Length (0 * 10 + (byte - 48))) words room))
sign_digit words room byte some digit =
    let n : 0 * 10 + (byte - 48) ≡ byte - 48 = omega arith in (
      (some, omega (arith, digit.2), omega (arith, digit.2)),
      λ tail. (
        λ h. (let s = sign_follows words room (byte ∷ tail) some h in
            subst (λ (n : ℕ). FinishesLength n words room tail) (sym n) (subst (λ
            (b : ℕ). FinishesLength (b - 48) words room tail) (sym (head_is byte s.0 _ _ s.4))
            (subst (FinishesLength (s.0 - 48) words room) (sym (tail_is byte s.0 _ _ s.4)) s.5))),
        λ h. sign_followed words room (byte ∷ tail) some (
          byte,
          tail,
          digit.0,
          digit.1,
          refl,
          subst (λ
              (n : ℕ). FinishesLength n words room tail) n h,
        ),
      ),
    )

sign_means : (words room byte : ℕ) → 0 < words →
    StepMeans (at Sign words room) byte (step_of (at Sign words room) Sign byte)
sign_means words room byte some =
    on_digit 0 byte (min 1048576 room) (λ (m : Option ℕ). StepMeans (at Sign words room) byte
    (number_step (at Sign words room) m Length kind.Length))
    (λ digit. sign_digit words room byte some digit)
    (λ none tail h. (let s = sign_follows words room (byte ∷ tail) some h in
    let b : byte ≡ s.0 = head_is byte s.0 _ _ s.4 in
    let high : s.0 - 48 ≤ s.5.2 = DigitsGoOn-le _ s.5.0 s.5.2 s.5.3 in
    none (omega (arith, b, s.2), omega (arith, b, s.3), omega (arith, b, high, s.5.5, s.5.6))))

-- a word without further bytes
body_end : (words room : ℕ) → StepMeans (at (Body 0) words room) 13 (Go (at Ending words room))
body_end words room = (
  tt,
  λ tail. (
    λ h. ended tail h,
    λ h. (
      [],
      h.0,
      refl,
      ap (λ
          (t : List ℕ). 13 ∷ t) h.1,
      h.2,
    ),
  ),
) where
  ended : (tail : List ℕ) → FinishesBody 0 words room (13 ∷ tail) →
      (rest : List ℕ) × (tail ≡ 10 ∷ rest) × AreWordsWithin words room rest
  ended tail (bytes, rest, none, is, words) = (
    rest,
    tail_is 13 13 _ _ (is
        ∙ ap (λ (bytes : List ℕ). bytes ++ 13 ∷ 10 ∷ rest) (nil_from_length bytes none)),
    words,
  )

body_breaks : (words room byte : ℕ) (tail : List ℕ) → FinishesBody 0 words room (byte ∷ tail) →
    byte ≡ 13
body_breaks words room byte tail (bytes, rest, none, is, words') = head_is byte 13 _ _ (is
    ∙ ap (λ (bytes : List ℕ). bytes ++ 13 ∷ 10 ∷ rest) (nil_from_length bytes none))

no_words : (room : ℕ) (rest : List ℕ) → AreWordsWithin 0 room rest → rest ≡ []
no_words room rest ([], nil, count, short) = nil
no_words room rest (w ∷ ws, h, count, short) = absurd (omega (arith, count))

-- behind a word
ending_whole : (room : ℕ) → StepMeans (at Ending 0 room) 10 Whole
ending_whole room = λ tail. (
  λ h. tail_is 10 10 _ _ h.1
      ∙ no_words room h.0 h.2,
  λ e. (tail, refl, ([], e, refl, omega arith)),
)

ending_means : (words room byte : ℕ) → StepMeans (at Ending words room) byte (step_of
    (at Ending words room) Ending byte)
ending_means words room byte = on_due (at Ending words room) byte 10 _ _
    (on_test (words == 0) (StepMeans (at Ending words room) 10) Whole (Go (at Dollar words room))
    (λ z. subst (λ (words : ℕ). StepMeans (at Ending words room) 10 Whole) (sym
    (eqb-true words 0 z)) (ending_whole room))
    (λ some. (
      let other : words ≢ 0 = eqb-false words 0 some in omega
          (arith, other),
      λ tail. after_byte (AreWordsWithin words room) 10 tail,
    )))
    (λ tail h. head_is byte 10 _ _ h.1)

step_means_at : (part : Part) (words room byte : ℕ) → IsSoundPart part words room →
    IsAtByte part → StepMeans (at part words room) byte (step_of (at part words room) part byte)
step_means_at Start words room byte sound due = on_due (at Start words room) byte 42 _ _
    (tt, λ tail. same (IsWholeItem (42 ∷ tail))) (λ tail h. whole_begins byte tail h)
step_means_at Star words room byte sound due = star_means words room byte
step_means_at Zero words room byte sound due = on_due (at Zero words room) byte 13 _ _
    (tt, λ tail. (λ h. tail_is 13 13 _ _ h, λ h. ap (λ (t : List ℕ). 13 ∷ t) h))
    (λ tail h. head_is byte 13 _ _ h)
step_means_at Minus words room byte sound due = on_due (at Minus words room) byte 49 _ _
    (tt, λ tail. (λ h. tail_is 49 49 _ _ h, λ h. ap (λ (t : List ℕ). 49 ∷ t) h))
    (λ tail h. head_is byte 49 _ _ h)
step_means_at MinusOne words room byte sound due = on_due (at MinusOne words room) byte 13 _ _
    (tt, λ tail. (λ h. tail_is 13 13 _ _ h, λ h. ap (λ (t : List ℕ). 13 ∷ t) h))
    (λ tail h. head_is byte 13 _ _ h)
step_means_at SkipEnd words room byte sound due = on_due (at SkipEnd words room) byte 10 _ _
    (λ tail. (λ h. tail_is 10 10 _ _ h, λ h. ap (λ (t : List ℕ). 10 ∷ t) h))
    (λ tail h. head_is byte 10 _ _ h)
step_means_at (Count n) words room byte sound due = count_means n words room byte sound
step_means_at (CountEnd n) words room byte sound due = on_due (at
    (CountEnd n) words room) byte 10 _ _ (
      sound.0,
      λ tail. after_byte
          (AreWordsWithin n 2097152) 10 tail,
    ) (λ tail h. head_is byte 10 _ _ h.1)
step_means_at Dollar words room byte sound due = on_due (at Dollar words room) byte 36 _ _
    (sound, λ tail. same (AreWordsWithin words room (36 ∷ tail)))
    (λ tail h. words_begin words room byte tail sound h)
step_means_at Sign words room byte sound due = sign_means words room byte sound
step_means_at (Length n) words room byte sound due = length_means n words room byte sound
step_means_at (LengthEnd n) words room byte sound due = on_due (at
    (LengthEnd n) words room) byte 10 _ _ (
      tt,
      λ tail. after_byte (FinishesBody n (words - 1)
          (room - n)) 10 tail,
    ) (λ tail h. head_is byte 10 _ _ h.1)
step_means_at (Body left) words room byte sound due = subst (λ (left : ℕ). StepMeans (at
    (Body left) words room) byte (step_of (at (Body left) words room) (Body left) byte))
    (sym due) (on_due (at (Body 0) words room) byte 13 _ _ (body_end words room)
    (λ tail h. body_breaks words room byte tail h))
step_means_at Ending words room byte sound due = ending_means words room byte

-- each step says what may follow it
pub step_means : (scan : Scan) (byte : ℕ) → IsSoundScan scan → IsAtByte scan.part →
    StepMeans scan byte (step_of scan scan.part byte)
step_means scan byte sound due = step_means_at scan.part scan.words scan.room byte sound due
