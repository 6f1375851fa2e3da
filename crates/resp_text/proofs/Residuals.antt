-- What may follow each part of an item, in another form.
use Rattle.std.proofs.Common.{◌≡◌, ℕ, ◌+◌, ◌-◌, ◌*◌, ◌<◌, ◌≤◌, ◌≢◌, ◌⊎◌, inl, inr, suc, List, [], ◌∷◌, ◌++◌, length, refl, sym, ap, subst, ◌∙◌, arith, Some, None}
use Rattle.std.proofs.lemmas.List.{append_assoc}
use Rattle.resp_text.specs.Grammar.{line_end, DigitsGoOn, IsNumber, AreWords, total_bytes, IsWholeItem}
use Rattle.resp_text.specs.Residual.{AreWordsWithin, FinishesCount, FinishesLength}

-- digits behind a number never make it less
pub DigitsGoOn-le : (high : ℕ) (digits : List ℕ) (n : ℕ) → DigitsGoOn high digits n → high ≤ n
DigitsGoOn-le high [] n h = omega (arith, h)
DigitsGoOn-le high (d ∷ ds) n h = let more = DigitsGoOn-le (high * 10 + (d - 48)) ds n h.2 in omega
    (arith, more)

-- heads and tails of equal lists
pub head_is : (a b : ℕ) (x y : List ℕ) → a ∷ x ≡ b ∷ y → a ≡ b
head_is a b x y e = cc

pub tail_is : (a b : ℕ) (x y : List ℕ) → a ∷ x ≡ b ∷ y → x ≡ y
tail_is a b x y e = cc

-- an item begins with `*`
pub whole_begins : (b : ℕ) (tail : List ℕ) → IsWholeItem (b ∷ tail) → b ≡ 42
whole_begins b tail (None, h) = elim h [
  | inl e ↦ head_is b 42 tail
      (48 ∷ line_end) e
  | inr e ↦ head_is b 42 tail (45 ∷ 49 ∷ line_end) e
]
whole_begins b tail (Some words, r) = head_is b 42 tail _ (r.is
    ∙ ap (λ (line : List ℕ). line ++ r.rest) r.count.2)

-- a count that is not 0, and what follows it
abbrev pub StartsCount : List ℕ → Type 0
StartsCount tail = (digit : ℕ) × (more : List ℕ) × (49 ≤ digit) × (digit ≤ 57)
    × (tail ≡ digit ∷ more) × FinishesCount (digit - 48) more

-- what may stand behind a `*`
abbrev pub FollowsStar : List ℕ → Type 0
FollowsStar tail = (tail ≡ 48 ∷ line_end) ⊎ ((tail ≡ 45 ∷ 49 ∷ line_end) ⊎ StartsCount tail)

count_from_number : (digits rest tail : List ℕ) (words : List (List ℕ)) → 0 < length words →
    length words ≤ 1024 → total_bytes words ≤ 2097152 → IsNumber digits (length words) →
    AreWords rest words → tail ≡ (digits ++ line_end) ++ rest → StartsCount tail
count_from_number [] rest tail words some few short number spelled e = absurd number
count_from_number (d ∷ ds) rest tail words some few short number spelled e =
    let zero_alone : d ≡ 48 → length words ≡ 0 = λ z. subst (λ (n : ℕ). length words ≡ n) (omega
    (arith, z)) (subst (λ (digits : List ℕ). DigitsGoOn (d - 48) digits (length words))
    (number.2 z) number.3) in
    let other : d ≢ 48 = λ z. omega (arith, zero_alone z, some) in
    let high : 49 ≤ d = omega (arith, number.0, other) in (
      d,
      (ds ++ line_end) ++ rest,
      high,
      number.1,
      e,
      (
        ds,
        rest,
        length words,
        number.3,
        few,
        append_assoc ds line_end rest,
        (words, spelled, refl, short),
      ),
    )

pub star_follows : (tail : List ℕ) → IsWholeItem (42 ∷ tail) → FollowsStar tail
star_follows tail (None, h) = elim h [
  | inl e ↦ inl (tail_is 42 42 _ _ e)
  | inr e ↦ inr (inl
      (tail_is 42 42 _ _ e))
]
star_follows tail (Some words, r) =
    inr (inr (count_from_number r.count.0 r.rest tail words r.some r.few r.short r.count.1
    r.spelled (tail_is 42 42 _ _ (r.is ∙ ap (λ (line : List ℕ). line ++ r.rest) r.count.2))))

number_from_count : (d : ℕ) (ds : List ℕ) (n : ℕ) → 49 ≤ d → d ≤ 57 → DigitsGoOn (d - 48) ds n →
    IsNumber (d ∷ ds) n
number_from_count d ds n low high goes = (
  omega (arith, low),
  high,
  λ z. absurd (omega
      (arith, low, z)),
  goes,
)

pub star_followed : (tail : List ℕ) → FollowsStar tail → IsWholeItem (42 ∷ tail)
star_followed tail (inl e) = (None, inl (ap (λ (t : List ℕ). 42 ∷ t) e))
star_followed tail (inr (inl e)) = (None, inr (ap (λ (t : List ℕ). 42 ∷ t) e))
star_followed tail (inr (inr (
  d,
  more,
  low,
  high,
  e,
  (
    ds,
    rest,
    m,
    goes,
    few,
    is,
    (words, spelled, count, short),
  ),
))) =
    let many : d - 48 ≤ m = DigitsGoOn-le (d - 48) ds m goes in (
      Some words,
      record {
        line = 42 ∷ ((d ∷ ds) ++ line_end);
        rest = rest;
        is = ap (λ (t : List ℕ). 42 ∷ t) (e ∙ ap (λ (t : List ℕ). d ∷ t) (is
            ∙ sym (append_assoc ds line_end rest)));
        count = (
          d ∷ ds,
          subst (IsNumber (d ∷ ds)) (sym count)
              (number_from_count d ds m low high goes),
          refl,
        );
        some = omega (arith, many, low, count);
        few = omega (arith, few, count);
        short = short;
        spelled = spelled;
      },
    )

-- a word begins with `$`
pub words_begin : (words room b : ℕ) (tail : List ℕ) → 0 < words →
    AreWordsWithin words room (b ∷ tail) → b ≡ 36
words_begin words room b tail some ([], nil, count, short) = absurd (omega (arith, some, count))
words_begin words room b tail some (w ∷ ws, (front, rest, word, e, more), count, short) =
    let begins : front ≡ 36 ∷ ((word.1.0 ++ line_end) ++ (w ++ line_end)) = word.3
    ∙ ap (λ (line : List ℕ). line ++ (w ++ line_end)) word.1.2 in
    head_is b 36 tail _ (e ∙ ap (λ (front : List ℕ). front ++ rest) begins)

-- a length, and what follows it
abbrev pub StartsLength : ℕ → ℕ → List ℕ → Type 0
StartsLength words room tail = (digit : ℕ) × (more : List ℕ) × (48 ≤ digit) × (digit ≤ 57)
    × (tail ≡ digit ∷ more) × FinishesLength (digit - 48) words room more

length_from_number : (digits rest w tail : List ℕ) (ws : List (List ℕ)) (words room : ℕ) →
    length w ≤ 1048576 → suc (length ws) ≡ words → length w + total_bytes ws ≤ room →
    IsNumber digits (length w) → AreWords rest ws →
    tail ≡ (digits ++ line_end) ++ ((w ++ line_end) ++ rest) → StartsLength words room tail
length_from_number [] rest w tail ws words room short count total number spelled e = absurd number
length_from_number (d ∷ ds) rest w tail ws words room short count total number spelled e = (
  d,
  (ds ++ line_end) ++ ((w ++ line_end) ++ rest),
  number.0,
  number.1,
  e,
  (
    ds,
    (w ++ line_end) ++ rest,
    length w,
    number.3,
    (λ z. number.2 (omega (arith, z, number.0))),
    short,
    omega (arith, total),
    append_assoc ds line_end ((w ++ line_end) ++ rest),
    (
      w,
      rest,
      refl,
      append_assoc w line_end rest,
      (ws, spelled, omega (arith, count), omega (arith, total)),
    ),
  ),
)

pub sign_follows : (words room : ℕ) (tail : List ℕ) → 0 < words →
    AreWordsWithin words room (36 ∷ tail) → StartsLength words room tail
sign_follows words room tail some ([], nil, count, short) = absurd (omega (arith, some, count))
sign_follows words room tail some (w ∷ ws, (front, rest, word, e, more), count, short) =
    let begins : front ≡ 36 ∷ ((word.1.0 ++ line_end) ++ (w ++ line_end)) = word.3
    ∙ ap (λ (line : List ℕ). line ++ (w ++ line_end)) word.1.2 in
    length_from_number word.1.0 rest w tail ws words room word.2 count short word.1.1 more
    (tail_is 36 36 _ _ (e ∙ ap (λ (front : List ℕ). front ++ rest) begins)
    ∙ append_assoc (word.1.0 ++ line_end) (w ++ line_end) rest)

pub sign_followed : (words room : ℕ) (tail : List ℕ) → 0 < words → StartsLength words room tail →
    AreWordsWithin words room (36 ∷ tail)
sign_followed words room tail some (
  d,
  more,
  low,
  high,
  e,
  (
    ds,
    after,
    m,
    goes,
    zero_alone,
    short,
    fits,
    is,
    (
      w,
      rest,
      len,
      body,
      (ws, spelled, count, total),
    ),
  ),
) =
    let number : IsNumber (d ∷ ds) m = (low, high, (λ z. zero_alone (omega (arith, z))), goes) in
    let line : List ℕ = 36 ∷ ((d ∷ ds) ++ line_end) in
    let tail_regrouped : tail ≡ d ∷ ((ds ++ line_end) ++ ((w ++ line_end) ++ rest)) =
    e ∙ ap (λ (t : List ℕ). d ∷ t) (is ∙ ap (λ (t : List ℕ). ds ++ 13 ∷ 10 ∷ t) (body
    ∙ sym (append_assoc w line_end rest)) ∙ sym (append_assoc ds line_end
    ((w ++ line_end) ++ rest))) in
    let whole : 36 ∷ tail ≡ (line ++ (w ++ line_end)) ++ rest =
    ap (λ (t : List ℕ). 36 ∷ t) tail_regrouped ∙ sym (append_assoc line (w ++ line_end) rest) in (
      w ∷ ws,
      (
        line ++ (w ++ line_end),
        rest,
        (
          line,
          (
            d ∷ ds,
            subst (IsNumber (d ∷ ds))
                (sym len) number,
            refl,
          ),
          omega (arith, short, len),
          refl,
        ),
        whole,
        spelled,
      ),
      omega (arith, count, some),
      omega (arith, total, len, fits),
    )
