-- Numbers are read as they are spelled, and spelled as they are read.
use Rattle.std.proofs.Common.{◌≡◌, ℕ, zero, suc, ◌+◌, ◌-◌, ◌*◌, ◌^◌, ◌<◌, ◌≤◌, Bool, true, false, cond, ◌&&◌, eqb, ltb, leb, List, [], ◌∷◌, ◌++◌, Some, None, refl, sym, ap, subst, ◌∙◌, append_assoc, arith, ◌⊎◌, inl, inr}
use Rattle.std.specs.Fmt.{digits, digit_glyph}
use Rattle.std.proofs.lemmas.Bool.{cases_lt, ne_eqb, lt-ltb, ltb-true, leb-true, eqb-false, and_parts}
use Rattle.std.proofs.lemmas.List.{append-nil}
use Rattle.std.proofs.lemmas.Bool.Decides.{nat_tests}
use Rattle.trace_text.specs.ScriptReading.{digit_of, digits_read, spelled_number}
use Rattle.trace_text.proofs.Digits.{IsBase}
use Rattle.trace_text.proofs.Parts.{Lacks}
use Rattle.trace_text.proofs.Steps.{bind_some, guard_some, some_is}

-- ---- one digit

glyph-few : (d : ℕ) → d < 10 → digit_glyph false d ≡ 48 + d
glyph-few d few = grind (arith, nat_tests)

glyph-letter : (d : ℕ) → 10 ≤ d → digit_glyph false d ≡ 87 + d
glyph-letter d many = grind (arith, nat_tests)

digit_of_numeral : (d : ℕ) → d < 10 → digit_of (48 + d) ≡ Some d
digit_of_numeral d few = grind (arith, nat_tests)

digit_of_letter : (d : ℕ) → 10 ≤ d → d < 16 → digit_of (87 + d) ≡ Some d
digit_of_letter d many small = grind (arith, nat_tests)

pub digit_of_glyph : (d : ℕ) → d < 16 → digit_of (digit_glyph false d) ≡ Some d
digit_of_glyph d small =
    elim (cases_lt d 10) [
      | inl few ↦ rw (glyph-few d few) (digit_of_numeral d few)
      | inr many ↦ rw (glyph-letter d many) (digit_of_letter d many small)
    ]

digit_read : (c d : ℕ) → digit_of c ≡ Some d → ((d < 10) × (48 + d ≡ c)) ⊎ ((10 ≤ d) × (d < 16) × (87 + d ≡ c))
digit_read c d e = by (leb 48 c && leb c 57) (leb 97 c && leb c 102) refl refl e
  where
    by : (a b : Bool) → (leb 48 c && leb c 57) ≡ a → (leb 97 c && leb c 102) ≡ b → cond a (Some (c - 48)) (cond b (Some (c - 87)) None) ≡ Some d
        → ((d < 10) × (48 + d ≡ c)) ⊎ ((10 ≤ d) × (d < 16) × (87 + d ≡ c))
    by true b p q e =
        let is : c - 48 ≡ d = cc in
        let low = leb-true 48 c (and_parts (leb 48 c) (leb c 57) p).0 in
        let high = leb-true c 57 (and_parts (leb 48 c) (leb c 57) p).1 in
        inl (omega arith, omega arith)
    by false true p q e =
        let is : c - 87 ≡ d = cc in
        let low = leb-true 97 c (and_parts (leb 97 c) (leb c 102) q).0 in
        let high = leb-true c 102 (and_parts (leb 97 c) (leb c 102) q).1 in
        inr (omega arith, omega arith, omega arith)
    by false false p q e = absurd cc

pub digit_small : (c d : ℕ) → digit_of c ≡ Some d → d < 16
digit_small c d e =
    elim (digit_read c d e) [
      | inl numeral ↦ omega (arith, numeral.0)
      | inr letter ↦ letter.1
    ]

pub glyph_of_digit : (c d : ℕ) → digit_of c ≡ Some d → digit_glyph false d ≡ c
glyph_of_digit c d e =
    elim (digit_read c d e) [
      | inl numeral ↦ glyph-few d numeral.0 ∙ numeral.1
      | inr letter ↦ glyph-letter d letter.0 ∙ letter.2
    ]

-- ---- digits one after another

abbrev fits : ℕ → ℕ → ℕ → Bool
fits base n d = ltb d base && ltb (n * base + d) (2 ^ 48)

-- what the digits in front read so
pub record Reads (base n c : ℕ) (cs : List ℕ) (m : ℕ) : Type 0 where
  pub digit : ℕ
  pub is : digit_of c ≡ Some digit
  pub below : digit < base
  pub small : n * base + digit < 2 ^ 48
  pub others : digits_read base (n * base + digit) cs ≡ Some m

pub digits_read_first : (base n c : ℕ) (cs : List ℕ) (m : ℕ) → digits_read base n (c ∷ cs) ≡ Some m → Reads base n c cs m
digits_read_first base n c cs m e =
    let b = bind_some (digit_of c) (λ d. cond (fits base n d) (digits_read base (n * base + d) cs) None) m e in
    let g = guard_some (fits base n b.0) (digits_read base (n * base + b.0) cs) m b.2 in
    let t = and_parts (ltb b.0 base) (ltb (n * base + b.0) (2 ^ 48)) g.0 in
    record { digit = b.0; is = b.1; below = ltb-true _ _ t.0; small = ltb-true _ _ t.1; others = g.1 }

pub digits_read_cons : (base n c d : ℕ) (cs : List ℕ) → digit_of c ≡ Some d → d < base → n * base + d < 2 ^ 48 → digits_read base n (c ∷ cs) ≡ digits_read base (n * base + d) cs
digits_read_cons base n c d cs is below small = rw (is, lt-ltb d base below, lt-ltb (n * base + d) (2 ^ 48) small) refl

-- digits that were read, with others behind them
digits_read-append : (base n : ℕ) (xs ys : List ℕ) (m : ℕ) → digits_read base n xs ≡ Some m → digits_read base n (xs ++ ys) ≡ digits_read base m ys
digits_read-append base n [] ys m e =
    let is : n ≡ m = cc in
    rw is refl
digits_read-append base n (c ∷ xs) ys m e =
    let f = digits_read_first base n c xs m e in
    digits_read_cons base n c f.digit (xs ++ ys) f.is f.below f.small ∙ digits_read-append base (n * base + f.digit) xs ys m f.others

-- no byte is among digits that is none
pub digits_lack : (byte base n : ℕ) (cs : List ℕ) (m : ℕ) → digit_of byte ≡ None → digits_read base n cs ≡ Some m → Lacks byte cs
digits_lack byte base n [] m none e = tt
digits_lack byte base n (c ∷ cs) m none e =
    let f = digits_read_first base n c cs m e in
    (λ same. let both : Some f.digit ≡ None = sym f.is ∙ ap digit_of same ∙ none in absurd cc, digits_lack byte base (n * base + f.digit) cs m none f.others)

-- ---- a number that was spelled is read again

digits_read_glyph : (base n d : ℕ) → base ≤ 16 → d < base → n * base + d < 2 ^ 48 → digits_read base n (digit_glyph false d ∷ []) ≡ Some (n * base + d)
digits_read_glyph base n d high below small = digits_read_cons base n (digit_glyph false d) d [] (digit_of_glyph d (omega arith)) below small

read_by_split : (base front d n : ℕ) → IsBase base → n ≡ front * base + d → 0 < front → d < base → n < 2 ^ 48 → digits_read base 0 (digits base false front) ≡ Some front → digits_read base 0 (digits base false n) ≡ Some n
read_by_split base front d n b is some below small read =
    let room : front * base + d < 2 ^ 48 = omega arith in
    let spelled = b.more front d some below (omega arith) in
    let step = digits_read-append base 0 (digits base false front) (digit_glyph false d ∷ []) front read in
    let whole : digits_read base 0 (digits base false (front * base + d)) ≡ Some (front * base + d) =
    ap (digits_read base 0) spelled ∙ step ∙ digits_read_glyph base front d b.high below room in
    subst (λ (k : ℕ). digits_read base 0 (digits base false k) ≡ Some k) (sym is) whole

read_below : (base bound n : ℕ) → IsBase base → n < bound → n < 2 ^ 48 → digits_read base 0 (digits base false n) ≡ Some n
read_below base zero n b below small = absurd (omega arith)
read_below base (suc bound) n b below small =
    elim (cases_lt n base) [
      | inl digit ↦
          let is : 0 * base + n ≡ n = omega arith in
          ap (digits_read base 0) (b.one n digit) ∙ digits_read_glyph base 0 n b.high digit (omega arith) ∙ ap Some is
      | inr more ↦
          let s = b.split n more in
          read_by_split base s.0 s.1 n b s.2 s.3 s.4 small (read_below base bound s.0 b (omega arith) (omega arith))
    ]

pub digits_read_again : (base n : ℕ) → IsBase base → n < 2 ^ 48 → digits_read base 0 (digits base false n) ≡ Some n
digits_read_again base n b small = read_below base (suc n) n b (omega arith) small

-- no zero stands in front
StartsAbove : List ℕ → Type 0
StartsAbove [] = ⊥
StartsAbove (c ∷ cs) = c ≡ 48 → ⊥

StartsAbove-append : (xs ys : List ℕ) → StartsAbove xs → StartsAbove (xs ++ ys)
unfolding StartsAbove
StartsAbove-append [] ys h = absurd h
StartsAbove-append (x ∷ xs) ys h = h

glyph_above : (d : ℕ) → 0 < d → d < 16 → digit_glyph false d ≡ 48 → ⊥
glyph_above d some small same =
    let read : Some d ≡ digit_of 48 = sym (digit_of_glyph d small) ∙ ap digit_of same in
    let zeroth : d ≡ 0 = cc in
    omega arith

starts_above : (base bound n : ℕ) → IsBase base → n < bound → 0 < n → n < 2 ^ 48 → StartsAbove (digits base false n)
unfolding StartsAbove
starts_above base zero n b below some small = absurd (omega arith)
starts_above base (suc bound) n b below some small =
    elim (cases_lt n base) [
      | inl digit ↦ rw (b.one n digit) (glyph_above n some (omega (arith, b.high)))
      | inr more ↦
          let s = b.split n more in
          let front = starts_above base bound s.0 b (omega arith) s.3 (omega arith) in
          let spelled = b.more s.0 s.1 s.3 s.4 (omega arith) in
          rw (s.2, spelled) (StartsAbove-append (digits base false s.0) (digit_glyph false s.1 ∷ []) front)
    ]

spelled_number-starts : (base : ℕ) (text : List ℕ) → StartsAbove text → spelled_number base text ≡ digits_read base 0 text
unfolding StartsAbove
spelled_number-starts base [] h = absurd h
spelled_number-starts base (c ∷ []) h = refl
spelled_number-starts base (c ∷ d ∷ cs) h = rw (ne_eqb c 48 h) refl

pub spelled_number_again : (base n : ℕ) → IsBase base → n < 2 ^ 48 → spelled_number base (digits base false n) ≡ Some n
spelled_number_again base zero b small =
    let one = b.one 0 (omega (arith, b.low)) in
    let read = digits_read_again base 0 b small in
    rw one (rw one at read)
spelled_number_again base (suc k) b small =
    spelled_number-starts base (digits base false (suc k)) (starts_above base (suc (suc k)) (suc k) b (omega arith) (omega arith) small)
    ∙ digits_read_again base (suc k) b small

pub number_lacks : (byte base n : ℕ) → digit_of byte ≡ None → IsBase base → n < 2 ^ 48 → Lacks byte (digits base false n)
number_lacks byte base n none b small = digits_lack byte base 0 (digits base false n) n none (digits_read_again base n b small)

-- ---- a number that was read was spelled so

-- the text spells the number, which is small enough
pub record IsNumber (base : ℕ) (text : List ℕ) (n : ℕ) : Type 0 where
  pub spelled : text ≡ digits base false n
  pub small : n < 2 ^ 48

digits_behind : (base n : ℕ) (cs : List ℕ) (m : ℕ) → IsBase base → 0 < n → n < 2 ^ 48 → digits_read base n cs ≡ Some m → IsNumber base (digits base false n ++ cs) m
digits_behind base n [] m b some small e =
    let is : n ≡ m = cc in
    record { spelled = append-nil (digits base false n) ∙ ap (digits base false) is; small = omega arith }
digits_behind base n (c ∷ cs) m b some small e =
    let f = digits_read_first base n c cs m e in
    let front = b.more n f.digit some f.below (omega (arith, f.small)) in
    let positive : 0 < n * base + f.digit = omega (arith, b.grows n some) in
    let rest = digits_behind base (n * base + f.digit) cs m b positive f.small f.others in
    let moved : digits base false n ++ c ∷ cs ≡ digits base false (n * base + f.digit) ++ cs =
    rw (front, glyph_of_digit c f.digit f.is) (sym (append_assoc (digits base false n) (c ∷ []) cs)) in
    record { spelled = moved ∙ rest.spelled; small = rest.small }

not_zero : (n : ℕ) → (n ≡ 0 → ⊥) → 0 < n
not_zero n h = omega arith

digits_first : (base c d : ℕ) (cs : List ℕ) (m : ℕ) → IsBase base → digit_of c ≡ Some d → d < base → 0 < d → digits_read base d cs ≡ Some m → IsNumber base (c ∷ cs) m
digits_first base c d cs m b is below some read =
    let rest = digits_behind base d cs m b some (omega (arith, b.high)) read in
    let front : c ∷ cs ≡ digits base false d ++ cs = rw (b.one d below, glyph_of_digit c d is) refl in
    record { spelled = front ∙ rest.spelled; small = rest.small }

pub spelled_number_takes : (base : ℕ) (text : List ℕ) (n : ℕ) → IsBase base → spelled_number base text ≡ Some n → IsNumber base text n
spelled_number_takes base [] n b e = absurd cc
spelled_number_takes base (c ∷ []) n b e =
    let f = digits_read_first base 0 c [] n e in
    let value : f.digit ≡ n = omega (arith, some_is (0 * base + f.digit) n f.others) in
    let spelled : c ∷ [] ≡ digits base false n = rw (← value, b.one f.digit f.below, glyph_of_digit c f.digit f.is) refl in
    record { spelled = spelled; small = omega (arith, f.small) }
spelled_number_takes base (c ∷ d ∷ cs) n b e = by (eqb c 48) refl e
  where
    by : (led : Bool) → eqb c 48 ≡ led → cond led None (digits_read base 0 (c ∷ d ∷ cs)) ≡ Some n → IsNumber base (c ∷ d ∷ cs) n
    by true same e = absurd cc
    by false other e =
        let f = digits_read_first base 0 c (d ∷ cs) n e in
        let is : 0 * base + f.digit ≡ f.digit = omega arith in
        let positive : 0 < f.digit = not_zero f.digit (λ zeroth. eqb-false c 48 other (sym (glyph_of_digit c f.digit f.is) ∙ ap (digit_glyph false) zeroth)) in
        digits_first base c f.digit (d ∷ cs) n b f.is f.below positive (rw is at f.others)
