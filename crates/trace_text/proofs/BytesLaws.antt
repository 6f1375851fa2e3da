-- Bytes are read as they are spelled, and spelled as they are read: digits of lower case alone.
use Rattle.std.proofs.Common.{◌≡◌, ℕ, zero, suc, ◌+◌, ◌-◌, ◌*◌, ◌/◌, ◌%◌, ◌^◌, ◌<◌, ◌≤◌, Bool, true, false, cond, ◌&&◌, eqb, List, [], ◌∷◌, ◌++◌, length, get_or, set, replicate, take, drop, slice_index, is_some, IfSome, Option, Some, None, refl, ap, ◌∙◌, sym, append_assoc, arith, inl, inr}
use Rattle.std.specs.Fmt.{digit_glyph}
use Rattle.std.specs.Prelude.{Result, Ok, Err, OnOk}
use Rattle.std.specs.List.{AllByRecursion}
use Rattle.std.proofs.lemmas.Bool.{cases_lt, eqb-true, and_parts}
use Rattle.std.proofs.Math.Seq.{take-append_seam, take-append-add}
use Rattle.std.proofs.lemmas.List.{append-nil, drop_all, drop_more, length-take, length-take-le, take-append-drop, take-append-le, take_all, take_more_set, length-append, length-replicate, drop-replicate}
use Rattle.hex.proofs.HexLemmas.{length-encode_with}
use Rattle.hex.specs.Hex.{encode_lower, encode_with, lower_digits}
use Rattle.trace_text.specs.ScriptReading.{◌>>=◌, byte_of, bytes_of, digit_of, only_if}
use Rattle.trace_text.proofs.NumberLaws.{digit_of_glyph, digit_small, glyph_of_digit}
use Rattle.trace_text.proofs.Steps.{bind_some, some_is}

-- ---- one digit

-- the table's digits, up to a place
abbrev are_glyphs : ℕ → Bool
are_glyphs zero = true
are_glyphs (suc n) = eqb (slice_index lower_digits n) (digit_glyph false n) && are_glyphs n

glyph_at : (n d : ℕ) → are_glyphs n ≡ true → d < n → slice_index lower_digits d ≡ digit_glyph false d
glyph_at zero d all below = absurd (omega arith)
glyph_at (suc n) d all below =
    let parts = and_parts (eqb (slice_index lower_digits n) (digit_glyph false n)) (are_glyphs n) all in
    elim (cases_lt d n) [
      | inl less ↦ glyph_at n d parts.1 less
      | inr last ↦
          let is : d ≡ n = omega arith in
          rw is (eqb-true _ _ parts.0)
    ]

lower_digit : (d : ℕ) → d < 16 → slice_index lower_digits d ≡ digit_glyph false d
lower_digit d small = glyph_at 16 d refl small

-- ---- one byte

pair_takes : (c d byte : ℕ) → byte_of (c ∷ d ∷ []) ≡ Some byte → c ∷ d ∷ [] ≡ encode_lower (byte ∷ [])
unfolding encode_with
pair_takes c d byte e =
    let high = bind_some (digit_of c) _ byte e in
    let low = bind_some (digit_of d) _ byte high.2 in
    let value = some_is (high.0 * 16 + low.0) byte low.2 in
    let h = digit_small c high.0 high.1 in
    let l = digit_small d low.0 low.1 in
    let front : byte / 16 ≡ high.0 = omega arith in
    let last : byte % 16 ≡ low.0 = omega arith in
    rw (front, last, lower_digit high.0 h, lower_digit low.0 l, glyph_of_digit c high.0 high.1, glyph_of_digit d low.0 low.1) refl

pub byte_takes : (token : List ℕ) (byte : ℕ) → byte_of token ≡ Some byte → token ≡ encode_lower (byte ∷ [])
byte_takes [] byte e = absurd cc
byte_takes (c ∷ []) byte e = absurd cc
byte_takes (c ∷ d ∷ []) byte e = pair_takes c d byte e
byte_takes (c ∷ d ∷ f ∷ cs) byte e = absurd cc

pub byte_again : (byte : ℕ) → byte < 2 ^ 8 → byte_of (encode_lower (byte ∷ [])) ≡ Some byte
unfolding encode_with
byte_again byte small =
    let high : digit_of (slice_index lower_digits (byte / 16)) ≡ Some (byte / 16) = rw (lower_digit (byte / 16) (omega arith)) (digit_of_glyph (byte / 16) (omega arith)) in
    let low : digit_of (slice_index lower_digits (byte % 16)) ≡ Some (byte % 16) = rw (lower_digit (byte % 16) (omega arith)) (digit_of_glyph (byte % 16) (omega arith)) in
    let whole : byte / 16 * 16 + byte % 16 ≡ byte = omega arith in
    rw (high, low, whole) refl

-- ---- bytes

one_behind : (byte : ℕ) (bytes : List ℕ) → encode_lower (byte ∷ []) ++ encode_lower bytes ≡ encode_lower (byte ∷ bytes)
unfolding encode_with
one_behind byte bytes = refl

pub bytes_of_takes : (text bytes : List ℕ) → bytes_of text ≡ Some bytes → text ≡ encode_lower bytes
unfolding encode_with
bytes_of_takes [] bytes e =
    let is : [] ≡ bytes = cc in
    rw (← is) refl
bytes_of_takes (c ∷ []) bytes e = absurd cc
bytes_of_takes (c ∷ d ∷ text) bytes e =
    let byte = bind_some (byte_of (c ∷ d ∷ [])) _ bytes e in
    let others = bind_some (bytes_of text) _ bytes byte.2 in
    let is = some_is (byte.0 ∷ others.0) bytes others.2 in
    let front : c ∷ d ∷ text ≡ encode_lower (byte.0 ∷ []) ++ text = ap (λ (pair : List ℕ). pair ++ text) (pair_takes c d byte.0 byte.1) in
    front ∙ ap (λ (back : List ℕ). encode_lower (byte.0 ∷ []) ++ back) (bytes_of_takes text others.0 others.1) ∙ ap encode_lower is

pub bytes_of_again : (bytes : List ℕ) → AllByRecursion (λ byte. byte < 2 ^ 8) bytes → bytes_of (encode_lower bytes) ≡ Some bytes
unfolding encode_with
bytes_of_again [] small = refl
bytes_of_again (byte ∷ bytes) small = rw (byte_again byte small.0, bytes_of_again bytes small.1) refl

-- ---- the loop

-- bytes in front of those that are still to be read
abbrev pub behind : List ℕ → Option (List ℕ) → Option (List ℕ)
behind read bytes = bytes >>= λ others. Some (read ++ others)

-- one byte more was read
pub behind_one : (read : List ℕ) (byte : ℕ) (bytes : Option (List ℕ)) → behind (read ++ byte ∷ []) bytes ≡ behind read (bytes >>= λ others. Some (byte ∷ others))
behind_one read byte None = refl
behind_one read byte (Some others) = ap (λ (all : List ℕ). Some all) (append_assoc read (byte ∷ []) others)

-- nothing is in front
pub behind_none : (bytes : Option (List ℕ)) → behind [] bytes ≡ bytes
behind_none None = refl
behind_none (Some others) = refl

-- bytes that were read, if all pairs so far spell one, in front of those that are still to be read
abbrev pub behind_if : Bool → List ℕ → Option (List ℕ) → Option (List ℕ)
behind_if are_spelled read bytes = cond are_spelled (behind read bytes) None

pair_behind : (before spelled : Bool) (read : List ℕ) (byte : ℕ) (pair : Option ℕ) (bytes : Option (List ℕ))
    → spelled ≡ is_some pair → IfSome pair (λ b. byte ≡ b)
    → behind_if (before && spelled) (read ++ byte ∷ []) bytes ≡ behind_if before read (pair >>= λ b. bytes >>= λ others. Some (b ∷ others))
pair_behind false spelled read byte pair bytes tells is = refl
pair_behind true spelled read byte None bytes tells is = rw tells refl
pair_behind true spelled read byte (Some b) bytes tells is = rw (tells, is) (behind_one read b bytes)

-- one pair more was read
pub pair_read : (digits list : List ℕ) (i byte : ℕ) (before spelled : Bool) → length digits ≡ 2 * length list → i < length list
    → spelled ≡ is_some (byte_of (get_or digits (2 * i) 0 ∷ get_or digits (2 * i + 1) 0 ∷ []))
    → IfSome (byte_of (get_or digits (2 * i) 0 ∷ get_or digits (2 * i + 1) 0 ∷ [])) (λ b. byte ≡ b)
    → behind_if before (take i list) (bytes_of (drop (2 * i) digits)) ≡ bytes_of digits
    → behind_if (before && spelled) (take (i + 1) (set list i byte)) (bytes_of (drop (2 * (i + 1)) digits)) ≡ bytes_of digits
pair_read digits list i byte before spelled pairs inside tells is so_far =
    let high : ℕ = get_or digits (2 * i) 0 in
    let low : ℕ = get_or digits (2 * i + 1) 0 in
    let one = drop_more digits (2 * i) 0 (omega arith) in
    let two = drop_more digits (2 * i + 1) 0 (omega arith) in
    let end : 2 * i + 1 + 1 ≡ 2 * (i + 1) = omega arith in
    let behind_both : List ℕ = drop (2 * (i + 1)) digits in
    let rest : drop (2 * i) digits ≡ high ∷ low ∷ behind_both =
    one ∙ ap (λ (xs : List ℕ). high ∷ xs) (two ∙ ap (λ n. low ∷ drop n digits) end) in
    let bytes : bytes_of (drop (2 * i) digits) ≡ (byte_of (high ∷ low ∷ []) >>= λ b. bytes_of behind_both >>= λ others. Some (b ∷ others)) =
    ap bytes_of rest in
    ap (λ (read : List ℕ). behind_if (before && spelled) read (bytes_of (drop (2 * (i + 1)) digits))) (take_more_set list i byte inside)
    ∙ pair_behind before spelled (take i list) byte (byte_of (high ∷ low ∷ [])) (bytes_of (drop (2 * (i + 1)) digits)) tells is
    ∙ ap (behind_if before (take i list)) (sym bytes) ∙ so_far

-- all pairs were read
pub all_read : (digits list : List ℕ) (i : ℕ) (are_spelled : Bool) → length digits ≡ 2 * length list → length list ≤ i
    → behind_if are_spelled (take i list) (bytes_of (drop (2 * i) digits)) ≡ bytes_of digits → only_if are_spelled list ≡ bytes_of digits
all_read digits list i false pairs past so_far = so_far
all_read digits list i true pairs past so_far =
    let none : drop (2 * i) digits ≡ [] = drop_all (2 * i) digits (omega arith) in
    let all : take i list ≡ list = take_all i list past in
    sym (ap (λ (read : List ℕ). behind read (bytes_of (drop (2 * i) digits))) all
    ∙ ap (λ (rest : List ℕ). behind list (bytes_of rest)) none ∙ ap (λ (read : List ℕ). Some read) (append-nil list))
    ∙ so_far

-- an odd number of digits spells nothing
pub odd_spells_none : (digits : List ℕ) → (length digits % 2 ≡ 0 → ⊥) → bytes_of digits ≡ None
odd_spells_none [] odd = absurd (odd refl)
odd_spells_none (c ∷ []) odd = refl
odd_spells_none (c ∷ d ∷ digits) odd =
    rw (odd_spells_none digits (λ even. odd (omega arith))) (none_behind (byte_of (c ∷ d ∷ [])))
  where
    none_behind : (byte : Option ℕ) → (byte >>= λ b. None >>= λ (others : List ℕ). Some (b ∷ others)) ≡ None
    none_behind None = refl
    none_behind (Some b) = refl

-- ---- printing piece by piece

encode_append : (one other : List ℕ) → encode_lower (one ++ other) ≡ encode_lower one ++ encode_lower other
unfolding encode_with
encode_append [] other = refl
encode_append (byte ∷ one) other = ap (λ (text : List ℕ). encode_lower (byte ∷ []) ++ text) (encode_append one other)

-- the digits of a piece, without the line feeds behind them
digits_alone : (piece : List ℕ) (n : ℕ) → n ≡ 2 * length piece → (feeds : List ℕ)
    → take n (encode_lower piece ++ feeds) ≡ encode_lower piece
digits_alone piece n is feeds =
    let long : n ≡ length (encode_lower piece) = is ∙ sym (length-encode_with lower_digits piece) in
    rw long (take-append_seam (encode_lower piece) feeds)

-- the line of a piece: its digits, and line feeds as far as there is room
abbrev pub feeds_behind : List ℕ → List ℕ
feeds_behind piece = replicate (65 - 2 * length piece) 10

pub line_is : (piece digits : List ℕ) → digits ≡ encode_lower piece
    → digits ++ drop (2 * length piece) (replicate 65 10) ≡ encode_lower piece ++ feeds_behind piece
line_is piece digits is = rw is (ap (λ (feeds : List ℕ). encode_lower piece ++ feeds) (drop-replicate (2 * length piece) 65 10))

pub line_holds : (n : ℕ) (line piece : List ℕ) → n ≤ 65 → length piece ≤ 32
    → line ≡ encode_lower piece ++ feeds_behind piece → n ≡ length (take n line)
line_holds n line piece small few is =
    let long = ap length is ∙ length-append (encode_lower piece) (feeds_behind piece) in
    let digits = length-encode_with lower_digits piece in
    let feed : ℕ = 10 in
    let feeds = length-replicate (65 - 2 * length piece) feed in
    sym (length-take-le n line (omega (arith, long, digits, feeds)))

-- a piece was printed
pub piece_printed : (out new text rest piece others line : List ℕ) → 32 < length rest → piece ≡ take 32 rest
    → others ≡ drop 32 rest → line ≡ encode_lower piece ++ feeds_behind piece → new ≡ out ++ take 64 line
    → out ++ (encode_lower rest ++ 10 ∷ []) ≡ text → new ++ (encode_lower others ++ 10 ∷ []) ≡ text
piece_printed out new text rest piece others line more front back is pushed so_far =
    let few : 64 ≡ 2 * length piece = sym (ap (λ n. 2 * n) (ap length front ∙ length-take-le 32 rest (omega arith))) in
    let digits : take 64 line ≡ encode_lower piece =
    ap (λ (line : List ℕ). take 64 line) is ∙ digits_alone piece 64 few (feeds_behind piece) in
    let both : piece ++ others ≡ rest =
    ap (λ (piece : List ℕ). piece ++ others) front ∙ ap (λ (others : List ℕ). take 32 rest ++ others) back
    ∙ take-append-drop 32 rest in
    let whole : encode_lower piece ++ encode_lower others ≡ encode_lower rest =
    sym (encode_append piece others) ∙ ap encode_lower both in
    let last : List ℕ = encode_lower others ++ 10 ∷ [] in
    ap (λ (front : List ℕ). front ++ last) (pushed ∙ ap (λ (front : List ℕ). out ++ front) digits)
    ∙ append_assoc out (encode_lower piece) last
    ∙ ap (λ (back : List ℕ). out ++ back)
    (sym (append_assoc (encode_lower piece) (encode_lower others) (10 ∷ [])) ∙ ap (λ (digits : List ℕ). digits ++ 10 ∷ []) whole)
    ∙ so_far

-- the last piece was printed, with one line feed
pub last_printed : (out new text rest line : List ℕ) → length rest ≤ 32 → line ≡ encode_lower rest ++ feeds_behind rest
    → new ≡ out ++ take (2 * length rest + 1) line
    → out ++ (encode_lower rest ++ 10 ∷ []) ≡ text → new ≡ text
last_printed out new text rest line few is pushed so_far =
    let long : 2 * length rest + 1 ≡ length (encode_lower rest) + 1 = sym (ap (λ n. n + 1) (length-encode_with lower_digits rest)) in
    let feeds : 65 - 2 * length rest ≡ suc (64 - 2 * length rest) = omega arith in
    let line : take (2 * length rest + 1) line ≡ encode_lower rest ++ 10 ∷ [] =
    ap (λ (line : List ℕ). take (2 * length rest + 1) line) is
    ∙ ap (λ n. take n (encode_lower rest ++ feeds_behind rest)) long
    ∙ take-append-add (encode_lower rest) (feeds_behind rest) 1
    ∙ ap (λ n. encode_lower rest ++ take 1 (replicate n 10)) feeds in
    pushed ∙ ap (λ (front : List ℕ). out ++ front) line ∙ so_far

-- what stands in front stays
pub front_stays : (before out new more : List ℕ) → new ≡ out ++ more → take (length before) out ≡ before
    → take (length before) new ≡ before
front_stays before out new more pushed kept =
    let long = ap length kept in
    let least = length-take (length before) out in
    rw pushed (take-append-le (length before) out more (omega (arith, long, least)) ∙ kept)

-- what follows of a text that was pushed
pub OnOk-map : {T E P Q : Type 0} (answer : Result T E) → (P → Q) → OnOk answer P → OnOk answer Q
OnOk-map (Ok x) follows pushed = follows pushed
OnOk-map (Err e) follows pushed = pushed
