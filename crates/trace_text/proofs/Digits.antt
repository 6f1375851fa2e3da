-- Digits in the bases of a script: the digit of a small number, and one digit more at the end.
use Rattle.std.proofs.Common.{◌≡◌, ℕ, zero, suc, ◌+◌, ◌*◌, ◌/◌, ◌%◌, ◌^◌, ◌<◌, ◌≤◌, Bool, false, cond, List, [], ◌∷◌, ◌++◌, codes, refl, sym, ap, ◌∙◌, append_assoc, arith, inl, inr}
use Rattle.std.specs.Fmt.{digits, digits_onto, digit_glyph, decimal}
use Rattle.std.proofs.lemmas.Bool.{cases_lt, eq-eqb, ne_eqb, lt-ltb}
use Rattle.std.proofs.lemmas.Fmt.{hex_one_digit, decimal_digit, decimal_step_wide}
use Rattle.trace_text.specs.ScriptGrammar.{hexadecimal}

-- ---- hexadecimal digits, with a bound on how many there are

abbrev glyph : ℕ → ℕ
glyph d = digit_glyph false d

abbrev onto : ℕ → ℕ → List ℕ → List ℕ
onto k n after = digits_onto k 16 false n after

onto_one : (k n : ℕ) (after : List ℕ) → n < 16 → onto (suc k) n after ≡ glyph (n % 16) ∷ after
onto_one k n after small =
    ap (λ (last : Bool). cond last (glyph (n % 16) ∷ after) (onto k (n / 16) (glyph (n % 16) ∷ after))) (eq-eqb (n / 16) 0 (omega arith))

onto_more : (k n : ℕ) (after : List ℕ) → 16 ≤ n → onto (suc k) n after ≡ onto k (n / 16) (glyph (n % 16) ∷ after)
onto_more k n after large =
    ap (λ (last : Bool). cond last (glyph (n % 16) ∷ after) (onto k (n / 16) (glyph (n % 16) ∷ after))) (ne_eqb (n / 16) 0 (λ e. omega arith))

-- what stands behind the digits stays behind them
onto_behind : (k n : ℕ) (after : List ℕ) → onto k n after ≡ onto k n [] ++ after
onto_behind zero n after = refl
onto_behind (suc k) n after =
    elim (cases_lt n 16) [
      | inl small ↦ rw (onto_one k n after small, onto_one k n [] small) refl
      | inr large ↦
          rw (onto_more k n after large, onto_more k n [] large)
          (onto_behind k (n / 16) (glyph (n % 16) ∷ after)
          ∙ sym (append_assoc (onto k (n / 16) []) (glyph (n % 16) ∷ []) after)
          ∙ ap (λ (front : List ℕ). front ++ after) (sym (onto_behind k (n / 16) (glyph (n % 16) ∷ []))))
    ]

-- more room for digits changes nothing
onto_room : (k n : ℕ) (after : List ℕ) → n < 16 ^ suc k → onto (suc k) n after ≡ onto (suc (suc k)) n after
onto_room zero n after room =
    let small : n < 16 = omega arith in
    rw (onto_one 0 n after small, onto_one 1 n after small) refl
onto_room (suc k) n after room =
    elim (cases_lt n 16) [
      | inl small ↦ rw (onto_one (suc k) n after small, onto_one (suc (suc k)) n after small) refl
      | inr large ↦
          rw (onto_more (suc k) n after large, onto_more (suc (suc k)) n after large)
          (onto_room k (n / 16) (glyph (n % 16) ∷ after) (omega arith))
    ]

hexadecimal_is : (n : ℕ) → hexadecimal n ≡ onto 64 n []
unfolding digits
hexadecimal_is n = refl

-- ---- what both bases have in common

-- a base in which numbers are spelled
pub record IsBase (base : ℕ) : Type 0 where
  pub low : 2 ≤ base
  pub high : base ≤ 16
  pub one : (d : ℕ) → d < base → digits base false d ≡ digit_glyph false d ∷ []
  pub more : (n d : ℕ) → 0 < n → d < base → n * base + d < 2 ^ 80 → digits base false (n * base + d) ≡ digits base false n ++ digit_glyph false d ∷ []
  pub split : (n : ℕ) → base ≤ n → (front : ℕ) × (d : ℕ) × (n ≡ front * base + d) × (0 < front) × (d < base) × (front < n)
  pub grows : (n : ℕ) → 0 < n → 0 < n * base

hexadecimal_step : (n front last : ℕ) → n / 16 ≡ front → n % 16 ≡ last → 16 ≤ n → n < 2 ^ 80 → hexadecimal n ≡ hexadecimal front ++ glyph last ∷ []
hexadecimal_step n front last front-is last-is large room =
    let step : onto 64 n [] ≡ onto 63 front (glyph last ∷ []) = onto_more 63 n [] large ∙ rw (front-is, last-is) refl in
    hexadecimal_is n ∙ step ∙ onto_room 62 front (glyph last ∷ []) (omega arith) ∙ onto_behind 64 front (glyph last ∷ [])
    ∙ ap (λ (text : List ℕ). text ++ glyph last ∷ []) (sym (hexadecimal_is front))

hexadecimal_more : (n d : ℕ) → 0 < n → d < 16 → n * 16 + d < 2 ^ 80 → hexadecimal (n * 16 + d) ≡ hexadecimal n ++ glyph d ∷ []
hexadecimal_more n d some digit room =
    hexadecimal_step (n * 16 + d) n d (omega arith) (omega arith) (omega arith) room

pub base_16 : IsBase 16
base_16 = record {
  low = omega arith;
  high = omega arith;
  one = hex_one_digit false;
  more = hexadecimal_more;
  split = λ n large. (n / 16, n % 16, omega arith, omega arith, omega arith, omega arith);
  grows = λ n some. omega arith;
}

decimal_glyph : (d : ℕ) → d < 10 → digit_glyph false d ≡ 48 + d
decimal_glyph d small = ap (λ (few : Bool). cond few (48 + d) (87 + d)) (lt-ltb d 10 small)

decimal_more : (n d : ℕ) → 0 < n → d < 10 → n * 10 + d < 2 ^ 80 → decimal (n * 10 + d) ≡ decimal n ++ digit_glyph false d ∷ []
decimal_more n d some digit room =
    let m : ℕ = n * 10 + d in
    let front : m / 10 ≡ n = omega arith in
    let last : 48 + m % 10 ≡ digit_glyph false d = omega (arith, decimal_glyph d digit) in
    let step = decimal_step_wide m (omega arith) (omega arith) in
    step ∙ ap (λ (text : List ℕ). text ++ (48 + m % 10) ∷ []) (ap decimal front) ∙ ap (λ (c : ℕ). decimal n ++ c ∷ []) last

pub base_10 : IsBase 10
base_10 = record {
  low = omega arith;
  high = omega arith;
  one = λ d small. decimal_digit d small ∙ ap (λ (c : ℕ). c ∷ []) (sym (decimal_glyph d small));
  more = decimal_more;
  split = λ n large. (n / 10, n % 10, omega arith, omega arith, omega arith, omega arith);
  grows = λ n some. omega arith;
}

-- ---- a page's address

-- the address of a page's first byte has three zeros behind the page's own digits
pub hexadecimal-page : (page : ℕ) → 0 < page → page < 2 ^ 64 → hexadecimal (page * 4096) ≡ hexadecimal page ++ codes "000"
hexadecimal-page page some room =
    let one = hexadecimal_more page 0 some (omega arith) (omega arith) in
    let two = hexadecimal_more (page * 16 + 0) 0 (omega arith) (omega arith) (omega arith) in
    let three = hexadecimal_more ((page * 16 + 0) * 16 + 0) 0 (omega arith) (omega arith) (omega arith) in
    let address : page * 4096 ≡ ((page * 16 + 0) * 16 + 0) * 16 + 0 = omega arith in
    ap hexadecimal address ∙ three ∙ ap (λ (text : List ℕ). text ++ 48 ∷ []) (two ∙ ap (λ (text : List ℕ). text ++ 48 ∷ []) one)
    ∙ simp append_assoc

-- the address of the first page
pub hexadecimal-zero : (page : ℕ) → page ≡ 0 → hexadecimal (page * 4096) ≡ codes "0"
hexadecimal-zero page zeroth =
    let address : page * 4096 ≡ 0 = omega arith in
    rw (address, hex_one_digit false 0 (omega arith)) refl

-- the address of any other page
pub hexadecimal-some : (page : ℕ) → (page ≡ 0 → ⊥) → page < 2 ^ 64 → hexadecimal (page * 4096) ≡ hexadecimal page ++ codes "000"
hexadecimal-some page other room = hexadecimal-page page (omega arith) room
