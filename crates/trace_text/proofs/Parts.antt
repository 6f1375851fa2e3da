-- The parts of a text before and behind the first byte of a kind.
use Rattle.std.proofs.Common.{◌≡◌, ℕ, zero, suc, ◌+◌, ◌-◌, ◌<◌, ◌≤◌, Bool, true, false, cond, eqb, ltb, List, [], ◌∷◌, ◌++◌, length, get_or, take, drop, Option, Some, None, refl, sym, ap, ◌∙◌, arith, IfSome, inl, inr}
use Rattle.std.specs.Prelude.{position, ◌==◌}
use Rattle.std.specs.List.{position_or_len}
use Rattle.std.proofs.lemmas.Bool.{cases_lt, eq-eqb, ne_eqb, eqb-true, eqb-false, le-ltb, lt-ltb, ltb-true, ltb-false}
use Rattle.std.proofs.lemmas.List.{take_rest}
use Rattle.std.proofs.lemmas.List.Sums.{fails_before_first, passes_at_first}
use Rattle.memchr.specs.Find.{IsFirstByte}
use Rattle.trace_text.specs.ScriptReading.{◌>>=◌, parts_at}

-- ---- what the place of the byte says

parts_found : (byte : ℕ) (xs : List ℕ) (at : ℕ) → at < length xs → ((k : ℕ) → k < at → get_or xs k 0 ≡ byte → ⊥) → get_or xs at 0 ≡ byte → parts_at byte xs ≡ Some (take at xs, drop (suc at) xs)
parts_found byte [] at within before here = absurd (omega arith)
parts_found byte (x ∷ xs) zero within before here = rw (eq-eqb x byte here) refl
parts_found byte (x ∷ xs) (suc at) within before here =
    let other : eqb x byte ≡ false = ne_eqb x byte (before 0 (omega arith)) in
    let behind = parts_found byte xs at (omega arith) (λ k below. before (suc k) (omega arith)) here in
    rw (other, behind) refl

parts_missing : (byte : ℕ) (xs : List ℕ) → ((k : ℕ) → k < length xs → get_or xs k 0 ≡ byte → ⊥) → parts_at byte xs ≡ None
parts_missing byte [] nowhere = refl
parts_missing byte (x ∷ xs) nowhere =
    let other : eqb x byte ≡ false = ne_eqb x byte (nowhere 0 (omega arith)) in
    let behind = parts_missing byte xs (λ k below. nowhere (suc k) (omega arith)) in
    rw (other, behind) refl

-- the test for the byte
abbrev is_byte : ℕ → ℕ → Bool
is_byte byte x = x == byte

not_before : (byte : ℕ) (xs : List ℕ) (k : ℕ) → k < position_or_len (is_byte byte) xs → get_or xs k 0 ≡ byte → ⊥
not_before byte xs k below = eqb-false (get_or xs k 0) byte (fails_before_first (is_byte byte) xs k 0 below)

place_some : (b : Bool) (n at : ℕ) → cond b (Some n) None ≡ Some at → (b ≡ true) × (n ≡ at)
place_some true n at e = (refl, cc)
place_some false n at e = absurd cc

place_none : (b : Bool) (n : ℕ) → cond b (Some n) None ≡ None → b ≡ false
place_none true n e = absurd cc
place_none false n e = refl

pub parts_at-some : (byte : ℕ) (xs : List ℕ) (at : ℕ) → position (λ x. x == byte) xs ≡ Some at → parts_at byte xs ≡ Some (take at xs, drop (suc at) xs)
parts_at-some byte xs at found =
    let place = place_some (ltb (position_or_len (is_byte byte) xs) (length xs)) (position_or_len (is_byte byte) xs) at found in
    let within : position_or_len (is_byte byte) xs < length xs = ltb-true _ _ place.0 in
    let here : get_or xs (position_or_len (is_byte byte) xs) 0 ≡ byte = eqb-true _ byte (passes_at_first (is_byte byte) xs 0 within) in
    rw (← place.1) (parts_found byte xs (position_or_len (is_byte byte) xs) within (not_before byte xs) here)

pub parts_at-none : (byte : ℕ) (xs : List ℕ) → position (λ x. x == byte) xs ≡ None → parts_at byte xs ≡ None
parts_at-none byte xs missing =
    let past : length xs ≤ position_or_len (is_byte byte) xs = ltb-false _ _ (place_none (ltb (position_or_len (is_byte byte) xs) (length xs)) (position_or_len (is_byte byte) xs) missing) in
    parts_missing byte xs (λ k below. not_before byte xs k (omega arith))

-- ---- a search for the byte

at_place : (n len : ℕ) → n < len → cond (ltb n len) (Some n) None ≡ Some n
at_place n len within = rw (lt-ltb n len within) refl

past_end : (n len : ℕ) → len ≤ n → cond (ltb n len) (Some n) None ≡ None
past_end n len past = rw (le-ltb n len past) refl

-- the first place of the byte is the one that was found
pub first_is_position : (byte : ℕ) (xs : List ℕ) (r : Option ℕ) → IsFirstByte (is_byte byte) xs r → r ≡ position (λ x. x == byte) xs
first_is_position byte xs None nowhere =
    let n = position_or_len (is_byte byte) xs in
    elim (cases_lt n (length xs)) [
      | inl within ↦ absurd (nowhere n (omega arith) within (passes_at_first (is_byte byte) xs 0 within))
      | inr past ↦ sym (past_end n (length xs) past)
    ]
first_is_position byte xs (Some at) found =
    let n = position_or_len (is_byte byte) xs in
    let within = found.0.high in
    elim (cases_lt n at) [
      | inl less ↦
          let inside : n < length xs = omega arith in
          absurd (found.0.before n (omega arith) less (passes_at_first (is_byte byte) xs 0 inside))
      | inr others ↦ elim (cases_lt at n) [
        | inl more ↦ absurd (not_before byte xs at more (eqb-true (get_or xs at 0) byte found.1))
        | inr same ↦
            let is : at ≡ n = omega arith in
            let inside : n < length xs = omega arith in
            ap (λ (k : ℕ). Some k) is ∙ sym (at_place n (length xs) inside)
      ]
    ]

-- it lies within the text
pub first_is_within : (byte : ℕ) (xs : List ℕ) (r : Option ℕ) → IsFirstByte (is_byte byte) xs r → IfSome r (λ at. at < length xs)
first_is_within byte xs None nowhere = tt
first_is_within byte xs (Some at) found = found.0.high

-- the parts as slices
pub parts_at-slices : (byte : ℕ) (xs : List ℕ) (at : ℕ) → Some at ≡ position (λ x. x == byte) xs → Some (take at xs, take (length xs - (at + 1)) (drop (at + 1) xs)) ≡ parts_at byte xs
parts_at-slices byte xs at found =
    let next : at + 1 ≡ suc at = omega arith in
    rw (take_rest xs (at + 1), next) (sym (parts_at-some byte xs at (sym found)))

-- ---- the two laws

-- the byte is none of these
abbrev pub Lacks : ℕ → List ℕ → Type 0
Lacks byte [] = Unit {0}
Lacks byte (x ∷ xs) = (x ≡ byte → ⊥) × Lacks byte xs

pub Lacks-append : (byte : ℕ) (xs ys : List ℕ) → Lacks byte xs → Lacks byte ys → Lacks byte (xs ++ ys)
Lacks-append byte [] ys p q = q
Lacks-append byte (x ∷ xs) ys p q = (p.0, Lacks-append byte xs ys p.1 q)

pub parts_at_again : (byte : ℕ) (xs ys : List ℕ) → Lacks byte xs → parts_at byte (xs ++ byte ∷ ys) ≡ Some (xs, ys)
parts_at_again byte [] ys lacks = rw (eq-eqb byte byte refl) refl
parts_at_again byte (x ∷ xs) ys lacks = rw (ne_eqb x byte lacks.0, parts_at_again byte xs ys lacks.1) refl

one_more : (byte x : ℕ) (xs : List ℕ) (parts : List ℕ × List ℕ) (r : Option (List ℕ × List ℕ)) → ((p : List ℕ × List ℕ) → r ≡ Some p → xs ≡ p.0 ++ byte ∷ p.1)
    → (here : Bool) → eqb x byte ≡ here → cond here (Some ([], xs)) (r >>= λ p. Some (x ∷ p.0, p.1)) ≡ Some parts → x ∷ xs ≡ parts.0 ++ byte ∷ parts.1
one_more byte x xs parts r behind true here e =
    let is : ([], xs) ≡ parts = cc in
    rw (← is) (ap (λ (y : ℕ). y ∷ xs) (eqb-true x byte here))
one_more byte x xs parts None behind false other e = absurd cc
one_more byte x xs parts (Some p) behind false other e =
    let is : (x ∷ p.0, p.1) ≡ parts = cc in
    rw (← is) (ap (λ (ys : List ℕ). x ∷ ys) (behind p refl))

pub parts_at_takes : (byte : ℕ) (xs : List ℕ) (parts : List ℕ × List ℕ) → parts_at byte xs ≡ Some parts → xs ≡ parts.0 ++ byte ∷ parts.1
parts_at_takes byte [] parts e = absurd cc
parts_at_takes byte (x ∷ xs) parts e = one_more byte x xs parts (parts_at byte xs) (λ p found. parts_at_takes byte xs p found) (eqb x byte) refl e

-- the parts, each known by another name
pub with_parts : (byte : ℕ) (xs front back a b : List ℕ) → xs ≡ front ++ byte ∷ back → front ≡ a → back ≡ b → xs ≡ a ++ byte ∷ b
with_parts byte xs front back a b split first second = cc

-- a text that has no such byte
pub parts_at_lacks : (byte : ℕ) (xs : List ℕ) → Lacks byte xs → parts_at byte xs ≡ None
parts_at_lacks byte [] lacks = refl
parts_at_lacks byte (x ∷ xs) lacks = rw (ne_eqb x byte lacks.0, parts_at_lacks byte xs lacks.1) refl
