-- Numbers of 64 bits as text: digits without a leading zero, and a sign for one below zero.
use Rattle.std.specs.Prelude.{ℕ, ◌+◌, ◌-◌, ◌*◌, ◌^◌, nat_le, nat_lt, ◌==◌, not, ◌&&◌, ◌||◌, Bool, false, ℤ, pos, neg_ℤ, int_le, List, [], ◌∷◌, length, fold, Option, Some, None, if◌then◌else◌}
use Rattle.std.specs.List.{list_all}

-- the byte is a decimal digit
abbrev pub is_digit : ℕ → Bool
is_digit byte = nat_le 48 byte && nat_le byte 57

-- digits without a leading zero, 0 alone being zero
abbrev pub is_plain : List ℕ → Bool
is_plain [] = false
is_plain (digit ∷ digits) =
    list_all is_digit (digit ∷ digits) && (not (digit == 48) || (length digits == 0))

-- the number of such digits
abbrev pub natural_of : List ℕ → Option ℕ
natural_of digits =
    if is_plain digits then Some (fold (λ n digit. n * 10 + (digit - 48)) 0 digits) else None

-- a number without a sign, in range
abbrev pub positive : Option ℕ → Option ℤ
positive None = None
positive (Some n) = if nat_lt n (2 ^ 63) then Some (pos n) else None

-- a number behind a minus sign, in range; there is no negative zero
abbrev pub negative : Option ℕ → Option ℤ
negative None = None
negative (Some n) = if nat_lt 0 n && nat_le n (2 ^ 63) then Some (neg_ℤ (pos n)) else None

-- the number that a text spells
abbrev pub integer_of : List ℕ → Option ℤ
integer_of [] = None
integer_of (first ∷ rest) =
    if first == 45 then negative (natural_of rest) else positive (natural_of (first ∷ rest))

-- the number has 64 bits
abbrev pub is_in_range : ℤ → Bool
is_in_range n = int_le (neg_ℤ (pos (2 ^ 63))) n && int_le n (pos (2 ^ 63 - 1))
