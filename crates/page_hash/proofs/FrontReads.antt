-- Numbers and bytes in the front of a block that was read into a longer buffer.
use Rattle.std.proofs.Common.{◌≡◌, ℕ, ◌+◌, ◌<◌, ◌≤◌, List, [], ◌∷◌, ◌++◌, length, take, drop, get_or, sym, ◌∙◌, ap, arith, eqb, refl, true, false}
use Rattle.std.specs.Str.{bytes_eq}
use Rattle.std.specs.Prelude.{◌&&◌}
use Rattle.std.proofs.lemmas.List.{same_lists, length-take-le, length-drop, get_or-take, get_or-drop}
use Rattle.std.proofs.lemmas.List.FromFn.{get_or-map-range_with_len}
use Rattle.byteorder.specs.Endian.{big_number}
use Rattle.byteorder.specs.Numbers.{big_from-take}
use Rattle.vm_base.specs.FlatMemory.{PageMap, byte_at, bytes_at}
use Rattle.vm_base.proofs.FlatBytes.{length-bytes_at}

-- a part of the bytes in the front of a buffer
pub part_in : (present : PageMap) (at size offset n : ℕ) (front : List ℕ) → size ≤ length front
    → take size front ≡ bytes_at present at size → offset + n ≤ size
    → take n (drop offset front) ≡ bytes_at present (at + offset) n
part_in present at size offset n front room read fits =
    let long : n ≤ length (drop offset front) = omega (arith, length-drop offset front, room, fits) in
    let long_is : length (take n (drop offset front)) ≡ n = length-take-le n (drop offset front) long in
    same_lists _ _ (long_is ∙ sym (length-bytes_at present (at + offset) n)) (λ k d small.
    let inside : k < n = omega (arith, small, long_is) in
    get_or-take n (drop offset front) k d inside ∙ get_or-drop offset front k d
    ∙ sym (get_or-take size front (offset + k) d (omega (arith, inside, fits))) ∙ ap (λ l. get_or l (offset + k) d) read
    ∙ get_or-map-range_with_len (byte_at present) at size (offset + k) (at + (offset + k)) d (omega (arith, inside, fits)) refl
    ∙ ap (byte_at present) (omega arith)
    ∙ sym (get_or-map-range_with_len (byte_at present) (at + offset) n k (at + offset + k) d inside refl))

-- a number among them
pub number_in : (present : PageMap) (at size offset n : ℕ) (front : List ℕ) → size ≤ length front
    → take size front ≡ bytes_at present at size → offset + n ≤ size
    → big_number n (drop offset front) ≡ big_number n (bytes_at present (at + offset) n)
number_in present at size offset n front room read fits =
    sym (big_from-take 0 n n (drop offset front) (omega arith)) ∙ ap (big_number n) (part_in present at size offset n front room read fits)

-- two lists in two parts of the same lengths are compared part by part
pub bytes_eq-append : (xs us ys vs : List ℕ) → length xs ≡ length us
    → bytes_eq (xs ++ ys) (us ++ vs) ≡ (bytes_eq xs us && bytes_eq ys vs)
bytes_eq-append [] [] ys vs same = refl
bytes_eq-append [] (u ∷ us) ys vs same = absurd (omega (arith, same))
bytes_eq-append (x ∷ xs) [] ys vs same = absurd (omega (arith, same))
bytes_eq-append (x ∷ xs) (u ∷ us) ys vs same = elim (eqb x u)
    as (λ b. (b && bytes_eq (xs ++ ys) (us ++ vs)) ≡ ((b && bytes_eq xs us) && bytes_eq ys vs)) [
      | true ↦ bytes_eq-append xs us ys vs (omega (arith, same))
      | false ↦ refl
    ]
