-- Entries of eight bytes each that are all zero.
use Rattle.std.proofs.Common.{◌≡◌, ℕ, zero, suc, ◌+◌, ◌-◌, ◌*◌, ◌<◌, ◌≤◌, List, [], ◌∷◌, take, drop, get_or, replicate, None, refl, sym, subst, ◌∙◌, arith, get_or-drop, get_or-take}
use Rattle.std.specs.Prelude.{true, nat_eq}
use Rattle.std.specs.Cmp.Lexicographic.{pointwise}
use Rattle.std.proofs.lemmas.Bool.{and_parts, eqb-true, false≢true}
use Rattle.vm_base.specs.FlatMemory.{zero_page}
use Rattle.table_levels.specs.Tables.{entry_at}
use Rattle.table_levels.proofs.TableLemmas.{entry_same, entry_at-zeros, zero_byte}

-- lists that a comparison finds equal have the same bytes
same_bytes : (xs ys : List ℕ) → pointwise nat_eq xs ys ≡ true → (k : ℕ) → get_or xs k 0 ≡ get_or ys k 0
same_bytes [] [] same k = refl
same_bytes [] (y ∷ ys) same k = absurd (false≢true same)
same_bytes (x ∷ xs) [] same k = absurd (false≢true same)
same_bytes (x ∷ xs) (y ∷ ys) same zero = eqb-true x y (and_parts (nat_eq x y) (pointwise nat_eq xs ys) same).0
same_bytes (x ∷ xs) (y ∷ ys) same (suc k) = same_bytes xs ys (and_parts (nat_eq x y) (pointwise nat_eq xs ys) same).1 k

-- entries whose bytes are all zero name nothing
pub bare_entry : (bytes : List ℕ) (begin count n : ℕ) → n ≡ 8 * count
    → pointwise nat_eq (take n (drop (8 * begin) bytes)) (replicate (8 * count) 0) ≡ true
    → (k : ℕ) → begin ≤ k → k < begin + count → entry_at bytes k ≡ None
bare_entry bytes begin count n size same k above below = entry_same bytes zero_page k (λ j le lt.
    let place : 8 * begin + (j - 8 * begin) ≡ j = omega (arith, above) in
    let small : j - 8 * begin < n = omega (arith, size, below) in
    let zero_there : get_or (take n (drop (8 * begin) bytes)) (j - 8 * begin) 0 ≡ 0 = same_bytes (take n (drop (8 * begin) bytes))
    (replicate (8 * count) 0) same (j - 8 * begin)
    ∙ zero_byte (8 * count) (j - 8 * begin) in
    subst (λ i. get_or bytes i 0 ≡ get_or zero_page j 0) place
    (sym (get_or-drop (8 * begin) bytes (j - 8 * begin) 0) ∙ sym (get_or-take n (drop (8 * begin) bytes) (j - 8 * begin) 0 small)
    ∙ zero_there
    ∙ sym (zero_byte 4096 j)))
    ∙ entry_at-zeros k
