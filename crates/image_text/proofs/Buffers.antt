-- Laws of pairs that lie in one buffer.
use Rattle.std.proofs.Common.{◌≡◌, ℕ, ◌+◌, ◌-◌, ◌<◌, ◌≤◌, zero, suc, List, [], ◌∷◌, ◌++◌, length, get_or, take, drop, refl, sym, ap, ◌∙◌, arith, length-append}
use Rattle.std.proofs.lemmas.List.{take_all, take_at, drop_at, drop-append-le, take-append-le, length-drop, append_assoc, drop-drop}
use Rattle.std.proofs.Math.Seq.{take-add}
use Rattle.image_text.specs.Pairs.{pairs_between, ArePairEnds, pair_start}
use Rattle.image_text.specs.declared.pair_end.PairEnd.{PairEnd}

-- there are as many pairs as ends
pub length-pairs_between : (from : ℕ) (bytes : List ℕ) (ends : List PairEnd) →
    length (pairs_between from bytes ends) ≡ length ends
length-pairs_between from bytes [] = refl
length-pairs_between from bytes (end ∷ ends) = ap suc (length-pairs_between end.value bytes ends)

-- the last end is not before the first pair
pub ArePairEnds-le : (from : ℕ) (ends : List PairEnd) (len : ℕ) → ArePairEnds from ends len →
    from ≤ len
ArePairEnds-le from [] len h = omega (arith, h)
ArePairEnds-le from (end ∷ ends) len h = omega
    (arith, h.0, h.1, ArePairEnds-le end.value ends len h.2)

-- one more end at the end of a longer buffer
pub ArePairEnds-push : (from : ℕ) (ends : List PairEnd) (len : ℕ) (end : PairEnd) →
    len ≤ end.key → end.key ≤ end.value → ArePairEnds from ends len →
    ArePairEnds from (ends ++ end ∷ []) end.value
ArePairEnds-push from [] len end low high h = (omega (arith, h, low), high, refl)
ArePairEnds-push from (e ∷ ends) len end low high h =
    (h.0, h.1, ArePairEnds-push e.value ends len end low high h.2)

-- where a pair begins, where its key and where its value ends
pub ArePairEnds-at : (from : ℕ) (ends : List PairEnd) (len i : ℕ) (d : PairEnd) →
    i < length ends → ArePairEnds from ends len →
    (pair_start from ends i ≤ (get_or ends i d).key)
    × ((get_or ends i d).key ≤ (get_or ends i d).value) × ((get_or ends i d).value ≤ len)
ArePairEnds-at from [] len i d lt h = absurd (omega (arith, lt))
ArePairEnds-at from (end ∷ ends) len zero d lt h = (h.0, h.1, ArePairEnds-le end.value ends len h.2)
ArePairEnds-at from (end ∷ ends) len (suc i) d lt h = ArePairEnds-at end.value ends len i d
    (omega (arith, lt)) h.2

-- a part of a buffer is the same in a longer one
part_of_longer : (from to : ℕ) (bytes more : List ℕ) → from ≤ to → to ≤ length bytes →
    take (to - from) (drop from (bytes ++ more)) ≡ take (to - from) (drop from bytes)
part_of_longer from to bytes more order within =
    let enough : to - from ≤ length (drop from bytes) = omega
    (arith, length-drop from bytes, within) in
    ap (take (to - from)) (drop-append-le from bytes more (omega (arith, order, within)))
    ∙ take-append-le (to - from) (drop from bytes) more enough

-- the key and the value behind the last pair, and their ends
pub pairs_between-push : (from : ℕ) (bytes key value : List ℕ) (ends : List PairEnd)
    (end : PairEnd) → end.key ≡ length bytes + length key →
    end.value ≡ length bytes + length key + length value → ArePairEnds from ends (length bytes) →
    pairs_between from (bytes ++ (key ++ value))
    (ends ++ end ∷ []) ≡ pairs_between from bytes ends ++ (key, value) ∷ []
pairs_between-push from bytes key value [] end k v h =
    let behind : drop from (bytes ++ (key ++ value)) ≡ key ++ value = drop_at bytes
    (key ++ value) from (sym h) in
    let first : take (end.key - from) (drop from (bytes ++ (key ++ value))) ≡ key = ap (take
    (end.key - from)) behind ∙ take_at key value (end.key - from) (omega (arith, k, h)) in
    let past : drop end.key (bytes ++ (key ++ value)) ≡ value =
    ap (drop end.key) (sym (append_assoc bytes key value))
    ∙ drop_at (bytes ++ key) value end.key (omega (arith, k, length-append bytes key)) in
    let second : take (end.value - end.key) (drop end.key (bytes ++ (key ++ value))) ≡ value = ap
    (take (end.value - end.key)) past ∙ take_all (end.value - end.key) value (omega
    (arith, k, v)) in
    cc
pairs_between-push from bytes key value (e ∷ ends) end k v h =
    let within : e.value ≤ length bytes = ArePairEnds-le e.value ends (length bytes) h.2 in
    let first = part_of_longer from e.key bytes (key ++ value) h.0 (omega (arith, h.1, within)) in
    let second = part_of_longer e.key e.value bytes (key ++ value) h.1 within in
    let others = pairs_between-push e.value bytes key value ends end k v h.2 in
    cc

-- the pair at a place
pub get_or-pairs_between : (from : ℕ) (bytes : List ℕ) (ends : List PairEnd) (i : ℕ) (d : List ℕ
    × List ℕ) (e : PairEnd) → i < length ends →
    get_or (pairs_between from bytes ends) i d ≡ (
      take
          ((get_or ends i e).key - pair_start from ends i) (drop
          (pair_start from ends i) bytes),
      take ((get_or ends i e).value - (get_or ends i e).key)
          (drop (get_or ends i e).key bytes),
    )
get_or-pairs_between from bytes [] i d e lt = absurd (omega (arith, lt))
get_or-pairs_between from bytes (end ∷ ends) zero d e lt = refl
get_or-pairs_between from bytes (end ∷ ends)
    (suc i) d e lt = get_or-pairs_between end.value bytes ends i d e (omega (arith, lt))

-- a pair begins where the one before it ends
pub pair_start-suc : (from : ℕ) (ends : List PairEnd) (i : ℕ) (d : PairEnd) → i < length ends →
    pair_start from ends (suc i) ≡ (get_or ends i d).value
pair_start-suc from [] i d lt = absurd (omega (arith, lt))
pair_start-suc from (end ∷ ends) zero d lt = refl
pair_start-suc from (end ∷ ends) (suc i) d lt = pair_start-suc end.value ends i d (omega
    (arith, lt))

-- a key and the value behind it are one part of the buffer
pub key_then_value : (bytes : List ℕ) (from key value : ℕ) → from ≤ key → key ≤ value →
    value ≤ length bytes →
    take (value - from) (drop from bytes) ≡ take (key - from) (drop from bytes) ++ take
    (value - key) (drop key bytes)
key_then_value bytes from key value first second within =
    ap (λ (n : ℕ). take n (drop from bytes)) (omega (arith, first, second))
    ∙ take-add (key - from) (value - key) (drop from bytes)
    ∙ ap (λ (t : List ℕ). take (key - from) (drop from bytes) ++ take (value - key) t) (drop-drop
    (key - from) from bytes ∙ ap (λ (n : ℕ). drop n bytes) (omega (arith, first)))
