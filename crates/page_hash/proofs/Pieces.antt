-- Ranges that are read and compared piece by piece.
use Rattle.std.proofs.Common.{◌≡◌, ℕ, ◌+◌, ◌-◌, ◌≤◌, Bool, true, false, not, List, ◌++◌, length, take, drop, refl, sym, ◌∙◌, ap, arith, length-append}
use Rattle.std.specs.Prelude.{◌&&◌}
use Rattle.std.specs.Str.{bytes_eq}
use Rattle.std.proofs.Math.Seq.{take-add, take-append_seam, take-length}
use Rattle.std.proofs.lemmas.Bool.{false≢true}
use Rattle.std.proofs.lemmas.List.{length-take-le, length-drop, take-append-drop}
use Rattle.std.proofs.lemmas.Slice.Eq.{bytes_eq-Decides}
use Rattle.byteorder.specs.Endian.{big_number}
use Rattle.byteorder.specs.Numbers.{big_from-take}
use Rattle.vm_base.specs.FlatMemory.{FlatMemory, PageMap, bytes_at}
use Rattle.vm_base.proofs.FlatBytes.{bytes_at-split, length-bytes_at}
use Rattle.store_meaning.specs.Layout.{heap_end}
use Rattle.page_hash.proofs.FrontReads.{part_in, number_in, bytes_eq-append}
use Rattle.page_hash.specs.Walks.{IsFrontOf, front_of}

-- a piece that was read into the front of a buffer
pub piece_read : (present : PageMap) (at size : ℕ) (old new : List ℕ) → size ≤ length old
    → new ≡ bytes_at present at (length (take size old)) → take size (new ++ drop size old) ≡ bytes_at present at size
piece_read present at size old new room read =
    let is : new ≡ bytes_at present at size = read ∙ ap (bytes_at present at) (length-take-le size old room) in
    let long : length new ≡ size = ap length is ∙ length-bytes_at present at size in
    ap (λ n. take n (new ++ drop size old)) (sym long) ∙ take-append_seam new (drop size old) ∙ is

-- so the buffer keeps its length
pub buffer_kept : (size : ℕ) (old new : List ℕ) → size ≤ length old → length new ≡ length (take size old)
    → length (new ++ drop size old) ≡ length old
buffer_kept size old new room long =
    omega (arith, length-append new (drop size old), length-drop size old, length-take-le size old room, long)

not_false : (b : Bool) → not b ≡ false → b ≡ true
not_false true is = refl
not_false false is = absurd (false≢true (sym is))

not_is_true : (b : Bool) → not b ≡ true → b ≡ true → ⊥
not_is_true true is = λ same. false≢true is
not_is_true false is = λ same. false≢true same

-- one more piece that is the same
pub more_bytes : (present : PageMap) (at done size : ℕ) (bytes piece : List ℕ) → bytes_at present at done ≡ take done bytes
    → piece ≡ bytes_at present (at + done) size → not (bytes_eq piece (take (done + size - done) (drop done bytes))) ≡ false
    → bytes_at present at (done + size) ≡ take (done + size) bytes
more_bytes present at done size bytes piece so_far read same =
    let here : piece ≡ take (done + size - done) (drop done bytes) =
    (bytes_eq-Decides piece (take (done + size - done) (drop done bytes))).0
    (not_false (bytes_eq piece (take (done + size - done) (drop done bytes))) same) in
    let some : done + size - done ≡ size = omega arith in
    bytes_at-split present at done size ∙ ap (λ l. l ++ bytes_at present (at + done) size) so_far
    ∙ ap (λ l. take done bytes ++ l) (sym read ∙ here ∙ ap (λ n. take n (drop done bytes)) some) ∙ sym (take-add done size bytes)

-- a piece that is another one
pub other_bytes : (present : PageMap) (at done size : ℕ) (bytes piece : List ℕ) → done + size ≤ length bytes
    → piece ≡ bytes_at present (at + done) size → not (bytes_eq piece (take (done + size - done) (drop done bytes))) ≡ true
    → false ≡ bytes_eq (bytes_at present at (length bytes)) bytes
other_bytes present at done size bytes piece within read other =
    sym (by (bytes_eq (bytes_at present at (length bytes)) bytes) (λ same.
    let all : bytes_at present at (length bytes) ≡ bytes = (bytes_eq-Decides (bytes_at present at (length bytes)) bytes).0 same in
    let whole : length bytes ≤ length bytes = omega arith in
    let some : done + size - done ≡ size = omega arith in
    let taken : take (length bytes) bytes ≡ bytes_at present at (length bytes) = take-length bytes ∙ sym all in
    not_is_true (bytes_eq piece (take (done + size - done) (drop done bytes))) other
    ((bytes_eq-Decides piece (take (done + size - done) (drop done bytes))).1
    (read ∙ sym (part_in present at (length bytes) done size bytes whole taken within)
    ∙ ap (λ n. take n (drop done bytes)) (sym some)))))
  where
    by : (b : Bool) → (b ≡ true → ⊥) → b ≡ false
    by true never = absurd (never refl)
    by false never = refl

-- all of them are the same
pub all_bytes : (present : PageMap) (at done : ℕ) (bytes : List ℕ) → bytes_at present at done ≡ take done bytes → done ≤ length bytes
    → length bytes ≤ done → true ≡ bytes_eq (bytes_at present at (length bytes)) bytes
all_bytes present at done bytes so_far within all =
    let whole : length bytes ≡ done = omega (arith, within, all) in
    sym ((bytes_eq-Decides (bytes_at present at (length bytes)) bytes).1
    (ap (bytes_at present at) whole ∙ so_far ∙ ap (λ n. take n bytes) (sym whole) ∙ take-length bytes))

-- a number in the front of a buffer, whose rest is read from its own place on
pub number_part : (present : PageMap) (at size offset n m : ℕ) (front : List ℕ) → size ≤ length front
    → take size front ≡ bytes_at present at size → offset + n ≤ size → n ≤ m
    → big_number n (take m (drop offset front)) ≡ big_number n (bytes_at present (at + offset) n)
number_part present at size offset n m front room read fits more =
    big_from-take 0 n m (drop offset front) (omega (arith, more)) ∙ number_in present at size offset n front room read fits

-- a word of a range that was read whole
pub word_in : (present : PageMap) (at size offset m : ℕ) (fields : List ℕ) → fields ≡ bytes_at present at size → offset + 8 ≤ size
    → 8 ≤ m → big_number 8 (take m (drop offset fields)) ≡ big_number 8 (bytes_at present (at + offset) 8)
word_in present at size offset m fields read fits more =
    let long : length fields ≡ size = ap length read ∙ length-bytes_at present at size in
    let room : size ≤ length fields = omega (arith, long) in
    number_part present at size offset 8 m fields room (ap (λ n. take n fields) (sym long) ∙ take-length fields ∙ read) fits more

-- the part of a key that stands in the front of its block
pub key_piece : (memory : FlatMemory) (at key_length first : ℕ) (front : List ℕ) → IsFrontOf memory at key_length front
    → at + 16 + key_length ≤ heap_end → first ≤ key_length → first ≤ 256
    → take (16 + first - 16) (drop 16 front) ≡ bytes_at memory.present (at + 16) first
key_piece memory at key_length first front is within few small =
    let some : 16 + first - 16 ≡ first = omega arith in
    ap (λ n. take n (drop 16 front)) some
    ∙ part_in memory.present at (front_of key_length) 16 first front (omega (arith, is.room)) (is.key within) (omega (arith, few, small))

-- where the first bytes are others, all are
pub other_front : (present : PageMap) (at first : ℕ) (key piece : List ℕ) → first ≤ length key → piece ≡ bytes_at present at first
    → not (bytes_eq piece (take first key)) ≡ true → false ≡ bytes_eq (bytes_at present at (length key)) key
other_front present at first key piece few read other =
    let none : at + 0 ≡ at = omega arith in
    let some : 0 + first - 0 ≡ first = omega arith in
    other_bytes present at 0 first key piece (omega (arith, few)) (read ∙ ap (λ a. bytes_at present a first) (sym none))
    (ap (λ n. not (bytes_eq piece (take n key))) some ∙ other)

-- where the first bytes are the same, the rest decides
pub same_front : (present : PageMap) (at first : ℕ) (key piece : List ℕ) → first ≤ length key → piece ≡ bytes_at present at first
    → not (bytes_eq piece (take first key)) ≡ false
    → bytes_eq (bytes_at present (at + first) (length (drop first key))) (drop first key) ≡ bytes_eq (bytes_at present at (length key)) key
same_front present at first key piece few read same =
    let here : bytes_eq piece (take first key) ≡ true = not_false (bytes_eq piece (take first key)) same in
    let rest = bytes_eq (bytes_at present (at + first) (length (drop first key))) (drop first key) in
    let count : length key ≡ first + length (drop first key) = omega (arith, length-drop first key, few) in
    let long : length (bytes_at present at first) ≡ length (take first key) =
    length-bytes_at present at first ∙ sym (length-take-le first key few) in
    sym (ap (λ n. bytes_eq (bytes_at present at n) key) count
    ∙ ap (λ l. bytes_eq l key) (bytes_at-split present at first (length (drop first key)))
    ∙ ap (bytes_eq (bytes_at present at first ++ bytes_at present (at + first) (length (drop first key))))
    (sym (take-append-drop first key))
    ∙ bytes_eq-append (bytes_at present at first) (take first key) (bytes_at present (at + first) (length (drop first key)))
    (drop first key) long
    ∙ ap (λ b. b && rest) (ap (λ l. bytes_eq l (take first key)) (sym read) ∙ here))
