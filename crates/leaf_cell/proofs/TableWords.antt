-- The words of a table, and the places that they hold.
use Rattle.std.proofs.Common.{◌≡◌, ◌≢◌, ℕ, zero, suc, ◌+◌, ◌-◌, ◌*◌, ◌^◌, ◌<◌, ◌≤◌, List, [], ◌∷◌, ◌++◌, length, take, drop, replicate, get_or, Option, Some, None, refl, sym, ◌∙◌, ap, arith, inl, inr, ◌⊎◌, append_assoc, subst}
use Rattle.std.specs.Prelude.{slice_set, slice_index, cond, Bool, true, false, ◌==◌, bit_and, bit_or}
use Rattle.std.proofs.Math.ListN.{get_or-append}
use Rattle.std.proofs.Math.Seq.{get_or-append_right, drop-append_seam}
use Rattle.std.proofs.lemmas.Bool.{cases_eq, cases_lt}
use Rattle.std.proofs.lemmas.List.{length-append, length-drop, length-take-le, length-set, get_or-set_same, get_or-set_other, get_or-replicate, length-replicate, get_or-take, get_or-drop, get_or_past}
use Rattle.std.proofs.lemmas.List.FromFn.{length-map-range_with_len, get_or-map-range_with_len, fill_by_all}
use Rattle.byteorder.specs.Endian.{little_from, little_number, little_bytes}
use Rattle.byteorder.specs.Numbers.{little_number-reads_back, length-bytes_low_first}
use Rattle.vm_base.specs.Entries.{entry_of, number_of, bits_of}
use Rattle.vm_base.specs.FlatMemory.{spliced, zero_page}
use Rattle.vm_base.proofs.EntryLemmas.{bits_of-entry}
use Rattle.kernel_meaning.specs.Leaves.{no_versions, version_at, without_versions}
use Rattle.leaf_cell.specs.Places.{IsLeafEntry, word_at, with_word, without_words, place_in, places_of, entry_may_write, writable_of}
use Rattle.leaf_cell.specs.Writable.{none_writable, writable_at, without_writable}
use Rattle.leaf_cell.proofs.WritablePages.{beyond-within, beyond-outside, with_writable-is}
use Rattle.leaf_cell.proofs.Without.{in-or-out, length-without, without-within, without-outside}

-- a number depends on its bytes alone
pub little_from-same : (xs ys : List ℕ) (i n : ℕ) → ((j : ℕ) → i ≤ j → j < i + n → slice_index xs j ≡ slice_index ys j) → little_from i n xs ≡ little_from i n ys
little_from-same xs ys i zero same = refl
little_from-same xs ys i (suc n) same =
    let first : slice_index xs i ≡ slice_index ys i = same i (omega arith) (omega arith) in
    let rest : little_from (suc i) n xs ≡ little_from (suc i) n ys = little_from-same xs ys (suc i) n (λ j above below. same j (omega arith) (omega arith)) in
    ap (λ b. b + 256 * little_from (suc i) n xs) first ∙ ap (λ r. slice_index ys i + 256 * r) rest

module _ (bytes : List ℕ) (at : ℕ) (new : List ℕ) (fits : at + length new ≤ length bytes) where
  -- where the front of a spliced list ends
  front : length (take at bytes) ≡ at
  front = length-take-le at bytes (omega arith)

  parts : spliced bytes at new ≡ take at bytes ++ (new ++ drop (at + length new) bytes)
  parts = append_assoc (take at bytes) new (drop (at + length new) bytes)

  drop-front : drop at (spliced bytes at new) ≡ new ++ drop (at + length new) bytes
  drop-front = ap (λ n. drop n (spliced bytes at new)) (sym front) ∙ ap (drop (length (take at bytes))) parts ∙ drop-append_seam (take at bytes) (new ++ drop (at + length new) bytes)

  spliced-below : (k : ℕ) → k < at → slice_index (spliced bytes at new) k ≡ slice_index bytes k
  spliced-below k below =
      let small : k < length (take at bytes) = omega (arith, front) in
      ap (λ xs. slice_index xs k) parts ∙ get_or-append (take at bytes) (new ++ drop (at + length new) bytes) 0 k small ∙ get_or-take at bytes k 0 below

  spliced-above : (k : ℕ) → at + length new ≤ k → slice_index (spliced bytes at new) k ≡ slice_index bytes k
  spliced-above k above =
      let far : length (take at bytes) ≤ k = omega (arith, front) in
      let far_too : length new ≤ k - length (take at bytes) = omega (arith, front) in
      let place : at + length new + (k - length (take at bytes) - length new) ≡ k = omega (arith, front) in
      ap (λ xs. slice_index xs k) parts ∙ get_or-append_right (take at bytes) (new ++ drop (at + length new) bytes) k 0 far
      ∙ get_or-append_right new (drop (at + length new) bytes) (k - length (take at bytes)) 0 far_too
      ∙ get_or-drop (at + length new) bytes (k - length (take at bytes) - length new) 0
      ∙ ap (λ i. get_or bytes i 0) place

  spliced-within : (k : ℕ) → at ≤ k → k < at + length new → slice_index (spliced bytes at new) k ≡ slice_index new (k - at)
  spliced-within k above below =
      let far : length (take at bytes) ≤ k = omega (arith, front) in
      let place : k - length (take at bytes) ≡ k - at = omega (arith, front) in
      ap (λ xs. slice_index xs k) parts ∙ get_or-append_right (take at bytes) (new ++ drop (at + length new) bytes) k 0 far
      ∙ ap (λ i. get_or (new ++ drop (at + length new) bytes) i 0) place
      ∙ get_or-append new (drop (at + length new) bytes) 0 (k - at) (omega arith)

  -- and it is as long as it was
  pub length-spliced : length (spliced bytes at new) ≡ length bytes
  length-spliced = ap length parts ∙ length-append (take at bytes) (new ++ drop (at + length new) bytes) ∙ omega (arith, front, fits, length-append new (drop (at + length new) bytes), length-drop (at + length new) bytes)

-- the word that was put is there
word_at-here : (bytes : List ℕ) (i word : ℕ) → length bytes ≡ 4096 → i < 512 → word < 2 ^ 64 → word_at (with_word bytes i word) i ≡ word
word_at-here bytes i word whole small fits =
    let size : length (little_bytes 8 word) ≡ 8 = length-bytes_low_first 0 8 word in
    let room : 8 * i + length (little_bytes 8 word) ≤ length bytes = omega (arith, size) in
    ap (little_number 8) (drop-front bytes (8 * i) (little_bytes 8 word) room)
    ∙ little_number-reads_back 8 word (drop (8 * i + length (little_bytes 8 word)) bytes) fits

-- and no other word has changed
word_at-apart : (bytes : List ℕ) (i word k : ℕ) → length bytes ≡ 4096 → i < 512 → k < 512 → k ≢ i → word_at (with_word bytes i word) k ≡ word_at bytes k
word_at-apart bytes i word k whole small small_too apart =
    let size : length (little_bytes 8 word) ≡ 8 = length-bytes_low_first 0 8 word in
    let room : 8 * i + length (little_bytes 8 word) ≤ length bytes = omega (arith, size) in
    little_from-same (drop (8 * k) (with_word bytes i word)) (drop (8 * k) bytes) 0 8 (λ j above below.
    get_or-drop (8 * k) (with_word bytes i word) j 0
    ∙ elim (cases_lt k i) [
      | inl less ↦ spliced-below bytes (8 * i) (little_bytes 8 word) room (8 * k + j) (omega arith)
      | inr more ↦ spliced-above bytes (8 * i) (little_bytes 8 word) room (8 * k + j) (omega (arith, size, apart))
    ]
    ∙ sym (get_or-drop (8 * k) bytes j 0))

pub length-with_word : (bytes : List ℕ) (page word : ℕ) → length bytes ≡ 4096 → page < 512 → length (with_word bytes page word) ≡ 4096
length-with_word bytes page word whole small =
    let size : length (little_bytes 8 word) ≡ 8 = length-bytes_low_first 0 8 word in
    length-spliced bytes (8 * page) (little_bytes 8 word) (omega (arith, size)) ∙ whole

-- an entry that was put leaves the others what they are
pub entries-with_word : (bytes : List ℕ) (page word : ℕ) → length bytes ≡ 4096 → page < 512 → word < 2 ^ 64 → IsLeafEntry word → ((k : ℕ) → k < 512 → IsLeafEntry (word_at bytes k))
    → (k : ℕ) → k < 512 → IsLeafEntry (word_at (with_word bytes page word) k)
entries-with_word bytes page word whole small fits entry entries k below = elim (cases_eq k page) [
  | inl here ↦ subst IsLeafEntry (sym (ap (word_at (with_word bytes page word)) here ∙ word_at-here bytes page word whole small fits)) entry
  | inr apart ↦ subst IsLeafEntry (sym (word_at-apart bytes page word k whole small below apart)) (entries k below)
]

-- the place of a page that a table holds
pub version_at-places_of : (bytes : List ℕ) (page : ℕ) → page < 512 → version_at (places_of bytes) page ≡ place_in (word_at bytes page)
unfolding places_of
version_at-places_of bytes page small = get_or-map-range_with_len (λ i. place_in (word_at bytes i)) 0 512 page page None small (omega arith)

pub length-places_of : (bytes : List ℕ) → length (places_of bytes) ≡ 512
unfolding places_of
length-places_of bytes = length-map-range_with_len (λ i. place_in (word_at bytes i)) 0 512

-- a list that holds the places of a table, page by page, is that of the table
filled : (bytes : List ℕ) (places : List (Option ℕ)) → length places ≡ 512 → ((page : ℕ) → page < 512 → get_or places page None ≡ place_in (word_at bytes page)) → places ≡ places_of bytes
unfolding places_of
filled bytes places size each = fill_by_all (λ i. place_in (word_at bytes i)) places 512 None size each

-- a word that was put changes the place of its page alone
pub places_of-with_word : (bytes : List ℕ) (page word : ℕ) → length bytes ≡ 4096 → page < 512 → word < 2 ^ 64 → places_of (with_word bytes page word) ≡ slice_set (places_of bytes) page (place_in word)
places_of-with_word bytes page word whole small fits = sym (filled (with_word bytes page word) (slice_set (places_of bytes) page (place_in word))
    (length-set (places_of bytes) page (place_in word) ∙ length-places_of bytes)
    (λ k below. elim (cases_eq k page) [
      | inl here ↦ ap (λ i. get_or (slice_set (places_of bytes) page (place_in word)) i None) here
          ∙ get_or-set_same (places_of bytes) page (place_in word) None (rw (length-places_of bytes) small)
          ∙ sym (ap (λ i. place_in (word_at (with_word bytes page word) i)) here ∙ ap place_in (word_at-here bytes page word whole small fits))
      | inr apart ↦ get_or-set_other (places_of bytes) page k (place_in word) None apart
          ∙ version_at-places_of bytes k below
          ∙ sym (ap place_in (word_at-apart bytes page word k whole small below apart))
    ]))

-- whether a page may be written to, as a table tells
pub writable_at-writable_of : (bytes : List ℕ) (page : ℕ) → page < 512 → writable_at (writable_of bytes) page ≡ entry_may_write (word_at bytes page)
unfolding writable_of
writable_at-writable_of bytes page small = get_or-map-range_with_len (λ i. entry_may_write (word_at bytes i)) 0 512 page page false small (omega arith)

pub length-writable_of : (bytes : List ℕ) → length (writable_of bytes) ≡ 512
unfolding writable_of
length-writable_of bytes = length-map-range_with_len (λ i. entry_may_write (word_at bytes i)) 0 512

-- a list that tells of each page what a table tells is that of the table
told : (bytes : List ℕ) (writable : List Bool) → length writable ≡ 512 → ((page : ℕ) → page < 512 → writable_at writable page ≡ entry_may_write (word_at bytes page)) → writable ≡ writable_of bytes
unfolding writable_of
told bytes writable size each = fill_by_all (λ i. entry_may_write (word_at bytes i)) writable 512 false size each

-- a word that was put changes it for its page alone
pub writable_of-with_word : (bytes : List ℕ) (page word : ℕ) → length bytes ≡ 4096 → page < 512 → word < 2 ^ 64 → writable_of (with_word bytes page word) ≡ slice_set (writable_of bytes) page (entry_may_write word)
writable_of-with_word bytes page word whole small fits = sym (told (with_word bytes page word) (slice_set (writable_of bytes) page (entry_may_write word))
    (length-set (writable_of bytes) page (entry_may_write word) ∙ length-writable_of bytes)
    (λ k below. elim (cases_eq k page) [
      | inl here ↦ ap (λ i. get_or (slice_set (writable_of bytes) page (entry_may_write word)) i false) here
          ∙ get_or-set_same (writable_of bytes) page (entry_may_write word) false (rw (length-writable_of bytes) small)
          ∙ sym (ap (λ i. entry_may_write (word_at (with_word bytes page word) i)) here ∙ ap entry_may_write (word_at-here bytes page word whole small fits))
      | inr apart ↦ get_or-set_other (writable_of bytes) page k (entry_may_write word) false apart
          ∙ writable_at-writable_of bytes k below
          ∙ sym (ap entry_may_write (word_at-apart bytes page word k whole small below apart))
    ]))

-- zeros hold no place
pub zero_byte : (i : ℕ) → slice_index zero_page i ≡ 0
zero_byte i = elim (cases_lt i 4096) [
  | inl small ↦ get_or-replicate 4096 i 0 0 small
  | inr large ↦ get_or_past zero_page i 0 large
]

pub zero_word : (i : ℕ) → word_at zero_page i ≡ 0
zero_word i = little_from-same (drop (8 * i) zero_page) [] 0 8 (λ j above below. get_or-drop (8 * i) zero_page j 0 ∙ zero_byte (8 * i + j))

pub places_of-zeros : places_of zero_page ≡ no_versions
places_of-zeros = sym (filled zero_page no_versions (length-replicate {A = Option ℕ} 512 None) (λ page small. get_or-replicate 512 page None None small ∙ sym (ap place_in (zero_word page))))

pub writable_of-zeros : writable_of zero_page ≡ none_writable
writable_of-zeros = sym (told zero_page none_writable (length-replicate {A = Bool} 512 false) (λ page small. get_or-replicate 512 page false false small ∙ sym (ap entry_may_write (zero_word page))))

pub entries-zeros : (i : ℕ) → i < 512 → IsLeafEntry (word_at zero_page i)
entries-zeros i small = inl (zero_word i)

module _ (bytes : List ℕ) (first n : ℕ) (whole : length bytes ≡ 4096) (range : first + n ≤ 512) where
  zeros : List ℕ
  zeros = replicate (8 * n) 0

  size : length zeros ≡ 8 * n
  unfolding zeros
  size = length-replicate {A = ℕ} (8 * n) 0

  fits : 8 * first + length zeros ≤ length bytes
  fits = omega (arith, size, whole, range)

  -- entries of the range are 0
  word_at-zeroed : (k : ℕ) → first ≤ k → k < first + n → word_at (spliced bytes (8 * first) zeros) k ≡ 0
  unfolding zeros
  word_at-zeroed k above below = little_from-same (drop (8 * k) (spliced bytes (8 * first) zeros)) [] 0 8 (λ j from to. get_or-drop (8 * k) (spliced bytes (8 * first) zeros) j 0
      ∙ spliced-within bytes (8 * first) zeros fits (8 * k + j) (omega arith) (omega (arith, size))
      ∙ get_or-replicate (8 * n) (8 * k + j - 8 * first) 0 0 (omega arith))

  -- and the others are as they were
  word_at-left : (k : ℕ) → k < 512 → (k < first) ⊎ (first + n ≤ k) → word_at (spliced bytes (8 * first) zeros) k ≡ word_at bytes k
  word_at-left k small outside = little_from-same (drop (8 * k) (spliced bytes (8 * first) zeros)) (drop (8 * k) bytes) 0 8 (λ j from to. get_or-drop (8 * k) (spliced bytes (8 * first) zeros) j 0
      ∙ elim outside [
        | inl below ↦ spliced-below bytes (8 * first) zeros fits (8 * k + j) (omega arith)
        | inr above ↦ spliced-above bytes (8 * first) zeros fits (8 * k + j) (omega (arith, size))
      ]
      ∙ sym (get_or-drop (8 * k) bytes j 0))

  pub length-without_words : length (without_words bytes first n) ≡ 4096
  unfolding zeros
  length-without_words = length-spliced bytes (8 * first) zeros fits ∙ whole

  pub entries-without_words : ((k : ℕ) → k < 512 → IsLeafEntry (word_at bytes k)) → (k : ℕ) → k < 512 → IsLeafEntry (word_at (without_words bytes first n) k)
  unfolding zeros
  entries-without_words entries k small = elim (in-or-out first n k) [
    | inl within ↦ inl (word_at-zeroed k within.0 within.1)
    | inr outside ↦ subst IsLeafEntry (sym (word_at-left k small outside)) (entries k small)
  ]

  pub places_of-without_words : places_of (without_words bytes first n) ≡ without_versions (places_of bytes) first n
  unfolding zeros
  places_of-without_words =
      let room : first + n ≤ length (places_of bytes) = omega (arith, range, length-places_of bytes) in
      sym (filled (without_words bytes first n) (without_versions (places_of bytes) first n) (length-without (places_of bytes) first n room ∙ length-places_of bytes)
      (λ k small. elim (in-or-out first n k) [
        | inl within ↦ without-within (places_of bytes) first n room k within.0 within.1 ∙ sym (ap place_in (word_at-zeroed k within.0 within.1))
        | inr outside ↦ without-outside (places_of bytes) first n room k outside ∙ version_at-places_of bytes k small ∙ sym (ap place_in (word_at-left k small outside))
      ]))

  pub writable_of-without_words : writable_of (without_words bytes first n) ≡ without_writable first n (writable_of bytes)
  unfolding zeros
  writable_of-without_words = with_writable-is (λ page. false) first n (writable_of bytes) (writable_of (without_words bytes first n)) (length-writable_of (without_words bytes first n))
      (λ k small. writable_at-writable_of (without_words bytes first n) k small ∙ elim (in-or-out first n k) [
        | inl within ↦ ap entry_may_write (word_at-zeroed k within.0 within.1)
            ∙ sym (ap (λ b. cond b (writable_at (writable_of bytes) k) false) (beyond-within first n k within.0 within.1))
        | inr outside ↦ ap entry_may_write (word_at-left k small outside) ∙ sym (writable_at-writable_of bytes k small)
            ∙ sym (ap (λ b. cond b (writable_at (writable_of bytes) k) false) (beyond-outside first n k outside))
      ])

-- an entry with the bits of a present page, written to or not, holds its place
pub place_in-present : (word place : ℕ) (may : Bool) → word ≡ entry_of place (cond may 3 1) → number_of word ≡ place → place_in word ≡ Some place
place_in-present word place true is number =
    ap (λ bits. cond (bit_or bits 2 == 3) (Some (number_of word)) None) (ap bits_of is ∙ bits_of-entry place 3) ∙ ap Some number
place_in-present word place false is number =
    ap (λ bits. cond (bit_or bits 2 == 3) (Some (number_of word)) None) (ap bits_of is ∙ bits_of-entry place 1) ∙ ap Some number

-- an entry with the bits of a present page tells what they tell
pub may_write-present : (word place : ℕ) (may : Bool) → word ≡ entry_of place (cond may 3 1) → entry_may_write word ≡ may
may_write-present word place true is = ap entry_may_write is ∙ ap (λ bits. bit_and bits 2 == 2) (bits_of-entry place 3)
may_write-present word place false is = ap entry_may_write is ∙ ap (λ bits. bit_and bits 2 == 2) (bits_of-entry place 1)

-- a table with the place at a page that it has there is as it was
pub same-place : (places : List (Option ℕ)) (page place : ℕ) → version_at places page ≡ Some place → slice_set places page (Some place) ≡ places
same-place [] page place there = refl
same-place (o ∷ places) zero place there = ap (λ p. p ∷ places) (sym there)
same-place (o ∷ places) (suc page) place there = ap (λ ps. o ∷ ps) (same-place places page place there)
