-- The entries of a table, read and written.
use Rattle.std.proofs.Common.{◌≡◌, ℕ, zero, suc, ◌+◌, ◌-◌, ◌*◌, ◌^◌, ◌<◌, ◌≤◌, cond, eqb, List, [], ◌∷◌, ◌++◌, length, take, drop, get_or, replicate, Some, None, Option, refl, sym, ◌∙◌, ap, arith, inl, inr, length-drop, get_or-drop, get_or-take, length-take-le, take_all, drop_of_length-le, append-nil, subst}
use Rattle.std.proofs.lemmas.Bool.{cases_lt}
use borrow.Rule.Slice.PartMut.{put_mid}
use Rattle.std.proofs.lemmas.List.{get_or-append_right, get_or_append_left}
use Rattle.byteorder.specs.Endian.{little_from, little_number, little_bytes}
use Rattle.byteorder.specs.Numbers.{little_number-reads_back}
use Rattle.vm_base.specs.Entries.{entry_of, number_of, bits_of}
use Rattle.vm_base.specs.FlatMemory.{zero_page}
use Rattle.vm_base.proofs.EntryLemmas.{number_of-entry, bits_of-entry}
use Rattle.table_levels.specs.Tables.{entry_value, entry_at, SetsEntry}

-- a number is that of its bytes
number_same : (n i : ℕ) (xs ys : List ℕ) → ((k : ℕ) → i ≤ k → k < i + n → get_or xs k 0 ≡ get_or ys k 0) → little_from i n xs ≡ little_from i n ys
number_same zero i xs ys same = refl
number_same (suc n) i xs ys same =
    ap (λ b. b + 256 * little_from (suc i) n xs) (same i (omega arith) (omega arith))
    ∙ ap (λ r. get_or ys i 0 + 256 * r) (number_same n (suc i) xs ys (λ k le lt. same k (omega arith) (omega arith)))

-- an entry is that of its eight bytes
pub entry_same : (xs ys : List ℕ) (i : ℕ) → ((k : ℕ) → 8 * i ≤ k → k < 8 * i + 8 → get_or xs k 0 ≡ get_or ys k 0) → entry_at xs i ≡ entry_at ys i
unfolding entry_at
entry_same xs ys i same =
    ap entry_value (number_same 8 0 (drop (8 * i) xs) (drop (8 * i) ys) (λ k le lt.
    get_or-drop (8 * i) xs k 0 ∙ same (8 * i + k) (omega arith) (omega arith) ∙ sym (get_or-drop (8 * i) ys k 0)))

-- the word that is written is the word that is read
entry_written : (front back : List ℕ) (i word : ℕ) → length front ≡ 8 * i → word < 256 ^ 8 → entry_at (front ++ (little_bytes 8 word ++ back)) i ≡ entry_value word
unfolding entry_at
entry_written front back i word size fits =
    ap entry_value (ap (λ l. little_from 0 8 l) (behind (8 * i) front (little_bytes 8 word ++ back) size) ∙ little_number-reads_back 8 word back fits)
  where
    behind : (n : ℕ) (xs ys : List ℕ) → length xs ≡ n → drop n (xs ++ ys) ≡ ys
    behind zero [] ys size = refl
    behind zero (x ∷ xs) ys size = absurd (omega arith)
    behind (suc n) [] ys size = absurd (omega arith)
    behind (suc n) (x ∷ xs) ys size = behind n xs ys (omega arith)

-- writing a word sets its entry, and no other
pub written_sets : (old bytes : List ℕ) (i word : ℕ) (number : Option ℕ) → i < 512 → length old ≡ 4096 → length bytes ≡ 8 → bytes ≡ little_bytes 8 word → word < 256 ^ 8
    → entry_value word ≡ number → SetsEntry old (take (8 * i) old ++ (bytes ++ drop 8 (drop (8 * i) old))) i number
written_sets old bytes i word number inside size eight made fits value =
    let front = take (8 * i) old in
    let back = drop 8 (drop (8 * i) old) in
    let before : length front ≡ 8 * i = length-take-le (8 * i) old (omega arith) in
    record {
      here = ap (λ b. entry_at (front ++ (b ++ back)) i) made ∙ entry_written front back i word before fits ∙ value;
      others = λ j below apart. entry_same (front ++ (bytes ++ back)) old j (λ k le lt. elim (cases_lt j i) [
        | inl lower ↦ get_or_append_left front (bytes ++ back) 0 k (omega arith) ∙ get_or-take (8 * i) old k 0 (omega arith)
        | inr higher ↦
            let above : i < j = omega (arith, apart) in
            let place : 8 * i + (8 + (k - 8 * i - 8)) ≡ k = omega arith in
            get_or-append_right front (bytes ++ back) (8 * i) k 0 before (omega arith)
            ∙ get_or-append_right bytes back 8 (k - 8 * i) 0 eight (omega arith)
            ∙ get_or-drop 8 (drop (8 * i) old) (k - 8 * i - 8) 0 ∙ get_or-drop (8 * i) old (8 + (k - 8 * i - 8)) 0 ∙ ap (λ p. get_or old p 0) place
      ]);
    }

-- the entry of a number reads as that number
pub entry_value-entry : (number : ℕ) → number < 2 ^ 32 → entry_value (entry_of number 1) ≡ Some number
entry_value-entry number fits =
    ap (λ bits. cond (eqb bits 1) (Some (number_of (entry_of number 1))) None) (bits_of-entry number 1)
    ∙ ap Some (number_of-entry number 1 fits)

-- a table of zeros has no entry
zero_number : (n i : ℕ) (xs : List ℕ) → ((k : ℕ) → get_or xs k 0 ≡ 0) → little_from i n xs ≡ 0
zero_number zero i xs zeros = refl
zero_number (suc n) i xs zeros =
    let rest : little_from (suc i) n xs ≡ 0 = zero_number n (suc i) xs zeros in
    let first : get_or xs i 0 ≡ 0 = zeros i in
    omega arith

pub zero_byte : (n k : ℕ) → ◌≡◌ {A = ℕ} (get_or (replicate n 0) k 0) 0
zero_byte zero k = refl
zero_byte (suc n) zero = refl
zero_byte (suc n) (suc k) = zero_byte n k

pub entry_at-zeros : (i : ℕ) → entry_at zero_page i ≡ None
unfolding entry_at
entry_at-zeros i =
    let none : little_from 0 8 (drop (8 * i) zero_page) ≡ 0 = zero_number 8 0 (drop (8 * i) zero_page) (λ k. get_or-drop (8 * i) zero_page k 0 ∙ zero_byte 4096 (8 * i + k)) in
    ap entry_value none

-- the entry that a word read says
pub entry_read : (bytes lent : List ℕ) (i word : ℕ) → lent ≡ bytes → word ≡ little_number 8 (take (length lent - 8 * i) (drop (8 * i) lent))
    → entry_at bytes i ≡ cond (eqb (bits_of word) 1) (Some (number_of word)) None
unfolding entry_at
entry_read bytes lent i word same read =
    let whole : take (length lent - 8 * i) (drop (8 * i) lent) ≡ drop (8 * i) lent = take_all (length lent - 8 * i) (drop (8 * i) lent) (omega (arith, length-drop (8 * i) lent)) in
    ap entry_value (ap (λ l. little_number 8 (drop (8 * i) l)) (sym same) ∙ ap (little_number 8) (sym whole) ∙ sym read)

-- a word written at the end of what was lent
pub word_sets : (old lent buf : List ℕ) (i word : ℕ) (number : Option ℕ) → i < 512 → length old ≡ 4096 → lent ≡ old
    → buf ≡ little_bytes 8 word ++ drop 8 (take (length lent - 8 * i) (drop (8 * i) lent)) → word < 256 ^ 8 → entry_value word ≡ number
    → SetsEntry old (put_mid (8 * i) (length lent - 8 * i) lent buf) i number
word_sets old lent buf i word number inside size same written fits value =
    let size_lent : length lent ≡ 4096 = ap length same ∙ size in
    let whole : take (length lent - 8 * i) (drop (8 * i) lent) ≡ drop (8 * i) lent = take_all (length lent - 8 * i) (drop (8 * i) lent) (omega (arith, length-drop (8 * i) lent)) in
    let none : drop (length lent - 8 * i) (drop (8 * i) lent) ≡ [] = drop_of_length-le (drop (8 * i) lent) (omega (arith, length-drop (8 * i) lent)) in
    let made : put_mid (8 * i) (length lent - 8 * i) lent buf ≡ take (8 * i) old ++ (little_bytes 8 word ++ drop 8 (drop (8 * i) old)) =
    ap (λ p. take (8 * i) lent ++ (buf ++ p)) none ∙ ap (λ l. take (8 * i) lent ++ l) (append-nil buf)
    ∙ ap (λ l. take (8 * i) lent ++ l) (written ∙ ap (λ l. little_bytes 8 word ++ drop 8 l) whole)
    ∙ ap (λ l. take (8 * i) l ++ (little_bytes 8 word ++ drop 8 (drop (8 * i) l))) same in
    subst (λ new. SetsEntry old new i number) (sym made)
    (written_sets old (little_bytes 8 word) i word number inside size refl refl fits value)
