-- What a get leaves in the caller's buffer.
use Rattle.std.proofs.Common.{◌≡◌, ℕ, zero, suc, ◌<◌, ◌≤◌, ◌⊎◌, List, [], ◌∷◌, ◌++◌, length, take, drop, drop_of_length-le, Option, Some, None, refl, sym, ◌∙◌, ap, arith, inl, inr}
use Rattle.std.specs.Prelude.{min}
use Rattle.std.proofs.lemmas.Bool.{cases_lt}
use Rattle.std.proofs.lemmas.List.{length-take-le}
use Rattle.vm_base.specs.FlatMemory.{FlatMemory, bytes_at}
use Rattle.page_hash.specs.declared.found.Found.{Found}
use Rattle.page_hash.specs.Lookups.{FoundFor, filled_by}
use Rattle.page_hash.proofs.FrontReads.{part_in}

take_past : (xs : List ℕ) (n : ℕ) → length xs ≤ n → take n xs ≡ xs
take_past [] zero long = refl
take_past [] (suc n) long = refl
take_past (x ∷ xs) zero long = absurd (omega (arith, long))
take_past (x ∷ xs) (suc n) long = ap (λ l. x ∷ l) (take_past xs n (omega (arith, long)))

-- where none was found there is none
pub none_for : (memory : FlatMemory) (value : Option (List ℕ)) → FoundFor memory None value → value ≡ None
none_for memory None found = refl
none_for memory (Some bytes) found = absurd found

-- where one was found there is one
pub some_for : (memory : FlatMemory) (found : Found) (value : Option (List ℕ)) → FoundFor memory (Some found) value
    → (bytes : List ℕ) × ((value ≡ Some bytes) × (found.length ≡ length bytes)
    × (bytes_at memory.present found.addr found.length ≡ bytes))
some_for memory found None is = absurd is
some_for memory found (Some bytes) is = (bytes, (refl, is.0, is.1))

-- what does not fit is left out
front_kept : (buffer bytes : List ℕ) → take (min (length buffer) (length bytes)) bytes ≡ take (length buffer) bytes
front_kept buffer bytes = by (cases_lt (length buffer) (length bytes))
  where
    by : (length buffer < length bytes) ⊎ (length bytes ≤ length buffer)
        → take (min (length buffer) (length bytes)) bytes ≡ take (length buffer) bytes
    by (inl short) =
        let n : min (length buffer) (length bytes) ≡ length buffer = omega (arith, short) in
        ap (λ k. take k bytes) n
    by (inr long) =
        let n : min (length buffer) (length bytes) ≡ length bytes = omega (arith, long) in
        ap (λ k. take k bytes) n ∙ take_past bytes (length bytes) (omega arith) ∙ sym (take_past bytes (length buffer) long)

rest_kept : (buffer bytes : List ℕ) → drop (min (length buffer) (length bytes)) buffer ≡ drop (length bytes) buffer
rest_kept buffer bytes = by (cases_lt (length buffer) (length bytes))
  where
    by : (length buffer < length bytes) ⊎ (length bytes ≤ length buffer)
        → drop (min (length buffer) (length bytes)) buffer ≡ drop (length bytes) buffer
    by (inl short) =
        let n : min (length buffer) (length bytes) ≡ length buffer = omega (arith, short) in
        ap (λ k. drop k buffer) n ∙ drop_of_length-le buffer (omega arith) ∙ sym (drop_of_length-le buffer (omega (arith, short)))
    by (inr long) =
        let n : min (length buffer) (length bytes) ≡ length bytes = omega (arith, long) in
        ap (λ k. drop k buffer) n

-- the buffer behind a read of as much as fits
pub filled : (memory : FlatMemory) (addr size kept : ℕ) (buffer new bytes : List ℕ) → size ≡ length bytes
    → bytes_at memory.present addr size ≡ bytes → kept ≡ min (length buffer) size
    → new ≡ bytes_at memory.present addr (length (take kept buffer))
    → new ++ drop kept buffer ≡ filled_by buffer (Some bytes)
filled memory addr size kept buffer new bytes long there fits read =
    let few : kept ≤ length buffer = omega (arith, fits) in
    let count : kept ≡ min (length buffer) (length bytes) = fits ∙ ap (min (length buffer)) long in
    let part : take kept bytes ≡ bytes_at memory.present addr kept =
    part_in memory.present addr size 0 kept bytes (omega (arith, long))
    (ap (λ n. take n bytes) long ∙ take_past bytes (length bytes) (omega arith) ∙ sym there) (omega (arith, fits))
    ∙ ap (λ a. bytes_at memory.present a kept) (omega arith) in
    let front : new ≡ take (length buffer) bytes =
    read ∙ ap (bytes_at memory.present addr) (length-take-le kept buffer few) ∙ sym part ∙ ap (λ n. take n bytes) count
    ∙ front_kept buffer bytes in
    let rest : drop kept buffer ≡ drop (length bytes) buffer = ap (λ n. drop n buffer) count ∙ rest_kept buffer bytes in
    ap (λ l. l ++ drop kept buffer) front ∙ ap (λ l. take (length buffer) bytes ++ l) rest
