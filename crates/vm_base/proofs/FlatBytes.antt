-- The bytes of a range, piece by piece.
use Rattle.std.proofs.Common.{◌≡◌, ℕ, ◌+◌, ◌/◌, ◌%◌, ◌<◌, ◌≤◌, List, [], ◌++◌, length, map, take, drop, get_or, replicate, Option, Some, None, refl, sym, ◌∙◌, ap, arith}
use Rattle.std.specs.Prelude.{unwrap_or}
use Rattle.std.specs.List.{range_with_len}
use Rattle.std.specs.FinMap.{get}
use Rattle.std.proofs.lemmas.List.{map-append, same_lists, length-take-le, length-drop, length-replicate, get_or-take, get_or-drop, get_or-replicate, get_or_default}
use Rattle.std.proofs.lemmas.List.FromFn.{length-map-range_with_len, get_or-map-range_with_len}
use Rattle.vm_base.specs.Places.{page_of, offset_of}
use Rattle.vm_base.specs.FlatMemory.{PageMap, byte_at, bytes_at}
use Rattle.vm_base.proofs.Ranges.{range-split}

-- a range in two parts
pub bytes_at-split : (present : PageMap) (address j k : ℕ) → bytes_at present address (j + k) ≡ bytes_at present address j ++ bytes_at present (address + j) k
bytes_at-split present address j k = ap (map (byte_at present)) (range-split address j k) ∙ map-append (byte_at present) (range_with_len address j) (range_with_len (address + j) k)

pub length-bytes_at : (present : PageMap) (address n : ℕ) → length (bytes_at present address n) ≡ n
length-bytes_at present address n = length-map-range_with_len (byte_at present) address n

-- a list that has the bytes of a range, one by one, is that of the range
same_bytes : (present : PageMap) (address n : ℕ) (bytes : List ℕ) → length bytes ≡ n → ((k d : ℕ) → k < n → get_or bytes k d ≡ byte_at present (address + k)) → bytes_at present address n ≡ bytes
same_bytes present address n bytes size each = same_lists _ _ (length-bytes_at present address n ∙ sym size) (λ k d small.
    let inside : k < n = rw (length-bytes_at present address n) at small in
    get_or-map-range_with_len (byte_at present) address n k (address + k) d inside refl ∙ sym (each k d inside))

-- the byte at an address of a page with these bytes
byte_in_page : (present : PageMap) (address k : ℕ) (page : Option (List ℕ)) → get present (page_of address) ≡ page → offset_of address + k < 4096 → byte_at present (address + k) ≡ get_or (unwrap_or page []) (offset_of address + k) 0
byte_in_page present address k page there room =
    let same_page : (address + k) / 4096 ≡ address / 4096 = omega arith in
    let place : (address + k) % 4096 ≡ address % 4096 + k = omega arith in
    ap (λ p. get_or (unwrap_or (get present p) []) ((address + k) % 4096) 0) same_page
    ∙ ap (λ i. get_or (unwrap_or (get present (address / 4096)) []) i 0) place
    ∙ ap (λ p. get_or (unwrap_or p []) (address % 4096 + k) 0) there

-- a range within a present page
pub bytes_at-present : (present : PageMap) (address n : ℕ) (page : List ℕ) → get present (page_of address) ≡ Some page → length page ≡ 4096 → offset_of address + n ≤ 4096 → bytes_at present address n ≡ take n (drop (offset_of address) page)
bytes_at-present present address n page there whole room =
    same_bytes present address n (take n (drop (offset_of address) page))
    (length-take-le n (drop (offset_of address) page) (rw (length-drop (offset_of address) page) (omega arith)))
    (λ k d small. get_or-take n (drop (offset_of address) page) k d small ∙ get_or-drop (offset_of address) page k d
    ∙ get_or_default page (offset_of address + k) d 0 (omega arith)
    ∙ sym (byte_in_page present address k (Some page) there (omega arith)))

-- a range within an absent page
pub bytes_at-absent : (present : PageMap) (address n : ℕ) → get present (page_of address) ≡ None → offset_of address + n ≤ 4096 → bytes_at present address n ≡ replicate n 0
bytes_at-absent present address n absent room =
    same_bytes present address n (replicate n 0) (length-replicate n 0)
    (λ k d small. get_or-replicate n k 0 d small ∙ sym (byte_in_page present address k None absent (omega arith)))
