-- Touching and storing, page by page.
use Rattle.std.proofs.Common.{◌≡◌, inl, inr, ℕ, zero, suc, ◌+◌, ◌<◌, ◌≤◌, true, false, List, [], ◌∷◌, ◌++◌, length, take, drop, set, Some, refl, sym, ◌∙◌, ap, arith}
use Rattle.std.specs.FinMap.{get, insert}
use Rattle.std.proofs.lemmas.List.{append-nil, append_assoc, take-append-drop, set_split, take_more_set, drop-set-lt, length-set}
use Rattle.std.proofs.lemmas.Bool.{cases_eq, cases_Bool, cond-true, cond-false}
use Rattle.std.specs.Prelude.{unwrap_or, is_some}
use Rattle.vm_base.specs.Places.{page_of, offset_of}
use Rattle.vm_base.specs.FlatMemory.{PageMap, zero_page, spliced}
use Rattle.vm_base.specs.FlatStep.{with_page, with_pages, with_byte, with_bytes}
use Rattle.vm_base.proofs.NumberedMaps.{get_inserted_here, get_inserted_apart, insert_same, insert-insert}

-- storing bytes in two parts
pub with_bytes-append : (present : PageMap) (address : ℕ) (front back : List ℕ) → with_bytes present address (front ++ back) ≡ with_bytes (with_bytes present address front) (address + length front) back
with_bytes-append present address [] back =
    let here : address ≡ address + zero = omega arith in
    ap (λ a. with_bytes present a back) here
with_bytes-append present address (byte ∷ front) back =
    let further : address + 1 + length front ≡ address + suc (length front) = omega arith in
    with_bytes-append (with_byte present address byte) (address + 1) front back
    ∙ ap (λ a. with_bytes (with_bytes (with_byte present address byte) (address + 1) front) a back) further

-- no byte is replaced
spliced_nothing : (page : List ℕ) (at : ℕ) → spliced page at [] ≡ page
spliced_nothing page at =
    let here : at + zero ≡ at = omega arith in
    ap (λ front. front ++ drop (at + zero) page) (append-nil (take at page)) ∙ ap (λ i. take at page ++ drop i page) here ∙ take-append-drop at page

-- one byte is replaced
spliced_one : (page : List ℕ) (at byte : ℕ) → at < length page → set page at byte ≡ spliced page at (byte ∷ [])
spliced_one page at byte inside =
    let next : suc at ≡ at + suc zero = omega arith in
    set_split page at byte inside ∙ ap (λ i. take at page ++ byte ∷ drop i page) next
    ∙ sym (append_assoc (take at page) (byte ∷ []) (drop (at + suc zero) page))

-- one byte is replaced, and then those behind it
spliced_more : (page : List ℕ) (at byte : ℕ) (bytes : List ℕ) → at < length page → spliced (set page at byte) (at + 1) bytes ≡ spliced page at (byte ∷ bytes)
spliced_more page at byte bytes inside =
    let end : at + 1 + length bytes ≡ at + suc (length bytes) = omega arith in
    let above : at < at + 1 + length bytes = omega arith in
    ap (λ front. front ++ bytes ++ drop (at + 1 + length bytes) (set page at byte)) (take_more_set page at byte inside)
    ∙ ap (λ back. take at page ++ byte ∷ [] ++ bytes ++ back) (drop-set-lt (at + 1 + length bytes) page at byte above)
    ∙ ap (λ i. take at page ++ byte ∷ [] ++ bytes ++ drop i page) end
    ∙ ap (λ front. front ++ drop (at + suc (length bytes)) page) (append_assoc (take at page) (byte ∷ []) bytes)

-- storing one byte in a page with these bytes
with_byte_in : (present : PageMap) (address byte : ℕ) (page : List ℕ) → get present (page_of address) ≡ Some page → with_byte present address byte ≡ insert present (page_of address) (set page (offset_of address) byte)
with_byte_in present address byte page there = ap (λ found. insert present (page_of address) (set (unwrap_or found zero_page) (offset_of address) byte)) there

-- storing bytes within one page
pub with_bytes_in : (present : PageMap) (address : ℕ) (bytes page : List ℕ) → get present (page_of address) ≡ Some page → length page ≡ 4096 → offset_of address + length bytes ≤ 4096
    → with_bytes present address bytes ≡ insert present (page_of address) (spliced page (offset_of address) bytes)
with_bytes_in present address [] page there whole room =
    sym (ap (insert present (page_of address)) (spliced_nothing page (offset_of address)) ∙ insert_same present (page_of address) page there)
with_bytes_in present address (byte ∷ []) page there whole room =
    with_byte_in present address byte page there ∙ ap (insert present (page_of address)) (spliced_one page (offset_of address) byte (omega arith))
with_bytes_in present address (byte ∷ next ∷ bytes) page there whole room =
    let changed : List ℕ = set page (offset_of address) byte in
    let same_page : page_of (address + 1) ≡ page_of address = omega arith in
    let place : offset_of (address + 1) ≡ offset_of address + 1 = omega arith in
    let there_then : get (insert present (page_of address) changed) (page_of (address + 1)) ≡ Some changed = get_inserted_here present (page_of address) changed (page_of (address + 1)) same_page in
    ap (λ now. with_bytes now (address + 1) (next ∷ bytes)) (with_byte_in present address byte page there)
    ∙ with_bytes_in (insert present (page_of address) changed) (address + 1) (next ∷ bytes) changed there_then
    (length-set page (offset_of address) byte ∙ whole) (omega arith)
    ∙ ap (λ p. insert (insert present (page_of address) changed) p (spliced changed (offset_of (address + 1)) (next ∷ bytes))) same_page
    ∙ insert-insert present (page_of address) changed (spliced changed (offset_of (address + 1)) (next ∷ bytes))
    ∙ ap (λ at. insert present (page_of address) (spliced changed at (next ∷ bytes))) place
    ∙ ap (insert present (page_of address)) (spliced_more page (offset_of address) byte (next ∷ bytes) (omega arith))

-- a page that is there stays as it is when its page is touched; an absent one gets zeros
pub with_page_there : (present : PageMap) (page : ℕ) → is_some (get present page) ≡ true → with_page present page ≡ present
with_page_there present page there = cond-true (is_some (get present page)) _ _ there

pub with_page_absent : (present : PageMap) (page : ℕ) → is_some (get present page) ≡ false → with_page present page ≡ insert present page zero_page
with_page_absent present page absent = cond-false (is_some (get present page)) _ _ absent

-- what touching a page leaves at another
get-with_page_apart : (present : PageMap) (page q : ℕ) → (q ≡ page → ⊥) → get (with_page present page) q ≡ get present q
get-with_page_apart present page q apart = elim (cases_Bool (is_some (get present page))) [
  | inl there ↦ ap (λ m. get m q) (with_page_there present page there)
  | inr absent ↦ ap (λ m. get m q) (with_page_absent present page absent) ∙ get_inserted_apart present page zero_page q apart
]

-- a page that was touched is there
is_some-with_page : (present : PageMap) (page q : ℕ) → q ≡ page → is_some (get (with_page present page) q) ≡ true
is_some-with_page present page q here = elim (cases_Bool (is_some (get present page))) [
  | inl there ↦ ap (λ m. is_some (get m q)) (with_page_there present page there) ∙ ap (λ p. is_some (get present p)) here ∙ there
  | inr absent ↦ ap (λ m. is_some (get m q)) (with_page_absent present page absent) ∙ ap is_some (get_inserted_here present page zero_page q here)
]

-- touching pages leaves those below
pub get-with_pages_below : (n : ℕ) (present : PageMap) (first q : ℕ) → q < first → get (with_pages present first n) q ≡ get present q
get-with_pages_below zero present first q below = refl
get-with_pages_below (suc n) present first q below =
    get-with_pages_below n (with_page present first) (first + 1) q (omega arith) ∙ get-with_page_apart present first q (λ same. omega arith)

-- each page of the range that was touched is there
pub is_some-with_pages : (n : ℕ) (present : PageMap) (first q : ℕ) → first ≤ q → q < first + n → is_some (get (with_pages present first n) q) ≡ true
is_some-with_pages zero present first q above below = absurd (omega arith)
is_some-with_pages (suc n) present first q above below = elim (cases_eq q first) [
  | inl here ↦ ap is_some (get-with_pages_below n (with_page present first) (first + 1) q (omega arith)) ∙ is_some-with_page present first q here
  | inr apart ↦ is_some-with_pages n (with_page present first) (first + 1) q (omega arith) (omega arith)
]
