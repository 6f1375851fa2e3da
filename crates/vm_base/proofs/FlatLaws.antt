-- What touching, storing and unmapping leave of the pages and of the reads.
use Rattle.std.proofs.Common.{◌≡◌, ◌≢◌, ℕ, zero, suc, ◌+◌, ◌-◌, ◌<◌, ◌≤◌, true, false, cond, eqb, List, [], ◌∷◌, length, replicate, set, get_or, Option, Some, None, refl, sym, ◌∙◌, ap, subst, arith, inl, inr}
use Rattle.std.specs.Prelude.{IsSome, is_some, unwrap_or, slice_index}
use Rattle.std.specs.FinMap.{get, retain_keys, get-retain_keys, nat_cmp-IsAntisymmetric}
use Rattle.std.proofs.lemmas.Bool.{cases_Bool, cases_eq, cond-true, cond-false, ne_eqb, false≢true}
use Rattle.std.proofs.lemmas.Bool.Decides.{nat_tests}
use Rattle.std.proofs.lemmas.List.{length-set, get_or-set_same, get_or-set_other}
use Rattle.vm_base.specs.Places.{page_of, offset_of, page_count}
use Rattle.vm_base.specs.FlatMemory.{PageMap, FlatMemory, IsFlat, zero_page, byte_at, bytes_at}
use Rattle.vm_base.specs.FlatStep.{with_page, with_pages, with_byte, with_bytes, is_beyond}
use Rattle.vm_base.specs.MemoryState.{MemoryState, IsMemory}
use Rattle.vm_base.specs.MemoryCalls.{IsInRange, IsReady}
use Rattle.vm_base.specs.FlatLaws.{IsBeyond, IsFullPage, AreFullPages, unmapped, TouchesChangeNoRead, TouchesKeepPages, TouchesMakeZeros, TouchesLeaveOthers, AbsentPagesReadAsZeros, StoredBytesAreRead, StoresChangeNoOtherRead, StoresLeaveOtherPages, StoresMakeNoPagePresent, StoresKeepLengths, StoresJoin, UnmapsChangeNoOtherRead, UnmapsLeaveOthers, UnmappedPagesAreAbsent}
use Rattle.vm_base.proofs.NumberedMaps.{get_inserted_here, get_inserted_apart}
use Rattle.vm_base.proofs.FlatPages.{with_page_there, with_page_absent, with_bytes-append}

-- ---- bytes of pages
zeros_read : (n at : ℕ) → slice_index (replicate n 0) at ≡ 0
zeros_read zero at = refl
zeros_read (suc n) zero = refl
zeros_read (suc n) (suc at) = zeros_read n at

none_from : {X : Type 0} (o : Option X) → is_some o ≡ false → o ≡ None
none_from None absent = refl
none_from (Some x) absent = absurd (false≢true (sym absent))

-- the byte of a page that is there, or 0
abbrev byte_in : Option (List ℕ) → ℕ → ℕ
byte_in page at = get_or (unwrap_or page []) at 0

-- an absent page reads as zeros
byte_in-zeros : (page : Option (List ℕ)) (at : ℕ) → get_or (unwrap_or page zero_page) at 0 ≡ byte_in page at
byte_in-zeros None at = zeros_read 4096 at
byte_in-zeros (Some bytes) at = refl

-- reads at which each byte is the same are the same
pub bytes_at-alike : (n address : ℕ) (a b : PageMap) → ((q : ℕ) → address ≤ q → q < address + n → byte_at a q ≡ byte_at b q) → bytes_at a address n ≡ bytes_at b address n
bytes_at-alike zero address a b alike = refl
bytes_at-alike (suc n) address a b alike =
    ap (λ byte. byte ∷ bytes_at a (address + 1) n) (alike address (omega arith) (omega arith))
    ∙ ap (λ bytes. byte_at b address ∷ bytes) (bytes_at-alike n (address + 1) a b (λ q low high. alike q (omega arith) (omega arith)))

-- the page of a byte of a range is one of its pages
pub in_range : (address n q : ℕ) → address ≤ q → q < address + n → IsInRange (page_of q) address n
in_range address n q low high =
    let some : page_count address n ≡ page_of (address + n - 1) + 1 - page_of address = cond-false (eqb n 0) 0 _ (ne_eqb n 0 (λ none. omega arith)) in
    (omega arith, omega arith)

-- ---- touching
byte_at-with_page : (present : PageMap) (page address : ℕ) → byte_at (with_page present page) address ≡ byte_at present address
byte_at-with_page present page address = elim (cases_Bool (is_some (get present page))) [
  | inl there ↦ ap (λ m. byte_at m address) (with_page_there present page there)
  | inr absent ↦ ap (λ m. byte_at m address) (with_page_absent present page absent) ∙ elim (cases_eq (page_of address) page) [
    | inl here ↦
        ap (λ o. byte_in o (offset_of address)) (get_inserted_here present page zero_page (page_of address) here) ∙ zeros_read 4096 (offset_of address)
        ∙ sym (ap (λ o. byte_in o (offset_of address)) (ap (get present) here ∙ none_from (get present page) absent))
    | inr apart ↦ ap (λ o. byte_in o (offset_of address)) (get_inserted_apart present page zero_page (page_of address) apart)
  ]
]

-- touching pages changes no byte that is read
pub byte_at-with_pages : (n : ℕ) (present : PageMap) (first address : ℕ) → byte_at (with_pages present first n) address ≡ byte_at present address
byte_at-with_pages zero present first address = refl
byte_at-with_pages (suc n) present first address =
    byte_at-with_pages n (with_page present first) (first + 1) address ∙ byte_at-with_page present first address

pub bytes_at-with_pages : TouchesChangeNoRead
bytes_at-with_pages present first n address size =
    bytes_at-alike size address (with_pages present first n) present (λ q low high. byte_at-with_pages n present first q)

get-with_page_apart : (present : PageMap) (page q : ℕ) → q ≢ page → get (with_page present page) q ≡ get present q
get-with_page_apart present page q apart = elim (cases_Bool (is_some (get present page))) [
  | inl there ↦ ap (λ m. get m q) (with_page_there present page there)
  | inr absent ↦ ap (λ m. get m q) (with_page_absent present page absent) ∙ get_inserted_apart present page zero_page q apart
]

get-with_page_there : (present : PageMap) (page q : ℕ) (bytes : List ℕ) → get present q ≡ Some bytes → get (with_page present page) q ≡ Some bytes
get-with_page_there present page q bytes there = elim (cases_eq q page) [
  | inl here ↦ ap (λ m. get m q) (with_page_there present page (ap is_some (sym (ap (get present) here) ∙ there))) ∙ there
  | inr apart ↦ get-with_page_apart present page q apart ∙ there
]

pub get-with_pages_there : TouchesKeepPages
get-with_pages_there present first n page bytes there = by n present first there
  where
    by : (n : ℕ) (present : PageMap) (first : ℕ) → get present page ≡ Some bytes → get (with_pages present first n) page ≡ Some bytes
    by zero present first there = there
    by (suc n) present first there = by n (with_page present first) (first + 1) (get-with_page_there present first page bytes there)

pub get-with_pages_beyond : TouchesLeaveOthers
get-with_pages_beyond present first n page beyond = by n present first beyond
  where
    by : (n : ℕ) (present : PageMap) (first : ℕ) → IsBeyond first n page → get (with_pages present first n) page ≡ get present page
    by zero present first beyond = refl
    by (suc n) present first beyond =
        let further : IsBeyond (first + 1) n page = elim beyond [ inl below ↦ inl (omega arith) | inr behind ↦ inr (omega arith) ] in
        let apart : page ≢ first = elim beyond [ inl below ↦ λ same. omega arith | inr behind ↦ λ same. omega arith ] in
        by n (with_page present first) (first + 1) further ∙ get-with_page_apart present first page apart

pub get-with_pages_absent : TouchesMakeZeros
get-with_pages_absent present first n page among absent = by n present first among.0 among.1 absent
  where
    by : (n : ℕ) (present : PageMap) (first : ℕ) → first ≤ page → page < first + n → get present page ≡ None → get (with_pages present first n) page ≡ Some zero_page
    by zero present first low high absent = absurd (omega arith)
    by (suc n) present first low high absent = elim (cases_eq page first) [
      | inl here ↦
          let none : is_some (get present first) ≡ false = ap is_some (sym (ap (get present) here) ∙ absent) in
          let made : get (with_page present first) page ≡ Some zero_page =
          ap (λ m. get m page) (with_page_absent present first none) ∙ get_inserted_here present first zero_page page here in
          get-with_pages_there (with_page present first) (first + 1) n page zero_page made
      | inr apart ↦ by n (with_page present first) (first + 1) (omega arith) (omega arith) (get-with_page_apart present first page apart ∙ absent)
    ]

-- a range without a present page reads as zeros
pub bytes_at-none : AbsentPagesReadAsZeros
bytes_at-none present address size none = by size address (λ q low high. none (page_of q) (in_range address size q low high))
  where
    by : (n address : ℕ) → ((q : ℕ) → address ≤ q → q < address + n → get present (page_of q) ≡ None) → bytes_at present address n ≡ replicate n 0
    by zero address none = refl
    by (suc n) address none =
        ap (λ byte. byte ∷ bytes_at present (address + 1) n) (ap (λ o. byte_in o (offset_of address)) (none address (omega arith) (omega arith)))
        ∙ ap (λ bytes. 0 ∷ bytes) (by n (address + 1) (λ q low high. none q (omega arith) (omega arith)))

-- ---- storing
-- a full page has bytes
full_bytes : (page : Option (List ℕ)) → length (unwrap_or page []) ≡ 4096 → (bytes : List ℕ) × ((page ≡ Some bytes) × (length bytes ≡ 4096))
full_bytes None full = absurd (omega (arith, full))
full_bytes (Some bytes) full = (bytes, (refl, full))

-- the page with one byte changed
abbrev changed : PageMap → ℕ → ℕ → List ℕ
changed present address byte = set (unwrap_or (get present (page_of address)) zero_page) (offset_of address) byte

length-changed : (page : Option (List ℕ)) (at byte : ℕ) → length (unwrap_or page []) ≡ 4096 → length (set (unwrap_or page zero_page) at byte) ≡ length (unwrap_or page [])
length-changed page at byte full =
    let known = full_bytes page full in
    subst (λ (o : Option (List ℕ)). length (set (unwrap_or o zero_page) at byte) ≡ length (unwrap_or o [])) (sym known.1.0) (length-set known.0 at byte)

byte_at-stored : (present : PageMap) (address byte : ℕ) → IsFullPage present (page_of address) → byte_at (with_byte present address byte) address ≡ byte
byte_at-stored present address byte full =
    let size : length (unwrap_or (get present (page_of address)) zero_page) ≡ 4096 =
    sym (length-set (unwrap_or (get present (page_of address)) zero_page) (offset_of address) byte) ∙ length-changed (get present (page_of address)) (offset_of address) byte full ∙ full in
    let inside : offset_of address < length (unwrap_or (get present (page_of address)) zero_page) = omega (arith, size) in
    ap (λ o. byte_in o (offset_of address)) (get_inserted_here present (page_of address) (changed present address byte) (page_of address) refl)
    ∙ get_or-set_same (unwrap_or (get present (page_of address)) zero_page) (offset_of address) byte 0 inside

byte_at-unstored : (present : PageMap) (address byte q : ℕ) → q ≢ address → byte_at (with_byte present address byte) q ≡ byte_at present q
byte_at-unstored present address byte q apart = elim (cases_eq (page_of q) (page_of address)) [
  | inl here ↦
      let other : offset_of q ≢ offset_of address = λ same. apart (omega arith) in
      ap (λ o. byte_in o (offset_of q)) (get_inserted_here present (page_of address) (changed present address byte) (page_of q) here)
      ∙ get_or-set_other (unwrap_or (get present (page_of address)) zero_page) (offset_of address) (offset_of q) byte 0 other
      ∙ byte_in-zeros (get present (page_of address)) (offset_of q) ∙ sym (ap (λ p. byte_in (get present p) (offset_of q)) here)
  | inr other ↦ ap (λ o. byte_in o (offset_of q)) (get_inserted_apart present (page_of address) (changed present address byte) (page_of q) other)
]

length-with_byte : (present : PageMap) (address byte page : ℕ) → IsFullPage present (page_of address)
    → length (unwrap_or (get (with_byte present address byte) page) []) ≡ length (unwrap_or (get present page) [])
length-with_byte present address byte page full = elim (cases_eq page (page_of address)) [
  | inl here ↦
      ap (λ o. length (unwrap_or o [])) (get_inserted_here present (page_of address) (changed present address byte) page here)
      ∙ length-changed (get present (page_of address)) (offset_of address) byte full ∙ sym (ap (λ p. length (unwrap_or (get present p) [])) here)
  | inr apart ↦ ap (λ o. length (unwrap_or o [])) (get_inserted_apart present (page_of address) (changed present address byte) page apart)
]

-- the pages of a range, byte by byte
abbrev pub ArePresent : PageMap → ℕ → ℕ → Type 0
ArePresent present address n = (k : ℕ) → k < n → IsSome (get present (page_of (address + k)))

pub present_bytes : (present : PageMap) (address n : ℕ) → ((page : ℕ) → page_of address ≤ page → page < page_of address + page_count address n → IsSome (get present page)) → ArePresent present address n
present_bytes present address n there k inside =
    let some : page_count address n ≡ page_of (address + n - 1) + 1 - page_of address = cond-false (eqb n 0) 0 _ (ne_eqb n 0 (λ none. omega arith)) in
    there (page_of (address + k)) (omega arith) (omega arith)

-- storing a byte in a page that is present makes no other page present
keys-with_byte : (present : PageMap) (address byte q : ℕ) → IsSome (get present (page_of address)) → is_some (get (with_byte present address byte) q) ≡ is_some (get present q)
keys-with_byte present address byte q there =
    let new : List ℕ = set (unwrap_or (get present (page_of address)) zero_page) (offset_of address) byte in
    elim (cases_eq q (page_of address)) [
      | inl here ↦ ap is_some (get_inserted_here present (page_of address) new q here) ∙ sym (ap (λ p. is_some (get present p)) here ∙ there)
      | inr apart ↦ ap is_some (get_inserted_apart present (page_of address) new q apart)
    ]

pub first_present : (present : PageMap) (address n : ℕ) → ArePresent present address (suc n) → IsSome (get present (page_of address))
first_present present address n there = let same : address + 0 ≡ address = omega arith in subst (λ a. IsSome (get present (page_of a))) same (there 0 (omega arith))

pub present_then : (present : PageMap) (address byte n : ℕ) → ArePresent present address (suc n) → ArePresent (with_byte present address byte) (address + 1) n
present_then present address byte n there k inside =
    let further : address + suc k ≡ address + 1 + k = omega arith in
    keys-with_byte present address byte (page_of (address + 1 + k)) (first_present present address n there)
    ∙ subst (λ a. IsSome (get present (page_of a))) further (there (suc k) (omega arith))

keys_by_byte : (bytes : List ℕ) (present : PageMap) (address page : ℕ) → ArePresent present address (length bytes)
    → is_some (get (with_bytes present address bytes) page) ≡ is_some (get present page)
keys_by_byte [] present address page there = refl
keys_by_byte (byte ∷ bytes) present address page there =
    keys_by_byte bytes (with_byte present address byte) (address + 1) page (present_then present address byte (length bytes) there)
    ∙ keys-with_byte present address byte page (first_present present address (length bytes) there)

-- storing where all pages of the range are present makes no other page present
pub keys-with_bytes : (present : PageMap) (address : ℕ) (bytes : List ℕ)
    → ((page : ℕ) → page_of address ≤ page → page < page_of address + page_count address (length bytes) → IsSome (get present page))
    → (page : ℕ) → is_some (get (with_bytes present address bytes) page) ≡ is_some (get present page)
keys-with_bytes present address bytes there page = keys_by_byte bytes present address page (present_bytes present address (length bytes) there)

-- the pages of a range, byte by byte, are full
abbrev AreFull : PageMap → ℕ → ℕ → Type 0
AreFull present address n = (q : ℕ) → address ≤ q → q < address + n → IsFullPage present (page_of q)

full_by_byte : (present : PageMap) (address n : ℕ) → AreFullPages present address n → AreFull present address n
full_by_byte present address n full q low high = full (page_of q) (in_range address n q low high)

full_then : (present : PageMap) (address byte n : ℕ) → AreFull present address (suc n) → AreFull (with_byte present address byte) (address + 1) n
full_then present address byte n full q low high =
    length-with_byte present address byte (page_of q) (full address (omega arith) (omega arith)) ∙ full q (omega arith) (omega arith)

-- a byte apart from those stored is as before
pub byte_at-with_bytes : (bytes : List ℕ) (present : PageMap) (address q : ℕ) → IsBeyond address (length bytes) q → byte_at (with_bytes present address bytes) q ≡ byte_at present q
byte_at-with_bytes [] present address q beyond = refl
byte_at-with_bytes (byte ∷ bytes) present address q beyond =
    let further : IsBeyond (address + 1) (length bytes) q = elim beyond [ inl below ↦ inl (omega arith) | inr behind ↦ inr (omega arith) ] in
    let apart : q ≢ address = elim beyond [ inl below ↦ λ same. omega arith | inr behind ↦ λ same. omega arith ] in
    byte_at-with_bytes bytes (with_byte present address byte) (address + 1) q further ∙ byte_at-unstored present address byte q apart

pub bytes_at-with_bytes : StoredBytesAreRead
bytes_at-with_bytes present address bytes full = by bytes present address (full_by_byte present address (length bytes) full)
  where
    by : (bytes : List ℕ) (present : PageMap) (address : ℕ) → AreFull present address (length bytes) → bytes_at (with_bytes present address bytes) address (length bytes) ≡ bytes
    by [] present address full = refl
    by (byte ∷ bytes) present address full =
        ap (λ b. b ∷ bytes_at (with_bytes (with_byte present address byte) (address + 1) bytes) (address + 1) (length bytes))
        (byte_at-with_bytes bytes (with_byte present address byte) (address + 1) address (inl (omega arith)) ∙ byte_at-stored present address byte (full address (omega arith) (omega arith)))
        ∙ ap (λ bs. byte ∷ bs) (by bytes (with_byte present address byte) (address + 1) (full_then present address byte (length bytes) full))

pub bytes_at-with_bytes_apart : StoresChangeNoOtherRead
bytes_at-with_bytes_apart present address bytes other size apart =
    bytes_at-alike size other (with_bytes present address bytes) present (λ q low high.
    byte_at-with_bytes bytes present address q (elim apart [ inl below ↦ inr (omega arith) | inr behind ↦ inl (omega arith) ]))

pub get-with_bytes_beyond : StoresLeaveOtherPages
get-with_bytes_beyond present address bytes page beyond =
    by bytes present address (λ q low high same.
    let among = in_range address (length bytes) q low high in
    elim beyond [ inl below ↦ omega (arith, among.0, same) | inr behind ↦ omega (arith, among.1, same) ])
  where
    by : (bytes : List ℕ) (present : PageMap) (address : ℕ) → ((q : ℕ) → address ≤ q → q < address + length bytes → page ≢ page_of q)
        → get (with_bytes present address bytes) page ≡ get present page
    by [] present address apart = refl
    by (byte ∷ bytes) present address apart =
        by bytes (with_byte present address byte) (address + 1) (λ q low high. apart q (omega arith) (omega arith))
        ∙ get_inserted_apart present (page_of address) (changed present address byte) page (apart address (omega arith) (omega arith))

pub is_some-with_bytes : StoresMakeNoPagePresent
is_some-with_bytes present address bytes there page = keys-with_bytes present address bytes (λ q low high. there q (low, high)) page

pub length-with_bytes : StoresKeepLengths
length-with_bytes present address bytes full page = by bytes present address (full_by_byte present address (length bytes) full)
  where
    by : (bytes : List ℕ) (present : PageMap) (address : ℕ) → AreFull present address (length bytes)
        → length (unwrap_or (get (with_bytes present address bytes) page) []) ≡ length (unwrap_or (get present page) [])
    by [] present address full = refl
    by (byte ∷ bytes) present address full =
        by bytes (with_byte present address byte) (address + 1) (full_then present address byte (length bytes) full)
        ∙ length-with_byte present address byte page (full address (omega arith) (omega arith))

pub with_bytes-join : StoresJoin
with_bytes-join present address front back = sym (with_bytes-append present address front back)

-- a present page of a flat memory is full
pub full_from_flat : (memory : FlatMemory) (page : ℕ) → IsFlat memory → is_some (get memory.present page) ≡ true → IsFullPage memory.present page
full_from_flat memory page flat there = by (get memory.present page) refl there
  where
    by : (found : Option (List ℕ)) → get memory.present page ≡ found → is_some found ≡ true → IsFullPage memory.present page
    by None is there = absurd (false≢true there)
    by (Some bytes) is there = ap (λ o. length (unwrap_or o [])) is ∙ flat.whole page bytes is

-- pages that may be stored to are full
pub full_from_ready : (state : MemoryState) (address n : ℕ) → IsMemory state → IsReady state address n → AreFullPages state.mem.present address n
full_from_ready state address n sound ready page among = full_from_flat state.mem page sound.flat (sound.present page (ready page among))

-- ---- unmapping
-- what is left of the pages after some were taken out
pub get-unmapped : (present : PageMap) (first n q : ℕ) → get (retain_keys present (is_beyond first n)) q ≡ cond (is_beyond first n q) (get present q) None
get-unmapped present first n q = get-retain_keys present (is_beyond first n) q (λ x ties. ap (is_beyond first n) (sym (nat_cmp-IsAntisymmetric q x ties)))

beyond_passes : (first n page : ℕ) → IsBeyond first n page → is_beyond first n page ≡ true
beyond_passes first n page beyond = elim beyond [ inl below ↦ grind (arith, nat_tests) | inr behind ↦ grind (arith, nat_tests) ]

among_fails : (first n page : ℕ) → first ≤ page → page < first + n → is_beyond first n page ≡ false
among_fails first n page low high = grind (arith, nat_tests)

pub get-unmapped_beyond : UnmapsLeaveOthers
get-unmapped_beyond present first n page beyond = get-unmapped present first n page ∙ cond-true (is_beyond first n page) _ _ (beyond_passes first n page beyond)

pub get-unmapped_among : UnmappedPagesAreAbsent
get-unmapped_among present first n page among = get-unmapped present first n page ∙ cond-false (is_beyond first n page) _ _ (among_fails first n page among.0 among.1)

pub bytes_at-unmapped : UnmapsChangeNoOtherRead
bytes_at-unmapped present first n address size apart =
    bytes_at-alike size address (unmapped present first n) present (λ q low high.
    let beyond : IsBeyond first n (page_of q) = elim apart [ inl below ↦ inr (omega arith) | inr behind ↦ inl (omega arith) ] in
    ap (λ o. byte_in o (offset_of q)) (get-unmapped_beyond present first n (page_of q) beyond))
