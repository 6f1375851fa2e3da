-- A flat memory stays flat: touching, storing, mapping, unmapping and protecting.
use Rattle.std.proofs.Common.{◌≡◌, ℕ, zero, suc, ◌+◌, ◌^◌, ◌<◌, ◌≤◌, Bool, true, false, not, cond, leb, List, [], ◌∷◌, length, replicate, set, Option, Some, None, Result, Ok, Err, refl, sym, ◌∙◌, ap, subst, arith, inl, inr}
use Rattle.std.specs.Prelude.{IsSome, is_some, is_ok, unwrap_or}
use Rattle.std.specs.List.{All}
use Rattle.std.specs.Option.{option_map}
use Rattle.std.specs.Ordering.{nat_cmp}
use Rattle.std.specs.FinMap.{get, insert, retain_keys, get-empty}
use Rattle.std.proofs.lemmas.Bool.{cases_Bool, cases_eq, cond-true, cond-false, leb-true, le-leb, ltb-true, and_parts, false≢true, not-false, not-true}
use Rattle.std.proofs.lemmas.List.{length-replicate, length-set}
use Rattle.std.proofs.lemmas.List.Elements.{All-head, All-tail, All-replicate, All-set}
use Rattle.vm_base.specs.declared.permission.Perm.{Perm}
use Rattle.vm_base.specs.Places.{page_of, offset_of, page_count}
use Rattle.vm_base.specs.FlatMemory.{Area, PageMap, FlatMemory, IsFlat, AreInOrder, empty_memory, area_of, zero_page}
use Rattle.vm_base.specs.FlatStep.{Refusal, OutsideAreas, ReadOnly, Taken, TooManyAreas, outside, unwritable, taken, or_refused, with_page, with_pages, with_byte, with_bytes, touch_of, stored, write_of, joined, with_area, areas_without, at_most_128, is_beyond, map_of, unmap_of, protect_of}
use Rattle.vm_base.proofs.NumberedMaps.{get_inserted_here, get_inserted_apart}
use Rattle.vm_base.proofs.FlatPages.{with_page_there, with_page_absent, is_some-with_pages}
use Rattle.vm_base.proofs.FlatLaws.{ArePresent, present_bytes, first_present, present_then, get-unmapped}
use Rattle.area_list.specs.AreaList.{permission_at, is_among, Sets}
use Rattle.area_list.specs.Calls.{area_at, if_few}
use Rattle.area_list.specs.Pieces.{pieces}
use Rattle.area_list.proofs.Order.{IsFrom-in_order, joined_in_order}
use Rattle.area_list.proofs.Parts.{pieces_from}
use Rattle.area_list.proofs.Permissions.{pieces_set}
use Rattle.area_list.proofs.Whole.{without_in_order}
use Rattle.area_list.proofs.Found.{fails_below}
use Rattle.area_list.proofs.Made.{made_mapped, made_unmapped, made_protected}

-- ---- pages that are whole, one by one
-- a page of a flat memory with these areas
record IsPage (areas : List Area) (page : ℕ) (bytes : List ℕ) : Type 0 where
  pub fit : All (λ byte. byte < 256) bytes
  pub whole : length bytes ≡ 4096
  pub inside : IsSome (area_of areas page)

-- each page of a map is one
abbrev ArePages : List Area → PageMap → Type 0
ArePages areas present = (page : ℕ) (bytes : List ℕ) → get present page ≡ Some bytes → IsPage areas page bytes

value_of : {X : Type 0} (o : Option X) → IsSome o → (x : X) × (o ≡ Some x)
value_of None there = absurd (false≢true there)
value_of (Some x) there = (x, refl)

same_Some : {X : Type 0} (x y : X) → Some x ≡ Some y → x ≡ y
same_Some x y same = ap (λ o. unwrap_or o x) same

pages_of_flat : (memory : FlatMemory) → IsFlat memory → ArePages memory.areas memory.present
pages_of_flat memory flat page bytes there = record {
  fit = flat.bytes page bytes there;
  whole = flat.whole page bytes there;
  inside = flat.in_areas page (ap is_some there);
}

-- each page of areas lies below 2^36
abbrev AreLow : List Area → Type 0
AreLow areas = (page : ℕ) → IsSome (area_of areas page) → page < 2 ^ 36

flat_from_pages : (memory : FlatMemory) → AreInOrder memory.areas → length memory.areas ≤ 128 → AreLow memory.areas → ArePages memory.areas memory.present → IsFlat memory
flat_from_pages memory order few low pages = record {
  in_order = order;
  few = few;
  low = low;
  bytes = λ page bytes there. (pages page bytes there).fit;
  whole = λ page bytes there. (pages page bytes there).whole;
  in_areas = λ page there. let found = value_of (get memory.present page) there in (pages page found.0 found.1).inside;
}

-- one page more, or another in its place
pages-insert : (areas : List Area) (present : PageMap) (page : ℕ) (bytes : List ℕ) → ArePages areas present → IsPage areas page bytes → ArePages areas (insert present page bytes)
pages-insert areas present page bytes pages whole q found there = elim (cases_eq q page) [
  | inl here ↦
      let same : bytes ≡ found = same_Some bytes found (sym (get_inserted_here present page bytes q here) ∙ there) in
      subst (IsPage areas q) same (subst (λ p. IsPage areas p bytes) (sym here) whole)
  | inr apart ↦ pages q found (sym (get_inserted_apart present page bytes q apart) ∙ there)
]

-- ---- touching
zeros : (n : ℕ) (areas : List Area) (page : ℕ) → n ≡ 4096 → IsSome (area_of areas page) → IsPage areas page (replicate n 0)
zeros n areas page whole inside = record {
  fit = All-replicate (λ byte. byte < 256) n 0 (omega arith);
  whole = length-replicate n 0 ∙ whole;
  inside = inside;
}

pages-with_page : (areas : List Area) (present : PageMap) (page : ℕ) → ArePages areas present → IsSome (area_of areas page) → ArePages areas (with_page present page)
pages-with_page areas present page pages inside = elim (cases_Bool (is_some (get present page))) [
  | inl there ↦ subst (ArePages areas) (sym (with_page_there present page there)) pages
  | inr absent ↦ subst (ArePages areas) (sym (with_page_absent present page absent)) (pages-insert areas present page zero_page pages (zeros 4096 areas page refl inside))
]

pages-with_pages : (n : ℕ) (areas : List Area) (present : PageMap) (first : ℕ) → ArePages areas present
    → ((q : ℕ) → first ≤ q → q < first + n → IsSome (area_of areas q)) → ArePages areas (with_pages present first n)
pages-with_pages zero areas present first pages inside = pages
pages-with_pages (suc n) areas present first pages inside =
    pages-with_pages n areas (with_page present first) (first + 1) (pages-with_page areas present first pages (inside first (omega arith) (omega arith)))
    (λ q le lt. inside q (omega arith) (omega arith))

-- ---- answers that were not refused
same_Ok : {X E : Type 0} (x y : X) → ◌≡◌ {A = Result X E} (Ok x) (Ok y) → x ≡ y
same_Ok {X} {E} x y same = ap (λ (r : Result X E). elim r [ Ok z ↦ z | Err e ↦ x ]) same

err_is_not_ok : {X E : Type 0} (e : E) (x : X) → ◌≡◌ {A = Result X E} (Err e) (Ok x) → ⊥
err_is_not_ok e x same = false≢true (ap is_ok same)

accepted : {X : Type 0} (why : ℕ → Refusal) (found : Option ℕ) (answer : Result X Refusal) (x : X) → or_refused why found answer ≡ Ok x → (found ≡ None) × (answer ≡ Ok x)
accepted why None answer x is = (refl, is)
accepted why (Some page) answer x is = absurd (err_is_not_ok (why page) x is)

few_then : (memory after : FlatMemory) → at_most_128 memory ≡ Ok after → (memory ≡ after) × (length memory.areas ≤ 128)
few_then memory after is = elim (cases_Bool (leb (length memory.areas) 128)) [
  | inl few ↦ (same_Ok memory after (sym (cond-true (leb (length memory.areas) 128) (Ok memory) (Err TooManyAreas) few) ∙ is), leb-true (length memory.areas) 128 few)
  | inr many ↦ absurd (err_is_not_ok TooManyAreas after (sym (cond-false (leb (length memory.areas) 128) (Ok memory) (Err TooManyAreas) many) ∙ is))
]

-- a list of areas that is the other, where the other is short
same_few : (areas other : List Area) → length other ≤ 128 → if_few areas ≡ if_few other → areas ≡ other
same_few areas other short same =
    let is : if_few areas ≡ Ok other = same ∙ cond-true (leb (length other) 128) (Ok other) (Err TooManyAreas) (le-leb (length other) 128 short) in
    elim (cases_Bool (leb (length areas) 128)) [
      | inl few ↦ same_Ok areas other (sym (cond-true (leb (length areas) 128) (Ok areas) (Err TooManyAreas) few) ∙ is)
      | inr many ↦ absurd (err_is_not_ok TooManyAreas other (sym (cond-false (leb (length areas) 128) (Ok areas) (Err TooManyAreas) many) ∙ is))
    ]

-- what a touch that is not refused leaves
pub touched_is : (memory : FlatMemory) (address n : ℕ) (after : FlatMemory) → touch_of memory address n ≡ Ok after
    → (outside memory.areas (page_of address) (page_count address n) ≡ None) × (record memory { present = with_pages memory.present (page_of address) (page_count address n) } ≡ after)
touched_is memory address n after is =
    let first = page_of address in
    let count = page_count address n in
    let done : FlatMemory = record memory { present = with_pages memory.present first count } in
    let inside = accepted OutsideAreas (outside memory.areas first count) (or_refused ReadOnly (unwritable memory.areas first count) (Ok done)) after is in
    let writable = accepted ReadOnly (unwritable memory.areas first count) (Ok done) after inside.1 in
    (inside.0, same_Ok done after writable.1)

pub touch-flat : (memory : FlatMemory) (address n : ℕ) (after : FlatMemory) → IsFlat memory → touch_of memory address n ≡ Ok after → IsFlat after
touch-flat memory address n after flat is =
    let first = page_of address in
    let count = page_count address n in
    let known = touched_is memory address n after is in
    let inside : (q : ℕ) → first ≤ q → q < first + count → IsSome (area_of memory.areas q) =
    λ q le lt. not-false (is_some (area_of memory.areas q)) (fails_below count (λ page. not (is_some (area_of memory.areas page))) first known.0 q le lt) in
    subst IsFlat known.1 (flat_from_pages (record memory { present = with_pages memory.present first count }) flat.in_order flat.few flat.low
    (pages-with_pages count memory.areas memory.present first (pages_of_flat memory flat) inside))

-- ---- storing
pages-with_byte : (areas : List Area) (present : PageMap) (address byte : ℕ) → byte < 256 → ArePages areas present → IsSome (get present (page_of address)) → ArePages areas (with_byte present address byte)
pages-with_byte areas present address byte fits pages there =
    let page = value_of (get present (page_of address)) there in
    let old : IsPage areas (page_of address) page.0 = pages (page_of address) page.0 page.1 in
    let changed : IsPage areas (page_of address) (set page.0 (offset_of address) byte) = record {
      fit = All-set (λ b. b < 256) page.0 (offset_of address) byte fits old.fit;
      whole = length-set page.0 (offset_of address) byte ∙ old.whole;
      inside = old.inside;
    } in
    subst (λ (o : Option (List ℕ)). ArePages areas (insert present (page_of address) (set (unwrap_or o zero_page) (offset_of address) byte))) (sym page.1)
    (pages-insert areas present (page_of address) (set page.0 (offset_of address) byte) pages changed)

pages-with_bytes : (bytes : List ℕ) (areas : List Area) (present : PageMap) (address : ℕ) → All (λ byte. byte < 256) bytes → ArePages areas present → ArePresent present address (length bytes)
    → ArePages areas (with_bytes present address bytes)
pages-with_bytes [] areas present address fit pages there = pages
pages-with_bytes (byte ∷ bytes) areas present address fit pages there =
    pages-with_bytes bytes areas (with_byte present address byte) (address + 1) (All-tail (λ b. b < 256) byte bytes fit)
    (pages-with_byte areas present address byte (All-head (λ b. b < 256) byte bytes fit) pages (first_present present address (length bytes) there))
    (present_then present address byte (length bytes) there)

pub stored-flat : (memory : FlatMemory) (address : ℕ) (bytes : List ℕ) → IsFlat memory → All (λ byte. byte < 256) bytes
    → ((page : ℕ) → page_of address ≤ page → page < page_of address + page_count address (length bytes) → IsSome (get memory.present page))
    → IsFlat (record memory { present = with_bytes memory.present address bytes })
stored-flat memory address bytes flat fit there =
    flat_from_pages (record memory { present = with_bytes memory.present address bytes }) flat.in_order flat.few flat.low
    (pages-with_bytes bytes memory.areas memory.present address fit (pages_of_flat memory flat) (present_bytes memory.present address (length bytes) there))

-- ---- writing
-- what a store that is not refused leaves
pub stored_is : (touched : Result FlatMemory Refusal) (address : ℕ) (bytes : List ℕ) (after : FlatMemory) → stored touched address bytes ≡ Ok after
    → (memory : FlatMemory) × (touched ≡ Ok memory) × (record memory { present = with_bytes memory.present address bytes } ≡ after)
stored_is (Ok memory) address bytes after is = (memory, refl, same_Ok (record memory { present = with_bytes memory.present address bytes }) after is)
stored_is (Err refusal) address bytes after is = absurd (err_is_not_ok refusal after is)

-- each page of the range is present once it was touched
pub present-touched : (memory : FlatMemory) (address n : ℕ) (after : FlatMemory) → touch_of memory address n ≡ Ok after
    → (page : ℕ) → page_of address ≤ page → page < page_of address + page_count address n → IsSome (get after.present page)
present-touched memory address n after is page le lt =
    subst (λ (m : FlatMemory). IsSome (get m.present page)) (touched_is memory address n after is).1
    (is_some-with_pages (page_count address n) memory.present (page_of address) page le lt)

pub write-flat : (memory : FlatMemory) (address : ℕ) (bytes : List ℕ) (after : FlatMemory) → IsFlat memory → All (λ byte. byte < 256) bytes → write_of memory address bytes ≡ Ok after → IsFlat after
write-flat memory address bytes after flat fit is =
    let parts = stored_is (touch_of memory address (length bytes)) address bytes after is in
    subst IsFlat parts.2
    (stored-flat parts.0 address bytes (touch-flat memory address (length bytes) parts.0 flat parts.1) fit (present-touched memory address (length bytes) parts.0 parts.1))

-- ---- mapping calls
-- a page lies in an area exactly where it has a permission
has_permission : (areas : List Area) (page : ℕ) → is_some (permission_at areas page) ≡ is_some (area_of areas page)
has_permission areas page = by_area (area_of areas page)
  where
    by_area : (found : Option Area) → is_some (option_map (λ (area : Area). area.perm) found) ≡ is_some found
    by_area None = refl
    by_area (Some area) = refl

-- pages that were set to a permission lie in areas, and so do those that did before
still_inside : (old new : List Area) (first n : ℕ) (perm : Perm) (page : ℕ) → Sets old new first n (Some perm) → IsSome (area_of old page) → IsSome (area_of new page)
still_inside old new first n perm page sets inside =
    sym (has_permission new page) ∙ ap is_some (sets page) ∙ elim (cases_Bool (is_among first n page)) [
      | inl among ↦ ap is_some (cond-true (is_among first n page) (Some perm) (permission_at old page) among)
      | inr beyond ↦ ap is_some (cond-false (is_among first n page) (Some perm) (permission_at old page) beyond) ∙ has_permission old page ∙ inside
    ]

-- pages that lie in areas then were among those that were set, or did before
low_then : (old new : List Area) (first n : ℕ) (perm : Option Perm) (page : ℕ) → Sets old new first n perm → (IsSome perm → first + n ≤ 2 ^ 36) → AreLow old → IsSome (area_of new page) → page < 2 ^ 36
low_then old new first n perm page sets within low inside =
    let some : IsSome (cond (is_among first n page) perm (permission_at old page)) = sym (ap is_some (sets page)) ∙ has_permission new page ∙ inside in
    elim (cases_Bool (is_among first n page)) [
      | inl among ↦
          let below : page < first + n = ltb-true page (first + n) (and_parts _ _ among).1 in
          let end : first + n ≤ 2 ^ 36 = within (sym (ap is_some (cond-true (is_among first n page) perm (permission_at old page) among)) ∙ some) in
          omega (arith, below, end)
      | inr beyond ↦ low page (sym (has_permission old page) ∙ sym (ap is_some (cond-false (is_among first n page) perm (permission_at old page) beyond)) ∙ some)
    ]

-- a memory with such areas
set_flat : (memory : FlatMemory) (first n : ℕ) (perm : Perm) (new : List Area) → 0 < n → first + n ≤ 2 ^ 36 → IsFlat memory → joined (pieces first (first + n) (Some (area_at first n perm)) memory.areas) ≡ new
    → length new ≤ 128 → IsFlat (record memory { areas = new })
set_flat memory first n perm new some within flat made few =
    let from = pieces_from first n (Some (area_at first n perm)) memory.areas some (refl, refl) (IsFrom-in_order memory.areas flat.in_order) in
    let order : AreInOrder new = subst AreInOrder made (joined_in_order 0 (pieces first (first + n) (Some (area_at first n perm)) memory.areas) from) in
    let sets = pieces_set first n (Some (area_at first n perm)) memory.areas new (refl, refl) (sym made) in
    record {
      in_order = order;
      few = few;
      low = λ page inside. low_then memory.areas new first n (Some perm) page sets (λ there. within) flat.low inside;
      bytes = flat.bytes;
      whole = flat.whole;
      in_areas = λ page there. still_inside memory.areas new first n perm page sets (flat.in_areas page there);
    }

pub map-flat : (memory : FlatMemory) (first n : ℕ) (perm : Perm) (after : FlatMemory) → IsFlat memory → 0 < n → first + n ≤ 2 ^ 36 → map_of memory first n perm ≡ Ok after → IsFlat after
map-flat memory first n perm after flat some within is =
    let new : List Area = joined (with_area (area_at first n perm) memory.areas) in
    let free = accepted Taken (taken memory.areas first n) (at_most_128 (record memory { areas = new })) after is in
    let few = few_then (record memory { areas = new }) after free.1 in
    let made : if_few (joined (pieces first (first + n) (Some (area_at first n perm)) memory.areas)) ≡ if_few new =
    made_mapped memory.areas first n perm some flat.in_order free.0 ∙ ap (λ found. or_refused Taken found (if_few new)) free.0 in
    subst IsFlat few.0 (set_flat memory first n perm new some within flat (same_few (joined (pieces first (first + n) (Some (area_at first n perm)) memory.areas)) new few.1 made) few.1)

pub protect-flat : (memory : FlatMemory) (first n : ℕ) (perm : Perm) (after : FlatMemory) → IsFlat memory → 0 < n → first + n ≤ 2 ^ 36 → protect_of memory first n perm ≡ Ok after → IsFlat after
protect-flat memory first n perm after flat some within is =
    let new : List Area = joined (with_area (area_at first n perm) (areas_without first n memory.areas)) in
    let held = accepted OutsideAreas (outside memory.areas first n) (at_most_128 (record memory { areas = new })) after is in
    let few = few_then (record memory { areas = new }) after held.1 in
    let made : if_few (joined (pieces first (first + n) (Some (area_at first n perm)) memory.areas)) ≡ if_few new =
    made_protected memory.areas first n perm flat.in_order held.0 ∙ ap (λ found. or_refused OutsideAreas found (if_few new)) held.0 in
    subst IsFlat few.0 (set_flat memory first n perm new some within flat (same_few (joined (pieces first (first + n) (Some (area_at first n perm)) memory.areas)) new few.1 made) few.1)

-- a page that is left lies beyond them, and was there
kept_page : {X : Type 0} (beyond : Bool) (old : Option X) (bytes : X) → cond beyond old None ≡ Some bytes → (beyond ≡ true) × (old ≡ Some bytes)
kept_page true old bytes is = (refl, is)
kept_page false old bytes is = absurd (false≢true (ap is_some is))

pub unmap-flat : (memory : FlatMemory) (first n : ℕ) (after : FlatMemory) → IsFlat memory → 0 < n → unmap_of memory first n ≡ Ok after → IsFlat after
unmap-flat memory first n after flat some is =
    let new : List Area = areas_without first n memory.areas in
    let left : PageMap = retain_keys memory.present (is_beyond first n) in
    let few = few_then (record { areas = new; present = left }) after is in
    let made : joined (pieces first (first + n) None memory.areas) ≡ new =
    same_few (joined (pieces first (first + n) None memory.areas)) new few.1 (made_unmapped memory.areas first n some flat.in_order) in
    let sets = pieces_set first n None memory.areas new tt (sym made) in
    subst IsFlat few.0 (flat_from_pages (record { areas = new; present = left }) (without_in_order first n memory.areas some flat.in_order) few.1
    (λ page inside. low_then memory.areas new first n None page sets (λ there. absurd (false≢true there)) flat.low inside) (λ page bytes there.
    let kept = kept_page (is_beyond first n page) (get memory.present page) bytes (sym (get-unmapped memory.present first n page) ∙ there) in
    let old : IsPage memory.areas page bytes = pages_of_flat memory flat page bytes kept.1 in
    record {
      fit = old.fit;
      whole = old.whole;
      inside = sym (has_permission new page) ∙ ap is_some (sets page ∙ cond-false (is_among first n page) None (permission_at memory.areas page) (not-true (is_among first n page) kept.0))
          ∙ has_permission memory.areas page ∙ old.inside;
    }))

-- ---- at first
pub opening-flat : IsFlat empty_memory
opening-flat = flat_from_pages empty_memory tt (omega arith) (λ page inside. absurd (false≢true inside)) (λ page bytes there. absurd (false≢true (ap is_some (sym (get-empty nat_cmp page) ∙ there))))
