-- Reading, touching, storing and mapping on a flat memory. A call gives the bytes or the new memory, or the first refusal that the areas give.
use Rattle.std.specs.Prelude.{ℕ, ◌+◌, ◌-◌, nat_le, nat_lt, ◌==◌, Bool, true, false, not, ◌&&◌, if◌then◌else◌, zero, suc, List, [], ◌∷◌, ◌++◌, length, Option, Some, None, is_some, unwrap_or, Result, Ok, Err, slice_set}
use Rattle.std.specs.FinMap.{get, insert, contains_key, retain_keys}
use Rattle.std.specs.List.{find, range_with_len, flat_map}
use Rattle.vm_base.specs.declared.permission.Perm.{Perm}
use Rattle.vm_base.specs.declared.permission.Perm.TheVariants.{Read, ReadWrite}
use Rattle.vm_base.specs.Places.{page_of, offset_of, page_count}
use Rattle.vm_base.specs.FlatMemory.{Area, PageMap, FlatMemory, area_of, zero_page, bytes_at}

-- why a memory refuses: the lowest page that lies in no area, or may not be written, or is taken; or more areas than 128
pub data Refusal : Type 0 where
  OutsideAreas : ℕ → Refusal
  ReadOnly : ℕ → Refusal
  Taken : ℕ → Refusal
  TooManyAreas : Refusal

-- the lowest of n pages that passes a test
abbrev pub lowest : (ℕ → Bool) → ℕ → ℕ → Option ℕ
lowest test first n = find test (range_with_len first n)

-- the lowest of n pages that lies in no area
abbrev pub outside : List Area → ℕ → ℕ → Option ℕ
outside areas first n = lowest (λ page. not (is_some (area_of areas page))) first n

-- the lowest of n pages that lies in an area
abbrev pub taken : List Area → ℕ → ℕ → Option ℕ
taken areas first n = lowest (λ page. is_some (area_of areas page)) first n

-- an area that may be written
abbrev pub is_writable : Perm → Bool
is_writable Read = false
is_writable ReadWrite = true

-- the page lies in an area that may only be read
abbrev pub is_read_only : Option Area → Bool
is_read_only None = false
is_read_only (Some area) = not (is_writable area.perm)

-- the lowest of n pages that may only be read
abbrev pub unwritable : List Area → ℕ → ℕ → Option ℕ
unwritable areas first n = lowest (λ page. is_read_only (area_of areas page)) first n

-- what a call gives where nothing refuses it
abbrev pub or_refused : {X : Type 0} → (ℕ → Refusal) → Option ℕ → Result X Refusal → Result X Refusal
or_refused why None answer = answer
or_refused why (Some page) answer = Err (why page)

-- reading n bytes, above 0, from an address
abbrev pub read_of : FlatMemory → ℕ → ℕ → Result (List ℕ) Refusal
read_of memory address n =
    or_refused OutsideAreas (outside memory.areas (page_of address) (page_count address n)) (Ok (bytes_at memory.present address n))

-- a page of zeros where the page was absent
abbrev pub with_page : PageMap → ℕ → PageMap
with_page present page = if contains_key present page then present else insert present page zero_page

-- the same for n pages
abbrev pub with_pages : PageMap → ℕ → ℕ → PageMap
with_pages present first zero = present
with_pages present first (suc n) = with_pages (with_page present first) (first + 1) n

-- touching n bytes, above 0, from an address: each page of the range is present then
abbrev pub touch_of : FlatMemory → ℕ → ℕ → Result FlatMemory Refusal
touch_of memory address n =
    let first = page_of address in
    let count = page_count address n in
    or_refused OutsideAreas (outside memory.areas first count)
    (or_refused ReadOnly (unwritable memory.areas first count)
    (Ok (record memory { present = with_pages memory.present first count })))

-- one byte of a present page changed
abbrev pub with_byte : PageMap → ℕ → ℕ → PageMap
with_byte present address byte =
    insert present (page_of address)
    (slice_set (unwrap_or (get present (page_of address)) zero_page) (offset_of address) byte)

-- these bytes from an address on, where all pages of the range are present
abbrev pub with_bytes : PageMap → ℕ → List ℕ → PageMap
with_bytes present address [] = present
with_bytes present address (byte ∷ bytes) = with_bytes (with_byte present address byte) (address + 1) bytes

-- storing bytes in a memory that was touched; what is refused stores nothing
abbrev pub stored : Result FlatMemory Refusal → ℕ → List ℕ → Result FlatMemory Refusal
stored (Ok memory) address bytes = Ok (record memory { present = with_bytes memory.present address bytes })
stored (Err refusal) address bytes = Err refusal

-- writing bytes, at least one, from an address on: touching their range, and then storing them
abbrev pub write_of : FlatMemory → ℕ → List ℕ → Result FlatMemory Refusal
write_of memory address bytes = stored (touch_of memory address (length bytes)) address bytes

-- an area at its place in rising order
abbrev pub with_area : Area → List Area → List Area
with_area area [] = area ∷ []
with_area area (other ∷ areas) =
    if nat_le area.first other.first then area ∷ other ∷ areas else other ∷ with_area area areas

-- the permissions are the same
abbrev pub is_same_perm : Perm → Perm → Bool
is_same_perm Read Read = true
is_same_perm ReadWrite ReadWrite = true
is_same_perm Read ReadWrite = false
is_same_perm ReadWrite Read = false

-- an area in front of the others, made one with the next where they touch and have the same permission
abbrev pub joined_front : Area → List Area → List Area
joined_front area [] = area ∷ []
joined_front area (next ∷ areas) =
    if (area.first + area.pages == next.first) && is_same_perm area.perm next.perm
    then record area { pages = area.pages + next.pages } ∷ areas
    else area ∷ next ∷ areas

-- areas in rising order, with those that touch and have the same permission made one
abbrev pub joined : List Area → List Area
joined [] = []
joined (area ∷ areas) = joined_front area (joined areas)

-- an area with at least one page, or nothing
abbrev pub area_between : ℕ → ℕ → Perm → List Area
area_between first end perm =
    if nat_lt first end then record { first = first; pages = end - first; perm = perm } ∷ [] else []

-- what is left of an area without n pages: the part below them, and the part above
abbrev pub area_without : ℕ → ℕ → Area → List Area
area_without first n area =
    let end = area.first + area.pages in
    if nat_le end first then area ∷ []
    else if nat_le (first + n) area.first then area ∷ []
    else area_between area.first first area.perm ++ area_between (first + n) end area.perm

-- the areas without n pages
abbrev pub areas_without : ℕ → ℕ → List Area → List Area
areas_without first n areas = flat_map (area_without first n) areas

-- a memory has at most 128 areas
abbrev pub at_most_128 : FlatMemory → Result FlatMemory Refusal
at_most_128 memory = if nat_le (length memory.areas) 128 then Ok memory else Err TooManyAreas

-- mapping n pages, above 0, that no area has
abbrev pub map_of : FlatMemory → ℕ → ℕ → Perm → Result FlatMemory Refusal
map_of memory first n perm =
    let area : Area = record { first = first; pages = n; perm = perm } in
    or_refused Taken (taken memory.areas first n)
    (at_most_128 (record memory { areas = joined (with_area area memory.areas) }))

-- the pages that do not lie among n pages
abbrev pub is_beyond : ℕ → ℕ → ℕ → Bool
is_beyond first n page = not (nat_le first page && nat_lt page (first + n))

-- unmapping n pages, above 0: they lie in no area then, and none of them is present
abbrev pub unmap_of : FlatMemory → ℕ → ℕ → Result FlatMemory Refusal
unmap_of memory first n =
    at_most_128 (record {
      areas = areas_without first n memory.areas;
      present = retain_keys memory.present (is_beyond first n);
    })

-- giving n pages, above 0, another permission: they lie in areas, and keep all bytes
abbrev pub protect_of : FlatMemory → ℕ → ℕ → Perm → Result FlatMemory Refusal
protect_of memory first n perm =
    let area : Area = record { first = first; pages = n; perm = perm } in
    or_refused OutsideAreas (outside memory.areas first n)
    (at_most_128 (record memory { areas = joined (with_area area (areas_without first n memory.areas)) }))
