-- A memory as its owner sees it: areas, and the bytes of the pages that are present.
use Rattle.std.specs.Prelude.{◌≡◌, ◌≢◌, ℕ, ◌+◌, ◌^◌, ◌≤◌, ◌<◌, nat_le, nat_lt, Bool, ◌&&◌, List, [], ◌∷◌, Option, Some, IsSome, unwrap_or, length, slice_index, replicate, map, take, drop, ◌++◌, All}
use Rattle.std.specs.Ordering.{nat_cmp}
use Rattle.std.specs.FinMap.{FinMap, get, empty, keys}
use Rattle.std.specs.List.{find, range_with_len}
use Rattle.vm_base.specs.declared.permission.Perm.{Perm}
use Rattle.vm_base.specs.Places.{page_of, offset_of, cell_of}

-- an area: its first page, how many pages it has, and what they may be used for
pub record Area : Type 0 where
  pub first : ℕ
  pub pages : ℕ
  pub perm : Perm

-- the pages that are present, each by its number, with its 4096 bytes
abbrev pub PageMap : Type 0
PageMap = FinMap nat_cmp (List ℕ)

-- the areas, and the pages that are present
pub record FlatMemory : Type 0 where
  pub areas : List Area
  pub present : PageMap

-- no area, and so no page
abbrev pub empty_memory : FlatMemory
empty_memory = record { areas = []; present = empty }

-- the page lies in the area
abbrev pub holds : Area → ℕ → Bool
holds area page = nat_le area.first page && nat_lt page (area.first + area.pages)

-- the area in which a page lies
abbrev pub area_of : List Area → ℕ → Option Area
area_of areas page = find (λ area. holds area page) areas

-- the bytes of a page without any
abbrev pub zero_page : List ℕ
zero_page = replicate 4096 0

-- the byte at an address: that of the present page, and 0 where the page is absent
abbrev pub byte_at : PageMap → ℕ → ℕ
byte_at present address = slice_index (unwrap_or (get present (page_of address)) []) (offset_of address)

-- the bytes of a range, one address after another
abbrev pub bytes_at : PageMap → ℕ → ℕ → List ℕ
bytes_at present address n = map (byte_at present) (range_with_len address n)

-- a page with some of its bytes, from a place on, replaced by others
abbrev pub spliced : List ℕ → ℕ → List ℕ → List ℕ
spliced page at bytes = take at page ++ bytes ++ drop (at + length bytes) page

-- the cells of a memory: those of its present pages, where a cell may come more than once
abbrev pub cells_of : FlatMemory → List ℕ
cells_of memory = map cell_of (keys memory.present)

-- each area has a page, and lies below the areas behind it, with a gap or another permission between the two
abbrev pub AreInOrder : List Area → Type 0
AreInOrder [] = Unit {0}
AreInOrder (a ∷ []) = 0 < a.pages
AreInOrder (a ∷ b ∷ areas) = (0 < a.pages) × (a.first + a.pages ≤ b.first) × (a.first + a.pages ≡ b.first → a.perm ≢ b.perm) × AreInOrder (b ∷ areas)

-- areas in order, whose pages lie below 2^36, and whole pages that lie in them
pub record IsFlat (memory : FlatMemory) : Type 0 where
  pub in_order : AreInOrder memory.areas
  pub few : length memory.areas ≤ 128
  pub bytes : (page : ℕ) (bytes : List ℕ) → get memory.present page ≡ Some bytes → All (λ byte. byte < 256) bytes
  pub whole : (page : ℕ) (bytes : List ℕ) → get memory.present page ≡ Some bytes → length bytes ≡ 4096
  pub low : (page : ℕ) → IsSome (area_of memory.areas page) → page < 2 ^ 36
  pub in_areas : (page : ℕ) → IsSome (get memory.present page) → IsSome (area_of memory.areas page)
