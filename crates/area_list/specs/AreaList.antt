-- Lists of areas: their form, and the permission that they give each page.
use Rattle.std.specs.Prelude.{◌≡◌, ℕ, Bool, ◌+◌, ◌≤◌, ◌<◌, ◌^◌, List, length, Option, Some, if◌then◌else◌, nat_le, nat_lt, ◌&&◌}
use Rattle.std.specs.List.{All}
use Rattle.std.specs.Option.{option_map}
use Rattle.vm_base.specs.declared.permission.Perm.{Perm}
use Rattle.vm_base.specs.FlatMemory.{Area, AreInOrder, area_of}

-- no area goes beyond page 2^36
abbrev pub AreWithin : List Area → Type 0
AreWithin areas = All (λ area. area.first + area.pages ≤ 2 ^ 36) areas

-- the areas of an address space: in order, so that those that touch and may be used alike are one; at most 128; and below page 2^36
pub record IsAreaList (areas : List Area) : Type 0 where
  pub in_order : AreInOrder areas
  pub few : length areas ≤ 128
  pub within : AreWithin areas

-- the page lies in this area, which goes not beyond page 2^36, and each page of the area lies in it too
pub record IsFound (areas : List Area) (page : ℕ) (area : Area) : Type 0 where
  pub reached : area.first ≤ page
  pub ahead : page < area.first + area.pages
  pub within : area.first + area.pages ≤ 2 ^ 36
  pub all : (other : ℕ) → area.first ≤ other → other < area.first + area.pages → area_of areas other ≡ Some area

-- what a page may be used for, if it lies in an area
abbrev pub permission_at : List Area → ℕ → Option Perm
permission_at areas page = option_map (λ area. area.perm) (area_of areas page)

-- the page is one of n pages
abbrev pub is_among : ℕ → ℕ → ℕ → Bool
is_among first n page = nat_le first page && nat_lt page (first + n)

-- n pages have this permission, or none, and every other page has the one that it had
abbrev pub Sets : List Area → List Area → ℕ → ℕ → Option Perm → Type 0
Sets old new first n perm =
    (page : ℕ) → permission_at new page ≡ (if is_among first n page then perm else permission_at old page)
