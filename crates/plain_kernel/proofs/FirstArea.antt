-- Mapping the first area.
use Rattle.std.proofs.Common.{◌≡◌, ℕ, List, [], ◌∷◌, Ok, refl, ◌∙◌, ap}
use Rattle.vm_base.specs.declared.permission.Perm.{Perm}
use Rattle.vm_base.specs.FlatMemory.{Area, FlatMemory, area_of}
use Rattle.vm_base.specs.FlatStep.{map_of, or_refused, Taken, at_most_128}
use Rattle.vm_base.proofs.Ranges.{lowest_fails}
use Rattle.std.specs.Option.{is_some}

-- a memory without an area, and then with this one
pub map_of-first : (memory : FlatMemory) (first pages : ℕ) (perm : Perm) → memory.areas ≡ []
    → map_of memory first pages perm ≡ Ok (record { areas = record { first = first; pages = pages; perm = perm } ∷ []; present = memory.present })
map_of-first memory first pages perm none =
    let bare : FlatMemory = record { areas = []; present = memory.present } in
    let same : memory ≡ bare = ap (λ (areas : List Area). record { areas = areas; present = memory.present }) none in
    ap (λ (m : FlatMemory). map_of m first pages perm) same
    ∙ ap (λ found. or_refused Taken found (at_most_128 (record bare { areas = record { first = first; pages = pages; perm = perm } ∷ [] })))
    (lowest_fails pages first (λ page. is_some (area_of [] page)) (λ k. refl))
