-- The list that mapping, unmapping and protecting n pages leave, or the refusal.
use Rattle.std.specs.Prelude.{ℕ, List, length, nat_le, Result, Ok, Err, if◌then◌else◌}
use Rattle.vm_base.specs.declared.permission.Perm.{Perm}
use Rattle.vm_base.specs.FlatMemory.{Area, FlatMemory}
use Rattle.vm_base.specs.FlatStep.{Refusal, Taken, OutsideAreas, TooManyAreas, or_refused, taken, outside, joined, with_area, areas_without}

-- n pages as one area
abbrev pub area_at : ℕ → ℕ → Perm → Area
area_at first n perm = record { first = first; pages = n; perm = perm }

-- a list has at most 128 areas
abbrev pub if_few : List Area → Result (List Area) Refusal
if_few areas = if nat_le (length areas) 128 then Ok areas else Err TooManyAreas

-- mapping n pages, above 0, that no area has
abbrev pub areas_mapped : List Area → ℕ → ℕ → Perm → Result (List Area) Refusal
areas_mapped areas first n perm =
    or_refused Taken (taken areas first n) (if_few (joined (with_area (area_at first n perm) areas)))

-- unmapping n pages, above 0
abbrev pub areas_unmapped : List Area → ℕ → ℕ → Result (List Area) Refusal
areas_unmapped areas first n = if_few (areas_without first n areas)

-- giving n pages, above 0, another permission
abbrev pub areas_protected : List Area → ℕ → ℕ → Perm → Result (List Area) Refusal
areas_protected areas first n perm =
    or_refused OutsideAreas (outside areas first n)
    (if_few (joined (with_area (area_at first n perm) (areas_without first n areas))))

-- a memory whose areas have changed, or the refusal
abbrev pub on_memory : FlatMemory → Result (List Area) Refusal → Result FlatMemory Refusal
on_memory memory (Ok areas) = Ok (record memory { areas = areas })
on_memory memory (Err refusal) = Err refusal
