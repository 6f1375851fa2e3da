-- Small cases of the definitions, worked out.
use Rattle.std.proofs.Common.{◌≡◌, ℕ, ◌*◌, List, [], ◌∷◌, map, refl, ap, lit≤}
use Rattle.std.specs.Prelude.{Some, None, Ok, Err}
use Rattle.std.specs.Ordering.{nat_cmp}
use Rattle.std.specs.FinMap.{empty, get-empty}
use Rattle.std.specs.List.{range_with_len}
use Rattle.vm_base.specs.declared.permission.Perm.{Perm}
use Rattle.vm_base.specs.declared.permission.Perm.TheVariants.{Read, ReadWrite}
use Rattle.vm_base.specs.Places.{page_of, offset_of, cell_of, page_count, cells_of_range, directory_frames}
use Rattle.vm_base.specs.FlatMemory.{Area, FlatMemory, bytes_at, spliced}
use Rattle.vm_base.specs.FlatStep.{Taken, TooManyAreas, OutsideAreas, areas_without, outside, unwritable, touch_of, map_of, protect_of}
use Rattle.vm_base.specs.TwoSides.{World, Loss, NotLive, OutsideSnapshot, CellLost, with_parent, forked, kept_read_of, snap_read_of}
use Rattle.vm_base.proofs.FlatBytes.{bytes_at-absent}
use Rattle.vm_base.proofs.NumberedMaps.{get_inserted_here}

-- ---- places
last_byte_of_the_first_cell : (page_of 0x1fffff ≡ 511) × (offset_of 0x1fffff ≡ 4095) × (cell_of 511 ≡ 0) × (cell_of 512 ≡ 1)
last_byte_of_the_first_cell = (refl, refl, refl, refl)

a_range_across_two_pages : (page_count 0xfff 1 ≡ 1) × (page_count 0xfff 2 ≡ 2) × (cells_of_range 0x1fffff 2 ≡ 0 ∷ 1 ∷ [])
a_range_across_two_pages = (refl, refl, refl)

-- one table a level, and more where the cells lie further apart
directories : (directory_frames [] ≡ 0) × (directory_frames (7 ∷ []) ≡ 3) × (directory_frames (7 ∷ 8 ∷ []) ≡ 3) × (directory_frames (0 ∷ 512 ∷ []) ≡ 4) × (directory_frames (0 ∷ 262144 ∷ []) ≡ 5)
directories = (refl, refl, refl, refl, refl)

-- ---- areas
abbrev area : ℕ → ℕ → Perm → Area
area first pages perm = record { first = first; pages = pages; perm = perm }

abbrev mapped : List Area → FlatMemory
mapped areas = record { areas = areas; present = empty }

-- areas that touch are one where they may be used alike
touching_areas : map_of (mapped (area 1 2 ReadWrite ∷ [])) 3 1 ReadWrite ≡ Ok (mapped (area 1 3 ReadWrite ∷ []))
touching_areas = refl

other_permissions : map_of (mapped (area 1 2 ReadWrite ∷ [])) 3 1 Read ≡ Ok (mapped (area 1 2 ReadWrite ∷ area 3 1 Read ∷ []))
other_permissions = refl

-- the lowest page that is taken is named, and not where its area begins
lowest_taken_page : map_of (mapped (area 1 4 ReadWrite ∷ [])) 3 9 ReadWrite ≡ Err (Taken 3)
lowest_taken_page = refl

-- a page in the middle gets another permission, and its old one again
a_page_in_the_middle : protect_of (mapped (area 256 3 ReadWrite ∷ [])) 257 1 Read ≡ Ok (mapped (area 256 1 ReadWrite ∷ area 257 1 Read ∷ area 258 1 ReadWrite ∷ []))
a_page_in_the_middle = refl

the_same_page_again : protect_of (mapped (area 256 1 ReadWrite ∷ area 257 1 Read ∷ area 258 1 ReadWrite ∷ [])) 257 1 ReadWrite ≡ Ok (mapped (area 256 3 ReadWrite ∷ []))
the_same_page_again = refl

-- a range over several areas is taken out, with gaps passed over
pages_taken_out : areas_without 2 4 (area 1 2 ReadWrite ∷ area 5 3 Read ∷ []) ≡ area 1 1 ReadWrite ∷ area 6 2 Read ∷ []
pages_taken_out = refl

-- the lowest page of a range that lies outside, or may only be read
lowest_pages : (outside (area 1 2 ReadWrite ∷ []) 1 3 ≡ Some 3) × (unwritable (area 1 2 ReadWrite ∷ area 3 1 Read ∷ []) 1 3 ≡ Some 3) × (outside (area 1 2 ReadWrite ∷ area 3 1 Read ∷ []) 1 3 ≡ None)
lowest_pages = (refl, refl, refl)

-- ---- bytes
an_absent_page_reads_as_zeros : bytes_at empty 0x100fff 1 ≡ 0 ∷ []
an_absent_page_reads_as_zeros = bytes_at-absent empty 0x100fff 1 (get-empty nat_cmp 256) (lit≤ tt)

some_bytes_replaced : spliced (1 ∷ 2 ∷ 3 ∷ 4 ∷ []) 1 (8 ∷ 9 ∷ []) ≡ 1 ∷ 8 ∷ 9 ∷ 4 ∷ []
some_bytes_replaced = refl

-- ---- two sides
-- whatever the parent becomes, its snapshot reads the memory at the fork
a_snapshot_keeps_its_memory : (world : World) (n address size : ℕ) (later : FlatMemory)
    → snap_read_of (with_parent (forked world n) later) n address size ≡ kept_read_of (Some world.parent) world.losses n address size
a_snapshot_keeps_its_memory world n address size later =
    ap (λ found. kept_read_of found world.losses n address size) (get_inserted_here world.snapshots n world.parent n refl)

-- 128 areas with gaps between them: one more is too many, and none is too many where it joins two
abbrev every_other_page : List Area
every_other_page = map (λ n. area (2 * n) 1 ReadWrite) (range_with_len 0 128)

too_many_areas : map_of (mapped every_other_page) 1000 1 ReadWrite ≡ Err TooManyAreas
too_many_areas = refl

a_gap_closed : map_of (mapped (area 0 1 ReadWrite ∷ area 2 1 ReadWrite ∷ [])) 1 1 ReadWrite ≡ Ok (mapped (area 0 3 ReadWrite ∷ []))
a_gap_closed = refl

-- a page outside stands before an earlier page that may only be read
outside_first : touch_of (mapped (area 1 1 Read ∷ [])) 0x1fff 2 ≡ Err (OutsideAreas 2)
outside_first = refl

abbrev loss : ℕ → ℕ → ℕ → Loss
loss snapshot cell at = record { snapshot = snapshot; cell = cell; at = at }

-- no snapshot, then no area, then the lowest lost cell of the range
refused_reads : (kept_read_of None (loss 1 0 9 ∷ []) 1 0 1 ≡ Err NotLive)
    × (kept_read_of (Some (mapped [])) (loss 1 0 9 ∷ []) 1 0 1 ≡ Err (OutsideSnapshot 0))
    × (kept_read_of (Some (mapped (area 0 1024 ReadWrite ∷ []))) (loss 2 0 5 ∷ loss 1 1 7 ∷ loss 1 0 9 ∷ []) 1 0x1fffff 2 ≡ Err (CellLost 9))
refused_reads = (refl, refl, refl)
