-- A cell as its contracts see it. A page is named by the place of its frame, where the definitions name it by its version.
use Rattle.std.specs.Prelude.{◌≡◌, ℕ, ◌+◌, Bool, false, List, [], ◌∷◌, take, drop, replicate, count_by, Option, None, is_some, unwrap_or, slice_index_or}
use Rattle.std.specs.Option.{option_map, option_and_then}
use Rattle.vm_base.specs.Frames.{FrameView}
use Rattle.vm_base.specs.FlatMemory.{zero_page}
use Rattle.leaf_cell.specs.Writable.{none_writable}
use Rattle.kernel_meaning.specs.Leaves.{version_at, Kept, CellLeaves, unused_cell, is_joined, parent_leaves, own_leaves, without_kept}

-- leaves with places, what lies at each place, and for each page whether its entry in the parent's table tells that it may be written to
pub record CellView : Type 0 where
  pub leaves : CellLeaves
  pub frames : List (Option FrameView)
  pub writable : List Bool

-- so many snapshots have a cell at one time, at most
abbrev pub most_kept : ℕ
most_kept = 1

-- a cell that nobody has: room for two frames of each page
abbrev pub new_view : CellView
new_view = record { leaves = unused_cell; frames = replicate 1024 None; writable = none_writable }

-- the frames that a cell holds: the parent's leaf table where it has a page, the snapshots' own, and those at places
abbrev pub held_of : CellView → ℕ
held_of view = parent_leaves view.leaves + own_leaves view.leaves + count_by is_some view.frames

-- the leaves without snapshot n
abbrev pub without_snapshot : ℕ → CellLeaves → CellLeaves
without_snapshot n cell = record cell { kept = without_kept n cell.kept }

-- no leaf is joined
abbrev pub AreUnjoined : List Kept → Type 0
AreUnjoined [] = Unit {0}
AreUnjoined (kept ∷ others) = (is_joined kept.leaf ≡ false) × AreUnjoined others

-- the bytes of the frame at a place
abbrev pub frame_bytes : List (Option FrameView) → ℕ → Option (List ℕ)
frame_bytes frames place = option_map (λ frame. frame.bytes) (slice_index_or frames place None)

-- the bytes of a page that lies at this place, or nowhere
abbrev pub bytes_in : List (Option FrameView) → Option ℕ → Option (List ℕ)
bytes_in frames place = option_and_then (frame_bytes frames) place

-- the parent's page, where it is present
abbrev pub parent_page : CellView → ℕ → Option (List ℕ)
parent_page view page = bytes_in view.frames (version_at view.leaves.parent page)

-- a page of what a snapshot has here
abbrev pub kept_page : CellView → Kept → ℕ → Option (List ℕ)
kept_page view kept page = bytes_in view.frames (version_at kept.versions page)

-- the bytes of a page, zeros where it is absent
abbrev pub page_or_zeros : Option (List ℕ) → List ℕ
page_or_zeros bytes = unwrap_or bytes zero_page

-- n bytes of a page from a place on, zeros where the page is absent
abbrev pub part_of : Option (List ℕ) → ℕ → ℕ → List ℕ
part_of bytes at n = take n (drop at (page_or_zeros bytes))
