-- The places of a cell for frames, which are made when the first frame comes.
use Rattle.std.specs.Prelude.{◌≡◌, ℕ, ◌≤◌, List, [], ◌∷◌, length, replicate, Option, None, slice_set, slice_index_or}
use Rattle.vm_base.specs.Frames.{FrameView}
use Rattle.leaf_cell.specs.Adding.{stored_in}

-- what lies at each place: before they are made all are free
abbrev pub opened : List (Option FrameView) → List (Option FrameView)
opened [] = replicate 1024 None
opened (slot ∷ slots) = slot ∷ slots

-- all places are made, or none is and there is room for all
abbrev pub AreSlots : List (Option FrameView) → ℕ → Type 0
AreSlots [] room = 1024 ≤ room
AreSlots (slot ∷ slots) room = length (slot ∷ slots) ≡ 1024

-- the places, with bytes stored in the frame at one of them
abbrev pub with_stored_at : List (Option FrameView) → ℕ → ℕ → List ℕ → List (Option FrameView)
with_stored_at frames place at bytes =
    slice_set frames place (stored_in (slice_index_or frames place None) at bytes)
