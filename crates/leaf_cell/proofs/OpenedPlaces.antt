-- The places of a cell before they are made, and behind that.
use Rattle.std.proofs.Common.{◌≡◌, ℕ, zero, suc, ◌<◌, ◌≤◌, List, [], ◌∷◌, length, replicate, Option, None, refl, ◌∙◌, ap, arith}
use Rattle.std.specs.Prelude.{count_by, is_some, slice_index_or}
use Rattle.std.proofs.Math.ListN.{set, length-set}
use Rattle.std.proofs.lemmas.List.{get_or_past, length-replicate}
use Rattle.vm_base.specs.Frames.{FrameView}
use Rattle.leaf_cell.specs.FramePlaces.{opened, AreSlots}
use Rattle.leaf_cell.proofs.NewCell.{no_frame}

-- places that are made are as they are
pub opened-full : (slots : List (Option FrameView)) → length slots ≡ 1024 → opened slots ≡ slots
opened-full [] full = absurd (omega arith)
opened-full (slot ∷ slots) full = refl

pub slots-full : (slots : List (Option FrameView)) (room : ℕ) → length slots ≡ 1024 → AreSlots slots room
slots-full [] room full = absurd (omega arith)
slots-full (slot ∷ slots) room full = full

pub opened-size : (slots : List (Option FrameView)) (room : ℕ) → AreSlots slots room → length (opened slots) ≡ 1024
opened-size [] room are = length-replicate {A = Option FrameView} 1024 None
opened-size (slot ∷ slots) room are = are

-- before they are made there is room
pub slots-room : (slots : List (Option FrameView)) (room : ℕ) → AreSlots slots room → length slots ≡ 0 → 1024 ≤ room
slots-room [] room are none = are
slots-room (slot ∷ slots) room are none = absurd (omega arith)

pub slots-some : (slots : List (Option FrameView)) (room : ℕ) → AreSlots slots room → 0 < length slots → length slots ≡ 1024
slots-some [] room are some = absurd (omega arith)
slots-some (slot ∷ slots) room are some = are

pub slots-none : (slots : List (Option FrameView)) → length slots ≡ 0 → slots ≡ []
slots-none [] none = refl
slots-none (slot ∷ slots) none = absurd (omega arith)

-- no frame lies where no place is made
pub opened-past : (slots : List (Option FrameView)) (place : ℕ) → length slots ≤ place → slice_index_or (opened slots) place None ≡ None
opened-past [] place past = no_frame place
opened-past (slot ∷ slots) place past = get_or_past (slot ∷ slots) place None past

-- and elsewhere what lies there
pub opened-at : (slots : List (Option FrameView)) (place : ℕ) → place < length slots
    → slice_index_or (opened slots) place None ≡ slice_index_or slots place None
opened-at [] place small = absurd (omega arith)
opened-at (slot ∷ slots) place small = refl

none_counted : (n : ℕ) → count_by (λ (slot : Option FrameView). is_some slot) (replicate n None) ≡ 0
none_counted zero = refl
none_counted (suc n) = none_counted n

pub opened-counted : (slots : List (Option FrameView)) → count_by is_some (opened slots) ≡ count_by is_some slots
opened-counted [] = none_counted 1024
opened-counted (slot ∷ slots) = refl

-- a place of those that are made is set
pub opened-set : (slots places : List (Option FrameView)) (place : ℕ) (slot : Option FrameView) → length slots ≡ 1024 → slots ≡ places
    → opened (set slots place slot) ≡ set places place slot
opened-set slots places place slot full same =
    opened-full (set slots place slot) (length-set slots place slot ∙ full) ∙ ap (λ l. set l place slot) same
