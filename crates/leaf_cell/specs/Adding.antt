-- What it is to add a page, or to copy one: a frame at a place that was free, and the deals of it.
use Rattle.std.specs.Prelude.{◌≡◌, ℕ, ◌⊎◌, length, Bool, true, false, List, [], ◌∷◌, Option, Some, None, Result, Ok, Err, slice_set, slice_index_or}
use Rattle.vm_base.specs.declared.frame_request.Want.TheVariants as want
use Rattle.vm_base.specs.declared.refusals.Refused.{Refused as RefusedRequest}
use Rattle.vm_base.specs.Deals.{Deal, Granted, Denied, Returned, LeadsAlong}
use Rattle.std.specs.Option.{option_map, ForSome}
use Rattle.vm_base.specs.FlatMemory.{spliced}
use Rattle.vm_base.specs.Frames.{FrameView}
use Rattle.kernel_meaning.specs.Leaves.{Versions, with_version}
use Rattle.leaf_cell.specs.Inside.{IsPlaceOf}

-- a frame with these bytes lies at a place of the page that was free, and the table names it
pub record IsPut (bytes : List ℕ) (page : ℕ) (places : Versions) (old : List (Option FrameView)) (table : Versions) (new : List (Option FrameView)) : Type 0 where
  pub place : ℕ
  pub frame : FrameView
  pub home : IsPlaceOf page place
  pub free : slice_index_or old place None ≡ None
  pub named : table ≡ with_version places page place
  pub frames : new ≡ slice_set old place (Some frame)
  pub held : frame.bytes ≡ bytes

-- the deals of a page that is added, where the leaf table is there or not
abbrev pub AddingDeals : Bool → Result (Unit {0}) RefusedRequest → List Deal → Type 0
AddingDeals true (Ok done) deals = deals ≡ Granted want.Page ∷ []
AddingDeals true (Err refused) deals = deals ≡ Denied want.Page refused.at ∷ []
AddingDeals false (Ok done) deals = deals ≡ Granted want.Leaf ∷ Granted want.Page ∷ []
AddingDeals false (Err refused) deals =
    (deals ≡ Denied want.Leaf refused.at ∷ []) ⊎ (deals ≡ Granted want.Leaf ∷ Denied want.Page refused.at ∷ Returned ∷ [])

-- some such deals led from one state to another
pub record LedByAdding {State : Type 0} (goes : State → Deal → State → Type 0) (from to : State) (has_table : Bool) (result : Result (Unit {0}) RefusedRequest) : Type 0 where
  pub deals : List Deal
  pub led : LeadsAlong goes from deals to
  pub adding : AddingDeals has_table result deals

-- the deals of two frames, or of none
abbrev pub TwoDeals : Result (FrameView × FrameView) RefusedRequest → List Deal → Type 0
TwoDeals (Ok frames) deals = deals ≡ Granted want.Leaf ∷ Granted want.Page ∷ []
TwoDeals (Err refused) deals =
    (deals ≡ Denied want.Leaf refused.at ∷ []) ⊎ (deals ≡ Granted want.Leaf ∷ Denied want.Page refused.at ∷ Returned ∷ [])

-- some such deals led from one state to another
pub record LedByTwo {State : Type 0} (goes : State → Deal → State → Type 0) (from to : State) (result : Result (FrameView × FrameView) RefusedRequest) : Type 0 where
  pub deals : List Deal
  pub led : LeadsAlong goes from deals to
  pub two : TwoDeals result deals

-- a frame with some of its bytes replaced
abbrev pub with_stored : ℕ → List ℕ → FrameView → FrameView
with_stored at bytes frame = record frame { bytes = spliced frame.bytes at bytes }

-- the same where it is there
abbrev pub stored_in : Option FrameView → ℕ → List ℕ → Option FrameView
stored_in frame at bytes = option_map (with_stored at bytes) frame

-- a frame that is there has 4096 bytes
abbrev pub IsWholeFrame : Option FrameView → Type 0
IsWholeFrame frame = ForSome frame (λ it. length it.bytes ≡ 4096)
