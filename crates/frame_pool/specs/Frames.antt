-- What may be known of a pool, and how a request changes it.
use Rattle.std.specs.Prelude.{◌≡◌, ℕ, ◌<◌, List, [], ◌∷◌, ◌++◌, length}
use Rattle.std.specs.List.{range_with_len}
use Rattle.std.specs.List.Sorted.{IsPermutation}
use Rattle.vm_base.specs.Counts.{next_count}
use Rattle.vm_base.specs.Frames.{FrameView}
use Rattle.vm_base.specs.declared.frame_request.Asker.{Asker}
use Rattle.vm_base.specs.declared.frame_request.Want.{Want}
use Rattle.frame_pool.specs.declared.ask.Ask.{Ask}
use Rattle.frame_pool.specs.Policies.{PolicyView, AllGrant, DeniesAt, NoneIsDone, standing}

-- how many frames were made, and the numbers of those that are there, the next one last
pub record StackView : Type 0 where
  pub made : ℕ
  pub free : List ℕ

-- how many frames were made, the numbers of those that are in the pool, how often policies were asked, and the policies in the order in which they are asked
pub record PoolView : Type 0 where
  pub made : ℕ
  pub free : List ℕ
  pub asks : ℕ
  pub policies : List PolicyView

-- the same frames are in the pool
pub record KeepsFrames (old new : PoolView) : Type 0 where
  pub made : new.made ≡ old.made
  pub free : new.free ≡ old.free

-- what the policies of a pool are asked, where a frame is requested of it
abbrev pub ask_of : Asker → Want → PoolView → Ask
ask_of asker want pool =
    record { asker = asker; want = want; free = length pool.free; place = next_count pool.asks }

-- a frame left the pool, and each policy that was not done was asked for it and granted
pub record TakesOut (asker : Asker) (want : Want) (frame : FrameView) (old new : PoolView) : Type 0 where
  pub made : new.made ≡ old.made
  pub free : old.free ≡ new.free ++ frame.number ∷ []
  pub asks : new.asks ≡ next_count old.asks
  pub policies : AllGrant (ask_of asker want old) (standing old.policies) new.policies
  pub undone : NoneIsDone new.policies

-- a frame was there, and the policy at this place was asked for it and denied
pub record IsDenied (asker : Asker) (want : Want) (place : ℕ) (old new : PoolView) : Type 0 where
  pub some_free : 0 < length old.free
  pub made : new.made ≡ old.made
  pub free : new.free ≡ old.free
  pub asks : new.asks ≡ next_count old.asks
  pub policies : DeniesAt (ask_of asker want old) place (standing old.policies) new.policies
  pub undone : NoneIsDone new.policies

-- each frame that was made is in the pool or among those that are out, and at one place alone
abbrev pub AreAtOnePlace : PoolView → List ℕ → Type 0
AreAtOnePlace pool out = IsPermutation (pool.free ++ out) (range_with_len 0 pool.made)
