-- A frame as its owner sees it.
use Rattle.std.specs.Prelude.{ℕ, List}
use Rattle.vm_base.specs.FlatMemory.{zero_page}

-- the number of a frame, and its 4096 bytes
pub record FrameView : Type 0 where
  pub number : ℕ
  pub bytes : List ℕ

-- a frame of zeros
abbrev pub new_frame : ℕ → FrameView
new_frame number = record { number = number; bytes = zero_page }
