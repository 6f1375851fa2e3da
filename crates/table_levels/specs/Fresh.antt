-- Frames that were taken for tables.
use Rattle.std.specs.Prelude.{◌≡◌, Bool, true, false, Option, Some, None}
use Rattle.vm_base.specs.Frames.{FrameView}
use Rattle.vm_base.specs.FlatMemory.{zero_page}
use Rattle.table_levels.specs.declared.frames.Wanted.{Wanted}
use Rattle.table_levels.specs.declared.frames.Fresh.{Fresh}

-- a frame of zeros exactly where it is wanted
abbrev pub IsFresh : Bool → Option FrameView → Type 0
IsFresh true (Some frame) = frame.bytes ≡ zero_page
IsFresh true None = ⊥
IsFresh false (Some frame) = ⊥
IsFresh false None = Unit {0}

-- the frames for an upper and a middle table
abbrev pub AreFresh : Wanted → Option FrameView × Option FrameView → Type 0
AreFresh wanted frames = IsFresh wanted.upper frames.0 × IsFresh wanted.middle frames.1

-- the frames for all three
abbrev pub HasFresh : Wanted → Fresh → Type 0
HasFresh wanted fresh = IsFresh wanted.top fresh.top × IsFresh wanted.upper fresh.upper × IsFresh wanted.middle fresh.middle
