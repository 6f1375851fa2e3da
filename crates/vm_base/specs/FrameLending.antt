-- What a frame becomes once its bytes were lent.
use Rattle.std.specs.Prelude.{ℕ, List}
use Rattle.std.specs.Borrow.{Lends, MutBor, Fml, Array, u8 as byte}
use Rattle.vm_base.specs.Frames.{FrameView}
use Rattle.vm_base.specs.contracts.page_frame.Frame.{the_row}

-- the frame ends with the last bytes behind r
abbrev pub LendsBytes : MutBor FrameView → MutBor (List ℕ) → Fml
LendsBytes frame r = Lends the_row (Array byte 0) frame r (λ bytes. record frame.now { bytes = bytes })
