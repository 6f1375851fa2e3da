use Rattle.std.proofs.Common.{◌≡◌, map, All, vec_len, vec_capacity}
use Rattle.std.specs.List.{range_with_len}
use Rattle.vm_base.specs.FlatMemory.{zero_page}
use Rattle.frame_pool.proofs.frame_stack.FrameStack.new.Given as goal

abbrev pub invariant-loop-number : goal.invariant-loop-number
invariant-loop-number l =
    (map (λ frame. frame.number) l.frames.items ≡ range_with_len 0 l.number)
    × (vec_len l.frames ≡ l.number) × (vec_capacity l.frames ≡ l.made)
    × All (λ frame. frame.bytes ≡ zero_page) l.frames.items
