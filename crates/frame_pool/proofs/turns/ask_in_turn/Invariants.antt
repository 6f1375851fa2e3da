use Rattle.std.proofs.Common.{◌≡◌, ◌-◌, ◌≤◌, false, length, All}
use Rattle.frame_pool.specs.Turns.{HaveGranted}
use Rattle.frame_pool.proofs.turns.ask_in_turn.Given as goal

abbrev pub invariant-loop-at : goal.invariant-loop-at
invariant-loop-at g l =
    HaveGranted g.P.FramePolicy.told l.ask l.place l.at l.initial.policies.items l.policies.items
    × All (λ policy. (g.P.FramePolicy.told policy).done ≡ false) l.policies.items
    × (length l.policies.items ≤ length l.initial.policies.items)

abbrev pub decreases-loop-at : goal.decreases-loop-at
decreases-loop-at g l = length l.policies.items - l.at
