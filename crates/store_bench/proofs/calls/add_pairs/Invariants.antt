use Rattle.store_meaning.specs.Standing.{IsStanding}
use Rattle.store_bench.proofs.calls.add_pairs.Given as goal

-- the store stands behind each put
abbrev pub invariant-loop-place : goal.invariant-loop-place
invariant-loop-place g l = IsStanding (g.M.Memory.state l.m)
