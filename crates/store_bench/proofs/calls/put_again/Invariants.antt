use Rattle.store_meaning.specs.Standing.{IsStanding}
use Rattle.store_bench.proofs.calls.put_again.Given as goal

-- the store stands behind each put
abbrev pub invariant-loop-turn : goal.invariant-loop-turn
invariant-loop-turn g l = IsStanding (g.M.Memory.state l.m)
