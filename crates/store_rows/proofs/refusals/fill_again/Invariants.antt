use Rattle.store_meaning.specs.Standing.{IsStanding}
use Rattle.store_rows.proofs.refusals.fill_again.Given as goal

-- the store stands behind each put
abbrev pub invariant-loop-number : goal.invariant-loop-number
invariant-loop-number g l = IsStanding (g.M.Memory.state l.m)
