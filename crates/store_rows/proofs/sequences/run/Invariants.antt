use Rattle.store_meaning.specs.Standing.{IsStanding}
use Rattle.store_rows.proofs.sequences.run.Given as goal

-- the store stands behind each call
abbrev pub invariant-loop : goal.invariant-loop
invariant-loop g l = IsStanding (g.M.Memory.state l.m)
