use Rattle.store_meaning.specs.Standing.{IsStanding}
use Rattle.store_rows.proofs.sequences.have_same.Given as goal

-- the store stands behind each get
abbrev pub invariant-loop-number : goal.invariant-loop-number
invariant-loop-number g l = IsStanding (g.M.Memory.state l.m)
