use Rattle.store_meaning.specs.Standing.{IsStanding}
use Rattle.store_bench.proofs.run_lines.Given as goal

-- the store stands between lines
abbrev pub invariant-loop-line : goal.invariant-loop-line
invariant-loop-line g l = record {
  can : (goal.iterator-loop-line g).can_next l.line-iterator;
  finite : (goal.iterator-loop-line g).is_finite l.line-iterator;
  stands : IsStanding (g.M.Memory.state l.m);
}
