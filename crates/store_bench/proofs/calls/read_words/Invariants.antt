use Rattle.std.proofs.Common.{◌≡◌}
use Rattle.store_bench.proofs.calls.read_words.Given as goal

-- nothing has changed behind each call
abbrev pub invariant-loop-turn : goal.invariant-loop-turn
invariant-loop-turn g l = g.M.Memory.state l.m ≡ g.M.Memory.state l.fn.m
