-- No area and no page, on both sides.
use Rattle.std.proofs.Common.{refl, arith}
use Rattle.flat_memory.proofs.FlatCalls.{new-holds}
use Rattle.flat_memory.proofs.flat.Flat.new.Goals as goal

pub invariant_of-result : goal.invariant_of-result
invariant_of-result c = record {
  holds = new-holds c.in_ok-memory.memory c.in_ok-kept.kept c.args.pages c.args.last _ c.in_ok-memory.ensures.areas
      c.in_ok-memory.ensures.pages c.in_ok-kept.ensures.areas c.in_ok-kept.ensures.pages
      (omega arith) refl refl refl refl refl;
}
