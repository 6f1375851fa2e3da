use Rattle.std.proofs.Common.{sym, subst}
use Rattle.store_meaning.specs.Standing.{IsStanding}
use Rattle.store_rows.proofs.counts.calls_of_put.Goals as goal

pub returns : goal.returns
returns g c = record {
  stands = subst (λ m. IsStanding (g.M.Memory.state m)) (sym c.take_calls-calls-2.ensures.memory) c.put-answer.ensures.keeps.standing;
}
