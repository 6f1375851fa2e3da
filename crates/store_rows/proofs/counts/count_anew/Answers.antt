use Rattle.std.proofs.Common.{sym, subst}
use Rattle.store_meaning.specs.Standing.{IsStanding}
use Rattle.store_rows.proofs.counts.count_anew.Goals as goal

pub returns : goal.returns
returns g c = record { stands = subst (λ m. IsStanding (g.M.Memory.state m)) (sym c.take_calls.ensures.memory) c.requires.stands }
