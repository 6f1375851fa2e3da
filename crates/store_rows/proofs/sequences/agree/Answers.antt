use Rattle.std.proofs.Common.{sym, subst}
use Rattle.store_meaning.specs.Standing.{IsStanding}
use Rattle.store_rows.proofs.sequences.agree.Goals as goal

pub returns-then-are_same : goal.returns-then-are_same
returns-then-are_same g c = record { stands = subst IsStanding (sym c.len-count.ensures.same) c.have_same-are_same.ensures.stands }

pub returns-else-are_same : goal.returns-else-are_same
returns-else-are_same g c = record { stands = subst IsStanding (sym c.len-count.ensures.same) c.have_same-are_same.ensures.stands }
