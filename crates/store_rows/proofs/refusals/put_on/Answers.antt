use Rattle.std.proofs.Common.{sym, subst}
use Rattle.store_meaning.specs.Standing.{IsStanding}
use Rattle.store_rows.proofs.refusals.put_on.Goals as goal

-- the put leaves the store standing, and the list changes nothing
pub returns-in_err-behind : goal.returns-in_err-behind
returns-in_err-behind g c = record {
  stands = subst IsStanding (sym c.list_of-2.ensures.same) c.put-answer.ensures.keeps.standing;
}

pub returns : goal.returns
returns g c = record {
  stands = subst IsStanding (sym c.list_of-2.ensures.same) c.put-answer.ensures.keeps.standing;
}
