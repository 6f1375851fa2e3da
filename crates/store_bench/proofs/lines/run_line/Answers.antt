use Rattle.std.proofs.Common.{sym, subst}
use Rattle.store_meaning.specs.Standing.{IsStanding}
use Rattle.store_bench.proofs.lines.run_line.Goals as goal

-- the call leaves the store standing, and the count changes nothing
pub returns-in_ok-ok-in-again : goal.returns-in_ok-ok-in-again
returns-in_ok-ok-in-again g c = record {
  stands = subst IsStanding (sym c.len-in-again.ensures.same) c.put_again.ensures.stands;
}

pub returns-in_ok-ok-in-add : goal.returns-in_ok-ok-in-add
returns-in_ok-ok-in-add g c = record {
  stands = subst IsStanding (sym c.len-in-add.ensures.same) c.add_pairs.ensures.stands;
}

pub returns-in-clear : goal.returns-in-clear
returns-in-clear g c = record {
  stands = subst IsStanding (sym c.len-in-clear.ensures.same) c.clear.ensures.keeps.standing;
}
