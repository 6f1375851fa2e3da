use Rattle.std.proofs.Common.{sym, subst, arith}
use Rattle.store_meaning.specs.Standing.{MayBegin}
use Rattle.store_dump.proofs.Openings.{flat_may, begun_stands}
use Rattle.store_dump.proofs.main.Goals as goal

pub begin-requires : goal.begin-requires
begin-requires c = record { may = subst MayBegin (sym c.in_ok-flat.ensures.memory) (flat_may 1024 (omega arith)) }

pub run_calls-requires : goal.run_calls-requires
run_calls-requires c = record { stands = begun_stands _ _ c.in_default.ensures.begun }
