use Rattle.std.proofs.Common.{sym, subst, arith}
use Rattle.store_meaning.specs.Standing.{MayBegin}
use Rattle.store_uses.proofs.Heaps.{opening_may}
use Rattle.store_uses.proofs.tests.a_block_given_back_is_given_again.Goals as goal

pub again-requires : goal.again-requires
again-requires g c = record { may = subst MayBegin (sym c.in_ok-flat.ensures.memory) (opening_may 64 (omega arith)) }
