use Rattle.std.proofs.Common.{sym, subst, arith}
use Rattle.store_meaning.specs.Standing.{MayBegin}
use Rattle.store_rows.proofs.Openings.{kernel_may}
use Rattle.store_bench.proofs.main.Goals as goal

pub run_in-requires : goal.run_in-requires
run_in-requires c = record { may = subst MayBegin (sym c.in_ok-kernel.ensures.memory) (kernel_may 16384 _ (omega arith)) }
