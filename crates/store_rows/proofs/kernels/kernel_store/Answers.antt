use Rattle.std.proofs.Common.{sym, subst, arith}
use Rattle.store_meaning.specs.Standing.{MayBegin}
use Rattle.store_rows.proofs.Openings.{kernel_may}
use Rattle.store_rows.proofs.kernels.kernel_store.Goals as goal

pub store_in-requires : goal.store_in-requires
store_in-requires g c = record {
  may = subst MayBegin (sym c.in_ok-kernel.ensures.memory)
      (kernel_may c.from.result _ (omega (arith, c.from.ensures, c.ranges.frames.fits)));
}
