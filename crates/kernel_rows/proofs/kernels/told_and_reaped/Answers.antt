use Rattle.std.proofs.Common.{sym, ◌∙◌, ap, subst}
use Rattle.std.specs.Prelude.{IsTrue}
use Rattle.kernel_meaning.specs.Leaves.{holds_number}
use Rattle.trace_core.specs.KernelStanding.{number_among}
use Rattle.trace_core.specs.Housed.{lives_numbered}
use Rattle.kernel_rows.proofs.kernels.told_and_reaped.Goals as goal

pub read_child-read-requires-clause-lives : goal.read_child-read-requires-clause-lives
read_child-read-requires-clause-lives g c =
    subst (λ beside. IsTrue (holds_number (number_among beside.beside.snapshot) beside.number))
    (sym c.child_copy-copied.ensures.beside) c.requires.lives
