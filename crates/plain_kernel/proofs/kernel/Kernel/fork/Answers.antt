-- The copy is the parent's whole memory, and no other snapshot lives.
use Rattle.std.proofs.Common.{◌∙◌, ap}
use Rattle.std.specs.FinMap.{len}
use Rattle.vm_base.specs.TwoSides.{forked}
use Rattle.plain_kernel.proofs.OneSnapshot.{forked_first}
use Rattle.plain_kernel.proofs.kernel.Kernel.fork.Goals as goal

pub returns-clause-world : goal.returns-clause-world
returns-clause-world c =
    forked_first c.self.inside.parent c.in_ok-memory.memory c.self.inside.snapshot c.self.inside.last c.args.number
    (ap (λ w. len w.snapshots) c.self.view_is ∙ c.requires) c.in_ok-memory.ensures
    ∙ ap (λ w. forked w c.args.number) c.self.view_is
