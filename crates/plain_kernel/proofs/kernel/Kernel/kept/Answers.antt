-- The one snapshot is what the map of snapshots has.
use Rattle.std.proofs.Common.{sym, ◌∙◌, ap}
use Rattle.std.specs.Ordering.{nat_cmp}
use Rattle.std.specs.FinMap.{get, get-empty}
use Rattle.plain_kernel.specs.Sides.{snapshots_of}
use Rattle.plain_kernel.proofs.OneSnapshot.{get-snapshots_of}
use Rattle.plain_kernel.proofs.kernel.Kernel.kept.Goals as goal

pub returns-in-Some-clause-found : goal.returns-in-Some-clause-found
returns-in-Some-clause-found c = c.numbered.ensures
    ∙ sym (ap (λ w. get w.snapshots c.args.number) (sym c.self.view_is) ∙ ap (λ s. get (snapshots_of s) c.args.number) c.in-Some.is ∙ get-snapshots_of c.in-Some.snapshot c.args.number)

pub returns-in-None-clause-found : goal.returns-in-None-clause-found
returns-in-None-clause-found c =
    sym (ap (λ w. get w.snapshots c.args.number) (sym c.self.view_is) ∙ ap (λ s. get (snapshots_of s) c.args.number) c.in-None.is ∙ get-empty nat_cmp c.args.number)
