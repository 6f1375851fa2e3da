use Rattle.std.proofs.Common.{refl}
use Rattle.trace_core.proofs.runs.RunSteps.{refuse-ran}
use Rattle.trace_core.proofs.parts.Parts.refuse.Goals as goal

pub returns : goal.returns
returns g c = record { ran = refuse-ran _ _ c.args.nth c.requires.some c.refuse.ensures; others = refl }
