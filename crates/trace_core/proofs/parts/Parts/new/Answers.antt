use Rattle.std.proofs.Common.{ap, refl}
use Rattle.trace_core.proofs.events.Writes.{opening-stands}
use Rattle.trace_core.proofs.runs.RunSteps.{run-opens}
use Rattle.trace_core.proofs.parts.Parts.new.Goals as goal

pub returns : goal.returns
returns g c =
    let opens = c.in_ok-supply.ensures in
    let stands = opening-stands c.args.frames c.args.cells c.args.last c.new-3.result c.new-3.ensures c.in_ok-tables.tables _ _
    opens c.in_ok-tables.ensures.stands c.in_ok-tables.ensures.slots c.in_ok-tables.ensures.held in
    record { stands = stands; alone = refl; unwritten = c.in_ok-tables.ensures.unwritten; supply = opens; begins = run-opens _ _ c.args.last _ stands (ap (λ s. s.policies) opens) }
