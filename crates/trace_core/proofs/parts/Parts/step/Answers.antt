use Rattle.trace_core.proofs.runs.RunSteps.{run-if-ok}
use Rattle.trace_core.proofs.parts.Parts.step.Goals as goal

pub returns-clause-run : goal.returns-clause-run
returns-clause-run g c = run-if-ok _ _ c.args.event.now c.run_event.result c.run_event.ensures.ran
