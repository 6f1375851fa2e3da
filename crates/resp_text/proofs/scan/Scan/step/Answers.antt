use Rattle.std.proofs.Common.{sym, subst}
use Rattle.resp_text.specs.Residual.{StepMeans, StepReads}
use Rattle.resp_text.specs.declared.scan.Step.{Step}
use Rattle.resp_text.proofs.Steps.{step_means}
use Rattle.resp_text.proofs.Histories.{step_reads}
use Rattle.resp_text.proofs.scan.Scan.step.Goals as goal

pub returns-clause-means : goal.returns-clause-means
returns-clause-means c = subst (λ (step : Step). StepMeans c.args.self c.args.byte step)
    (sym c.step_by.ensures) (step_means c.args.self c.args.byte c.requires.sound c.requires.at_byte)

pub returns-clause-reads : goal.returns-clause-reads
returns-clause-reads c = subst (λ (step : Step). StepReads c.args.self c.args.byte step)
    (sym c.step_by.ensures) (step_reads c.args.self c.args.byte c.requires.sound c.requires.at_byte)
