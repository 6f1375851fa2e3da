-- What an event answers that changes areas or forks, and what a fork answers as a process, by the answer of the parts.
use Rattle.std.specs.Prelude.{ℕ, Result, Ok, Err}
use Rattle.vm_base.specs.declared.faults.ForkFault.{ForkFault}
use Rattle.vm_base.specs.declared.faults.ForkFault.TheVariants as fault
use Rattle.area_list.specs.declared.fault.AreaFault.{AreaFault}
use Rattle.area_list.specs.Answers.{refusal_of}
use Rattle.trace_events.specs.declared.outcome.Outcome.{Outcome}
use Rattle.trace_events.specs.declared.outcome.Outcome.TheVariants as outcome
use Rattle.trace_core.specs.declared.process.SoloChild.{SoloChild}
use Rattle.trace_core.specs.declared.snapshots.ForkRefusal.{ForkRefusal}
use Rattle.trace_core.specs.declared.snapshots.ForkRefusal.TheVariants.{NoFrame, TooMany}
use Rattle.trace_core.specs.EventMeaning.{refusal_outcome}

-- what an event answers that changes areas
abbrev pub area_outcome : Result (Unit {0}) AreaFault → Outcome
area_outcome (Ok done) = outcome.Done
area_outcome (Err refused) = refusal_outcome (refusal_of refused)

-- what an event answers that is a fork
abbrev pub fork_outcome : Result (Unit {0}) ForkRefusal → Outcome
fork_outcome (Ok done) = outcome.Done
fork_outcome (Err (NoFrame at)) = outcome.NoFrame at
fork_outcome (Err TooMany) = outcome.TooMany

-- what a fork of the child of this number answers
abbrev pub child_answer : Result (Unit {0}) ForkRefusal → ℕ → Result SoloChild ForkFault
child_answer (Ok done) number = Ok (record { number = number })
child_answer (Err (NoFrame at)) number = Err (fault.NoFrame at)
child_answer (Err TooMany) number = Err fault.TooMany
