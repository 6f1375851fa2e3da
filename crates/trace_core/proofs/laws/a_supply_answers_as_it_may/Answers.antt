use Rattle.trace_core.proofs.supplies.AnswerLemmas.{deals_lead_on}
use Rattle.trace_core.proofs.laws.a_supply_answers_as_it_may.Goals as goal

pub returns-clause-goes_on : goal.returns-clause-goes_on
returns-clause-goes_on c = deals_lead_on
