use Rattle.trace_text.proofs.ScriptLaws.{script_or_fault, one_fault, no_script_with_fault}
use Rattle.trace_text.proofs.laws.script_or_fault.Goals as goal

pub returns-clause-either : goal.returns-clause-either
returns-clause-either c = script_or_fault

pub returns-clause-one_fault : goal.returns-clause-one_fault
returns-clause-one_fault c = one_fault

pub returns-clause-not_both : goal.returns-clause-not_both
returns-clause-not_both c = no_script_with_fault
