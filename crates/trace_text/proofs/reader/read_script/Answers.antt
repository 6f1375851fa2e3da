use Rattle.trace_text.proofs.ScriptLaws.{gives_script, gives_fault}
use Rattle.trace_text.proofs.reader.read_script.Goals as goal

pub returns-clause-found : goal.returns-clause-found
returns-clause-found c = gives_script c.args.text.now c.script_of.result c.script_of.ensures

pub returns-clause-refused : goal.returns-clause-refused
returns-clause-refused c = gives_fault c.args.text.now c.script_of.result c.script_of.ensures
