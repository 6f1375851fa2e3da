use Rattle.trace_core.proofs.runs.RefusalLists.{told-by-refused, one-by-refused}
use Rattle.trace_core.proofs.laws.a_run_is_told_by_its_refused_requests.Goals as goal

pub returns : goal.returns
returns c = record { told = told-by-refused; one = one-by-refused }
