use Rattle.kernel_meaning.proofs.CellLog.{cell_log-rises}
use Rattle.kernel_meaning.proofs.laws.a_cell_log_keeps_each_number_once.Goals as goal

pub returns : goal.returns
returns c = cell_log-rises
