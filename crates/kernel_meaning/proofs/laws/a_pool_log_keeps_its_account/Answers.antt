use Rattle.kernel_meaning.proofs.PoolLog.{pool_log-kept}
use Rattle.kernel_meaning.proofs.laws.a_pool_log_keeps_its_account.Goals as goal

pub returns : goal.returns
returns c = pool_log-kept
