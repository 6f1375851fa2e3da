use Rattle.kernel_meaning.proofs.PoolLog.{other-load}
use Rattle.kernel_meaning.proofs.laws.the_parent_alone_changes_the_load.Goals as goal

pub returns : goal.returns
returns c = other-load
