use Rattle.std.proofs.Common.{sym}
use Rattle.trace_core.proofs.supplies.SupplyLemmas.{granted-taken, refused-by_pool}
use Rattle.trace_core.proofs.supply.SupplyAllot.take.Goals as goal

pub returns-in-Ok-clause-granted : goal.returns-in-Ok-clause-granted
returns-in-Ok-clause-granted g c =
    let now = c.args.self.now in
    granted-taken c.args.want c.in-Ok.frame _ _ now.asker now.refused now.pending c.behind_one-self.result
    now.pool.within (sym c.if-is_named.ensures) c.in-Ok.ensures.taken c.behind_one-self.ensures

pub returns-in-Err-clause-denied : goal.returns-in-Err-clause-denied
returns-in-Err-clause-denied g c =
    let now = c.args.self.now in
    let told = c.in-Err.ensures in
    refused-by_pool c.args.want c.in-Err.field-0 _ _ now.asker now.refused c.one_more-in-Err.new.refused c.one_more-in-Err.result.at now.pending c.behind_one-self.result
    now.pool.within (sym c.if-is_named.ensures) told.empty.0 told.unasked told.denied
    c.one_more-in-Err.ensures.counted c.one_more-in-Err.ensures.at c.behind_one-self.ensures
