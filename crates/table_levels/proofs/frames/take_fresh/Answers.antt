-- The top table was granted, one below it refused, and the top table given back.
use Rattle.vm_base.specs.declared.frame_request.Want.TheVariants.{Top}
use Rattle.table_levels.specs.Requests.{wanted_if, wanted_lower}
use Rattle.table_levels.proofs.Asking.{refuses_after, fresh_count}
use Rattle.table_levels.proofs.frames.take_fresh.Goals as goal

pub returns-in-Err-clause-requests : goal.returns-in-Err-clause-requests
returns-in-Err-clause-requests g c =
    refuses_after g.A.Allot.goes (wanted_if c.args.wanted.top Top) (wanted_lower c.args.wanted) _ _ _ _ _ _
    c.in_ok-top.ensures.requests c.in-Err.ensures.requests c.give_back.ensures.given (fresh_count c.args.wanted.top Top c.in_ok-top.top c.in_ok-top.ensures.fresh)
