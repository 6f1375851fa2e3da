use Rattle.std.proofs.Common.{Some}
use Rattle.resp_text.proofs.requests.push_item.Goals as goal

pub returns-clause-added : goal.returns-clause-added
returns-clause-added c = (
  Some c.in_ok-request.request,
  c.in_ok-request.ensures,
  c.in_ok-push.ensures.added,
)
