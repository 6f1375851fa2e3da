-- The kernel's last number is at most that of the fork, granted or not.
use Rattle.server_top.proofs.ForkNumbers.{at-most-behind}
use Rattle.server_top.proofs.run.push_line.Goals as goal

pub returns-clause-last : goal.returns-clause-last
returns-clause-last g c = at-most-behind c.args.event.now _ _ _ c.requires.numbered c.in_ok-outcome.ensures.last
