-- The kernel's last number is at most that of the fork, granted or not.
use Rattle.server_top.proofs.ForkNumbers.{at-most-behind}
use Rattle.run_rows.proofs.two_kernels.framed_line.Goals as goal

pub returns : goal.returns
returns g c = record { last = at-most-behind c.args.event.now _ _ _ c.requires.numbered c.in_ok-outcome.ensures.last }
