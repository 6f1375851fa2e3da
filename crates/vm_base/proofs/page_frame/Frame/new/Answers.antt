use Rattle.std.proofs.Common.{ap}
use Rattle.vm_base.proofs.page_frame.Frame.new.Goals as goal

pub returns : goal.returns
returns c = ap (λ bytes. record { number = c.args.number; bytes = bytes }) c.in_ok-new.ensures.ok
