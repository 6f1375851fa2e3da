use Rattle.resp_text.proofs.Readings.{one_break}
use Rattle.resp_text.proofs.laws.one_break.Goals as goal

pub returns : goal.returns
returns c = one_break
