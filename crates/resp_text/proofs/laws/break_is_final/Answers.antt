use Rattle.resp_text.proofs.Readings.{break_is_final}
use Rattle.resp_text.proofs.laws.break_is_final.Goals as goal

pub returns : goal.returns
returns c = break_is_final
