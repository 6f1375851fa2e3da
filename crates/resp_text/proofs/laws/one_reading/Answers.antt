use Rattle.resp_text.proofs.Readings.{one_stream}
use Rattle.resp_text.proofs.laws.one_reading.Goals as goal

pub returns : goal.returns
returns c = one_stream
