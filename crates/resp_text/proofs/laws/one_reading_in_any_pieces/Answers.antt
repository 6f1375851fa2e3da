use Rattle.resp_text.proofs.Readings.{one_reading_in_any_pieces}
use Rattle.resp_text.proofs.laws.one_reading_in_any_pieces.Goals as goal

pub returns : goal.returns
returns c = one_reading_in_any_pieces
