use Rattle.resp_text.proofs.Spellings.{one_spelling}
use Rattle.resp_text.proofs.laws.one_spelling.Goals as goal

pub returns : goal.returns
returns c = one_spelling
