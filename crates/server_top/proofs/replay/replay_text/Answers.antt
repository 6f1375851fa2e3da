-- A text that is no stream is refused, and nothing came of it.
use Rattle.std.proofs.Common.{ap, refl}
use Rattle.std.specs.Prelude.{Err}
use Rattle.server_top.proofs.replay.replay_text.Goals as goal

pub returns-in-Err-Broken-clause-ran : goal.returns-in-Err-Broken-clause-ran
returns-in-Err-Broken-clause-ran g c =
    (refl, c.in-Err-Broken.ensures.broken (ap Err c.in-Err-Broken.field-0-is), (refl, refl))
