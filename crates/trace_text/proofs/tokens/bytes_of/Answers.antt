use Rattle.std.proofs.Common.{sym}
use Rattle.trace_text.proofs.BytesLaws.{odd_spells_none}
use Rattle.trace_text.proofs.tokens.bytes_of.Goals as goal

pub returns-then-digits-ne0 : goal.returns-then-digits-ne0
returns-then-digits-ne0 c = sym (odd_spells_none c.args.digits.now c.if-digits-ne0.true)
