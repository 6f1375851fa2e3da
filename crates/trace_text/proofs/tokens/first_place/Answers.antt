use Rattle.trace_text.proofs.Parts.{first_is_position, first_is_within}
use Rattle.trace_text.proofs.tokens.first_place.Goals as goal

pub returns-clause-place : goal.returns-clause-place
returns-clause-place c = first_is_position c.args.byte c.args.text.now c.memchr.result c.memchr.ensures

pub returns-clause-within : goal.returns-clause-within
returns-clause-within c = first_is_within c.args.byte c.args.text.now c.memchr.result c.memchr.ensures
