use Rattle.trace_core.proofs.events.AreaChanges.{ran-map, refused-same}
use Rattle.trace_core.proofs.parts.Parts.map.Goals as goal

-- src/writing.rt:23:5
pub returns-clause-ran : goal.returns-clause-ran
returns-clause-ran g c = λ machine state st. ran-map _ machine state st c.args.first c.args.pages c.args.perm c.map.new.self c.map.result c.map.ensures.answer

pub returns-clause-refused : goal.returns-clause-refused
returns-clause-refused g c = refused-same _ c.map.new.self c.map.result _ c.map.ensures.answer
