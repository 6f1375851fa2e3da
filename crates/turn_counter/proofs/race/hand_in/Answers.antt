use Rattle.std.proofs.Common.{arith}
use Rattle.turn_counter.proofs.Hands.{handed_in}
use Rattle.turn_counter.proofs.race.hand_in.Goals as goal

pub returns-clause-whole : goal.returns-clause-whole
returns-clause-whole c = (handed_in _ c.args.jobs.items c.loop-job.jobs.items c.loop-job.seats c.requires.jobs.0 c.loop-job.invariant (let none = c.in_default.ensures.cases.0 in let ok = c.loop-job.jobs.ok.0 in omega arith) c.requires.jobs.1).0

pub returns-clause-made : goal.returns-clause-made
returns-clause-made c = (handed_in _ c.args.jobs.items c.loop-job.jobs.items c.loop-job.seats c.requires.jobs.0 c.loop-job.invariant (let none = c.in_default.ensures.cases.0 in let ok = c.loop-job.jobs.ok.0 in omega arith) c.requires.jobs.1).1
