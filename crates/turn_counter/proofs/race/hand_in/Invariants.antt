use Rattle.turn_cell.specs.Lists.{list_id}
use Rattle.turn_counter.proofs.Hands.{Handed}
use Rattle.turn_counter.proofs.race.hand_in.Given as goal

abbrev pub invariant-loop-job : goal.invariant-loop-job
invariant-loop-job l = Handed (list_id l.initial.seats) l.initial.jobs.items l.seats l.jobs.items

abbrev pub decreases-loop-job : goal.decreases-loop-job
decreases-loop-job l = goal.left-loop-job l
