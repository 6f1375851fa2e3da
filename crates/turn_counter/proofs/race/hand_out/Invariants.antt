use Rattle.std.proofs.Common.{◌≡◌, vec_capacity}
use Rattle.turn_cell.specs.Lists.{list_id}
use Rattle.turn_counter.proofs.Hands.{Handing}
use Rattle.turn_counter.proofs.race.hand_out.Given as goal

abbrev pub invariant-loop-number : goal.invariant-loop-number
invariant-loop-number l = Handing (list_id l.initial.seats) l._number l.seats l.jobs.items × (vec_capacity l.jobs ≡ l.threads)
