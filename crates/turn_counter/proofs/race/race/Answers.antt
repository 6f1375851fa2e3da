use Rattle.std.proofs.Common.{◌≡◌, ◌++◌, ℕ, sym, ap, ◌∙◌, subst, refl, arith, List, length, take, drop}
use Rattle.std.proofs.Math.Seq.{take-append_seam}
use Rattle.turn_cell.specs.Seats.{CellId}
use Rattle.turn_cell.specs.Lists.{list_id}
use Rattle.turn_counter.specs.declared.counter.Counter.{Counter}
use Rattle.turn_counter.specs.declared.race.Job.{Job}
use Rattle.turn_counter.specs.Jobs.{HaveMade}
use Rattle.turn_counter.proofs.Hands.{counted}
use Rattle.turn_counter.proofs.race.race.Given.{Over}
use Rattle.turn_counter.proofs.race.race.Goals as goal
use Rattle.turn_counter.proofs.race.race.Goals.{After-run}

-- all of the jobs that ran, where no other lies behind them
ran : (jobs rest : List Job) (n : ℕ) → length jobs ≡ n → take n (jobs ++ rest) ≡ jobs
ran jobs rest n e = ap (λ (z : ℕ). take z (jobs ++ rest)) (sym e) ∙ take-append_seam jobs rest

-- the jobs that come back, each with its turns
back : (g : Over) (c : After-run g) → HaveMade (list_id c.hand_out.new.seats) c.args.turns (take c.hand_out.new.jobs.len (c.run.new.jobs ++ drop (length c.run.new.jobs) c.hand_out.new.jobs.items))
back g c =
    let id = c.hand_out.ensures.cell ∙ c.in-Ok-new.ensures.list.1 in
    let long = c.run.ensures.jobs.long in
    let out = c.hand_out.ensures.jobs.long in
    let ok = c.hand_out.new.jobs.ok.0 in
    let seats = ap (λ (z : CellId Counter). z.seats) c.in-Ok-new.ensures.list.1 in
    subst (λ (l : List Job). HaveMade (list_id c.hand_out.new.seats) c.args.turns l)
    (sym (ran c.run.new.jobs (drop (length c.run.new.jobs) c.hand_out.new.jobs.items) c.hand_out.new.jobs.len (omega arith)))
    (subst (λ (z : CellId Counter). HaveMade z c.args.turns c.run.new.jobs) (sym id) c.run.ensures.jobs)

pub hand_in-rising-requires-clause-jobs : goal.hand_in-rising-requires-clause-jobs
hand_in-rising-requires-clause-jobs g c = (c.args.turns, back g (goal.at.hand_in-rising-requires-clause-jobs g c).After-run)

pub returns : goal.returns
returns g c =
    let h = c.hand_in-rising.ensures in
    let jobs = back g (goal.at.returns g c).After-run in
    let id = h.cell ∙ (c.hand_out.ensures.cell ∙ c.in-Ok-new.ensures.list.1) in
    counted _ c.args.turns c.args.threads c.close-counter.result h.whole (h.made c.args.turns jobs)
    (ap (λ (z : CellId Counter). z.seats) id ∙ c.in-Ok-new.ensures.seats)
    _ (ap (λ (z : CellId Counter). z.first) id ∙ c.in-Ok-new.ensures.opening) refl c.close-counter.ensures
