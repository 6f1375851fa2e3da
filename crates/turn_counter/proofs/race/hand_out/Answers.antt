use Rattle.std.proofs.Common.{◌+◌, sym, ◌∙◌, subst, arith, List}
use Rattle.turn_cell.specs.Lists.{list_id}
use Rattle.turn_counter.specs.declared.race.Job.{Job}
use Rattle.turn_counter.proofs.Hands.{Handing, handing_none, handing_more, handed_out, one_left}
use Rattle.turn_counter.proofs.race.hand_out.Goals as goal

pub loop-number-init : goal.loop-number-init
loop-number-init c = (subst (λ (l : List Job). Handing (list_id c.args.seats.now) 0 c.args.seats.now l) (sym c.requires.room.0) (handing_none c.args.seats.now c.requires.list c.requires.new.0), c.requires.room.1)

pub take-requires : goal.take-requires
take-requires c = record { list = c.loop-number.invariant.0.list }

pub push_reserved-requires : goal.push_reserved-requires
push_reserved-requires c =
    let r = c.loop-number.invariant in
    let long = r.0.long in
    let room = r.1 in
    let ok = c.loop-number.jobs.ok.0 in
    let small = c.loop-number-test.true in
    omega arith

pub unreachable-requires : goal.unreachable-requires
unreachable-requires c =
    let r = c.loop-number.invariant.0 in
    let seats = c.requires.new.1 in
    let small = c.loop-number-test.true in
    one_left _ c.loop-number._number _ _ r (omega arith) (c.in-None.ensures.taken.1 c.loop-number._number)

pub loop-number-preserved : goal.loop-number-preserved
loop-number-preserved c =
    let r = c.loop-number.invariant in
    let seats = c.requires.new.1 in
    let small = c.loop-number-test.true in
    let t = c.in-Some.ensures in (
      subst (λ (l : List Job). Handing (list_id c.args.seats.now) (c.loop-number._number + 1) c.take.new.self l) (sym c.push_reserved.ensures.items)
          (handing_more _ c.loop-number._number c.loop-number.seats c.loop-number.jobs.items r.0 (omega arith) c.take.new.self c.in-Some.seat _ t.taken.0 t.list t.cell t.taken.1),
      c.push_reserved.ensures.capacity ∙ r.1,
    )

pub returns-clause-list : goal.returns-clause-list
returns-clause-list c = c.loop-number.invariant.0.list

pub returns-clause-cell : goal.returns-clause-cell
returns-clause-cell c = c.loop-number.invariant.0.same

pub returns-clause-jobs : goal.returns-clause-jobs
returns-clause-jobs c = let seats = c.requires.new.1 in handed_out _ c.loop-number._number c.loop-number.seats _ (omega arith) c.loop-number.invariant.0
