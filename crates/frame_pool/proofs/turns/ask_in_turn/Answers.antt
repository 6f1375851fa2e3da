use Rattle.std.proofs.Common.{length, arith}
use Rattle.frame_pool.proofs.AskLemmas.{HaveGranted-none, HaveGranted-one, DeniesAt-one, is_granted, is_refused}
use Rattle.frame_pool.proofs.turns.ask_in_turn.Goals as goal

pub loop-at-init : goal.loop-at-init
loop-at-init g c =
    let all = length c.args.policies.now.items in
    (HaveGranted-none g.P.FramePolicy.told c.args.ask c.args.policies.now.items, c.requires.undone, omega arith)

pub returns-then-not-answer-clause-denied : goal.returns-then-not-answer-clause-denied
returns-then-not-answer-clause-denied g c =
    DeniesAt-one g.P.FramePolicy.told c.args.ask c.ask_one-answer.result.granted c.loop-at.place c.loop-at.at c.ask_one-answer.result.next
    c.args.policies.now.items c.loop-at.policies.items c.ask_one-answer.new.policies.items
    c.loop-at.invariant.0 c.ask_one-answer.ensures.turn (is_refused c.ask_one-answer.result.granted c.if-not-answer.true)

pub loop-at-preserved : goal.loop-at-preserved
loop-at-preserved g c =
    let bound = c.loop-at.invariant.2 in
    let fewer = c.ask_one-answer.ensures.fewer in (
      HaveGranted-one g.P.FramePolicy.told c.args.ask c.ask_one-answer.result.granted c.loop-at.place c.loop-at.at c.ask_one-answer.result.next
          c.args.policies.now.items c.loop-at.policies.items c.ask_one-answer.new.policies.items
          c.loop-at.invariant.0 c.ask_one-answer.ensures.turn (is_granted c.ask_one-answer.result.granted c.if-not-answer.false),
      c.ask_one-answer.ensures.undone,
      omega arith,
    )
