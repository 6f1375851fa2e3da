use Rattle.std.proofs.Common.{sym, ◌∙◌}
use Rattle.frame_pool.proofs.TurnLemmas.{turn-stays, turn-leaves}
use Rattle.frame_pool.proofs.turns.ask_one.Goals as goal

pub returns-then-done-clause-turn : goal.returns-then-done-clause-turn
returns-then-done-clause-turn g c =
    turn-leaves g.P.FramePolicy.told c.args.ask c.args.at c.grant-granted.result c.args.policies.now.items c.remove.new.self.items
    c.index_mut-policy.result.now c.grant-granted.new.self
    c.requires.inside c.index_mut-policy.ensures.value (sym c.done.ensures ∙ c.if-done.true)
    c.grant-granted.ensures.granted c.grant-granted.ensures.denied c.remove.ensures.by_index.2

pub returns-else-done-clause-turn : goal.returns-else-done-clause-turn
returns-else-done-clause-turn g c =
    turn-stays g.P.FramePolicy.told c.args.ask c.args.at c.grant-granted.result c.args.policies.now.items
    c.index_mut-policy.result.now c.grant-granted.new.self
    c.requires.inside c.index_mut-policy.ensures.value (sym c.done.ensures ∙ c.if-done.false)
    c.grant-granted.ensures.granted c.grant-granted.ensures.denied
