use Rattle.frame_pool.proofs.StandingLemmas.{undone_views}
use Rattle.frame_pool.proofs.turns.ask_standing.Goals as goal

pub returns-clause-undone : goal.returns-clause-undone
returns-clause-undone g c = undone_views g.P.FramePolicy.told c.ask_in_turn.new.policies.items c.ask_in_turn.ensures.undone
