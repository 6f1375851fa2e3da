use Rattle.memory_uses.proofs.Undone.{taken_back}
use Rattle.memory_uses.proofs.undoing.take_back.Goals as goal

pub returns-clause-undone : goal.returns-clause-undone
returns-clause-undone g c before mapped =
    taken_back c.unmap-undone.result _ _ before c.args.first c.args.pages c.requires.some mapped c.unmap-undone.ensures.unmapped c.unmap-undone.ensures.fault
