use Rattle.std.proofs.Common.{length, ◌∙◌, ap}
use Rattle.memory_uses.proofs.Answered.{since_on_err, outside_on_err, none_on_ok}
use Rattle.memory_uses.proofs.Living.{since-same}
use Rattle.memory_uses.proofs.saving.save_child.Goals as goal

pub returns-clause-unread : goal.returns-clause-unread
returns-clause-unread g c =
    since_on_err c.read_child-read.result (g.P.Nest.born (g.P.Nest.beside c.args.process.now c.args.child.now)) (g.P.Memory.state c.args.process.now).refused
    (g.P.Nest.nested c.read_child-read.new.process c.read_child-read.new.child) c.args.addr (length c.args.buf.now)
    (since-same _ _ _ _ (g.P.Nest.nested c.read_child-read.new.process c.read_child-read.new.child) (ap g.P.Nest.born c.copy_child-copied.ensures.beside)
    (g.met.P.Housing.refused_beside c.copy_child-copied.new.process c.copy_child-copied.new.child ∙ ap (λ s. s.refused) c.copy_child-copied.ensures.process.0)
    c.read_child-read.ensures.since)
    c.read_child-read.ensures.fault

pub returns-clause-all : goal.returns-clause-all
returns-clause-all g c ok =
    outside_on_err c.read_child-read.result (g.P.Nest.nested c.read_child-read.new.process c.read_child-read.new.child) c.args.addr (length c.args.buf.now)
    (ap (λ s. s.found) c.read_child-read.ensures.same ∙ none_on_ok c.copy_child-copied.result _ _ c.copy_child-copied.ensures.copied ok)
    c.read_child-read.ensures.fault
