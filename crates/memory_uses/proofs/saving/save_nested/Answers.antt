use Rattle.std.proofs.Common.{IsTrue, length, ◌∙◌, ap, sym, subst}
use Rattle.memory_uses.proofs.Answered.{since_on_err, failed_before}
use Rattle.memory_uses.proofs.Living.{since-same}
use Rattle.memory_uses.proofs.saving.save_nested.Goals as goal

pub returns-clause-fault : goal.returns-clause-fault
returns-clause-fault g c =
    failed_before c.copy_nested-copied.result (g.P.Nest.nested c.args.process.now c.args.child.now) (g.P.Nest.nested c.copy_nested-copied.new.nest c.copy_nested-copied.new.child)
    (g.P.Nest.nested c.read_nested_twice-read.new.nest c.read_nested_twice-read.new.child)
    (g.P.Nest.born (g.P.Nest.beside c.args.process.now c.args.child.now)) (g.P.Memory.state c.args.process.now).refused
    c.copy_nested-copied.ensures.fault c.read_nested_twice-read.ensures.keeps.goes_on
    (since-same _ _ _ _ (g.P.Nest.nested c.copy_nested-copied.new.nest c.copy_nested-copied.new.child) (ap g.P.Nest.born c.copy_nested-copied.ensures.beside)
    (ap g.P.Nest.refused c.copy_nested-copied.ensures.beside ∙ g.met.P.Housing.refused_beside c.args.process.now c.args.child.now)
    (g.met.P.Housing.found_since c.copy_nested-copied.new.nest c.copy_nested-copied.new.child
    (subst (λ b. IsTrue (g.P.Nest.lives b)) (sym c.copy_nested-copied.ensures.beside) c.requires.lives)))

pub returns-clause-unread : goal.returns-clause-unread
returns-clause-unread g c =
    let beside = c.read_nested_twice-read.ensures.beside ∙ c.copy_nested-copied.ensures.beside in
    since_on_err c.read_nested_twice-read.result (g.P.Nest.born (g.P.Nest.beside c.args.process.now c.args.child.now)) (g.P.Memory.state c.args.process.now).refused
    (g.P.Nest.nested c.read_nested_twice-read.new.nest c.read_nested_twice-read.new.child) c.args.addr (length c.args.first.now)
    (since-same _ _ _ _ (g.P.Nest.nested c.read_nested_twice-read.new.nest c.read_nested_twice-read.new.child) (ap g.P.Nest.born beside)
    (ap g.P.Nest.refused beside ∙ g.met.P.Housing.refused_beside c.args.process.now c.args.child.now)
    (g.met.P.Housing.found_since c.read_nested_twice-read.new.nest c.read_nested_twice-read.new.child
    (subst (λ b. IsTrue (g.P.Nest.lives b)) (sym beside) c.requires.lives)))
    c.read_nested_twice-read.ensures.fault
