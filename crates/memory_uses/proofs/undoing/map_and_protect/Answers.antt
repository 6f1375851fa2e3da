use Rattle.std.proofs.Common.{ap}
use Rattle.memory_uses.proofs.Undone.{mapped_into, mapped-same}
use Rattle.memory_uses.proofs.Begun.{protects, fails_protect}
use Rattle.vm_base.specs.declared.permission.Perm.TheVariants.{ReadWrite}
use Rattle.memory_uses.proofs.undoing.map_and_protect.Goals as goal

pub returns-in-Err-clause-fault : goal.returns-in-Err-clause-fault
returns-in-Err-clause-fault g c =
    fails_protect (g.M.Memory.state c.args.memory.now) (g.M.Memory.state c.map.new.self)
    c.args.first c.args.pages c.args.perm c.in-Err.fault c.in_ok-map.ensures.mapped c.in-Err.ensures.fault.0

pub returns-in-Err-clause-undone : goal.returns-in-Err-clause-undone
returns-in-Err-clause-undone g c =
    c.take_back.ensures.undone (g.M.Memory.state c.args.memory.now).mem
    (mapped-same (g.M.Memory.state c.args.memory.now).mem (g.M.Memory.state c.map.new.self).mem (g.M.Memory.state c.protect.new.self).mem c.args.first c.args.pages
    (mapped_into (g.M.Memory.state c.args.memory.now) c.args.first c.args.pages ReadWrite (g.M.Memory.state c.map.new.self).mem c.map.ensures.keeps.before.flat c.in_ok-map.ensures.mapped.0)
    (ap (λ s. s.mem) c.in-Err.ensures.fault.1))

pub returns-clause-protected : goal.returns-clause-protected
returns-clause-protected g c =
    protects (g.M.Memory.state c.args.memory.now) (g.M.Memory.state c.map.new.self) (g.M.Memory.state c.protect.new.self)
    c.args.first c.args.pages c.args.perm c.in_ok-map.ensures.mapped c.in_default.ensures.protected
