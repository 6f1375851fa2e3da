use Rattle.std.proofs.Common.{◌≡◌, [], Result, Ok, Err, IfErr, OnErr, ◌∙◌, subst}
use Rattle.vm_base.specs.declared.faults.ForkFault.{ForkFault}
use Rattle.vm_base.specs.MemoryState.{MemoryState, IsKept, KeepsReady}
use Rattle.vm_base.specs.ProcessState.{Children, ForkFails, LeavesMemory, after_fork}
use Rattle.memory_uses.specs.Written.{RefusesFork}
use Rattle.memory_uses.proofs.process.fork_twice.Goals as goal

-- a fork that was refused behind another
refused_behind : {C : Type 0} (answer : Result C ForkFault) (children middle last : Children) (old forked new : MemoryState) → middle ≡ after_fork children
    → OnErr answer ((last ≡ middle) × KeepsReady forked new) → LeavesMemory old forked → IsKept old forked [] → forked.refused ≡ old.refused
    → IfErr answer (λ fault. ForkFails middle forked new fault)
    → IfErr answer (λ fault. (last ≡ after_fork children) × RefusesFork (after_fork children) old new fault)
refused_behind (Ok child) children middle last old forked new next same leaves kept refused fails = tt
refused_behind (Err fault) children middle last old forked new next same leaves kept refused fails = (
  same.0 ∙ next,
  record {
    forked = forked;
    fork = leaves;
    kept = kept;
    refused = refused;
    fails = subst (λ ch. ForkFails ch forked new fault) next fails;
  },
)

pub returns-clause-refused : goal.returns-clause-refused
returns-clause-refused g c =
    refused_behind c.fork-second.result (g.P.Process.children (g.P.Process.beside c.args.process.now)) (g.P.Process.children (g.P.Process.beside c.fork.new.self))
    (g.P.Process.children (g.P.Process.beside c.fork-second.new.self)) (g.P.Memory.state c.args.process.now) (g.P.Memory.state c.fork.new.self)
    (g.P.Memory.state c.fork-second.new.self) c.in_ok-first.ensures.forked.1 c.fork-second.ensures.failed c.fork.ensures.memory.0 c.fork.ensures.memory.1
    c.in_ok-first.ensures.forked.2 c.fork-second.ensures.fault
