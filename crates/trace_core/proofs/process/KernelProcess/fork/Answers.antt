use Rattle.std.proofs.Common.{refl, sym, ◌∙◌, arith}
use Rattle.vm_base.specs.declared.fork_mode.Mode.TheVariants.{Eager}
use Rattle.trace_core.specs.EventMeaning.{fork_end}
use Rattle.trace_core.specs.CallAnswers.{fork_outcome}
use Rattle.trace_core.specs.KernelSeen.{notes_of}
use Rattle.trace_core.proofs.supplies.Policies.{known-under}
use Rattle.trace_core.proofs.memories.StepSoundness.{known-noted, noted-under}
use Rattle.trace_core.proofs.memories.KernelMemories.{known-memory}
use Rattle.trace_core.proofs.processes.NoteCalls.{holds-under, under-holds}
use Rattle.trace_core.proofs.enough.PlainPools.{ran-empty, plain-still, plain-empty}
use Rattle.trace_core.proofs.memories.WithEnough.{told-kept}
use Rattle.trace_core.proofs.memories.TouchCalls.{kept-same}
use Rattle.trace_core.proofs.processes.KernelProcesses.{known-children, forked-noted, fork-copy, fork-born, fork-forked, fork-fails, fork-failed, fork-leaves, fork-kept, fork-others, fork-known, fork-holds, fork-reached}
use Rattle.trace_core.proofs.memories.SlotUsers.{used-there, kept-used}
use Rattle.trace_core.specs.WentOn.{went-none}
use Rattle.trace_core.proofs.processes.CallCourses.{fork-went}
use Rattle.trace_core.proofs.processes.KernelProcesses.{known-given}
use Rattle.trace_core.proofs.process.KernelProcess.fork.Goals as goal

-- src/process.rt:52:13
pub returns-in_default-clause-memory : goal.returns-in_default-clause-memory
returns-in_default-clause-memory g c =
    (record { mem = refl; most = refl }, told-kept _ _ _ _ refl _ c.args.self.now.reached c.args.self.now.reached (kept-same _ _ (known-memory _ _ c.args.self.now.stood (omega arith))))

-- src/process.rt:52:13
pub returns-in_default-clause-home : goal.returns-in_default-clause-home
returns-in_default-clause-home g c = (refl, known-children _ _ c.args.self.now.stood c.args.self.now.parts.numbered)

-- src/process.rt:55:23
pub fork-answer-requires : goal.fork-answer-requires
fork-answer-requires g c = record { stands = known-under _ _ (known-noted _ _ c.args.self.now.stood) }

-- src/process.rt:61:9
pub invariant_of-self-2-clause-stood : goal.invariant_of-self-2-clause-stood
invariant_of-self-2-clause-stood g c =
    noted-under _ _ _ (fork-known _ _ (notes_of c.args.self.now.notes) (notes_of c.fork_answered.new.self) c.in-Some.number
    (noted-under _ _ _ c.args.self.now.stood) c.fork-answer.result
    (forked-noted _ _ _ _ _ _ _ c.refused-refused.ensures.count c.fork_answered.ensures c.fork-answer.ensures.ran c.fork-answer.ensures.full)
    c.in-Some.ensures)

pub invariant_of-self-2-clause-held : goal.invariant_of-self-2-clause-held
invariant_of-self-2-clause-held g c =
    holds-under _ _ _ (fork-holds _ _ (notes_of c.args.self.now.notes) (notes_of c.fork_answered.new.self) c.in-Some.number
    (noted-under _ _ _ c.args.self.now.stood) c.fork-answer.result
    (forked-noted _ _ _ _ _ _ _ c.refused-refused.ensures.count c.fork_answered.ensures c.fork-answer.ensures.ran c.fork-answer.ensures.full)
    c.in-Some.ensures c.args.self.now.parts.supply.counted (under-holds _ _ _ c.args.self.now.held))

pub invariant_of-self-2-clause-plain : goal.invariant_of-self-2-clause-plain
invariant_of-self-2-clause-plain g c =
    plain-still _ _ _ _ _ (ran-empty _ _ (fork_outcome c.fork-answer.result) (λ machine state answers. fork_end machine state answers c.in-Some.number Eager) c.fork-answer.ensures.ran
    (known-under _ _ (known-noted _ _ c.args.self.now.stood))) (λ value told. sym (c.fork_answered.ensures c.args.self.now.parts.tables c.in-Some.number).enough ∙ told) c.args.self.now.plain

pub invariant_of-self-2-clause-reached : goal.invariant_of-self-2-clause-reached
invariant_of-self-2-clause-reached g c =
    fork-reached _ _ (notes_of c.args.self.now.notes) (notes_of c.fork_answered.new.self) c.in-Some.number
    (noted-under _ _ _ c.args.self.now.stood) c.fork-answer.result
    (forked-noted _ _ _ _ _ _ _ c.refused-refused.ensures.count c.fork_answered.ensures c.fork-answer.ensures.ran c.fork-answer.ensures.full)
    c.in-Some.ensures (plain-empty _ _ _ c.args.self.now.plain) (under-holds _ _ _ c.args.self.now.held) c.args.self.now.reached

-- src/process.rt:50:5
pub returns-clause-copy : goal.returns-clause-copy
returns-clause-copy g c =
    fork-copy _ _ (notes_of c.args.self.now.notes) (notes_of c.fork_answered.new.self) c.in-Some.number
    (noted-under _ _ _ c.args.self.now.stood) c.fork-answer.result
    (forked-noted _ _ _ _ _ _ _ c.refused-refused.ensures.count c.fork_answered.ensures c.fork-answer.ensures.ran c.fork-answer.ensures.full)
    c.child_answer.result c.child_answer.ensures

-- src/process.rt:52:5
pub returns-clause-born : goal.returns-clause-born
returns-clause-born g c =
    fork-born _ _ (notes_of c.args.self.now.notes) (notes_of c.fork_answered.new.self) c.in-Some.number
    (noted-under _ _ _ c.args.self.now.stood) c.fork-answer.result
    (forked-noted _ _ _ _ _ _ _ c.refused-refused.ensures.count c.fork_answered.ensures c.fork-answer.ensures.ran c.fork-answer.ensures.full)
    c.child_answer.result c.child_answer.ensures

-- src/process.rt:50:5
pub returns-clause-forked : goal.returns-clause-forked
returns-clause-forked g c =
    fork-forked _ _ (notes_of c.args.self.now.notes) (notes_of c.fork_answered.new.self) c.in-Some.number
    (noted-under _ _ _ c.args.self.now.stood) c.fork-answer.result
    (forked-noted _ _ _ _ _ _ _ c.refused-refused.ensures.count c.fork_answered.ensures c.fork-answer.ensures.ran c.fork-answer.ensures.full)
    c.in-Some.ensures c.child_answer.result c.child_answer.ensures

-- src/process.rt:50:5
pub returns-clause-fault : goal.returns-clause-fault
returns-clause-fault g c =
    fork-fails _ _ (notes_of c.args.self.now.notes) (notes_of c.fork_answered.new.self) c.in-Some.number
    (noted-under _ _ _ c.args.self.now.stood) c.fork-answer.result
    (forked-noted _ _ _ _ _ _ _ c.refused-refused.ensures.count c.fork_answered.ensures c.fork-answer.ensures.ran c.fork-answer.ensures.full)
    c.in-Some.ensures c.child_answer.result c.child_answer.ensures

-- src/process.rt:50:5
pub returns-clause-failed : goal.returns-clause-failed
returns-clause-failed g c =
    fork-failed _ _ (notes_of c.args.self.now.notes) (notes_of c.fork_answered.new.self) c.in-Some.number
    (noted-under _ _ _ c.args.self.now.stood) c.fork-answer.result
    (forked-noted _ _ _ _ _ _ _ c.refused-refused.ensures.count c.fork_answered.ensures c.fork-answer.ensures.ran c.fork-answer.ensures.full)
    c.child_answer.result c.child_answer.ensures

-- src/process.rt:50:5
pub returns-clause-memory : goal.returns-clause-memory
returns-clause-memory g c = (
  fork-leaves _ _ (notes_of c.args.self.now.notes) (notes_of c.fork_answered.new.self) c.in-Some.number (noted-under _ _ _ c.args.self.now.stood) c.fork-answer.result
      (forked-noted _ _ _ _ _ _ _ c.refused-refused.ensures.count c.fork_answered.ensures c.fork-answer.ensures.ran c.fork-answer.ensures.full),
  fork-kept _ _ (notes_of c.args.self.now.notes) (notes_of c.fork_answered.new.self) c.in-Some.number (noted-under _ _ _ c.args.self.now.stood) c.fork-answer.result
      (forked-noted _ _ _ _ _ _ _ c.refused-refused.ensures.count c.fork_answered.ensures c.fork-answer.ensures.ran c.fork-answer.ensures.full)
      c.in-Some.ensures (omega arith, c.args.self.now.parts.supply.counted) c.args.self.now.reached
      (fork-reached _ _ (notes_of c.args.self.now.notes) (notes_of c.fork_answered.new.self) c.in-Some.number
      (noted-under _ _ _ c.args.self.now.stood) c.fork-answer.result
      (forked-noted _ _ _ _ _ _ _ c.refused-refused.ensures.count c.fork_answered.ensures c.fork-answer.ensures.ran c.fork-answer.ensures.full)
      c.in-Some.ensures (plain-empty _ _ _ c.args.self.now.plain) (under-holds _ _ _ c.args.self.now.held) c.args.self.now.reached),
)

-- src/process.rt:50:5
pub returns-clause-others : goal.returns-clause-others
returns-clause-others g c =
    λ child listed home. fork-others _ _ (notes_of c.args.self.now.notes) (notes_of c.fork_answered.new.self) c.in-Some.number
    (noted-under _ _ _ c.args.self.now.stood) c.fork-answer.result
    (forked-noted _ _ _ _ _ _ _ c.refused-refused.ensures.count c.fork_answered.ensures c.fork-answer.ensures.ran c.fork-answer.ensures.full)
    c.in-Some.ensures child.number listed

-- src/process.rt:50:5
pub returns-clause-home : goal.returns-clause-home
returns-clause-home g c = (refl, known-children _ _ c.args.self.now.stood c.args.self.now.parts.numbered)

pub invariant_of-self-2-clause-slotted : goal.invariant_of-self-2-clause-slotted
invariant_of-self-2-clause-slotted g c = used-there _ _ (invariant_of-self-2-clause-stood g c) (invariant_of-self-2-clause-held g c)

pub invariant_of-self-2-clause-given : goal.invariant_of-self-2-clause-given
invariant_of-self-2-clause-given g c = known-given _ _ (invariant_of-self-2-clause-stood g c)

pub returns-in_default-clause-went : goal.returns-in_default-clause-went
returns-in_default-clause-went g c = went-none _ _ c.args.self.now.given

pub returns-clause-went : goal.returns-clause-went
returns-clause-went g c =
    fork-went _ _ (notes_of c.args.self.now.notes) (notes_of c.fork_answered.new.self) c.in-Some.number
    (noted-under _ _ _ c.args.self.now.stood) c.fork-answer.result
    (forked-noted _ _ _ _ _ _ _ c.refused-refused.ensures.count c.fork_answered.ensures c.fork-answer.ensures.ran c.fork-answer.ensures.full)
    c.in-Some.ensures c.args.self.now.parts.supply.counted c.args.self.now.parts.uncopied c.fork-answer.new.self.uncopied

pub invariant_of-self-2-clause-housed : goal.invariant_of-self-2-clause-housed
invariant_of-self-2-clause-housed g c = kept-used _ _ (invariant_of-self-2-clause-stood g c)
