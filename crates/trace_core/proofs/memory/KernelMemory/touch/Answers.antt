use Rattle.std.proofs.Common.{refl, sym, ◌∙◌, ap, arith}
use Rattle.trace_core.specs.TouchAnswers.{touch_outcome}
use Rattle.trace_core.specs.KernelSeen.{notes_of, most_behind_touch}
use Rattle.trace_core.proofs.supplies.Policies.{known-under}
use Rattle.trace_core.proofs.memories.StepSoundness.{known-noted, noted-under}
use Rattle.trace_core.proofs.memories.KernelMemories.{known-memory}
use Rattle.trace_core.proofs.processes.NoteCalls.{touch-holds, holds-under, under-holds}
use Rattle.trace_core.proofs.enough.EventReach.{touch-reached}
use Rattle.trace_core.proofs.enough.PlainPools.{ran-empty, plain-still, plain-empty}
use Rattle.trace_core.proofs.memories.WithEnough.{told-memory, told-kept}
use Rattle.trace_core.proofs.memories.TouchCalls.{touches-none, kept-same, known-touched, touch-touches, touch-fails, touch-kept}
use Rattle.trace_core.proofs.memories.SlotUsers.{used-there, kept-used}
use Rattle.trace_core.specs.WentOn.{went-none}
use Rattle.trace_core.proofs.processes.CallCourses.{touch-went}
use Rattle.trace_core.proofs.processes.KernelProcesses.{known-given}
use Rattle.trace_core.proofs.memory.KernelMemory.touch.Goals as goal

-- src/memory.rt:56:13
pub returns-then-len-eq0-clause-touched : goal.returns-then-len-eq0-clause-touched
returns-then-len-eq0-clause-touched g c = touches-none _ c.args.addr c.args.len c.if-len-eq0.true (told-memory _ _ c.args.self.now.reached (known-memory _ _ c.args.self.now.stood (omega arith)))

-- src/memory.rt:56:13
pub returns-then-len-eq0-clause-keeps : goal.returns-then-len-eq0-clause-keeps
returns-then-len-eq0-clause-keeps g c = told-kept _ _ _ _ refl _ c.args.self.now.reached c.args.self.now.reached (kept-same _ _ (known-memory _ _ c.args.self.now.stood (omega arith)))

-- src/memory.rt:59:22
pub touch-answer-requires-clause-stands : goal.touch-answer-requires-clause-stands
touch-answer-requires-clause-stands g c = known-under _ _ (known-noted _ _ c.args.self.now.stood)

-- src/memory.rt:60:9
pub invariant_of-self-clause-stood : goal.invariant_of-self-clause-stood
invariant_of-self-clause-stood g c =
    noted-under _ _ _ (known-touched _ _ _ _ c.args.addr c.args.len (noted-under _ _ _ c.args.self.now.stood)
    c.of-before.result.value c.of-before.ensures c.touch-answer.result c.touched.ensures.most c.touched.ensures.forked c.touch-answer.ensures.ran)

pub invariant_of-self-clause-held : goal.invariant_of-self-clause-held
invariant_of-self-clause-held g c =
    holds-under _ _ _ (touch-holds _ _ (notes_of c.args.self.now.notes) (notes_of c.touched.new.self) c.args.addr c.args.len (noted-under _ _ _ c.args.self.now.stood) c.of-before.result.value c.touch-answer.result
    c.touched.ensures.most c.touched.ensures.forked c.touched.ensures.born c.touched.ensures.enough c.touch-answer.ensures.ran c.touch-answer.ensures.beside.1 c.args.self.now.parts.supply.counted
    (under-holds _ _ _ c.args.self.now.held))

pub invariant_of-self-clause-reached : goal.invariant_of-self-clause-reached
invariant_of-self-clause-reached g c =
    touch-reached _ _ (notes_of c.args.self.now.notes) (noted-under _ _ _ c.args.self.now.stood) (under-holds _ _ _ c.args.self.now.held) (plain-empty _ _ _ c.args.self.now.plain) c.args.self.now.reached
    (notes_of c.touched.new.self) c.args.addr c.args.len (touch_outcome c.touch-answer.result) c.touch-answer.ensures.ran
    (c.touched.ensures.most ∙ ap (λ tables. most_behind_touch tables c.args.addr c.args.len c.args.self.now.notes.most.value c.touch-answer.result) c.of-before.ensures) c.touched.ensures.enough

pub invariant_of-self-clause-plain : goal.invariant_of-self-clause-plain
invariant_of-self-clause-plain g c =
    plain-still _ _ _ _ _ (ran-empty _ _ (touch_outcome c.touch-answer.result) _ c.touch-answer.ensures.ran (known-under _ _ (known-noted _ _ c.args.self.now.stood)))
    (λ value told. sym c.touched.ensures.enough ∙ told) c.args.self.now.plain

-- src/memory.rt:54:5
pub returns-clause-touched : goal.returns-clause-touched
returns-clause-touched g c =
    touch-touches _ _ _ (notes_of c.touched.new.self) c.args.addr c.args.len (noted-under _ _ _ c.args.self.now.stood)
    c.of-before.result.value c.of-before.ensures c.touch-answer.result c.touched.ensures.most c.touched.ensures.enough c.touch-answer.ensures.ran c.touch-answer.ensures.ready

-- src/memory.rt:54:5
pub returns-clause-fault : goal.returns-clause-fault
returns-clause-fault g c =
    touch-fails _ _ _ (notes_of c.touched.new.self) c.args.addr c.args.len (noted-under _ _ _ c.args.self.now.stood)
    c.of-before.result.value c.of-before.ensures c.touch-answer.result c.touched.ensures.most c.touched.ensures.enough c.touch-answer.ensures.ran c.touch-answer.ensures.ready
    c.touch-answer.ensures.page

-- src/memory.rt:54:5
pub returns-clause-keeps : goal.returns-clause-keeps
returns-clause-keeps g c =
    touch-kept _ _ _ (notes_of c.touched.new.self) c.args.addr c.args.len (noted-under _ _ _ c.args.self.now.stood)
    c.of-before.result.value c.of-before.ensures c.touch-answer.result c.touched.ensures.most c.touched.ensures.forked c.touch-answer.ensures.ran
    (omega arith) (omega arith) c.args.self.now.parts.supply.refused c.args.self.now.parts.supply.counted (λ machine state st. st.supply.refused) c.touched.ensures.enough c.args.self.now.reached (touch-reached _ _ (notes_of c.args.self.now.notes) (noted-under _ _ _ c.args.self.now.stood) (under-holds _ _ _ c.args.self.now.held) (plain-empty _ _ _ c.args.self.now.plain) c.args.self.now.reached
    (notes_of c.touched.new.self) c.args.addr c.args.len (touch_outcome c.touch-answer.result) c.touch-answer.ensures.ran
    (c.touched.ensures.most ∙ ap (λ tables. most_behind_touch tables c.args.addr c.args.len c.args.self.now.notes.most.value c.touch-answer.result) c.of-before.ensures) c.touched.ensures.enough)

pub invariant_of-self-clause-slotted : goal.invariant_of-self-clause-slotted
invariant_of-self-clause-slotted g c = used-there _ _ (invariant_of-self-clause-stood g c) (invariant_of-self-clause-held g c)

pub invariant_of-self-clause-given : goal.invariant_of-self-clause-given
invariant_of-self-clause-given g c = known-given _ _ (invariant_of-self-clause-stood g c)

pub returns-then-len-eq0-clause-went : goal.returns-then-len-eq0-clause-went
returns-then-len-eq0-clause-went g c = went-none _ _ c.args.self.now.given

pub returns-clause-went : goal.returns-clause-went
returns-clause-went g c =
    touch-went _ _ (notes_of c.args.self.now.notes) (notes_of c.touched.new.self)
    (record {
      known = noted-under _ _ _ c.args.self.now.stood;
      snapshot = c.touch-answer.ensures.beside.1;
      last = c.touch-answer.ensures.beside.2;
      forked = c.touched.ensures.forked;
      copied = c.args.self.now.parts.uncopied;
      fits = c.args.self.now.parts.supply.counted;
    }) c.args.addr c.args.len c.touch-answer.result c.touch-answer.ensures.ran

pub invariant_of-self-clause-housed : goal.invariant_of-self-clause-housed
invariant_of-self-clause-housed g c = kept-used _ _ (invariant_of-self-clause-stood g c)
