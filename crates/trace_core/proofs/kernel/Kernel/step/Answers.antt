use Rattle.trace_core.specs.KernelSeen.{parts_of, notes_of}
use Rattle.trace_core.proofs.supplies.Policies.{known-under}
use Rattle.trace_core.proofs.runs.LastNumbers.{last-if-ok}
use Rattle.page_tables.proofs.view.ViewSides.{seen-pages}
use Rattle.trace_core.proofs.memories.StepSoundness.{known-noted, noted-under, sound-step, err-seen}
use Rattle.trace_core.proofs.processes.NoteCalls.{holds-under, under-holds}
use Rattle.trace_core.proofs.processes.NoteEvents.{holds-step}
use Rattle.trace_core.proofs.memories.ParentCells.{cells-filled, filled-step}
use Rattle.trace_core.proofs.enough.PlainPools.{step-empty, step-told, plain-still, plain-empty}
use Rattle.trace_core.proofs.enough.EventReach.{reached-step}
use Rattle.trace_core.proofs.memories.SlotUsers.{used-there, kept-used}
use Rattle.trace_core.proofs.processes.KernelProcesses.{known-given}
use Rattle.trace_core.proofs.kernel.Kernel.step.Goals as goal

pub step-answer-requires-clause-stands : goal.step-answer-requires-clause-stands
step-answer-requires-clause-stands g c = known-under _ _ (known-noted _ _ c.args.self.now.stood)

pub invariant_of-self-2-clause-stood : goal.invariant_of-self-2-clause-stood
invariant_of-self-2-clause-stood g c =
    noted-under _ _ _ (sound-step seen-pages _ _ c.of-before.result.value c.refused-refused.result c.args.event.now c.step-answer.result _ _ c.of-before.ensures c.requires.within
    c.step-answer.ensures.ran c.step-answer.ensures.kept c.answered.ensures.ok (err-seen c.step-answer.result (λ notes. notes_of notes) _ _ c.answered.ensures.err)
    (noted-under _ _ _ c.args.self.now.stood))

pub invariant_of-self-2-clause-plain : goal.invariant_of-self-2-clause-plain
invariant_of-self-2-clause-plain g c =
    plain-still _ _ _ _ _ (step-empty _ _ c.args.event.now c.step-answer.result c.step-answer.ensures.ran c.step-answer.ensures.kept (known-under _ _ (known-noted _ _ c.args.self.now.stood)))
    (step-told c.args.event.now c.step-answer.result _ _ c.refused-refused.result _ (notes_of c.answered.new.self) c.answered.ensures.ok
    (err-seen c.step-answer.result (λ notes. notes_of notes) _ _ c.answered.ensures.err)) c.args.self.now.plain

pub invariant_of-self-2-clause-held : goal.invariant_of-self-2-clause-held
invariant_of-self-2-clause-held g c =
    holds-under _ _ _ (holds-step _ _ c.of-before.result.value c.refused-refused.result c.args.event.now c.step-answer.result (notes_of c.args.self.now.notes) (notes_of c.answered.new.self)
    c.of-before.ensures c.refused-refused.ensures.count c.requires.within c.step-answer.ensures.ran c.step-answer.ensures.kept c.answered.ensures.ok
    (err-seen c.step-answer.result (λ notes. notes_of notes) _ _ c.answered.ensures.err) c.args.self.now.parts.supply.counted
    (filled-step c.args.event.now c.step-answer.result (parts_of c.args.self.now.parts) (cells-filled (parts_of c.args.self.now.parts) (known-noted _ _ c.args.self.now.stood)))
    (noted-under _ _ _ c.args.self.now.stood) (under-holds _ _ _ c.args.self.now.held))

pub invariant_of-self-2-clause-reached : goal.invariant_of-self-2-clause-reached
invariant_of-self-2-clause-reached g c =
    reached-step _ _ c.of-before.result.value c.refused-refused.result c.args.event.now c.step-answer.result (notes_of c.args.self.now.notes) (notes_of c.answered.new.self)
    c.of-before.ensures c.refused-refused.ensures.count c.requires.within c.step-answer.ensures.ran c.step-answer.ensures.kept c.answered.ensures.ok
    (err-seen c.step-answer.result (λ notes. notes_of notes) _ _ c.answered.ensures.err) (plain-empty _ _ _ c.args.self.now.plain)
    (noted-under _ _ _ c.args.self.now.stood) (under-holds _ _ _ c.args.self.now.held) c.args.self.now.reached

pub invariant_of-self-2-clause-slotted : goal.invariant_of-self-2-clause-slotted
invariant_of-self-2-clause-slotted g c = used-there _ _ (invariant_of-self-2-clause-stood g c) (invariant_of-self-2-clause-held g c)

pub invariant_of-self-2-clause-given : goal.invariant_of-self-2-clause-given
invariant_of-self-2-clause-given g c = known-given _ _ (invariant_of-self-2-clause-stood g c)

pub invariant_of-self-2-clause-housed : goal.invariant_of-self-2-clause-housed
invariant_of-self-2-clause-housed g c = kept-used _ _ (invariant_of-self-2-clause-stood g c)

pub returns-clause-last : goal.returns-clause-last
returns-clause-last g c =
    last-if-ok _ _ c.args.event.now c.step-answer.result c.step-answer.ensures.ran (known-under _ _ (known-noted _ _ c.args.self.now.stood))
