use Rattle.std.proofs.Common.{arith, refl}
use Rattle.trace_core.proofs.supplies.Policies.{known-under}
use Rattle.trace_core.proofs.memories.StepSoundness.{known-noted, noted-under}
use Rattle.trace_core.specs.CallAnswers.{area_outcome}
use Rattle.trace_core.specs.KernelSeen.{notes_of}
use Rattle.trace_core.proofs.processes.NoteCalls.{unmap-holds, holds-under, under-holds}
use Rattle.trace_core.proofs.enough.EventReach.{unmap-reached}
use Rattle.trace_core.proofs.enough.PlainPools.{ran-empty, plain-still, plain-empty}
use Rattle.trace_core.proofs.memories.AreaCalls.{unless-done, unmap-known, unmap-granted, unmap-refused, unmap-keeps}
use Rattle.trace_core.proofs.memories.SlotUsers.{used-there, kept-used}
use Rattle.trace_core.proofs.processes.CallCourses.{unmap-went}
use Rattle.trace_core.proofs.processes.KernelProcesses.{known-given}
use Rattle.trace_core.proofs.memory.KernelMemory.unmap.Goals as goal

pub unmap-requires-clause-stands : goal.unmap-requires-clause-stands
unmap-requires-clause-stands g c = known-under _ _ (known-noted _ _ c.args.self.now.stood)

pub invariant_of-self-clause-stood : goal.invariant_of-self-clause-stood
invariant_of-self-clause-stood g c = noted-under _ _ _ (unmap-known _ _ _ c.args.first c.args.pages (noted-under _ _ _ c.args.self.now.stood) (area_outcome c.unmap.result) c.requires.some c.requires.within c.unmap.ensures.ran)

pub invariant_of-self-clause-held : goal.invariant_of-self-clause-held
invariant_of-self-clause-held g c =
    holds-under _ _ _ (unmap-holds _ _ (notes_of c.args.self.now.notes) (noted-under _ _ _ c.args.self.now.stood) c.unmap.ensures.beside.0 c.args.self.now.parts.supply.counted (under-holds _ _ _ c.args.self.now.held) c.args.first c.args.pages (area_outcome c.unmap.result) c.unmap.ensures.ran)

pub invariant_of-self-clause-reached : goal.invariant_of-self-clause-reached
invariant_of-self-clause-reached g c =
    unmap-reached _ _ (notes_of c.args.self.now.notes) (noted-under _ _ _ c.args.self.now.stood) (under-holds _ _ _ c.args.self.now.held) (plain-empty _ _ _ c.args.self.now.plain) c.args.self.now.reached
    c.args.first c.args.pages (area_outcome c.unmap.result) c.unmap.ensures.ran

pub invariant_of-self-clause-plain : goal.invariant_of-self-clause-plain
invariant_of-self-clause-plain g c =
    plain-still _ _ _ _ _ (ran-empty _ _ (area_outcome c.unmap.result) _ c.unmap.ensures.ran (known-under _ _ (known-noted _ _ c.args.self.now.stood))) (λ value told. told) c.args.self.now.plain

pub returns-clause-unmapped : goal.returns-clause-unmapped
returns-clause-unmapped g c =
    unmap-granted _ _ _ c.args.first c.args.pages (noted-under _ _ _ c.args.self.now.stood) c.area_answer.result (area_outcome c.unmap.result) c.area_answer.ensures c.unmap.ensures.ran

pub returns-clause-fault : goal.returns-clause-fault
returns-clause-fault g c =
    unmap-refused _ _ _ c.args.first c.args.pages (noted-under _ _ _ c.args.self.now.stood) c.area_answer.result (area_outcome c.unmap.result) c.area_answer.ensures c.unmap.ensures.ran (unless-done c.unmap.result c.unmap.ensures.refused)

pub returns-clause-keeps : goal.returns-clause-keeps
returns-clause-keeps g c =
    unmap-keeps _ _ _ c.args.first c.args.pages (noted-under _ _ _ c.args.self.now.stood) (area_outcome c.unmap.result) c.unmap.ensures.ran (omega arith) c.args.self.now.parts.supply.refused c.args.self.now.parts.supply.counted (λ machine state st. st.supply.refused) c.requires.some c.requires.within c.args.self.now.reached (unmap-reached _ _ (notes_of c.args.self.now.notes) (noted-under _ _ _ c.args.self.now.stood) (under-holds _ _ _ c.args.self.now.held) (plain-empty _ _ _ c.args.self.now.plain) c.args.self.now.reached
    c.args.first c.args.pages (area_outcome c.unmap.result) c.unmap.ensures.ran)

pub invariant_of-self-clause-slotted : goal.invariant_of-self-clause-slotted
invariant_of-self-clause-slotted g c = used-there _ _ (invariant_of-self-clause-stood g c) (invariant_of-self-clause-held g c)

pub invariant_of-self-clause-given : goal.invariant_of-self-clause-given
invariant_of-self-clause-given g c = known-given _ _ (invariant_of-self-clause-stood g c)

pub returns-clause-went : goal.returns-clause-went
returns-clause-went g c =
    unmap-went _ _ (notes_of c.args.self.now.notes) (notes_of c.args.self.now.notes)
    (record { known = noted-under _ _ _ c.args.self.now.stood; snapshot = c.unmap.ensures.beside.0; last = c.unmap.ensures.beside.1; forked = refl; copied = c.args.self.now.parts.uncopied; fits = c.args.self.now.parts.supply.counted })
    c.args.first c.args.pages (area_outcome c.unmap.result) c.unmap.ensures.ran

pub invariant_of-self-clause-housed : goal.invariant_of-self-clause-housed
invariant_of-self-clause-housed g c = kept-used _ _ (invariant_of-self-clause-stood g c)
