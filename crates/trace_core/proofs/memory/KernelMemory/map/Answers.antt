use Rattle.std.proofs.Common.{ap, arith, refl}
use Rattle.trace_core.proofs.supplies.Policies.{known-under}
use Rattle.trace_core.proofs.memories.StepSoundness.{known-noted, noted-under}
use Rattle.trace_core.specs.CallAnswers.{area_outcome}
use Rattle.trace_core.specs.KernelSeen.{notes_of}
use Rattle.trace_core.proofs.processes.NoteCalls.{map-holds, holds-under, under-holds}
use Rattle.trace_core.proofs.enough.EventReach.{map-reached}
use Rattle.trace_core.proofs.enough.PlainPools.{ran-empty, plain-still, plain-empty}
use Rattle.trace_core.proofs.memories.AreaCalls.{unless-done, map-known, map-granted, map-refused, map-keeps}
use Rattle.trace_core.proofs.memories.SlotUsers.{used-there, kept-used}
use Rattle.trace_core.proofs.processes.CallCourses.{map-went}
use Rattle.trace_core.proofs.processes.KernelProcesses.{known-given}
use Rattle.trace_core.proofs.memory.KernelMemory.map.Goals as goal

pub invariant_of-self-clause-stood : goal.invariant_of-self-clause-stood
invariant_of-self-clause-stood g c = noted-under _ _ _ (map-known _ _ _ c.args.first c.args.pages c.args.perm (noted-under _ _ _ c.args.self.now.stood) (area_outcome c.map.result) c.requires.some c.requires.within c.map.ensures.ran)

pub invariant_of-self-clause-held : goal.invariant_of-self-clause-held
invariant_of-self-clause-held g c =
    holds-under _ _ _ (map-holds _ _ (notes_of c.args.self.now.notes) (noted-under _ _ _ c.args.self.now.stood) (ap (λ parts. parts.snapshot) c.map.ensures.others) c.args.self.now.parts.supply.counted (under-holds _ _ _ c.args.self.now.held) c.args.first c.args.pages c.args.perm (area_outcome c.map.result) c.map.ensures.ran)

pub invariant_of-self-clause-reached : goal.invariant_of-self-clause-reached
invariant_of-self-clause-reached g c =
    map-reached _ _ (notes_of c.args.self.now.notes) (noted-under _ _ _ c.args.self.now.stood) (under-holds _ _ _ c.args.self.now.held) (plain-empty _ _ _ c.args.self.now.plain) c.args.self.now.reached
    c.args.first c.args.pages c.args.perm (area_outcome c.map.result) c.map.ensures.ran

pub invariant_of-self-clause-plain : goal.invariant_of-self-clause-plain
invariant_of-self-clause-plain g c =
    plain-still _ _ _ _ _ (ran-empty _ _ (area_outcome c.map.result) _ c.map.ensures.ran (known-under _ _ (known-noted _ _ c.args.self.now.stood))) (λ value told. told) c.args.self.now.plain

pub returns-clause-mapped : goal.returns-clause-mapped
returns-clause-mapped g c =
    map-granted _ _ _ c.args.first c.args.pages c.args.perm (noted-under _ _ _ c.args.self.now.stood) c.area_answer.result (area_outcome c.map.result) c.area_answer.ensures c.requires.some c.map.ensures.ran c.map.ensures.others

pub returns-clause-fault : goal.returns-clause-fault
returns-clause-fault g c =
    map-refused _ _ _ c.args.first c.args.pages c.args.perm (noted-under _ _ _ c.args.self.now.stood) c.area_answer.result (area_outcome c.map.result) c.area_answer.ensures c.map.ensures.ran (unless-done c.map.result c.map.ensures.refused)

pub returns-clause-keeps : goal.returns-clause-keeps
returns-clause-keeps g c =
    map-keeps _ _ _ c.args.first c.args.pages c.args.perm (noted-under _ _ _ c.args.self.now.stood) (area_outcome c.map.result) c.map.ensures.ran (omega arith) c.args.self.now.parts.supply.refused c.args.self.now.parts.supply.counted (λ machine state st. st.supply.refused) c.requires.some c.requires.within c.args.self.now.reached (map-reached _ _ (notes_of c.args.self.now.notes) (noted-under _ _ _ c.args.self.now.stood) (under-holds _ _ _ c.args.self.now.held) (plain-empty _ _ _ c.args.self.now.plain) c.args.self.now.reached
    c.args.first c.args.pages c.args.perm (area_outcome c.map.result) c.map.ensures.ran)

pub invariant_of-self-clause-slotted : goal.invariant_of-self-clause-slotted
invariant_of-self-clause-slotted g c = used-there _ _ (invariant_of-self-clause-stood g c) (invariant_of-self-clause-held g c)

pub invariant_of-self-clause-given : goal.invariant_of-self-clause-given
invariant_of-self-clause-given g c = known-given _ _ (invariant_of-self-clause-stood g c)

pub returns-clause-went : goal.returns-clause-went
returns-clause-went g c =
    map-went _ _ (notes_of c.args.self.now.notes) (notes_of c.args.self.now.notes)
    (record { known = noted-under _ _ _ c.args.self.now.stood; snapshot = ap (λ parts. parts.snapshot) c.map.ensures.others; last = ap (λ parts. parts.last) c.map.ensures.others; forked = refl; copied = c.args.self.now.parts.uncopied; fits = c.args.self.now.parts.supply.counted })
    c.args.first c.args.pages c.args.perm (area_outcome c.map.result) c.map.ensures.ran

pub invariant_of-self-clause-housed : goal.invariant_of-self-clause-housed
invariant_of-self-clause-housed g c = kept-used _ _ (invariant_of-self-clause-stood g c)
