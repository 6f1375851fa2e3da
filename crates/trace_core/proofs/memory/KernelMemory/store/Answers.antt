use Rattle.std.proofs.Common.{◌<◌, sym, ap, subst, arith}
use Rattle.std.specs.Prelude.{IsTrue}
use Rattle.trace_core.proofs.memories.StepSoundness.{noted-under}
use Rattle.trace_core.specs.KernelSeen.{notes_of}
use Rattle.trace_core.proofs.processes.NoteCalls.{store-holds, holds-under, under-holds}
use Rattle.trace_core.proofs.enough.PlainPools.{plain-still}
use Rattle.trace_core.proofs.memories.TouchCalls.{bytes-fit, known-ready, known-stored, store-stores, store-kept}
use Rattle.trace_core.proofs.memories.SlotUsers.{used-there, kept-used}
use Rattle.trace_core.proofs.processes.CallCourses.{store-went}
use Rattle.trace_core.proofs.processes.KernelProcesses.{known-given}
use Rattle.trace_core.proofs.memory.KernelMemory.store.Goals as goal

-- src/memory.rt:65:9
pub store-requires-clause-ready : goal.store-requires-clause-ready
store-requires-clause-ready g c = known-ready _ _ c.args.addr c.args.bytes.now (noted-under _ _ _ c.args.self.now.stood) c.requires.ready

-- src/memory.rt:65:9
pub invariant_of-self-clause-stood : goal.invariant_of-self-clause-stood
invariant_of-self-clause-stood g c =
    noted-under _ _ _ (known-stored _ _ c.args.addr c.args.bytes.now (noted-under _ _ _ c.args.self.now.stood) c.requires.ready _ c.store.ensures.stored
    (bytes-fit c.args.bytes.now c.type_inv.bytes))

pub invariant_of-self-clause-held : goal.invariant_of-self-clause-held
invariant_of-self-clause-held g c =
    holds-under _ _ _ (store-holds _ _ (notes_of c.args.self.now.notes) c.args.addr c.args.bytes.now (noted-under _ _ _ c.args.self.now.stood) c.store.ensures.stored c.store.ensures.others c.args.self.now.parts.supply.counted
    (under-holds _ _ _ c.args.self.now.held))

pub invariant_of-self-clause-reached : goal.invariant_of-self-clause-reached
invariant_of-self-clause-reached g c =
    λ rose. c.args.self.now.reached (subst (λ count. 0 < count) (ap (λ parts. parts.supply.refused) c.store.ensures.others) rose)

pub invariant_of-self-clause-plain : goal.invariant_of-self-clause-plain
invariant_of-self-clause-plain g c =
    plain-still _ _ _ _ _ (λ empty. subst (λ parts. IsTrue parts.supply.policies.is_empty) (sym c.store.ensures.others) empty) (λ value told. told) c.args.self.now.plain

-- src/memory.rt:64:5
pub returns-clause-stored : goal.returns-clause-stored
returns-clause-stored g c =
    store-stores _ _ c.args.addr c.args.bytes.now (noted-under _ _ _ c.args.self.now.stood) c.requires.ready _ c.store.ensures.stored c.store.ensures.others

-- src/memory.rt:64:5
pub returns-clause-keeps : goal.returns-clause-keeps
returns-clause-keeps g c =
    store-kept _ _ c.args.addr c.args.bytes.now (noted-under _ _ _ c.args.self.now.stood) c.requires.ready _ c.store.ensures.stored c.store.ensures.others
    (bytes-fit c.args.bytes.now c.type_inv.bytes) (omega arith) (omega arith) c.args.self.now.reached (λ rose. c.args.self.now.reached (subst (λ count. 0 < count) (ap (λ parts. parts.supply.refused) c.store.ensures.others) rose))

pub invariant_of-self-clause-slotted : goal.invariant_of-self-clause-slotted
invariant_of-self-clause-slotted g c = used-there _ _ (invariant_of-self-clause-stood g c) (invariant_of-self-clause-held g c)

pub invariant_of-self-clause-given : goal.invariant_of-self-clause-given
invariant_of-self-clause-given g c = known-given _ _ (invariant_of-self-clause-stood g c)

pub returns-clause-went : goal.returns-clause-went
returns-clause-went g c =
    store-went _ _ (notes_of c.args.self.now.notes) c.args.addr c.args.bytes.now (noted-under _ _ _ c.args.self.now.stood) c.store.ensures.stored c.store.ensures.others c.args.self.now.given

pub invariant_of-self-clause-housed : goal.invariant_of-self-clause-housed
invariant_of-self-clause-housed g c = kept-used _ _ (invariant_of-self-clause-stood g c)
