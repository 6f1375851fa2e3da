use Rattle.std.proofs.Common.{◌<◌, refl, subst, arith}
use Rattle.trace_core.specs.EventMeaning.{drop_end}
use Rattle.trace_core.specs.KernelSeen.{notes_of}
use Rattle.trace_core.proofs.supplies.Policies.{known-under}
use Rattle.trace_core.proofs.memories.StepSoundness.{known-noted, noted-under}
use Rattle.trace_core.proofs.processes.NoteCalls.{holds-under, under-holds}
use Rattle.trace_core.proofs.enough.PlainPools.{ran-empty, plain-still}
use Rattle.trace_core.proofs.processes.KernelProcesses.{known-children, no-refusal, drop-known, drop-leaves, drop-kept, drop-reaps, drop-unlisted, drop-holds}
use Rattle.trace_core.proofs.memories.SlotUsers.{used-there, kept-used}
use Rattle.trace_core.proofs.processes.CallCourses.{drop-went}
use Rattle.trace_core.proofs.processes.KernelProcesses.{known-given}
use Rattle.trace_core.proofs.process.KernelProcess.reap.Goals as goal

-- src/process.rt:68:17
pub drop_snapshot-requires : goal.drop_snapshot-requires
drop_snapshot-requires g c = record { stands = known-under _ _ (known-noted _ _ c.args.self.now.stood) }

-- src/process.rt:68:17
pub invariant_of-self-clause-stood : goal.invariant_of-self-clause-stood
invariant_of-self-clause-stood g c =
    noted-under _ _ _ (drop-known _ _ (notes_of c.args.self.now.notes) c.args.gone.number
    (noted-under _ _ _ c.args.self.now.stood) c.drop_snapshot.result c.drop_snapshot.ensures.ran)

pub invariant_of-self-clause-held : goal.invariant_of-self-clause-held
invariant_of-self-clause-held g c =
    holds-under _ _ _ (drop-holds _ _ (notes_of c.args.self.now.notes) c.args.gone.number
    (noted-under _ _ _ c.args.self.now.stood) c.drop_snapshot.result c.drop_snapshot.ensures.ran
    c.requires.lives c.args.self.now.parts.numbered c.args.self.now.parts.supply.counted (under-holds _ _ _ c.args.self.now.held))

pub invariant_of-self-clause-plain : goal.invariant_of-self-clause-plain
invariant_of-self-clause-plain g c =
    plain-still _ _ _ _ _ (ran-empty _ _ c.drop_snapshot.result (λ machine state answers. drop_end state answers c.args.gone.number) c.drop_snapshot.ensures.ran
    (known-under _ _ (known-noted _ _ c.args.self.now.stood))) (λ value told. told) c.args.self.now.plain

pub invariant_of-self-clause-reached : goal.invariant_of-self-clause-reached
invariant_of-self-clause-reached g c = λ rose. c.args.self.now.reached (subst (λ count. 0 < count)
    (drop-leaves _ _ (notes_of c.args.self.now.notes) c.args.gone.number (noted-under _ _ _ c.args.self.now.stood) c.drop_snapshot.result c.drop_snapshot.ensures.ran).refused rose)

-- src/process.rt:66:5
pub returns-clause-reaped : goal.returns-clause-reaped
returns-clause-reaped g c = drop-reaps _ _ (notes_of c.args.self.now.notes) c.args.gone.number
    (noted-under _ _ _ c.args.self.now.stood) c.drop_snapshot.result c.drop_snapshot.ensures.ran c.requires.lives

-- src/process.rt:66:5
pub returns-clause-memory : goal.returns-clause-memory
returns-clause-memory g c = (
  drop-leaves _ _ (notes_of c.args.self.now.notes) c.args.gone.number (noted-under _ _ _ c.args.self.now.stood) c.drop_snapshot.result c.drop_snapshot.ensures.ran,
  drop-kept _ _ (notes_of c.args.self.now.notes) c.args.gone.number (noted-under _ _ _ c.args.self.now.stood) c.drop_snapshot.result c.drop_snapshot.ensures.ran
      (omega arith, c.args.self.now.parts.supply.counted) c.args.self.now.reached
      (λ rose. c.args.self.now.reached (subst (λ count. 0 < count)
      (drop-leaves _ _ (notes_of c.args.self.now.notes) c.args.gone.number (noted-under _ _ _ c.args.self.now.stood) c.drop_snapshot.result c.drop_snapshot.ensures.ran).refused rose)),
)

-- src/process.rt:66:5
pub returns-clause-enough : goal.returns-clause-enough
returns-clause-enough g c = no-refusal c.args.gone.number

-- src/process.rt:66:5
pub returns-clause-others : goal.returns-clause-others
returns-clause-others g c = λ child listed home.
    drop-unlisted _ _ (notes_of c.args.self.now.notes) c.args.gone.number
    (noted-under _ _ _ c.args.self.now.stood) c.drop_snapshot.result c.drop_snapshot.ensures.ran c.requires.lives child.number listed

-- src/process.rt:66:5
pub returns-clause-home : goal.returns-clause-home
returns-clause-home g c = (refl, known-children _ _ c.args.self.now.stood c.args.self.now.parts.numbered)

pub invariant_of-self-clause-slotted : goal.invariant_of-self-clause-slotted
invariant_of-self-clause-slotted g c = used-there _ _ (invariant_of-self-clause-stood g c) (invariant_of-self-clause-held g c)

pub invariant_of-self-clause-given : goal.invariant_of-self-clause-given
invariant_of-self-clause-given g c = known-given _ _ (invariant_of-self-clause-stood g c)

pub returns-clause-went : goal.returns-clause-went
returns-clause-went g c = drop-went _ _ (notes_of c.args.self.now.notes) c.args.gone.number
    (noted-under _ _ _ c.args.self.now.stood) c.drop_snapshot.result c.drop_snapshot.ensures.ran c.requires.lives
    c.args.self.now.parts.supply.counted c.args.self.now.parts.uncopied c.drop_snapshot.new.self.uncopied

pub invariant_of-self-clause-housed : goal.invariant_of-self-clause-housed
invariant_of-self-clause-housed g c = kept-used _ _ (invariant_of-self-clause-stood g c)
