use Rattle.std.proofs.Common.{refl}
use Rattle.trace_core.specs.KernelSeen.{parts_of, notes_of}
use Rattle.trace_core.proofs.processes.Waits.{all-copied}
use Rattle.trace_core.proofs.processes.Nests.{copy-lost, copy-lowest, copy-none, nest-keeps}
use Rattle.trace_core.specs.WentOn.{went-none}
use Rattle.trace_core.proofs.nest.KernelNest.child_copy.Goals as goal

-- src/nest.rt:50:5
pub returns-in-Some-clause-fault : goal.returns-in-Some-clause-fault
returns-in-Some-clause-fault g c = (
  record { found = refl; refused = refl },
  all-copied (parts_of c.args.self.now.parts) (notes_of c.args.self.now.notes) c.args.self.now.stood c.args.child.now.number,
  record {
    cell = c.in-Some.lost.cell;
    lost = copy-lost (parts_of c.args.self.now.parts) (notes_of c.args.self.now.notes) c.args.child.now.number c.args.self.now.stood c.lowest_loss.result c.lowest_loss.ensures.loss c.in-Some.lost c.in-Some.is;
    lowest = copy-lowest (parts_of c.args.self.now.parts) (notes_of c.args.self.now.notes) c.args.child.now.number c.args.self.now.stood c.lowest_loss.result c.lowest_loss.ensures.loss c.in-Some.lost c.in-Some.is;
  },
)

-- src/nest.rt:50:5
pub returns-in-Some-clause-keeps : goal.returns-in-Some-clause-keeps
returns-in-Some-clause-keeps g c = nest-keeps (parts_of c.args.self.now.parts) (notes_of c.args.self.now.notes) c.args.child.now.number c.args.self.now.stood c.args.self.now.held

-- src/nest.rt:50:5
pub returns-in-None-clause-step : goal.returns-in-None-clause-step
returns-in-None-clause-step g c = (
  record { found = refl; refused = refl },
  all-copied (parts_of c.args.self.now.parts) (notes_of c.args.self.now.notes) c.args.self.now.stood c.args.child.now.number,
  copy-none (parts_of c.args.self.now.parts) (notes_of c.args.self.now.notes) c.args.child.now.number c.args.self.now.stood c.lowest_loss.result c.lowest_loss.ensures.loss c.in-None.is,
)

-- src/nest.rt:50:5
pub returns-in-None-clause-keeps : goal.returns-in-None-clause-keeps
returns-in-None-clause-keeps g c = nest-keeps (parts_of c.args.self.now.parts) (notes_of c.args.self.now.notes) c.args.child.now.number c.args.self.now.stood c.args.self.now.held

pub returns-in-Some-clause-went : goal.returns-in-Some-clause-went
returns-in-Some-clause-went g c = went-none _ _ c.args.self.now.given

pub returns-in-None-clause-went : goal.returns-in-None-clause-went
returns-in-None-clause-went g c = went-none _ _ c.args.self.now.given
