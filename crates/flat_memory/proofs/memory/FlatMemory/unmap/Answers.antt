-- Fewer areas, and of the pages those that are left.
use Rattle.flat_memory.proofs.FlatCalls.{changed-holds, changed-keeps, unmap-side-flat, change-room, left_there}
use Rattle.flat_memory.proofs.memory.FlatMemory.unmap.Goals as goal

pub invariant_of-self : goal.invariant_of-self
invariant_of-self c =
    let sides = c.args.self.now.sides in
    let side = c.unmap.new.self in
    record {
      holds = changed-holds sides side c.args.self.now.holds
          (unmap-side-flat sides side c.args.first c.args.pages c.unmap.result c.args.self.now.holds c.requires.some c.unmap.ensures.answer)
          (change-room sides side _ c.unmap.result c.unmap.ensures.answer)
          (left_there sides side c.args.first c.args.pages _ c.unmap.result c.unmap.ensures.answer c.unmap.ensures.pages);
    }

pub returns-clause-keeps : goal.returns-clause-keeps
returns-clause-keeps c =
    let sides = c.args.self.now.sides in
    let side = c.unmap.new.self in
    changed-keeps sides side c.args.self.now.holds
    (unmap-side-flat sides side c.args.first c.args.pages c.unmap.result c.args.self.now.holds c.requires.some c.unmap.ensures.answer)
    (change-room sides side _ c.unmap.result c.unmap.ensures.answer)
    (left_there sides side c.args.first c.args.pages _ c.unmap.result c.unmap.ensures.answer c.unmap.ensures.pages)
