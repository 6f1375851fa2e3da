-- Other permissions, and the same pages.
use Rattle.flat_memory.proofs.FlatCalls.{changed-holds, changed-keeps, protect-side-flat, change-room, pages_still}
use Rattle.flat_memory.proofs.memory.FlatMemory.protect.Goals as goal

pub invariant_of-self : goal.invariant_of-self
invariant_of-self c =
    let sides = c.args.self.now.sides in
    let side = c.protect.new.self in
    record {
      holds = changed-holds sides side c.args.self.now.holds
          (protect-side-flat sides side c.args.first c.args.pages c.args.perm c.protect.result c.args.self.now.holds c.requires.some
          c.requires.within c.protect.ensures.answer)
          (change-room sides side _ c.protect.result c.protect.ensures.answer) (pages_still sides side c.protect.ensures.pages);
    }

pub returns-clause-keeps : goal.returns-clause-keeps
returns-clause-keeps c =
    let sides = c.args.self.now.sides in
    let side = c.protect.new.self in
    changed-keeps sides side c.args.self.now.holds
    (protect-side-flat sides side c.args.first c.args.pages c.args.perm c.protect.result c.args.self.now.holds c.requires.some
    c.requires.within c.protect.ensures.answer)
    (change-room sides side _ c.protect.result c.protect.ensures.answer) (pages_still sides side c.protect.ensures.pages)
