-- An area more, and the same pages.
use Rattle.std.proofs.Common.{sym, subst}
use Rattle.std.specs.Prelude.{OnOk}
use Rattle.vm_base.specs.MemoryCalls.{Maps, map_answer}
use Rattle.flat_memory.specs.FlatSeen.{memory_of}
use Rattle.flat_memory.proofs.FlatCalls.{changed-holds, changed-keeps, map-side-flat, change-room, pages_still, map-maps}
use Rattle.flat_memory.proofs.memory.FlatMemory.map.Goals as goal

pub invariant_of-self : goal.invariant_of-self
invariant_of-self c =
    let sides = c.args.self.now.sides in
    let side = c.map.new.self in
    record {
      holds = changed-holds sides side c.args.self.now.holds
          (map-side-flat sides side c.args.first c.args.pages c.args.perm c.map.result c.args.self.now.holds c.requires.some
          c.requires.within c.map.ensures.answer)
          (change-room sides side _ c.map.result c.map.ensures.answer) (pages_still sides side c.map.ensures.pages);
    }

pub returns-clause-mapped : goal.returns-clause-mapped
returns-clause-mapped c =
    let sides = c.args.self.now.sides in
    let side = c.map.new.self in
    subst (λ r. OnOk r
    (Maps (memory_of sides) (memory_of (record sides { memory = side }))
    (map_answer (memory_of sides) c.args.first c.args.pages c.args.perm))) (sym c.fault_answer.ensures)
    (map-maps sides side c.args.first c.args.pages c.args.perm c.map.result c.args.self.now.holds c.map.ensures.answer c.map.ensures.areas
    c.map.ensures.pages)

pub returns-clause-keeps : goal.returns-clause-keeps
returns-clause-keeps c =
    let sides = c.args.self.now.sides in
    let side = c.map.new.self in
    changed-keeps sides side c.args.self.now.holds
    (map-side-flat sides side c.args.first c.args.pages c.args.perm c.map.result c.args.self.now.holds c.requires.some c.requires.within
    c.map.ensures.answer)
    (change-room sides side _ c.map.result c.map.ensures.answer) (pages_still sides side c.map.ensures.pages)
