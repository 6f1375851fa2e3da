-- A touch of a memory.
use Rattle.flat_memory.proofs.FlatCalls.{touch-holds, touch-touches, touch-fails, touch-room, touch-keeps}
use Rattle.flat_memory.proofs.memory.FlatMemory.touch.Goals as goal

pub invariant_of-self : goal.invariant_of-self
invariant_of-self c =
    record {
      holds = touch-holds c.args.self.now.sides c.touch.new.self c.args.addr c.args.len c.args.self.now.holds c.requires.within
          c.touch.result c.touch.ensures;
    }

pub returns-clause-touched : goal.returns-clause-touched
returns-clause-touched c = touch-touches c.args.self.now.sides c.touch.new.self c.args.addr c.args.len c.args.self.now.holds
    c.requires.within c.touch.result c.touch.ensures

pub returns-clause-fault : goal.returns-clause-fault
returns-clause-fault c = touch-fails c.args.self.now.sides c.touch.new.self c.args.addr c.args.len c.args.self.now.holds c.requires.within
    c.touch.result c.touch.ensures

pub returns-clause-room : goal.returns-clause-room
returns-clause-room c = touch-room c.args.self.now.sides c.touch.new.self c.args.addr c.args.len c.args.self.now.holds c.requires.within
    c.touch.result c.touch.ensures

pub returns-clause-keeps : goal.returns-clause-keeps
returns-clause-keeps c = touch-keeps c.args.self.now.sides c.touch.new.self c.args.addr c.args.len c.args.self.now.holds c.requires.within
    c.touch.result c.touch.ensures
