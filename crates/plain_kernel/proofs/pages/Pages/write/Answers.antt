-- To write into the slot is to insert the page with the bytes written.
use Rattle.std.proofs.Common.{arith}
use Rattle.plain_kernel.proofs.Slots.{written_slot, whole_slot}
use Rattle.plain_kernel.proofs.pages.Pages.write.Goals as goal

pub returns-clause-whole : goal.returns-clause-whole
returns-clause-whole c = whole_slot c.self.inside.slots.items c.args.page c.args.self.now (omega arith) c.self.invariant c.self.view_is

pub returns-clause-written : goal.returns-clause-written
returns-clause-written c = written_slot c.self.inside.slots.items c.args.page c.args.at c.args.bytes.now c.index_mut.result.now c.write_slot.new.slot c.args.self.now
    (omega arith) c.self.view_is c.index_mut.ensures.value c.write_slot.ensures
