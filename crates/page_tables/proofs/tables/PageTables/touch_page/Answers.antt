use Rattle.vm_base.specs.Places.{cell_of}
use Rattle.std.proofs.Common.{subst, Some, None}
use Rattle.page_tables.specs.Standing.{IsSlotChosen}
use Rattle.std.proofs.Math.Logic.{∥∥₁_map}
use Rattle.page_tables.proofs.Known.{known-impossible}
use Rattle.page_tables.proofs.SlotChoice.{slot-chosen, slot-left}
use Rattle.page_tables.proofs.tables.PageTables.touch_page.Goals as goal

pub touch_known-requires-clause-stands : goal.touch_known-requires-clause-stands
touch_known-requires-clause-stands g c = ∥∥₁_map c.requires.stands (λ it. (it.0, it.1.0))

-- src/touch.rt:37:31
pub touch_new-requires-clause-stands : goal.touch_new-requires-clause-stands
touch_new-requires-clause-stands g c =
    ∥∥₁_map c.requires.stands (λ it. (
      it.0,
      (
        it.1.0,
        slot-chosen c.args.self.now it.0 it.1.0 (cell_of c.args.page) c.in-Some-slot_for.slot
            (subst (λ q. IsSlotChosen c.args.self.now.slots.items q (Some c.in-Some-slot_for.slot)) c.cell_and_index.ensures.cell (c.in-Some-slot_for.ensures it.0 it.1.0)),
      ),
    ))

-- src/touch.rt:38:25
pub unreachable-requires : goal.unreachable-requires
unreachable-requires g c = known-impossible c.requires.stands (λ it. slot-left c.args.self.now it.0 it.1.0 (cell_of c.args.page) it.1.1
    (subst (λ q. IsSlotChosen c.args.self.now.slots.items q None) c.cell_and_index.ensures.cell (c.in-None-slot_for.ensures it.0 it.1.0)))
