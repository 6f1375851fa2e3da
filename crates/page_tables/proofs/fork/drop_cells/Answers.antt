use Rattle.std.proofs.Common.{◌≡◌, ◌+◌, ◌<◌, ◌≤◌, length, Some, sym, ◌∙◌, refl, arith}
use Rattle.std.specs.Prelude.{slice_set}
use Rattle.std.specs.List.{slice_get}
use Rattle.leaf_cell.specs.CellView.{held_of, without_snapshot}
use Rattle.page_tables.specs.Held.{frames_in, shares_in}
use Rattle.page_tables.specs.Forking.{Becomes, dropped_state, same_bits}
use Rattle.page_tables.proofs.Changing.{one-changed, all-changed, more-returned}
use Rattle.kernel_meaning.specs.Leaves.{share}
use Rattle.page_tables.proofs.ClearedSlot.{shares-set}
use Rattle.page_tables.proofs.OwnedSlots.{frames-set, read-slot}
use Rattle.std.proofs.Math.Logic.{∥∥₁_map}
use Rattle.std.proofs.lemmas.Option.{slice_get_within}
use Rattle.page_tables.proofs.fork.drop_cells.Goals as goal

pub drop_slot-requires-clause-known : goal.drop_slot-requires-clause-known
drop_slot-requires-clause-known g c =
    let i = c.loop-i.i in
    let size : length c.loop-i.slots.items ≡ length c.args.slots.now.items = c.loop-i.invariant.changed.size in
    let within : c.loop-i.i < length c.loop-i.slots.items = omega (arith, c.loop-i-test.true, c.len-i-end.ensures, size) in
    let here : slice_get c.loop-i.slots.items c.loop-i.i ≡ Some c.index_mut.result.now = read-slot c.loop-i.slots.items c.loop-i.i c.index_mut.result.now within c.index_mut.ensures.value in
    ∥∥₁_map c.requires.known (λ known. known c.loop-i.i c.index_mut.result.now (sym (c.loop-i.invariant.changed.rest c.loop-i.i (omega arith)) ∙ here))

pub loop-i-preserved : goal.loop-i-preserved
loop-i-preserved g c =
    let size : length c.loop-i.slots.items ≡ length c.args.slots.now.items = c.loop-i.invariant.changed.size in
    let within : c.loop-i.i < length c.loop-i.slots.items = omega (arith, c.loop-i-test.true, c.len-i-end.ensures, size) in
    let here : slice_get c.loop-i.slots.items c.loop-i.i ≡ Some c.index_mut.result.now = read-slot c.loop-i.slots.items c.loop-i.i c.index_mut.result.now within c.index_mut.ensures.value in
    let frames : frames_in (slice_set c.loop-i.slots.items c.loop-i.i c.drop_slot.new.slot) + held_of c.index_mut.result.now.cell
    ≡ frames_in c.loop-i.slots.items + held_of c.drop_slot.new.slot.cell = frames-set c.loop-i.slots.items c.loop-i.i c.index_mut.result.now c.drop_slot.new.slot here in
    let parts : shares_in (slice_set c.loop-i.slots.items c.loop-i.i c.drop_slot.new.slot) + share c.index_mut.result.now.cell.leaves
    ≡ shares_in c.loop-i.slots.items + share c.drop_slot.new.slot.cell.leaves = shares-set c.loop-i.slots.items c.loop-i.i c.index_mut.result.now c.drop_slot.new.slot here in
    record {
      changed = one-changed (Becomes (without_snapshot c.args.number) (dropped_state c.args.number)) c.loop-i.i
          (c.loop-i.i + 1) c.args.slots.now.items c.loop-i.slots.items c.index_mut.result.now c.drop_slot.new.slot c.loop-i.invariant.changed here c.drop_slot.ensures.dropped refl;
      bits = one-changed (λ slot it. it.cell.writable ≡ same_bits slot) c.loop-i.i (c.loop-i.i + 1) c.args.slots.now.items c.loop-i.slots.items c.index_mut.result.now c.drop_slot.new.slot
          c.loop-i.invariant.bits here c.drop_slot.ensures.bits refl;
      returned = more-returned g.A.Allot.goes _ _ _ c.args.slots.now.items c.loop-i.slots.items c.loop-i.i c.index_mut.result.now
          c.drop_slot.new.slot c.loop-i.invariant.returned here c.drop_slot.ensures.returned;
      unrefused = c.drop_slot.ensures.unrefused ∙ c.loop-i.invariant.unrefused;
      held = omega (arith, c.loop-i.invariant.held, c.drop_slot.ensures.held, frames);
      even = omega (arith, c.loop-i.invariant.even, c.drop_slot.ensures.even, frames, parts);
      untold = c.drop_slot.ensures.untold;
    }

pub returns-clause-dropped : goal.returns-clause-dropped
returns-clause-dropped g c =
    let most : length c.args.slots.now.items ≤ c.loop-i.i = omega (arith, c.loop-i-test.false, c.len-i-end.ensures) in
    all-changed (without_snapshot c.args.number) (dropped_state c.args.number) c.loop-i.i c.args.slots.now.items c.loop-i.slots.items c.loop-i.invariant.changed most

pub returns-clause-bits : goal.returns-clause-bits
returns-clause-bits g c = λ s slot found.
    let within : s < length c.args.slots.now.items = slice_get_within c.args.slots.now.items s slot found in
    c.loop-i.invariant.bits.done s slot (omega (arith, within, c.loop-i-test.false, c.len-i-end.ensures)) found
