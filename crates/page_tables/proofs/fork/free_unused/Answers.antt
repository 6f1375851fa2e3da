use Rattle.std.proofs.Common.{◌≡◌, ◌+◌, ◌<◌, ◌≤◌, length, Some, refl, arith}
use Rattle.std.specs.List.{slice_get}
use Rattle.std.proofs.lemmas.Option.{slice_get_within}
use Rattle.page_tables.specs.Forking.{owner_if_used}
use Rattle.page_tables.proofs.Changing.{one-changed}
use Rattle.page_tables.proofs.OwnedSlots.{read-slot}
use Rattle.page_tables.proofs.fork.free_unused.Goals as goal

pub loop-i-preserved : goal.loop-i-preserved
loop-i-preserved c =
    let size : length c.loop-i.slots.items ≡ length c.args.slots.now.items = c.loop-i.invariant.size in
    let within : c.loop-i.i < length c.loop-i.slots.items = omega (arith, c.loop-i-test.true, c.len-i-end.ensures, size) in
    let here : slice_get c.loop-i.slots.items c.loop-i.i ≡ Some c.index_mut.result.now = read-slot c.loop-i.slots.items c.loop-i.i c.index_mut.result.now within c.index_mut.ensures.value in
    one-changed (λ slot it. (it.cell ≡ slot.cell) × (it.owner ≡ owner_if_used slot)) c.loop-i.i
    (c.loop-i.i + 1) c.args.slots.now.items c.loop-i.slots.items c.index_mut.result.now c.free_if_unused.new.slot c.loop-i.invariant here
    (c.free_if_unused.ensures.cell, c.free_if_unused.ensures.owner) refl

pub returns : goal.returns
returns c =
    let most : length c.args.slots.now.items ≤ c.loop-i.i = omega (arith, c.loop-i-test.false, c.len-i-end.ensures) in
    record {
      size = c.loop-i.invariant.size;
      each = λ s slot found. c.loop-i.invariant.done s slot (let within : s < length c.args.slots.now.items = slice_get_within c.args.slots.now.items s slot found in omega arith) found;
    }
