use Rattle.std.proofs.Common.{◌≡◌, ◌+◌, ◌<◌, ◌≤◌, ℕ, length, take, replicate, cond, Some, sym, ◌∙◌, ap, subst, refl, arith, inr}
use Rattle.std.specs.Prelude.{slice_set}
use Rattle.std.specs.List.{slice_get}
use Rattle.std.proofs.lemmas.List.{set-get_or, take_all}
use Rattle.vm_base.specs.declared.frame_request.Want.TheVariants as want
use Rattle.vm_base.specs.Deals.{LeadsAlong}
use Rattle.leaf_cell.specs.CellView.{held_of, without_snapshot}
use Rattle.table_levels.specs.Requests.{granted}
use Rattle.table_levels.proofs.Copied.{grants_more, replicate-append}
use Rattle.page_tables.specs.declared.slot.Slot.{Slot}
use Rattle.page_tables.specs.Held.{frames_in, shares_in}
use Rattle.page_tables.specs.Forking.{Becomes, AllBecome, HaveAccounts, HaveBits, HaveBitsBefore, same_bits, forked_bits, is_forked, forked_count, forked_leaves, forked_state, same_leaves, same_state, dropped_state}
use Rattle.page_tables.proofs.Changing.{none-changed, one-changed, all-changed, accounts-now, undone, same-shares, count-next, shares-next, refused-behind}
use Rattle.kernel_meaning.specs.Leaves.{share}
use Rattle.page_tables.proofs.ClearedSlot.{shares-set}
use Rattle.page_tables.proofs.OwnedSlots.{frames-set, read-slot, held-within}
use Rattle.page_tables.proofs.KeptWriting.{asked-forked}
use Rattle.std.proofs.lemmas.Option.{slice_get_within}
use Rattle.std.proofs.Math.Logic.{∥∥₁_map}
use Rattle.page_tables.proofs.fork.fork_cells.Goals as goal

pub loop-i-init : goal.loop-i-init
loop-i-init g c = record {
  changed = none-changed (Becomes (forked_leaves c.args.number) (forked_state c.args.number)) c.args.slots.now.items;
  bits = none-changed (λ slot it. it.cell.writable ≡ forked_bits slot) c.args.slots.now.items;
  granted_so_far = refl;
  shares = omega arith;
  unrefused = refl;
  held = refl;
  even = omega arith;
  untold = c.requires.untold;
}

pub fork_slot-requires-clause-alone : goal.fork_slot-requires-clause-alone
fork_slot-requires-clause-alone g c =
    let size : length c.loop-i.slots.items ≡ length c.args.slots.now.items = c.loop-i.invariant.changed.size in
    let within : c.loop-i.i < length c.loop-i.slots.items = omega (arith, c.loop-i-test.true, c.len-i-end.ensures, size) in
    let here : slice_get c.loop-i.slots.items c.loop-i.i ≡ Some c.index_mut.result.now = read-slot c.loop-i.slots.items c.loop-i.i c.index_mut.result.now within c.index_mut.ensures.value in
    c.requires.alone c.loop-i.i c.index_mut.result.now (sym (c.loop-i.invariant.changed.rest c.loop-i.i (omega arith)) ∙ here)

pub fork_slot-requires-clause-known : goal.fork_slot-requires-clause-known
fork_slot-requires-clause-known g c =
    let size : length c.loop-i.slots.items ≡ length c.args.slots.now.items = c.loop-i.invariant.changed.size in
    let within : c.loop-i.i < length c.loop-i.slots.items = omega (arith, c.loop-i-test.true, c.len-i-end.ensures, size) in
    let here : slice_get c.loop-i.slots.items c.loop-i.i ≡ Some c.index_mut.result.now = read-slot c.loop-i.slots.items c.loop-i.i c.index_mut.result.now within c.index_mut.ensures.value in
    ∥∥₁_map c.requires.known (λ known. known c.loop-i.i c.index_mut.result.now (sym (c.loop-i.invariant.changed.rest c.loop-i.i (omega arith)) ∙ here))

pub fork_slot-requires-clause-lent : goal.fork_slot-requires-clause-lent
fork_slot-requires-clause-lent g c =
    let size : length c.loop-i.slots.items ≡ length c.args.slots.now.items = c.loop-i.invariant.changed.size in
    let within : c.loop-i.i < length c.loop-i.slots.items = omega (arith, c.loop-i-test.true, c.len-i-end.ensures, size) in
    let here : slice_get c.loop-i.slots.items c.loop-i.i ≡ Some c.index_mut.result.now = read-slot c.loop-i.slots.items c.loop-i.i c.index_mut.result.now within c.index_mut.ensures.value in
    omega (arith, held-within c.loop-i.slots.items c.loop-i.i c.index_mut.result.now here, c.loop-i.invariant.held, c.requires.lent)

pub fork_slot-requires-clause-untold : goal.fork_slot-requires-clause-untold
fork_slot-requires-clause-untold g c = c.loop-i.invariant.untold

pub loop-i-preserved : goal.loop-i-preserved
loop-i-preserved g c =
    let i : ℕ = c.loop-i.i in
    let old = c.args.slots.now.items in
    let now = c.loop-i.slots.items in
    let slot : Slot = c.index_mut.result.now in
    let new : Slot = c.fork_slot.new.slot in
    let size : length c.loop-i.slots.items ≡ length c.args.slots.now.items = c.loop-i.invariant.changed.size in
    let within : c.loop-i.i < length c.loop-i.slots.items = omega (arith, c.loop-i-test.true, c.len-i-end.ensures, size) in
    let here : slice_get c.loop-i.slots.items c.loop-i.i ≡ Some c.index_mut.result.now = read-slot c.loop-i.slots.items c.loop-i.i c.index_mut.result.now within c.index_mut.ensures.value in
    let was : slice_get old i ≡ Some slot = sym (c.loop-i.invariant.changed.rest i (omega arith)) ∙ here in
    let next : forked_count (take (c.loop-i.i + 1) c.args.slots.now.items) ≡ forked_count (take c.loop-i.i c.args.slots.now.items) + cond (is_forked c.index_mut.result.now) 1 0 =
    count-next old i slot was in
    let more : shares_in (slice_set c.loop-i.slots.items c.loop-i.i c.fork_slot.new.slot) ≡ shares_in c.loop-i.slots.items + cond (is_forked c.index_mut.result.now) 1 0 =
    shares-next c.args.number now i slot new here (c.requires.alone i slot was) c.in-Ok.ensures.forked in
    let frames : frames_in (slice_set c.loop-i.slots.items c.loop-i.i c.fork_slot.new.slot) + held_of c.index_mut.result.now.cell
    ≡ frames_in c.loop-i.slots.items + held_of c.fork_slot.new.slot.cell = frames-set now i slot new here in
    let parts : shares_in (slice_set c.loop-i.slots.items c.loop-i.i c.fork_slot.new.slot) + share c.index_mut.result.now.cell.leaves
    ≡ shares_in c.loop-i.slots.items + share c.fork_slot.new.slot.cell.leaves = shares-set c.loop-i.slots.items c.loop-i.i c.index_mut.result.now c.fork_slot.new.slot here in
    record {
      changed = one-changed (Becomes (forked_leaves c.args.number) (forked_state c.args.number)) i (i + 1) old now slot new c.loop-i.invariant.changed here c.in-Ok.ensures.forked refl;
      bits = one-changed (λ slot it. it.cell.writable ≡ forked_bits slot) i (i + 1) old now slot new c.loop-i.invariant.bits here c.in-Ok.ensures.bits refl;
      granted_so_far = subst (λ wants. LeadsAlong g.A.Allot.goes (g.A.Allot.state c.args.allot.now) (granted wants) (g.A.Allot.state c.fork_slot.new.allot))
          (replicate-append want.Leaf (forked_count (take i old)) (cond (is_forked slot) 1 0) ∙ ap (λ n. replicate n want.Leaf) (sym next))
          (grants_more g.A.Allot.goes (replicate (forked_count (take i old)) want.Leaf)
          (replicate (cond (is_forked slot) 1 0) want.Leaf) _ _ _ c.loop-i.invariant.granted_so_far c.in-Ok.ensures.requests);
      shares = omega (arith, c.loop-i.invariant.shares, more, next);
      unrefused = c.in-Ok.ensures.counts ∙ c.loop-i.invariant.unrefused;
      held = omega (arith, c.loop-i.invariant.held, c.in-Ok.ensures.held, frames);
      even = omega (arith, c.loop-i.invariant.even, c.in-Ok.ensures.even, frames, parts);
      untold = c.in-Ok.ensures.untold;
    }

pub drop_cells-requires-clause-known : goal.drop_cells-requires-clause-known
drop_cells-requires-clause-known g c =
    let same : slice_set c.loop-i.slots.items c.loop-i.i c.fork_slot.new.slot ≡ c.loop-i.slots.items =
    ap (slice_set c.loop-i.slots.items c.loop-i.i) (c.in-Err.ensures.kept ∙ c.index_mut.ensures.value) ∙ set-get_or c.loop-i.slots.items c.loop-i.i c.index_mut.result.now in
    ∥∥₁_map c.requires.known (λ known. subst HaveAccounts (sym same) (accounts-now c.args.number c.loop-i.i c.args.slots.now.items c.loop-i.slots.items c.loop-i.invariant.changed known))

pub returns-in-Err-clause-undone : goal.returns-in-Err-clause-undone
returns-in-Err-clause-undone g c =
    let same : slice_set c.loop-i.slots.items c.loop-i.i c.fork_slot.new.slot ≡ c.loop-i.slots.items =
    ap (slice_set c.loop-i.slots.items c.loop-i.i) (c.in-Err.ensures.kept ∙ c.index_mut.ensures.value) ∙ set-get_or c.loop-i.slots.items c.loop-i.i c.index_mut.result.now in
    undone c.args.number c.loop-i.i c.args.slots.now.items c.loop-i.slots.items c.loop-i.invariant.changed c.requires.alone c.drop_cells.new.slots.items
    (subst (λ slots. AllBecome (without_snapshot c.args.number) (dropped_state c.args.number) slots c.drop_cells.new.slots.items) same c.drop_cells.ensures.dropped)

pub returns-in-Err-clause-requests : goal.returns-in-Err-clause-requests
returns-in-Err-clause-requests g c =
    let old = c.args.slots.now.items in
    let size : length c.loop-i.slots.items ≡ length c.args.slots.now.items = c.loop-i.invariant.changed.size in
    let within : c.loop-i.i < length c.loop-i.slots.items = omega (arith, c.loop-i-test.true, c.len-i-end.ensures, size) in
    let here : slice_get c.loop-i.slots.items c.loop-i.i ≡ Some c.index_mut.result.now = read-slot c.loop-i.slots.items c.loop-i.i c.index_mut.result.now within c.index_mut.ensures.value in
    let was : slice_get old c.loop-i.i ≡ Some c.index_mut.result.now = sym (c.loop-i.invariant.changed.rest c.loop-i.i (omega arith)) ∙ here in
    let same : slice_set c.loop-i.slots.items c.loop-i.i c.fork_slot.new.slot ≡ c.loop-i.slots.items =
    ap (slice_set c.loop-i.slots.items c.loop-i.i) (c.in-Err.ensures.kept ∙ c.index_mut.ensures.value) ∙ set-get_or c.loop-i.slots.items c.loop-i.i c.index_mut.result.now in
    let become : AllBecome same_leaves same_state old c.drop_cells.new.slots.items =
    undone c.args.number c.loop-i.i old c.loop-i.slots.items c.loop-i.invariant.changed c.requires.alone c.drop_cells.new.slots.items
    (subst (λ slots. AllBecome (without_snapshot c.args.number) (dropped_state c.args.number) slots c.drop_cells.new.slots.items) same c.drop_cells.ensures.dropped) in
    let back : shares_in c.drop_cells.new.slots.items ≡ shares_in c.args.slots.now.items = same-shares old c.drop_cells.new.slots.items become in
    let now : shares_in (slice_set c.loop-i.slots.items c.loop-i.i c.fork_slot.new.slot) ≡ shares_in c.loop-i.slots.items = ap shares_in same in
    let count : c.drop_cells.ensures.returned.count ≡ forked_count (take c.loop-i.i c.args.slots.now.items) =
    omega (arith, c.loop-i.invariant.shares, c.drop_cells.ensures.returned.shrunk, back, now) in
    refused-behind g.A.Allot.goes old c.loop-i.i c.index_mut.result.now c.in-Err.refused.at c.drop_cells.ensures.returned.count _ _ _ _ was
    c.loop-i.invariant.granted_so_far c.in-Err.ensures.requests c.drop_cells.ensures.returned.led count

pub returns-clause-forked : goal.returns-clause-forked
returns-clause-forked g c =
    let most : length c.args.slots.now.items ≤ c.loop-i.i = omega (arith, c.loop-i-test.false, c.len-i-end.ensures) in
    all-changed (forked_leaves c.args.number) (forked_state c.args.number) c.loop-i.i c.args.slots.now.items c.loop-i.slots.items c.loop-i.invariant.changed most

pub returns-clause-requests : goal.returns-clause-requests
returns-clause-requests g c =
    let most : length c.args.slots.now.items ≤ c.loop-i.i = omega (arith, c.loop-i-test.false, c.len-i-end.ensures) in
    subst (λ slots. LeadsAlong g.A.Allot.goes (g.A.Allot.state c.args.allot.now) (granted (replicate (forked_count slots) want.Leaf)) (g.A.Allot.state c.loop-i.allot))
    (take_all c.loop-i.i c.args.slots.now.items most) c.loop-i.invariant.granted_so_far

pub returns-in-Err-clause-even : goal.returns-in-Err-clause-even
returns-in-Err-clause-even g c =
    let same : slice_set c.loop-i.slots.items c.loop-i.i c.fork_slot.new.slot ≡ c.loop-i.slots.items =
    ap (slice_set c.loop-i.slots.items c.loop-i.i) (c.in-Err.ensures.kept ∙ c.index_mut.ensures.value) ∙ set-get_or c.loop-i.slots.items c.loop-i.i c.index_mut.result.now in
    let frames : frames_in (slice_set c.loop-i.slots.items c.loop-i.i c.fork_slot.new.slot) ≡ frames_in c.loop-i.slots.items = ap frames_in same in
    let shares : shares_in (slice_set c.loop-i.slots.items c.loop-i.i c.fork_slot.new.slot) ≡ shares_in c.loop-i.slots.items = ap shares_in same in
    omega (arith, c.loop-i.invariant.even, c.drop_cells.ensures.even, frames, shares)

pub returns-clause-bits : goal.returns-clause-bits
returns-clause-bits g c = λ s slot found.
    let within : s < length c.args.slots.now.items = slice_get_within c.args.slots.now.items s slot found in
    c.loop-i.invariant.bits.done s slot (omega (arith, within, c.loop-i-test.false, c.len-i-end.ensures)) found

pub returns-in-Err-clause-bits : goal.returns-in-Err-clause-bits
returns-in-Err-clause-bits g c =
    let old = c.args.slots.now.items in
    let size : length c.loop-i.slots.items ≡ length c.args.slots.now.items = c.loop-i.invariant.changed.size in
    let within : c.loop-i.i < length c.loop-i.slots.items = omega (arith, c.loop-i-test.true, c.len-i-end.ensures, size) in
    let here : slice_get c.loop-i.slots.items c.loop-i.i ≡ Some c.index_mut.result.now = read-slot c.loop-i.slots.items c.loop-i.i c.index_mut.result.now within c.index_mut.ensures.value in
    let was : slice_get old c.loop-i.i ≡ Some c.index_mut.result.now = sym (c.loop-i.invariant.changed.rest c.loop-i.i (omega arith)) ∙ here in
    let same : slice_set c.loop-i.slots.items c.loop-i.i c.fork_slot.new.slot ≡ c.loop-i.slots.items =
    ap (slice_set c.loop-i.slots.items c.loop-i.i) (c.in-Err.ensures.kept ∙ c.index_mut.ensures.value) ∙ set-get_or c.loop-i.slots.items c.loop-i.i c.index_mut.result.now in
    let dropped : HaveBits same_bits c.loop-i.slots.items c.drop_cells.new.slots.items =
    subst (λ slots. HaveBits same_bits slots c.drop_cells.new.slots.items) same c.drop_cells.ensures.bits in
    let answer : HaveBitsBefore old c.drop_cells.new.slots.items = record {
      slot = c.loop-i.i;
      at = inr (c.index_mut.result.now, (was, asked-forked g.A.Allot.goes c.index_mut.result.now c.in-Err.refused.at _ _ c.in-Err.ensures.requests));
      below = λ s it small found.
          let to : (to : Slot) × ((slice_get c.loop-i.slots.items s ≡ Some to) × (to.cell.writable ≡ forked_bits it)) = c.loop-i.invariant.bits.done s it small found in
          let last : (last : Slot) × ((slice_get c.drop_cells.new.slots.items s ≡ Some last) × (last.cell.writable ≡ to.0.cell.writable)) = dropped s to.0 to.1.0 in
          (last.0, (last.1.0, last.1.1 ∙ to.1.1));
      above = λ s it more found. dropped s it (c.loop-i.invariant.bits.rest s more ∙ found);
    } in answer
