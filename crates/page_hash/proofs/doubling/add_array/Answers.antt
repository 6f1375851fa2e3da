use Rattle.std.proofs.Common.{[], inl, inr, arith}
use Rattle.std.proofs.lemmas.Bool.{false≢true}
use Rattle.vm_base.proofs.IsKeptOn.{IsKept-on}
use Rattle.store_meaning.specs.Layout.{store_cells}
use Rattle.page_hash.proofs.AddingArray.{due_facts, maps_new, new_fresh, adds_array, lacks_array}
use Rattle.page_hash.proofs.doubling.add_array.Goals as goal

pub touch_area-requires : goal.touch_area-requires
touch_area-requires g c =
    let due = c.requires.due.2 in
    record {
      fresh = new_fresh _ _ c.args.arrays.now c.requires.due.0 c.requires.due.1 due c.requires.stands.may c.map-new.ensures.keeps
          (maps_new _ _ c.args.arrays.now c.requires.due.0 c.requires.due.1 due
          (c.map-new.result, (c.map-new.ensures.mapped, c.map-new.ensures.fault)));
    }

pub returns-then-touch_area-clause-added : goal.returns-then-touch_area-clause-added
returns-then-touch_area-clause-added g c always =
    let due = c.requires.due.2 in
    adds_array _ _ _ c.args.arrays.now
    (maps_new _ _ c.args.arrays.now c.requires.due.0 c.requires.due.1 due
    (c.map-new.result, (c.map-new.ensures.mapped, c.map-new.ensures.fault)))
    (c.touch_area.ensures.touched c.if-touch_area.true)

pub returns-then-touch_area-clause-keeps : goal.returns-then-touch_area-clause-keeps
returns-then-touch_area-clause-keeps g c =
    IsKept-on _ _ _ [] store_cells store_cells c.map-new.ensures.keeps c.touch_area.ensures.keeps
    (λ cell never. absurd (false≢true never)) (λ cell there. there)

pub returns-then-touch_area-clause-went : goal.returns-then-touch_area-clause-went
returns-then-touch_area-clause-went g c = g.met.M.Memory.went_on _ _ _ c.map-new.ensures.went c.touch_area.ensures.went

pub unmap-undone-requires-clause-within : goal.unmap-undone-requires-clause-within
unmap-undone-requires-clause-within g c =
    let facts = due_facts _ c.args.arrays.now c.requires.due.0 c.requires.due.1 c.requires.due.2 in
    elim facts.regions [
      | inl up ↦ omega (arith, up.1, facts.whole, facts.few)
      | inr down ↦ omega (arith, down.1, facts.whole, facts.few)
    ]

pub returns-clause-lacks : goal.returns-clause-lacks
returns-clause-lacks g c always =
    let due = c.requires.due.2 in
    lacks_array _ _ _ _ c.args.arrays.now c.requires.due.0 c.requires.due.1 due c.map-new.ensures.keeps.before
    (maps_new _ _ c.args.arrays.now c.requires.due.0 c.requires.due.1 due
    (c.map-new.result, (c.map-new.ensures.mapped, c.map-new.ensures.fault)))
    (c.touch_area.ensures.left c.if-touch_area.false)
    (c.unmap-undone.result, (c.unmap-undone.ensures.unmapped, c.unmap-undone.ensures.fault)) c.unmap-undone.ensures.keeps.counted

pub returns-clause-keeps : goal.returns-clause-keeps
returns-clause-keeps g c =
    IsKept-on _ _ _ [] store_cells store_cells c.map-new.ensures.keeps
    (IsKept-on _ _ _ store_cells [] store_cells c.touch_area.ensures.keeps c.unmap-undone.ensures.keeps (λ cell there. there)
    (λ cell never. absurd (false≢true never)))
    (λ cell never. absurd (false≢true never)) (λ cell there. there)

pub returns-clause-went : goal.returns-clause-went
returns-clause-went g c = g.met.M.Memory.went_on _ _ _ c.map-new.ensures.went
    (g.met.M.Memory.went_on _ _ _ c.touch_area.ensures.went c.unmap-undone.ensures.went)
